-- Walks up a chain by the places of its classes.
use Rattle.std.specs.Prelude.{get_or, ◌≡◌, ◌⊎◌, ℕ, ◌<◌, ◌≤◌, List, length, map, take, filter, Option, Some, None, option_map, option_and_then, unwrap_or, Bool, true, false, if◌then◌else◌, slice_get}
use Rattle.std.specs.List.{filter_map}
use Rattle.mj_tree.specs.Trees.{Name}
use Rattle.mj_members.specs.Declarations.{ClassDecl, has_members}
use Rattle.mj_classes.specs.Declarations.{decl, place, superclass_places}
use Rattle.mj_classes.specs.Chains.{EndOf, Top, Undeclared, Repeated, IsChain, chain_of, ancestry}
use Rattle.mj_classes.specs.Steps.{led}

-- ---- chains by places

-- the first class of some name has this place
abbrev pub IsFirstPlace : List ClassDecl → ℕ → Type 0
IsFirstPlace cs at = (c : Name) × (place cs c ≡ Some at)

-- the chain of a class has this end, and these of its classes declare members
abbrev pub IsChainOf : List ClassDecl → Name → List ClassDecl → EndOf → Type 0
IsChainOf cs c classes end =
    (option_map (λ chain. chain.1) (chain_of cs c) ≡ Some end)
    × (classes ≡ filter has_members (ancestry cs c))

abbrev pub IsChainAt : List ClassDecl → ℕ → List ClassDecl → EndOf → Type 0
IsChainAt cs at classes end = (c : Name) → place cs c ≡ Some at → IsChainOf cs c classes end

-- the chain of the class at this place has this end
abbrev pub IsChainEndAt : List ClassDecl → ℕ → EndOf → Type 0
IsChainEndAt cs at end =
    (c : Name) → place cs c ≡ Some at → option_map (λ chain. chain.1) (chain_of cs c) ≡ Some end

-- how a chain ends at a class of this superclass, which isn't declared
abbrev pub straight_end : Option Name → EndOf
straight_end None = Top
straight_end (Some u) = Undeclared u

-- ---- chains that come back

-- the n-th of these names is that of the class at the place
abbrev pub StandsAt : List ClassDecl → List Name → ℕ → ℕ → Type 0
StandsAt cs chain n at = (x : Name) × (slice_get chain n ≡ Some x) × (place cs x ≡ Some at)

-- The chain of the class comes back to its class of this number: there it leads into a ring.
pub record IsRing (cs : List ClassDecl) (c : Name) (chain : List Name) (entry : ℕ) : Type 0 where
  pub again : Name
  pub is_chain : IsChain cs c chain (Repeated again)
  pub entered : slice_get chain entry ≡ Some again

-- the n-th step up the chain leads to the place; behind the last class the ring is entered again
abbrev pub ComesTo : List ClassDecl → List Name → ℕ → ℕ → ℕ → Type 0
ComesTo cs chain entry n at =
    StandsAt cs chain n at ⊎ ((n ≡ length chain) × StandsAt cs chain entry at)

-- those of the first n classes that declare members
abbrev pub declaring : List ClassDecl → List Name → ℕ → List ClassDecl
declaring cs chain n = filter has_members (filter_map (decl cs) (take n chain))

-- a step up leads from one place to the other: that of the class which the one there extends, or
-- the same if none such is declared
abbrev pub LeadsUp : List (Option ℕ) → ℕ → ℕ → Type 0
LeadsUp places at next =
    (slice_get places at ≡ Some (Some next)) ⊎ ((slice_get places at ≡ Some None) × (next ≡ at))

-- the steps up from all places
pub record AreStepsUp (places : List (Option ℕ)) (steps : List ℕ) : Type 0 where
  pub all : length steps ≡ length places
  pub each : (at : ℕ) → at < length places → LeadsUp places at (led steps at)

abbrev pub StepsUp : List ClassDecl → List ℕ → Type 0
StepsUp cs steps = AreStepsUp (superclass_places cs) steps

-- ---- where walks turn

-- A walk up the chain of the class c turns at the class of this number: the last one, if no class
-- stands above it, or the one that is entered again.
pub record Turns (cs : List ClassDecl) (c : Name) (chain : List Name) (number : ℕ) : Type 0 where
  pub end : EndOf
  pub is_chain : IsChain cs c chain end
  pub turn :
      ((at : ℕ) × StandsAt cs chain number at × (slice_get (superclass_places cs) at ≡ Some None))
      ⊎ IsRing cs c chain number

-- the walk from the first place turns at the other
abbrev pub IsTurn : List ClassDecl → ℕ → ℕ → Type 0
IsTurn cs first turn =
    (c : Name) (chain : List Name) (number to : ℕ) → place cs c ≡ Some first
    → Turns cs c chain number → StandsAt cs chain number to → turn ≡ to

-- for each place the one where the walk from it turns
pub record AreTurns (cs : List ClassDecl) (turns : List ℕ) : Type 0 where
  pub all : length turns ≡ length cs
  pub each : (at : ℕ) → IsTurn cs at (led turns at)

-- how a chain ends whose walk turns at the class at the place
abbrev pub IsEndAt : List ClassDecl → ℕ → EndOf → Type 0
IsEndAt cs turn end =
    (k : ClassDecl) × (slice_get cs turn ≡ Some k)
    × (((slice_get (superclass_places cs) turn ≡ Some None) × (end ≡ straight_end k.superclass))
    ⊎ ((next : ℕ) × (slice_get (superclass_places cs) turn ≡ Some (Some next))
    × (end ≡ Repeated k.name)))

-- ---- the nearest classes that declare members

-- whether the class of this number declares members
abbrev pub declares_nth : List ClassDecl → List Name → ℕ → Bool
declares_nth cs chain n =
    unwrap_or (option_map has_members (option_and_then (decl cs) (slice_get chain n))) false

-- from the first number up to the other no class declares members
abbrev pub NoneIn : List ClassDecl → List Name → ℕ → ℕ → Type 0
NoneIn cs chain from to = (n : ℕ) → from ≤ n → n < to → declares_nth cs chain n ≡ false

-- the class at the place is the first one from this number on that declares members
pub record IsFirstAt (cs : List ClassDecl) (chain : List Name) (from at : ℕ) : Type 0 where
  pub number : ℕ
  pub behind : from ≤ number
  pub here : StandsAt cs chain number at
  pub declares : declares_nth cs chain number ≡ true
  pub none : NoneIn cs chain from number

-- the place of the first class from this number on that declares members, if there is one
abbrev pub IsFirstFrom : List ClassDecl → List Name → ℕ → Option ℕ → Type 0
IsFirstFrom cs chain from o =
    ((at : ℕ) × IsFirstAt cs chain from at × (o ≡ Some at))
    ⊎ (NoneIn cs chain from (length chain) × (o ≡ None))

-- Of a walk that is at the class of this number, the place of the next class that declares members, if
-- there is one: at that number or behind it, and else behind the turn.
abbrev pub IsNextOf : List ClassDecl → List Name → ℕ → ℕ → Option ℕ → Type 0
IsNextOf cs chain entry n o =
    ((at : ℕ) × IsFirstAt cs chain n at × (o ≡ Some at))
    ⊎ (NoneIn cs chain n (length chain) × IsFirstFrom cs chain entry o)

-- the place of the nearest class on walks from this place that declares members, if there is one
abbrev pub IsNearestAt : List ClassDecl → ℕ → Option ℕ → Type 0
IsNearestAt cs at nearest =
    (c : Name) (chain : List Name) (entry n : ℕ) (o : Option ℕ) → Turns cs c chain entry
    → StandsAt cs chain n at → IsNextOf cs chain entry n o → nearest ≡ o

-- this place, if the class there declares members
abbrev pub declaring_place : List ClassDecl → ℕ → Option ℕ
declaring_place cs at = if get_or (map has_members cs) at false then Some at else None

-- for each place one that has the nearest class which declares members, if there is one
pub record AreNearest (cs : List ClassDecl) (places : List ℕ) : Type 0 where
  pub all : length places ≡ length cs
  pub inside : (at : ℕ) → at < length cs → led places at < length cs
  pub each : (at : ℕ) → IsNearestAt cs at (declaring_place cs (led places at))

-- ---- what is kept of a chain

-- A walk is at this place, past these classes of its chain that declare members. It goes on as far as
-- the class of the number `goal`: to the end of the chain, or to the place where it stops.
pub record Stretch (cs : List ClassDecl) (from : ℕ) (stop : Option ℕ) (classes : List ClassDecl)
    : Type 0 where
  pub c : Name
  pub chain : List Name
  pub entry : ℕ
  pub turns : Turns cs c chain entry
  pub first : IsFirstFrom cs chain entry stop
  pub number : ℕ
  pub goal : ℕ
  pub before : number ≤ goal
  pub here : ComesTo cs chain entry number from
  pub kept : classes ≡ declaring cs chain number
  pub ends :
      ((goal ≡ length chain)
      × ((n at : ℕ) → number ≤ n → StandsAt cs chain n at → stop ≡ Some at → ⊥))
      ⊎ ((at : ℕ) × StandsAt cs chain goal at × (declares_nth cs chain goal ≡ true)
      × (stop ≡ Some at))
