-- Whether a class stands in the chain of another one, by their places.
use Rattle.std.proofs.Common.{◌≡◌, ℕ, suc, ◌<◌, Bool, true, false, List, length, Option, Some, None, refl, sym, ap, ◌∙◌, ◌⊎◌}
use Rattle.std.specs.Prelude.{find, is_some, option_and_then, slice_get}
use Rattle.std.specs.Str.{bytes_eq}
use Rattle.std.proofs.lemmas.Option.{none-some, same_Some}
use Rattle.std.proofs.lemmas.Slice.Eq.{bytes_eq-Decides}
use Rattle.mj_tree.specs.Trees.{Name}
use Rattle.mj_tree.proofs.Positions.{position_below}
use Rattle.mj_members.specs.Declarations.{ClassDecl}
use Rattle.mj_classes.specs.Declarations.{decl, place, superclass_places}
use Rattle.mj_classes.specs.Chains.{Chain, is_in, chain_names, chain_of, ancestry}
use Rattle.mj_classes.specs.Walks.{IsFirstPlace}
use Rattle.mj_classes.proofs.Distinct.{contains_in, is_listed}
use Rattle.mj_classes.proofs.Climb.{decl_name, all_declared, is_chain_of, has_none}
use Rattle.mj_classes.proofs.Places.{place_class, step_place}
use Rattle.mj_classes.proofs.Walks.{WalksAt, at_start, at_marks, at_on, at_found, at_back, at_top, at_end, stands_above}

-- whether a class has this name
abbrev pub is_named : Name → ClassDecl → Bool
is_named d k = bytes_eq k.name d

-- an undeclared name stands in no chain
pub undeclared_nowhere : (cs : List ClassDecl) (c d : Name) → decl cs d ≡ None → is_in (chain_names (chain_of cs c)) d ≡ false
undeclared_nowhere cs c d none = by (chain_of cs c) refl
  where
    by_test : (chain : Chain) → chain_of cs c ≡ Some chain → (b : Bool) → is_in chain.0 d ≡ b → b ≡ false
    by_test chain e true t =
        let is = is_chain_of cs c chain.0 chain.1 e in
        let k = all_declared cs chain.0 chain.0 chain.1 is.links d (contains_in chain.0 d (is_listed chain.0 d t)) in
        absurd (none-some k.0 (sym none ∙ k.1))
    by_test chain e false t = refl

    by : (o : Option Chain) → chain_of cs c ≡ o → is_in (chain_names o) d ≡ false
    by None e = refl
    by (Some chain) e = by_test chain e (is_in chain.0 d) refl

-- and an undeclared name has no chain
pub none_in_no_chain : (cs : List ClassDecl) (c d : Name) → decl cs c ≡ None → is_in (chain_names (chain_of cs c)) d ≡ false
none_in_no_chain cs c d none = ap (λ (o : Option Chain). is_in (chain_names o) d) (has_none cs c none)

-- A walk looks for the class of a name, and is at a class that is the first one of its name.
pub record Seeks (cs : List ClassDecl) (c d : Name) (left at passed : ℕ) : Type 0 where
  pub walk : WalksAt cs (is_named d) c left at passed
  pub first : IsFirstPlace cs at

pub seek_starts : (cs : List ClassDecl) (c d : Name) (left at : ℕ) → left ≡ length cs → place cs c ≡ Some at → Seeks cs c d left at at
seek_starts cs c d left at all e = record { walk = at_start cs (is_named d) c left at all e; first = (c, e) }

-- the class of a first place has the name at that place alone
named_there : (cs : List ClassDecl) (d : Name) (at sought : ℕ) (k : ClassDecl) → place cs d ≡ Some sought → IsFirstPlace cs at → slice_get cs at ≡ Some k → k.name ≡ d → at ≡ sought
named_there cs d at sought k e first here name =
    let j = place_class cs first.0 at first.1 in
    let it : k ≡ j.0 = same_Some k j.0 (sym here ∙ j.1) in
    let same : first.0 ≡ d = sym (decl_name cs first.0 j.0 j.2) ∙ (ap (λ (m : ClassDecl). m.name) (sym it) ∙ name) in
    same_Some at sought (sym first.1 ∙ (ap (place cs) same ∙ e))

pub not_named : (cs : List ClassDecl) (d : Name) (at sought : ℕ) (k : ClassDecl) → place cs d ≡ Some sought → IsFirstPlace cs at → slice_get cs at ≡ Some k → (at ≡ sought → ⊥) → is_named d k ≡ false
not_named cs d at sought k e first here apart = by (is_named d k) refl
  where
    by : (b : Bool) → is_named d k ≡ b → b ≡ false
    by true t = absurd (apart (named_there cs d at sought k e first here ((bytes_eq-Decides k.name d).0 t)))
    by false t = refl

pub is_named_at : (cs : List ClassDecl) (d : Name) (sought : ℕ) (k : ClassDecl) → place cs d ≡ Some sought → slice_get cs sought ≡ Some k → is_named d k ≡ true
is_named_at cs d sought k e here =
    let j = place_class cs d sought e in
    (bytes_eq-Decides k.name d).1 (ap (λ (m : ClassDecl). m.name) (same_Some k j.0 (sym here ∙ j.1)) ∙ decl_name cs d j.0 j.2)

-- a step up leads to the first class of a name
pub first_above : (cs : List ClassDecl) (at next : ℕ) (k : ClassDecl) → slice_get cs at ≡ Some k → slice_get (superclass_places cs) at ≡ Some (Some next) → IsFirstPlace cs next
first_above cs at next k here up = by k.superclass (step_place cs at k (Some next) here up)
  where
    by : (o : Option Name) → option_and_then (place cs) o ≡ Some next → IsFirstPlace cs next
    by None e = absurd (none-some next e)
    by (Some u) e = (u, e)

pub first_within : (cs : List ClassDecl) (at : ℕ) → IsFirstPlace cs at → at < length cs
first_within cs at first = position_below (λ (k : ClassDecl). bytes_eq k.name first.0) cs at first.1

-- ---- what the walk comes upon

-- what it finds says whether the class stands in the chain
seek_says : (cs : List ClassDecl) (c d : Name) (o : Option ClassDecl) → find (is_named d) (ancestry cs c) ≡ o → is_some o ≡ is_in (chain_names (chain_of cs c)) d
seek_says cs c d o e = sym (ap is_some e) ∙ stands_above cs c d

module _ (cs : List ClassDecl) (c d : Name) (left more at passed sought : ℕ) (seek : Seeks cs c d left at passed) (one : left ≡ suc more) (there : place cs d ≡ Some sought) where
  abbrev class : ClassDecl
  class = seek.walk.class

  abbrev here : slice_get cs at ≡ Some class
  here = seek.walk.here

  pub seek_found : at ≡ sought → true ≡ is_in (chain_names (chain_of cs c)) d
  seek_found same =
      seek_says cs c d (Some class) (at_found cs (is_named d) c left more at passed class seek.walk one here (is_named_at cs d sought class there (sym (ap (slice_get cs) same) ∙ here)))

  other : (at ≡ sought → ⊥) → is_named d class ≡ false
  other apart = not_named cs d at sought class there seek.first here apart

  pub seek_top : (at ≡ sought → ⊥) → slice_get (superclass_places cs) at ≡ Some None → false ≡ is_in (chain_names (chain_of cs c)) d
  seek_top apart up = seek_says cs c d None (at_top cs (is_named d) c left more at passed class seek.walk one here (other apart) up)

  marked : (mark : ℕ) → (mark ≡ at) ⊎ (mark ≡ passed) → WalksAt cs (is_named d) c left at mark
  marked mark e = at_marks cs (is_named d) c left at passed mark seek.walk e

  pub seek_back : (at ≡ sought → ⊥) → (mark next : ℕ) → (mark ≡ at) ⊎ (mark ≡ passed) → slice_get (superclass_places cs) at ≡ Some (Some next) → next ≡ mark → false ≡ is_in (chain_names (chain_of cs c)) d
  seek_back apart mark next e up back = seek_says cs c d None (at_back cs (is_named d) c left more at mark next class (marked mark e) one here (other apart) up back)

  pub seek_on : (at ≡ sought → ⊥) → (mark next : ℕ) → (mark ≡ at) ⊎ (mark ≡ passed) → slice_get (superclass_places cs) at ≡ Some (Some next) → Seeks cs c d more next mark
  seek_on apart mark next e up = record { walk = at_on cs (is_named d) c left more at mark next class (marked mark e) one here (other apart) up; first = first_above cs at next class here up }

pub seek_ends : (cs : List ClassDecl) (c d : Name) (left at passed : ℕ) → Seeks cs c d left at passed → left ≡ 0 → false ≡ is_in (chain_names (chain_of cs c)) d
seek_ends cs c d left at passed seek none = seek_says cs c d None (at_end cs (is_named d) c left at passed seek.walk none)
