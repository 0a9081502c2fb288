-- Why each query of a session was executed, beside the session before it, if there is one.
use Rattle.std.specs.Prelude.{◌≡◌, ◌⊎◌, Bool, true, false, not, List, [], ◌∷◌, Option, Some, None, IsSome, option_map, find, Contains}
use Rattle.std.specs.List.{AllByRecursion}
use Rattle.std.specs.Str.{bytes_eq}
use Rattle.item_ids.specs.declared.key.Key.{Key}
use Rattle.item_ids.specs.declared.kind.Kind.{Kind}
use Rattle.item_ids.specs.Keys.{kind_of}
use Rattle.item_ids.specs.Inputs.{is_input}
use Rattle.fingerprint.specs.Prints.{print_of}
use Rattle.ordered_names.specs.Order.{IsAscendingBy}
use Rattle.sessions.specs.declared.mark.Mark.{Mark}
use Rattle.sessions.specs.declared.mark.Mark.TheVariants as marks
use Rattle.sessions.specs.Sessions.{Entry, SessionValue, entry_at, past_entry}
use Rattle.graph_rules.specs.Settings.{has_kind}
use Rattle.graph_rules.specs.Graphs.{KeyBefore}
use Rattle.session_text.specs.declared.causes.cause.Cause.{Cause}
use Rattle.session_text.specs.declared.causes.cause.Cause.TheVariants.{New, Changed, Gone, Same, Green, Red, OtherProfile, NothingChanged}
use Rattle.session_text.specs.declared.causes.cause.Why.{Why}

-- both have a result, with one fingerprint
abbrev pub have_same_print : Option Entry → Option Entry → Bool
have_same_print None o = false
have_same_print (Some had) None = false
have_same_print (Some had) (Some r) = bytes_eq (print_of had.value) (print_of r.value)

-- the two sessions haven't both a record of the key, with one fingerprint
abbrev pub is_red : Option SessionValue → SessionValue → Key → Bool
is_red was now q = not (have_same_print (past_entry was q) (entry_at now q))

-- the first that is red of the keys that a record of the session before read, in its order
abbrev pub first_red : Option SessionValue → SessionValue → Entry → Option Key
first_red was now had = find (is_red was now) had.reads

-- how the key became done in the session, if it has a record of it
abbrev pub mark_at : SessionValue → Key → Option Mark
mark_at now q = option_map (λ r. r.mark) (entry_at now q)

-- the query was executed, and of the record that the session before has of it this holds
abbrev pub IsRunOver : Option SessionValue → SessionValue → Key → (Entry → Type 0) → Type 0
IsRunOver was now q P =
    (mark_at now q ≡ Some marks.Executed)
    × ((had : Entry) × (past_entry was q ≡ Some had) × P had)

-- Why the query of a key was executed, or what else became of it. Nothing is taken over of the kinds
-- `crossing`.
abbrev pub IsWhy : Option SessionValue → SessionValue → List Kind → Key → Cause → Type 0
IsWhy was now crossing q New =
    (past_entry was q ≡ None)
    × ((mark_at now q ≡ Some marks.Input) ⊎ (mark_at now q ≡ Some marks.Executed))
IsWhy was now crossing q Changed =
    IsSome (past_entry was q) × (mark_at now q ≡ Some marks.Input) × (is_red was now q ≡ true)
IsWhy was now crossing q Gone = IsSome (past_entry was q) × (entry_at now q ≡ None)
IsWhy was now crossing q Same = (mark_at now q ≡ Some marks.Input) × (is_red was now q ≡ false)
IsWhy was now crossing q Green = mark_at now q ≡ Some marks.Green
IsWhy was now crossing q (Red e) = IsRunOver was now q (λ had. first_red was now had ≡ Some e.now)
IsWhy was now crossing q OtherProfile =
    IsRunOver was now q
    (λ had. (first_red was now had ≡ None) × (has_kind crossing (kind_of q) ≡ true))
IsWhy was now crossing q NothingChanged =
    IsRunOver was now q
    (λ had. (first_red was now had ≡ None) × (has_kind crossing (kind_of q) ≡ false))

-- one of the sessions has a record of the key
abbrev pub IsOfEither : Option SessionValue → SessionValue → Key → Type 0
IsOfEither was now q = IsSome (past_entry was q) ⊎ IsSome (entry_at now q)

-- an input that is new, changed or gone
abbrev pub IsOtherInput : Option SessionValue → SessionValue → Key → Type 0
IsOtherInput was now q =
    IsOfEither was now q × (is_input (kind_of q) ≡ true) × (is_red was now q ≡ true)

-- what is explained: an executed record, or an input that is new, changed or gone
abbrev pub IsExplained : Option SessionValue → SessionValue → Key → Type 0
IsExplained was now q = (mark_at now q ≡ Some marks.Executed) ⊎ IsOtherInput was now q

-- what is said of a key is right
pub record IsRightWhy (was : Option SessionValue) (now : SessionValue) (crossing : List Kind)
    (why : Why) : Type 0 where
  pub cause : IsWhy was now crossing why.key.now why.cause
  pub same : why.is_same_result ≡ not (is_red was now why.key.now)

-- Each key that is explained has its place, in the order of keys, and what is said of it is right.
pub record AreWhys (was : Option SessionValue) (now : SessionValue) (crossing : List Kind)
    (whys : List Why) : Type 0 where
  pub ascending : IsAscendingBy (λ a b. KeyBefore a.key.now b.key.now) whys
  pub each : AllByRecursion (λ why. IsExplained was now why.key.now × IsRightWhy was now crossing why) whys
  pub all : (q : Key) → IsExplained was now q → (why : Why) × Contains whys why × (why.key.now ≡ q)

-- the key that a cause leads to
abbrev pub red_key : Cause → Option Key
red_key (Red e) = Some e.now
red_key _ = None

-- Each is of the key that the one before leads to, from this key on, and the last leads to none.
abbrev pub IsTrail : Option Key → List Why → Type 0
IsTrail next [] = next ≡ None
IsTrail next (why ∷ whys) = (next ≡ Some why.key.now) × IsTrail (red_key why.cause) whys
