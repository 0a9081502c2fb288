-- The walk from a record down.
use Rattle.std.proofs.Common.{◌≡◌, ◌∙◌, ℕ, ◌<◌, ◌≤◌, ◌+◌, zero, suc, inl, inr, Bool, true, false, List, [], ◌∷◌, length, ◌++◌, take, drop, get_or, set, replicate, Some, sym, ap, subst, arith}
use Rattle.std.specs.Prelude.{Contains}
use Rattle.std.specs.List.{AllByRecursion}
use Rattle.std.proofs.lemmas.Bool.{cases_eq}
use Rattle.std.proofs.lemmas.List.{get_or-set_same, get_or-set_other, length-set, length-replicate, length-take-le, get_or-map, take_at}
use Rattle.std.proofs.lemmas.List.Elements.{All-contains, All-from_recursion}
use Rattle.item_ids.specs.declared.key.Key.{Key}
use Rattle.sessions.specs.Sessions.{RecordValue, IsEdge, FitsBehind, AreRecords}
use Rattle.session_text.specs.Within.{LiesWithin, itself, read, edges_of_record, AreDrawn}
use Rattle.session_text.specs.Flags.{with_flags}
use Rattle.session_text.proofs.Flags.{IsSet, length-with_flags, stays, are_set, only_set}

-- the records from k on are done: what a flagged one of them has read is flagged
pub record IsWalked (records : List RecordValue) (root k : ℕ) (flags : List Bool) : Type 0 where
  pub each : length flags ≡ length records
  pub first : IsSet flags root
  pub only : (i : ℕ) → IsSet flags i → LiesWithin records root i
  pub done : (i e : ℕ) → k ≤ i → IsSet flags i → Contains (edges_of_record records i) e → IsSet flags e

none_set : (n i : ℕ) → IsSet (replicate n false) i → ⊥
none_set zero i is = absurd cc
none_set (suc n) zero is = absurd cc
none_set (suc n) (suc i) is = none_set n i is

pub walk_begins : (records : List RecordValue) (root : ℕ) → root < length records
    → IsWalked records root (root + 1) (set (replicate (length records) false) root true)
walk_begins records root lt =
    let blank = replicate (length records) false in
    let one : (i : ℕ) → IsSet (set blank root true) i → i ≡ root = λ i is. elim (cases_eq i root) [
      | inl same ↦ same
      | inr other ↦ absurd (none_set (length records) i (sym (get_or-set_other blank root i true false other) ∙ is))
    ] in
    record {
      each = length-set blank root true ∙ length-replicate (length records) false;
      first = get_or-set_same blank root true false (omega (arith, lt, length-replicate (length records) false));
      only = λ i is. subst (LiesWithin records root) (sym (one i is)) itself;
      done = λ i e le is has. absurd (omega (arith, le, one i is));
    }

pub walk_passes : (records : List RecordValue) (root k : ℕ) (flags : List Bool) → IsWalked records root (k + 1) flags
    → get_or flags k false ≡ false → IsWalked records root k flags
walk_passes records root k flags h not_set = record {
  each = h.each;
  first = h.first;
  only = h.only;
  done = λ i e le is has. elim (cases_eq i k) [
    | inl same ↦ absurd (let clash : false ≡ true = sym not_set ∙ (ap (λ (n : ℕ). get_or flags n false) (sym same) ∙ is) in cc)
    | inr other ↦ h.done i e (omega (arith, le, other)) is has
  ];
}

pub all_less : (es : List ℕ) (k n : ℕ) → k ≤ n → AllByRecursion (λ e. e < k) es → AllByRecursion (λ e. e < n) es
all_less [] k n le h = tt
all_less (e ∷ es) k n le h = (omega (arith, le, h.0), all_less es k n le h.1)

-- what the record at an index has read stands in front of it
edges_in_front : (front : List RecordValue) (key : Key) (es : List ℕ) (k : ℕ) → length front ≤ k → AllByRecursion (IsEdge front key) es → AllByRecursion (λ e. e < k) es
edges_in_front front key [] k le h = tt
edges_in_front front key (e ∷ es) k le h = (omega (arith, le, h.0.0), edges_in_front front key es k le h.1)

pub edges_are : (records : List RecordValue) (k : ℕ) (r : RecordValue) → k < length records → r ≡ get_or records k r → edges_of_record records k ≡ r.edges
edges_are records k r lt is = get_or-map (λ (x : RecordValue). x.edges) records k r [] lt ∙ ap (λ (x : RecordValue). x.edges) (sym is)

pub edges_less : (records : List RecordValue) (k : ℕ) (r : RecordValue) → AreRecords records → k < length records → r ≡ get_or records k r
    → AllByRecursion (λ e. e < k) r.edges
edges_less records k r are lt is =
    let fits : FitsBehind (take k records) r = subst (FitsBehind (take k records)) (sym is) (are k r lt) in
    edges_in_front (take k records) r.key r.edges k (omega (arith, length-take-le k records (omega (arith, lt)))) fits.edges

pub walk_takes : (records : List RecordValue) (root k : ℕ) (flags : List Bool) → IsWalked records root (k + 1) flags
    → k < length records → AllByRecursion (λ e. e < k) (edges_of_record records k) → IsSet flags k
    → IsWalked records root k (with_flags flags (edges_of_record records k))
walk_takes records root k flags h lt front is_set =
    let es = edges_of_record records k in
    let inside : AllByRecursion (λ e. e < length flags) es = all_less es k (length flags) (omega (arith, lt, h.each)) front in
    record {
      each = length-with_flags flags es ∙ h.each;
      first = stays flags es root inside h.first;
      only = λ i is. elim (only_set flags es i inside is) [
        | inl before ↦ h.only i before
        | inr member ↦ read k i (h.only k is_set) member
      ];
      done = λ i e le is has. elim (cases_eq i k) [
        | inl same ↦ are_set flags es e inside (subst (λ (n : ℕ). Contains (edges_of_record records n) e) same has)
        | inr other ↦ elim (only_set flags es i inside is) [
          | inl before ↦ stays flags es e inside (h.done i e (omega (arith, le, other)) before has)
          | inr member ↦ absurd (let less : i < k = All-contains (λ e. e < k) es i (All-from_recursion (λ e. e < k) es front) member in omega (arith, le, less))
        ]
      ];
    }

all_flagged : (records : List RecordValue) (root : ℕ) (flags : List Bool) → IsWalked records root 0 flags → (i : ℕ) → LiesWithin records root i → IsSet flags i
all_flagged records root flags h _ itself = h.first
all_flagged records root flags h _ (read i e within has) = h.done i e (omega arith) (all_flagged records root flags h i within) has

pub walk_ends : (records : List RecordValue) (root : ℕ) (flags : List Bool) → IsWalked records root 0 flags → AreDrawn records (Some root) flags
walk_ends records root flags h =
    record { each = h.each; exact = λ i lt. (h.only i, all_flagged records root flags h i) }

-- a step of the walk in the code, whose flags are lent as a slice
pub walk_step : (records : List RecordValue) (root k : ℕ) (flags : List Bool) (new : List Bool) (es : List ℕ) (n : ℕ) → IsWalked records root (k + 1) flags
    → k < length records → es ≡ edges_of_record records k → AllByRecursion (λ e. e < k) es → IsSet flags k → new ≡ with_flags flags es → n ≡ length new
    → IsWalked records root k (take n (new ++ drop (length new) flags))
walk_step records root k flags new es n h lt are front is_set new_is n_is =
    let whole : take n (new ++ drop (length new) flags) ≡ new = take_at new (drop (length new) flags) n (sym n_is) in
    let here : AllByRecursion (λ e. e < k) (edges_of_record records k) = subst (AllByRecursion (λ e. e < k)) are front in
    subst (IsWalked records root k) (sym (whole ∙ (new_is ∙ ap (with_flags flags) are))) (walk_takes records root k flags h lt here is_set)
