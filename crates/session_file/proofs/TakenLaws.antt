-- Sessions in form 2 and the previous session, record by record.
use Rattle.std.proofs.Common.{◌≡◌, ℕ, zero, suc, ◌<◌, true, List, [], ◌∷◌, length, get_or, Option, Some, option_map, refl, ap, subst, ◌∙◌, arith}
use Rattle.std.specs.List.{AllByRecursion}
use Rattle.item_ids.specs.declared.key.Key.{Key}
use Rattle.sessions.specs.declared.mark.Mark.{Mark}
use Rattle.sessions.specs.declared.mark.Mark.TheVariants.{Input, Executed, Green}
use Rattle.sessions.specs.declared.terms.Form.{Form}
use Rattle.sessions.specs.declared.terms.Form.TheVariants.{One, Two}
use Rattle.sessions.specs.Terms.{ends_with_print}
use Rattle.sessions.specs.Sessions.{SessionValue, Entry, IsSession, IsTakenFrom, entry_of, past_entry}
use Rattle.sessions.proofs.EntryRules.{entry_of_place, has_key, has_record, some_map}
use Rattle.session_file.specs.Reading.{OriginValue, past_value}
use Rattle.session_file.proofs.RecordReadLaws.{IsReadOver}

-- ---- each item of a list

each_place : {A : Type 0} (P : A → Type 0) (xs : List A) → ((i : ℕ) (x : A) → i < length xs → get_or xs i x ≡ x → P x) → AllByRecursion P xs
each_place P [] f = tt
each_place P (x ∷ xs) f = (f 0 x (omega arith) refl, each_place P xs (λ i y lt is. f (suc i) y (omega arith) is))

at_place : {A : Type 0} (P : A → Type 0) (xs : List A) → AllByRecursion P xs → (i : ℕ) (x : A) → i < length xs → get_or xs i x ≡ x → P x
at_place P [] all i x lt is = absurd (omega arith)
at_place P (y ∷ ys) all zero x lt is = subst P is all.0
at_place P (y ∷ ys) all (suc i) x lt is = at_place P ys all.1 i x (omega arith) is

-- ---- which records end with their fingerprint

form_of : (form : Form) (mark : Mark) → ends_with_print form mark ≡ true → form ≡ Two
form_of One mark e = absurd cc
form_of Two mark e = refl

mark_of : (form : Form) (mark : Mark) → ends_with_print form mark ≡ true → mark ≡ Green
mark_of One mark e = absurd cc
mark_of Two Input e = absurd cc
mark_of Two Executed e = absurd cc
mark_of Two Green e = refl

ends_so : (form : Form) (mark : Mark) → form ≡ Two → mark ≡ Green → ends_with_print form mark ≡ true
ends_so form mark two green = rw (two, green) refl

-- ---- a session and its records

abbrev origin_of : Option SessionValue → SessionValue → OriginValue
origin_of past s = record { past = past; form = s.terms.form }

pub told_if_taken : (past : Option SessionValue) (s : SessionValue) → IsSession s → IsTakenFrom past s → AllByRecursion (IsReadOver (origin_of past s)) s.records
told_if_taken past s session taken = each_place (IsReadOver (origin_of past s)) s.records (λ i r lt is yes.
    let t = taken (form_of s.terms.form r.mark yes) r.key (entry_of s.records r) (entry_of_place s session i r lt is) (mark_of s.terms.form r.mark yes) in
    ap (option_map (λ (x : Entry). x.value)) t.1 ∙ ap Some t.2)

pub taken_if_told : (past : Option SessionValue) (s : SessionValue) → IsSession s → AllByRecursion (IsReadOver (origin_of past s)) s.records → IsTakenFrom past s
taken_if_told past s session told two q r has green =
    let x = has_record s session q r has in
    let mark : x.0.mark ≡ Green = ap (λ (e : Entry). e.mark) x.4 ∙ green in
    let here = at_place (IsReadOver (origin_of past s)) s.records told x.1 x.0 x.2 x.3 (ends_so s.terms.form x.0.mark two mark) in
    let key : x.0.key ≡ q = ap (λ (e : Entry). e.key) x.4 ∙ has_key s session q r has in
    let had = some_map (λ (e : Entry). e.value) (past_entry past q) x.0.value (subst (λ (k : Key). past_value past k ≡ Some x.0.value) key here) in
    (had.0, had.1, had.2 ∙ ap (λ (e : Entry). e.value) x.4)
