-- Runs that differ from their records.
use Rattle.std.specs.Prelude.{MatchOption, IsTrue, ◌↔◌}
use Rattle.std.proofs.Common.{Option, None, [], inr, ◌≡◌, ◌≢◌, Bool, true, false, MatchBool, ℕ, ◌≤◌, ◌<◌, List, map, take, length, get_or, slice_get, Some, refl, sym, ap, ◌∙◌, subst}
use Rattle.std.proofs.lemmas.Option.{slice_get-get_or, same_Some}
use Rattle.redgreen_rules.specs.Runs.{Run, Wanted, AreMade}
use Rattle.redgreen_rules.specs.Sessions as rules
use Rattle.redgreen_rules.specs.Sessions.{runs_of}
use Rattle.redgreen_audit.specs.Checks.{HaveNew, IsUnchangedAt, IsTakenFrom, PassesAt, named, previous_at}
use Rattle.redgreen_sessions.specs.declared.record.Mark.{Mark}
use Rattle.redgreen_sessions.specs.declared.record.Mark.TheVariants.{Input, Green, Executed}
use Rattle.redgreen_sessions.specs.declared.record.Record.{Record}
use Rattle.redgreen_sessions.specs.Views.{mark_of, told_at, entry_in}
use Rattle.redgreen_audit.specs.declared.fault.RecordFault.TheVariants.{OtherRead}
use Rattle.redgreen_audit.specs.declared.rerun.Unlike.{Unlike}
use Rattle.redgreen_audit.specs.Answering.{told_first, IsStrange}
use Rattle.redgreen_audit.specs.Refusals.{RunDiffers, RefusesRun, FirstDiffers, RecordWrong, FirstFaulty, EachWrong, SessionWrong}
use Rattle.redgreen_audit.specs.declared.checking.Wrong.{Wrong as Mistake}
use Rattle.redgreen_audit.specs.declared.checking.Wrong.TheVariants as mistakes

record Other {S : Type 0} (makes : S → Run → S → Type 0) (s t : S) (count : ℕ) (k : List ℕ) (now : List Record) (reads key : List ℕ) : Type 0 where
  pub within : count ≤ length reads
  pub strange : IsStrange now reads count k
  pub made : makes s (record { key = key; told = told_first now reads count; end = Wanted k }) t

pub strange_run : {S : Type 0} (makes : S → Run → S → Type 0) (s t : S) (records now : List Record) (item : Record) (reads key : List ℕ) (count : ℕ) (k : List ℕ) → now ≡ records → reads ≡ item.reads.items → key ≡ item.key
    → count ≤ length reads → IsStrange now reads count k → makes s (record { key = key; told = told_first now reads count; end = Wanted k }) t → RunDiffers makes s t records item OtherRead
strange_run makes s t records now item reads key count k e f h within strange made =
    let o : Other makes s t count k now reads key = record { within = within; strange = strange; made = made } in
    let p = subst (λ (x : List ℕ). Other makes s t count k records item.reads.items x) h
    (subst (λ (x : List ℕ). Other makes s t count k records x key) f (subst (λ (x : List Record). Other makes s t count k x reads key) e o)) in
    record { count = count; end = Wanted k; within = p.within; differs = (k, refl, p.strange); made = p.made }

pub first_differs : {S : Type 0} (makes : S → Run → S → Type 0) (s m t : S) (records : List Record) (n : ℕ) (x : Record) (unlike : Unlike) → n < length records → x ≡ get_or records n x
    → AreMade makes s (runs_of (map (entry_in records) (take n records))) m → (mark_of x.mark ≡ rules.Executed) × RefusesRun makes m t records x unlike → FirstDiffers makes s t records n unlike
first_differs makes s m t records n x unlike l e before r = record {
  item = x;
  here = slice_get-get_or records n x l ∙ ap Some (sym e);
  executed = r.0;
  state = m;
  before = before;
  refuses = r.1;
}

-- ---- records of the session before

pub match_equal : (b : Bool) (v w x : List ℕ) → x ≡ w → IsTrue b ↔ (v ≡ x) → MatchBool b (v ≡ w) (v ≢ w)
match_equal true v w x e h = h.0 refl ∙ e
match_equal false v w x e h = λ same. let yes : false ≡ true = h.1 (same ∙ sym e) in absurd cc

pub match_unchanged : (b : Bool) (past : List Record) (place : ℕ) (had item : Record) → slice_get past place ≡ Some had → had.key ≡ item.key → MatchBool b (had.value ≡ item.value) (had.value ≢ item.value)
    → MatchBool b (IsUnchangedAt past place item) (IsUnchangedAt past place item → ⊥)
match_unchanged true past place had item at key h = record { had = had; here = at; key = key; value = h }
match_unchanged false past place had item at key h = λ u. h (ap (λ (r : Record). r.value) (same_Some had u.had (sym at ∙ u.here)) ∙ u.value)

pub match_taken : (b : Bool) (past now : List Record) (place : ℕ) (had item : Record) (old reads : List ℕ) → slice_get past place ≡ Some had → mark_of had.mark ≢ rules.Input
    → old ≡ had.reads.items → reads ≡ item.reads.items → MatchBool b (map (previous_at now) reads ≡ map named old) (map (previous_at now) reads ≢ map named old)
    → MatchBool b (IsTakenFrom past now place item) (IsTakenFrom past now place item → ⊥)
match_taken true past now place had item old reads at isnt e f h =
    record { had = had; here = at; no_input = isnt; reads = ap (map (previous_at now)) (sym f) ∙ (h ∙ ap (map named) e) }
match_taken false past now place had item old reads at isnt e f h = λ st.
    let same : st.had ≡ had = same_Some st.had had (sym st.here ∙ at) in
    h (ap (map (previous_at now)) f ∙ (st.reads ∙ ap (map named) (ap (λ (r : Record). r.reads.items) same ∙ sym e)))

-- ---- a session whose keys are new

pub each_wrong : (past now : List Record) (wrong : Mistake) → HaveNew [] now → EachWrong past now wrong → SessionWrong past now wrong
each_wrong past now (mistakes.Record n record_fault) h e = inr (h, e)
each_wrong past now mistakes.OutOfMemory h e = tt

pub first_faulty : (past now : List Record) (n : ℕ) (x : Record) (wrong : Mistake) → n < length now → x ≡ get_or now n x → ((i : ℕ) (r : Record) → i < n → slice_get now i ≡ Some r → PassesAt past now i r)
    → RecordWrong past now n x wrong → EachWrong past now wrong
first_faulty past now n x (mistakes.Record at record_fault) l e before w =
    subst (λ (j : ℕ). FirstFaulty past now j record_fault) (sym w.0) (record { item = x; here = slice_get-get_or now n x l ∙ ap Some (sym e); before = before; faulty = w.1 })
first_faulty past now n x mistakes.OutOfMemory l e before w = tt

pub match_none : {A P : Type 0} (Q : A → Type 0) (o : Option A) → o ≡ None → MatchOption o P Q → P
match_none Q None is h = h
match_none Q (Some y) is h = absurd cc
