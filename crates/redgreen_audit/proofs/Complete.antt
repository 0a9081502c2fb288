-- A right chain has no fault.
use Rattle.std.proofs.Common.{◌≡◌, ◌≢◌, inl, inr, ℕ, zero, suc, ◌<◌, ◌≤◌, List, [], ◌∷◌, ◌++◌, take, drop, length, get_or, slice_get, Some, refl, sym, ap, ◌∙◌, subst, arith}
use Rattle.std.specs.List.{AllByRecursion}
use Rattle.std.proofs.lemmas.List.{map-append, take-append-drop}
use Rattle.std.proofs.lemmas.Option.{same_Some}
use Rattle.redgreen_rules.specs.Programs.{Key, Prog, Ret}
use Rattle.redgreen_rules.specs.Runs.{IsIn, Run, End, Wanted}
use Rattle.redgreen_rules.specs.Sessions as rules
use Rattle.redgreen_sessions.specs.declared.record.Mark.{Mark}
use Rattle.redgreen_sessions.specs.declared.record.Mark.TheVariants.{Input, Green, Executed}
use Rattle.redgreen_sessions.specs.declared.record.Record.{Record}
use Rattle.redgreen_sessions.specs.declared.record.Session.{Session}
use Rattle.redgreen_sessions.specs.Views.{mark_of, tell_at, told_at}
use Rattle.redgreen_audit.specs.declared.fault.RecordFault.{RecordFault}
use Rattle.redgreen_audit.specs.declared.fault.RecordFault.TheVariants.{RepeatedKey, InputWithReads, LaterRead, RepeatedRead, Changed, NotGreen, OtherRead, MissingRead, OtherValue, FailedRun}
use Rattle.redgreen_audit.specs.Answering.{told_first, IsStrange}
use Rattle.redgreen_audit.specs.Checks.{AreEarlier, HaveOnce, HaveNew, HasReads, IsUnchanged, IsTakenFrom, IsGreenBy, PassesAt}
use Rattle.redgreen_audit.specs.Refusals.{run_to, Differs, RecordHasFault, Repeats, StepRefuses, FirstWrong, records_after}
use Rattle.redgreen_audit.specs.Answering.{IsUntold}
use Rattle.redgreen_audit.specs.Right.{FirstReads, EndsAfter, RunsAlike, IsRightSession, IsRightChain}
use Rattle.redgreen_audit.proofs.Walking.{one_result, no_other}

-- ---- records

same_green : (a b : ℕ) → Green a ≡ Green b → a ≡ b
same_green a b e = cc

no_reads : (past now : List Record) (at : ℕ) (r : Record) (m : Mark) → r.mark ≡ m → HasReads at r m → (mark_of m ≡ rules.Input) × (r.reads.items ≢ []) → ⊥
no_reads past now at r (Input previous) e p f = f.1 p
no_reads past now at r (Green place) e p f = let both : rules.Green ≡ rules.Input = f.0 in cc
no_reads past now at r (Executed previous) e p f = let both : rules.Executed ≡ rules.Input = f.0 in cc

earlier : (at : ℕ) (r : Record) (m : Mark) → HasReads at r m → mark_of m ≢ rules.Input → AreEarlier r.reads.items at
earlier at r (Input previous) p isnt = absurd (isnt refl)
earlier at r (Green place) p isnt = p
earlier at r (Executed previous) p isnt = p.0

each_once : (at : ℕ) (r : Record) (m : Mark) → HasReads at r m → mark_of m ≡ rules.Executed → HaveOnce [] r.reads.items
each_once at r (Input previous) p is = let both : rules.Input ≡ rules.Executed = is in absurd cc
each_once at r (Green place) p is = let both : rules.Green ≡ rules.Executed = is in absurd cc
each_once at r (Executed previous) p is = p.1

no_fault : (past now : List Record) (at : ℕ) (r : Record) (record_fault : RecordFault) → PassesAt past now at r → RecordHasFault past now at r record_fault → ⊥
no_fault past now at r InputWithReads p f = no_reads past now at r r.mark refl p.reads f
no_fault past now at r LaterRead p f = f.1 (earlier at r r.mark p.reads f.0)
no_fault past now at r RepeatedRead p f = f.2 (each_once at r r.mark p.reads f.0)
no_fault past now at r Changed p f = f.3 (subst (IsUnchanged past r) f.2 p.unchanged)
no_fault past now at r NotGreen p f = f.4 (subst (IsGreenBy past now r) f.1 p.green)
no_fault past now at r RepeatedKey p f = f
no_fault past now at r OtherRead p f = f
no_fault past now at r MissingRead p f = f
no_fault past now at r OtherValue p f = f
no_fault past now at r FailedRun p f = f

-- ---- keys

all_at : {A : Type 0} (P : A → Type 0) (xs : List A) (x : A) → AllByRecursion P xs → IsIn xs x → P x
all_at P [] x h l = elim l [ ]
all_at P (y ∷ ys) x h (inl e) = subst P e h.0
all_at P (y ∷ ys) x h (inr l) = all_at P ys x h.1 l

in_right : {A : Type 0} (xs ys : List A) (x : A) → IsIn ys x → IsIn (xs ++ ys) x
in_right [] ys x l = l
in_right (z ∷ xs) ys x l = inr (in_right xs ys x l)

in_left : {A : Type 0} (xs ys : List A) (x : A) → IsIn xs x → IsIn (xs ++ ys) x
in_left [] ys x l = elim l [ ]
in_left (z ∷ xs) ys x (inl e) = inl e
in_left (z ∷ xs) ys x (inr l) = inr (in_left xs ys x l)

new_at : (front rest : List Record) (n : ℕ) (r a : Record) → HaveNew front rest → slice_get rest n ≡ Some r → IsIn (front ++ take n rest) a → a.key ≢ r.key
new_at front [] n r a h e l = absurd cc
new_at front (x ∷ rest) zero r a h e l =
    let same : x ≡ r = same_Some x r e in
    subst (λ (y : Record). a.key ≢ y.key) same (all_at (λ (b : Record). b.key ≢ x.key) front a h.0 (subst (λ (ys : List Record). IsIn ys a) (nil front) l))
  where
    nil : (ys : List Record) → ys ++ [] ≡ ys
    nil [] = refl
    nil (y ∷ ys) = ap (λ (zs : List Record). y ∷ zs) (nil ys)
new_at front (x ∷ rest) (suc n) r a h e l = new_at (front ++ x ∷ []) rest n r a h.1 e (subst (λ (ys : List Record). IsIn ys a) (sym (assoc front)) l)
  where
    assoc : (ys : List Record) → (ys ++ x ∷ []) ++ take n rest ≡ ys ++ x ∷ take n rest
    assoc [] = refl
    assoc (y ∷ ys) = ap (λ (zs : List Record). y ∷ zs) (assoc ys)

repeats_none : (now : List Record) (n : ℕ) → HaveNew [] now → Repeats now n → ⊥
repeats_none now n h r = new_at [] now n r.item r.other h r.here r.there r.same

-- ---- runs

untold_map : (records : List Record) (reads : List ℕ) (k : Key) → ((j : ℕ) → j < length reads → (tell_at records (get_or reads j 0)).key ≢ k) → IsUntold (told_at records reads) k
untold_map records [] k h = tt
untold_map records (x ∷ reads) k h = (h 0 (omega arith), untold_map records reads k (λ j l. h (suc j) (omega (arith, l))))

strange_front : (records : List Record) (reads : List ℕ) (i : ℕ) (k : Key) → IsStrange records reads i k → IsUntold (told_at records (take i reads)) k
strange_front records [] zero k h = tt
strange_front records [] (suc i) k h = tt
strange_front records (x ∷ reads) zero k h = tt
strange_front records (x ∷ reads) (suc i) k h = (h 0 (omega arith) (omega arith), strange_front records reads i k (λ j l m. h (suc j) (omega (arith, l)) (omega (arith, m))))

strange_next : (records : List Record) (reads : List ℕ) (i : ℕ) (k : Key) → IsStrange records reads i k → IsUntold (take 1 (told_at records (drop i reads))) k
strange_next records [] zero k h = tt
strange_next records [] (suc i) k h = tt
strange_next records (x ∷ reads) zero k h = (h 0 (omega arith) (omega arith), tt)
strange_next records (x ∷ reads) (suc i) k h = strange_next records reads i k (λ j l m. h (suc j) (omega (arith, l)) (omega (arith, m)))

split : (records : List Record) (reads : List ℕ) (i : ℕ) → told_at records (take i reads) ++ told_at records (drop i reads) ≡ told_at records reads
split records reads i = sym (map-append (tell_at records) (take i reads) (drop i reads)) ∙ ap (told_at records) (take-append-drop i reads)

none_left : (records : List Record) (reads : List ℕ) (i : ℕ) → told_at records (drop i reads) ≡ [] → length reads ≤ i
none_left records [] i e = omega arith
none_left records (x ∷ reads) zero e = absurd cc
none_left records (x ∷ reads) (suc i) e = omega (arith, none_left records reads i e)

differs_none : (prog : Prog) (records : List Record) (item : Record) (i : ℕ) (end : End) (record_fault : RecordFault) → FirstReads prog (told_at records item.reads.items) (Ret item.value) → EndsAfter prog (told_first records item.reads.items i) end
    → Differs records item i end record_fault → ⊥
differs_none prog records item i end OtherRead h g d =
    let reads = item.reads.items in
    let w : EndsAfter prog (told_first records reads i) (Wanted d.0) = subst (EndsAfter prog (told_first records reads i)) d.1 g in
    no_other prog (told_at records reads) (told_at records (take i reads)) (told_at records (drop i reads)) item.value d.0 w.0 (split records reads i) h w.1 (strange_front records reads i d.0 d.2) (strange_next records reads i d.0 d.2)
differs_none prog records item i end MissingRead h g d =
    let reads = item.reads.items in
    let o = one_result prog (told_at records reads) (told_at records (take i reads)) (told_at records (drop i reads)) item.value d.0 (split records reads i) h (subst (EndsAfter prog (told_first records reads i)) d.1 g) in
    let le : length reads ≤ i = none_left records reads i o.0 in
    absurd (omega (arith, le, d.2))
differs_none prog records item i end OtherValue h g d =
    let reads = item.reads.items in
    let o = one_result prog (told_at records reads) (told_at records (take i reads)) (told_at records (drop i reads)) item.value d.0 (split records reads i) h (subst (EndsAfter prog (told_first records reads i)) d.1 g) in
    d.3 o.1
differs_none prog records item i end FailedRun h g d = subst (EndsAfter prog (told_first records item.reads.items i)) d g
differs_none prog records item i end RepeatedKey h g d = absurd d
differs_none prog records item i end InputWithReads h g d = absurd d
differs_none prog records item i end LaterRead h g d = absurd d
differs_none prog records item i end RepeatedRead h g d = absurd d
differs_none prog records item i end Changed h g d = absurd d
differs_none prog records item i end NotGreen h g d = absurd d

-- ---- all

module _ {S : Type 0} (prog_of : Key → Prog) (makes : S → Run → S → Type 0) (alike : RunsAlike prog_of makes) where
  step_none : (s t : S) (past now : List Record) (n : ℕ) (record_fault : RecordFault) → IsRightSession prog_of past now → StepRefuses makes s t past now n record_fault → ⊥
  step_none s t past now n record_fault r (inl (_, inl e)) = repeats_none now n r.new e.1
  step_none s t past now n record_fault r (inl (_, inr l)) = no_fault past now n l.1.item record_fault (r.each n l.1.item l.1.here) l.1.faulty
  step_none s t past now n record_fault r (inr d) =
      let f = d.1 in
      differs_none (prog_of f.item.key) now f.item f.refuses.count f.refuses.end record_fault (r.runs n f.item f.here f.executed) (alike f.state t (run_to now f.item f.refuses.count f.refuses.end) f.refuses.made) f.refuses.differs

  pub right_none : (s t : S) (chain : List Session) (k n : ℕ) (record_fault : RecordFault) → IsRightChain prog_of chain → FirstWrong makes s t chain k n record_fault → ⊥
  right_none s t chain k n record_fault r f = step_none f.state t (records_after [] (take k chain)) f.session.records.items n record_fault (r k f.session f.here) f.refuses
