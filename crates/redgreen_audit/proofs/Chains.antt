-- Sessions before the one that is refused.
use Rattle.std.proofs.Common.{◌≡◌, ℕ, ◌+◌, ◌<◌, List, [], ◌∷◌, ◌++◌, map, take, length, get_or, Some, refl, sym, ap, ◌∙◌, subst}
use Rattle.std.proofs.lemmas.List.{take_more, append-nil}
use Rattle.std.proofs.lemmas.Option.{slice_get-get_or}
use Rattle.redgreen_rules.specs.Runs.{Run, AreMade}
use Rattle.redgreen_rules.specs.Sessions.{ArePassed, runs_in}
use Rattle.redgreen_sessions.specs.declared.record.Record.{Record}
use Rattle.redgreen_sessions.specs.declared.record.Session.{Session}
use Rattle.redgreen_sessions.specs.Views.{session_of}
use Rattle.redgreen_audit.specs.declared.fault.Fault.{Fault}
use Rattle.redgreen_audit.specs.declared.fault.Fault.TheVariants.{NoSession, Wrong, Client, OutOfMemory}
use Rattle.redgreen_audit.specs.Refusals.{StepRefuses, StepFails, FirstWrong, RefusedWithin, records_after}
use Rattle.redgreen_audit.proofs.Making.{PassSoFar}

after_last : (past : List Record) (ss : List Session) (s : Session) → records_after past (ss ++ s ∷ []) ≡ s.records.items
after_last past [] s = refl
after_last past (x ∷ ss) s = after_last x.records.items ss s

pub after_more : (chain : List Session) (k : ℕ) (x : Session) (past : List Record) → k < length chain → x ≡ get_or chain k x → past ≡ x.records.items → past ≡ records_after [] (take (k + 1) chain)
after_more chain k x past l e is = is ∙ sym (ap (records_after []) (take_more chain k x l ∙ ap (λ (y : Session). take k chain ++ y ∷ []) (sym e)) ∙ after_last [] (take k chain) x)

pub first_wrong : {S : Type 0} (makes : S → Run → S → Type 0) (s m t : S) (chain : List Session) (k : ℕ) (x : Session) (past : List Record) (fault : Fault) → k < length chain → x ≡ get_or chain k x
    → PassSoFar chain k past → past ≡ records_after [] (take k chain) → AreMade makes s (runs_in (map session_of (take k chain))) m → StepFails makes m t past k x.records.items fault
    → RefusedWithin makes s t chain fault
first_wrong makes s m t chain k x past (Wrong at n record_fault) l e passed is made r =
    subst (λ (j : ℕ). FirstWrong makes s t chain j n record_fault) (sym r.0) (record {
      session = x;
      here = slice_get-get_or chain k x l ∙ ap Some (sym e);
      passed = subst (ArePassed []) (append-nil (map session_of (take k chain))) (passed [] tt);
      state = m;
      made = made;
      refuses = subst (λ (p : List Record). StepRefuses makes m t p x.records.items n record_fault) is r.1;
    })
first_wrong makes s m t chain k x past NoSession l e passed is made r = absurd r
first_wrong makes s m t chain k x past Client l e passed is made r = tt
first_wrong makes s m t chain k x past OutOfMemory l e passed is made r = tt
