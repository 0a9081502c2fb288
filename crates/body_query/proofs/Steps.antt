-- Steps of a check, done by reads.
use Rattle.std.proofs.Common.{◌≡◌, List, Option, refl, sym, subst, ◌∙◌}
use Rattle.recorder.specs.Backed.{ReadValue}
use Rattle.recorder.specs.Recording.{Recording}
use Rattle.recorder.specs.Programs.{Prog, Reached, IsAt, Goes, GivesUp}
use Rattle.recorder.specs.declared.refused.Refused.{Refused}
use Rattle.recorder.specs.declared.runner.RunFault.{RunFault}
use Rattle.mj_phrases.specs.declared.verdict.Mistake.{Mistake}
use Rattle.mj_phrases.specs.declared.asking.Stop.{Stop}
use Rattle.mj_phrases.specs.declared.asking.Stop.TheVariants as stops
use Rattle.std.specs.Prelude.{Bool}
use Rattle.mj_tree.specs.Trees.{Name}
use Rattle.mj_tree.specs.declared.tree.Ty.{Ty}
use Rattle.mj_phrases.specs.Inquiries.{Sig, Concludes, AsksDescent, AsksField, AsksMethod, AsksDeclared}
use Rattle.mj_phrases.specs.Steps.{Check, Proceeds, Aborts}
use Rattle.body_questions.specs.Questions.{descends_step, field_step, method_step, declared_step}
use Rattle.body_query.specs.Programs.{reads_of}
use Rattle.body_query.specs.Steps.{Comes, HasGivenUp, run_fault_of}

-- each question is its step
pub reads_descends : (c d : Name) (f : Bool → Check) (k : List Mistake → Prog) → reads_of (AsksDescent c d f) k ≡ descends_step c d (λ answer. reads_of (f answer) k)
unfolding reads_of
reads_descends c d f k = refl

pub reads_field : (c x : Name) (f : Option Ty → Check) (k : List Mistake → Prog) → reads_of (AsksField c x f) k ≡ field_step c x (λ answer. reads_of (f answer) k)
unfolding reads_of
reads_field c x f k = refl

pub reads_method : (c m : Name) (f : Option Sig → Check) (k : List Mistake → Prog) → reads_of (AsksMethod c m f) k ≡ method_step c m (λ answer. reads_of (f answer) k)
unfolding reads_of
reads_method c m f k = refl

pub reads_declared : (c : Name) (f : Bool → Check) (k : List Mistake → Prog) → reads_of (AsksDeclared c f) k ≡ declared_step c (λ answer. reads_of (f answer) k)
unfolding reads_of
reads_declared c f k = refl

module _ {S D : Type 0} (told : List ReadValue) (refused : Option Refused) (at : S → Recording D) where
  abbrev pub StandsAt : S → Check → Check → Type 0
  StandsAt s start now = Comes told refused start now (at s)

  abbrev pub HaltsAt : S → Check → Stop RunFault → Type 0
  HaltsAt s start e = HasGivenUp told refused start e (at s)

  -- a question that is asked by a step
  pub goes_by : {X : Type 0} (ask : (X → Check) → Check) (step : (X → Prog) → Prog) → ((f : X → Check) (k : List Mistake → Prog) → reads_of (ask f) k ≡ step (λ x. reads_of (f x) k)) → (old new : S) (x : X) → Goes step (at old) x (at new) → Proceeds StandsAt ask old x new
  goes_by ask step same old new x g = record {
    goes = λ start f h. record {
      comes = λ prog k b. g.goes prog (λ x. reads_of (f x) k) (subst (IsAt prog (at old)) (same f k) (h.comes prog k b));
    };
  }

  pub gives_up_by : {X : Type 0} (ask : (X → Check) → Check) (step : (X → Prog) → Prog) → ((f : X → Check) (k : List Mistake → Prog) → reads_of (ask f) k ≡ step (λ x. reads_of (f x) k)) → (old new : S) (e : RunFault) → GivesUp step (at old) e (at new) → Aborts StandsAt HaltsAt ask old (stops.Refused e) new
  gives_up_by ask step same old new e g = record {
    ends = λ start f h. record {
      ends = λ prog k b. g.halts prog (λ x. reads_of (f x) k) (subst (IsAt prog (at old)) (same f k) (h.comes prog k b));
    };
  }

  -- a check that began with this recorder, and has concluded
  pub check_goes : (step : (List Mistake → Check) → Check) (old new : S) (mistakes : List Mistake) → (at old).told ≡ told → (at old).refused ≡ refused → Proceeds StandsAt step old mistakes new → Goes (reads_of (step (λ ms. Concludes ms))) (at old) mistakes (at new)
  unfolding reads_of
  check_goes step old new mistakes same none g = record {
    goes = λ prog k h. (g.goes (step (λ ms. Concludes ms)) (λ ms. Concludes ms) (record { comes = λ prog k b. record { reached = subst (λ t. Reached prog t (reads_of (step (λ ms. Concludes ms)) k)) (sym same) b.0; unrefused = none ∙ b.1 } })).comes prog k (subst (λ t. Reached prog t (reads_of (step (λ ms. Concludes ms)) k)) same h.reached, sym none ∙ h.unrefused);
  }

  pub check_gives_up : (step : (List Mistake → Check) → Check) (old new : S) (e : Stop RunFault) → (at old).told ≡ told → (at old).refused ≡ refused → Aborts StandsAt HaltsAt step old e new → GivesUp (reads_of (step (λ ms. Concludes ms))) (at old) (run_fault_of e) (at new)
  check_gives_up step old new e same none g = record {
    halts = λ prog k h. (g.ends (step (λ ms. Concludes ms)) (λ ms. Concludes ms) (record { comes = λ prog k b. record { reached = subst (λ t. Reached prog t (reads_of (step (λ ms. Concludes ms)) k)) (sym same) b.0; unrefused = none ∙ b.1 } })).ends prog k (subst (λ t. Reached prog t (reads_of (step (λ ms. Concludes ms)) k)) same h.reached, sym none ∙ h.unrefused);
  }

-- a check that asks nothing
pub none_asked : {D : Type 0} (check : Check) (mistakes given : List Mistake) (r : Recording D) → check ≡ Concludes mistakes → mistakes ≡ given → Goes (reads_of check) r given r
unfolding reads_of
none_asked check mistakes given r is e = record { goes = λ prog k s. subst (λ ms. IsAt prog r (k ms)) e (subst (λ c. IsAt prog r (reads_of c k)) is s) }
