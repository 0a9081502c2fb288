-- Checks of phrases that ask conclude with their mistakes.
use Rattle.std.proofs.Common.{◌≡◌, ℕ, List, Option, Some, None, refl, ◌∙◌}
use Rattle.mj_tree.specs.declared.tree.Ty.{Ty}
use Rattle.mj_phrases.specs.declared.verdict.Verdict.{Verdict}
use Rattle.mj_phrases.specs.declared.verdict.Mistake.{Mistake}
use Rattle.mj_phrases.specs.Inquiries.{World, Inquiry, Concludes, AsksDescent, AsksField, AsksMethod, AsksDeclared, conclusion, and_then}
use Rattle.mj_phrases.specs.Phrases.{Phrase, Phrases, phrase, nothing, part, Finding, finding_of, own_step, phrase_step, parts_step, type_of, types_of, verdict_by, and_type, add_faults, add_all}
use Rattle.mj_phrases.specs.Steps.{Check}

pub conclusion-and_then : {R S : Type 0} (w : World) (m : Inquiry R) (f : R → Inquiry S) → conclusion w (and_then m f) ≡ conclusion w (f (conclusion w m))
conclusion-and_then w (Concludes r) f = refl
conclusion-and_then w (AsksDescent c d k) f = conclusion-and_then w (k (w.descends c d)) f
conclusion-and_then w (AsksField c x k) f = conclusion-and_then w (k (w.field c x)) f
conclusion-and_then w (AsksMethod c m k) f = conclusion-and_then w (k (w.method c m)) f
conclusion-and_then w (AsksDeclared c k) f = conclusion-and_then w (k (w.is_declared c)) f

module _ (w : World) where
  own_said : (mark : ℕ) (row : List Ty → Inquiry Verdict) (types : Option (List Ty)) (mistakes : List Mistake) (k : Finding Ty → Check) → conclusion w (own_step mark row (record { type = types; mistakes = mistakes }) k) ≡ conclusion w (k (finding_of mistakes mark (verdict_by w row types)))
  own_said mark row None mistakes k = refl
  own_said mark row (Some ts) mistakes k = conclusion-and_then w (row ts) (λ verdict. k (finding_of mistakes mark verdict))

  mutual
    unfolding phrase_step parts_step

    pub phrase_said : (p : Phrase) (mistakes : List Mistake) (k : Finding Ty → Check) → conclusion w (phrase_step p mistakes k) ≡ conclusion w (k (record { type = type_of w p; mistakes = add_faults w mistakes p }))
    phrase_said (phrase mark row parts) mistakes k = parts_said parts mistakes (λ found. own_step mark row found k) ∙ own_said mark row (types_of w parts) (add_all w mistakes parts) k

    parts_said : (ps : Phrases) (mistakes : List Mistake) (k : Finding (List Ty) → Check) → conclusion w (parts_step ps mistakes k) ≡ conclusion w (k (record { type = types_of w ps; mistakes = add_all w mistakes ps }))
    parts_said nothing mistakes k = refl
    parts_said (part p ps) mistakes k =
        phrase_said p mistakes (λ first. parts_step ps first.mistakes (λ others. k (record { type = and_type first.type others.type; mistakes = others.mistakes })))
        ∙ parts_said ps (add_faults w mistakes p) (λ others. k (record { type = and_type (type_of w p) others.type; mistakes = others.mistakes }))
