-- Phrases by their demands: the judgement, its mistakes, and both as functions.
use Rattle.std.specs.Prelude.{◌≡◌, ℕ, Bool, List, [], ◌∷◌, ◌++◌, Option, Some, None, ◌⊎◌, Contains, if◌then◌else◌}
use Rattle.mj_tree.specs.declared.tree.Ty.{Ty}
use Rattle.mj_answer.specs.declared.code.Code.{Code}
use Rattle.mj_phrases.specs.declared.verdict.Verdict.{Verdict}
use Rattle.mj_phrases.specs.declared.verdict.Verdict.TheVariants.{Is, Fine, Wrong, Silent}
use Rattle.mj_phrases.specs.declared.verdict.Mistake.{Mistake}
use Rattle.mj_phrases.specs.Inquiries.{World, Inquiry, Concludes, conclusion, and_then}
use Rattle.mj_phrases.specs.Steps.{Check}

-- ---- demands

-- the first demand that fails gives the code
abbrev pub demand : Bool → Code → Inquiry Verdict → Inquiry Verdict
demand ok code next = if ok then next else Concludes (Wrong code)

-- the same for a demand that the declarations decide
abbrev pub demand_asked : Inquiry Bool → Code → Inquiry Verdict → Inquiry Verdict
demand_asked asked code next = and_then asked (λ ok. demand ok code next)

-- there has to be one, of which the next demands speak
abbrev pub demand_some : {A : Type 0} → Option A → Code → (A → Inquiry Verdict) → Inquiry Verdict
demand_some None code next = Concludes (Wrong code)
demand_some (Some a) code next = next a

-- all demands hold
abbrev pub is : Ty → Inquiry Verdict
is t = Concludes (Is t)

abbrev pub fine : Inquiry Verdict
fine = Concludes Fine

-- ---- phrases

-- a phrase has a mark, immediate expressions, and a verdict by their types
mutual
  pub data Phrase : Type 0 where
    phrase : (mark : ℕ) (row : List Ty → Inquiry Verdict) (parts : Phrases) → Phrase

  pub data Phrases : Type 0 where
    nothing : Phrases
    part : (first : Phrase) (others : Phrases) → Phrases

-- ---- the judgement

-- all parts have types and all demands hold
abbrev mutual
  pub HasType : World → Phrase → Ty → Type 0
  HasType w (phrase mark row parts) t =
      (ts : List Ty) × AllTyped w parts ts × (conclusion w (row ts) ≡ Is t)

  pub AllTyped : World → Phrases → List Ty → Type 0
  AllTyped w nothing [] = Unit {0}
  AllTyped w nothing (t ∷ ts) = ⊥
  AllTyped w (part p ps) [] = ⊥
  AllTyped w (part p ps) (t ∷ ts) = HasType w p t × AllTyped w ps ts

-- the same for a phrase that is a statement
abbrev pub Well : World → Phrase → Type 0
Well w (phrase mark row parts) =
    (ts : List Ty) × AllTyped w parts ts × (conclusion w (row ts) ≡ Fine)

-- all parts have types, and the first demand that fails has this code
abbrev pub PhraseFault : World → Phrase → Mistake → Type 0
PhraseFault w (phrase mark row parts) m =
    (m.mark ≡ mark)
    × ((ts : List Ty) × AllTyped w parts ts × (conclusion w (row ts) ≡ Wrong m.code))

-- the phrase is at fault, or one in it
abbrev mutual
  pub FaultIn : World → Phrase → Mistake → Type 0
  FaultIn w (phrase mark row parts) m =
      FaultInAny w parts m ⊎ PhraseFault w (phrase mark row parts) m

  pub FaultInAny : World → Phrases → Mistake → Type 0
  FaultInAny w nothing m = ⊥
  FaultInAny w (part p ps) m = FaultIn w p m ⊎ FaultInAny w ps m

-- one of these phrases is at fault, or one in it
abbrev pub FaultInSome : World → List Phrase → Mistake → Type 0
FaultInSome w ps m = (p : Phrase) × Contains ps p × FaultIn w p m

-- ---- the same as functions

abbrev pub type_by : Verdict → Option Ty
type_by (Is t) = Some t
type_by Fine = None
type_by (Wrong code) = None
type_by Silent = None

abbrev pub verdict_by : World → (List Ty → Inquiry Verdict) → Option (List Ty) → Verdict
verdict_by w row None = Silent
verdict_by w row (Some ts) = conclusion w (row ts)

abbrev pub and_type : Option Ty → Option (List Ty) → Option (List Ty)
and_type None ts = None
and_type (Some t) None = None
and_type (Some t) (Some ts) = Some (t ∷ ts)

-- all these types and one more
abbrev pub with_type : Option (List Ty) → Option Ty → Option (List Ty)
with_type None t = None
with_type (Some ts) None = None
with_type (Some ts) (Some t) = Some (ts ++ t ∷ [])

abbrev mutual
  pub type_of : World → Phrase → Option Ty
  type_of w (phrase mark row parts) = type_by (verdict_by w row (types_of w parts))

  pub types_of : World → Phrases → Option (List Ty)
  types_of w nothing = Some []
  types_of w (part p ps) = and_type (type_of w p) (types_of w ps)

abbrev pub add_own : List Mistake → ℕ → Verdict → List Mistake
add_own mistakes mark (Is t) = mistakes
add_own mistakes mark Fine = mistakes
add_own mistakes mark (Wrong code) = mistakes ++ record { mark = mark; code = code } ∷ []
add_own mistakes mark Silent = mistakes

-- behind these mistakes those in a phrase, its parts' first
abbrev mutual
  pub add_faults : World → List Mistake → Phrase → List Mistake
  add_faults w mistakes (phrase mark row parts) =
      add_own (add_all w mistakes parts) mark (verdict_by w row (types_of w parts))

  pub add_all : World → List Mistake → Phrases → List Mistake
  add_all w mistakes nothing = mistakes
  add_all w mistakes (part p ps) = add_all w (add_faults w mistakes p) ps

-- behind these mistakes those in each phrase
abbrev pub add_each : World → List Mistake → List Phrase → List Mistake
add_each w mistakes [] = mistakes
add_each w mistakes (p ∷ ps) = add_each w (add_faults w mistakes p) ps

-- ---- the same as a check that asks

-- the type of a phrase, if it has one, and the mistakes so far
pub record Finding (T : Type 0) : Type 0 where
  pub type : Option T
  pub mistakes : List Mistake

-- notes what is wrong, and gives the type
abbrev pub finding_of : List Mistake → ℕ → Verdict → Finding Ty
finding_of mistakes mark verdict = record {
  type = type_by verdict;
  mistakes = add_own mistakes mark verdict;
}

-- the type of a part, and the mistakes so far
abbrev pub one_type : Option Ty → List Mistake → Finding (List Ty)
one_type a mistakes = record { type = and_type a (Some []); mistakes = mistakes }

-- the types of two parts, and the mistakes so far
abbrev pub both_types : Option Ty → Option Ty → List Mistake → Finding (List Ty)
both_types a b mistakes = record { type = and_type a (and_type b (Some [])); mistakes = mistakes }

-- if all parts have types, the phrase's demands are asked in their order
abbrev pub own_step : ℕ → (List Ty → Inquiry Verdict) → Finding (List Ty) → (Finding Ty → Check)
    → Check
own_step mark row found next = of_types found.type
  where
    of_types : Option (List Ty) → Check
    of_types None = next (record { type = None; mistakes = found.mistakes })
    of_types (Some ts) =
        and_then (row ts) (λ verdict. next (finding_of found.mistakes mark verdict))

-- the parts in their order, then the phrase
unfoldable mutual
  pub phrase_step : Phrase → List Mistake → (Finding Ty → Check) → Check
  phrase_step (phrase mark row parts) mistakes next =
      parts_step parts mistakes (λ found. own_step mark row found next)

  pub parts_step : Phrases → List Mistake → (Finding (List Ty) → Check) → Check
  parts_step nothing mistakes next = next (record { type = Some []; mistakes = mistakes })
  parts_step (part p ps) mistakes next =
      phrase_step p mistakes (λ first. parts_step ps first.mistakes
      (λ others. next (record {
        type = and_type first.type others.type;
        mistakes = others.mistakes;
      })))

-- a phrase whose mistakes alone matter
abbrev pub mistakes_step : Phrase → List Mistake → (List Mistake → Check) → Check
mistakes_step p mistakes next = phrase_step p mistakes (λ found. next found.mistakes)
