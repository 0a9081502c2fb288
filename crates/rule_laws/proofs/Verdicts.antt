-- What a verdict says about demands: they all hold, or which is the first that fails.
use Rattle.std.proofs.Common.{◌≡◌, Bool, true, false, [], ◌∷◌, Option, Some, None, refl, sym, ap, ◌∙◌, subst, inl, inr}
use Rattle.mj_tree.specs.declared.tree.Ty.{Ty}
use Rattle.mj_answer.specs.declared.code.Code.{Code}
use Rattle.mj_phrases.specs.declared.verdict.Verdict.{Verdict}
use Rattle.mj_phrases.specs.declared.verdict.Verdict.TheVariants.{Is, Fine, Wrong, Silent}
use Rattle.mj_phrases.specs.Inquiries.{World, Inquiry, conclusion}
use Rattle.mj_phrases.specs.Phrases.{demand, demand_asked, demand_some}
use Rattle.mj_phrases.specs.Laws.{IsOfExpression, IsOfStatement}
use Rattle.mj_phrases.proofs.Checks.{conclusion-and_then}
use Rattle.rule_laws.specs.Demands.{Demands}
use Rattle.rule_laws.specs.Faults.{FirstFails, AllHold}

pub never_both : (ds : Demands) (code : Code) → AllHold ds → FirstFails ds code → ⊥
never_both [] code h f = f
never_both (d ∷ ds) code h (inl f) = f.0 h.0
never_both (d ∷ ds) code h (inr f) = never_both ds code h.1 f.1

pub one_code : (ds : Demands) (a b : Code) → FirstFails ds a → FirstFails ds b → a ≡ b
one_code [] a b f g = absurd f
one_code (d ∷ ds) a b (inl f) (inl g) = sym f.1 ∙ g.1
one_code (d ∷ ds) a b (inl f) (inr g) = absurd (f.0 g.0)
one_code (d ∷ ds) a b (inr f) (inl g) = absurd (g.0 f.0)
one_code (d ∷ ds) a b (inr f) (inr g) = one_code ds a b f.1 g.1

-- the verdict is a code, and the first demand that fails has it, or it is of the kind and all hold
abbrev pub Tells : (Verdict → Type 0) → Verdict → Demands → Type 0
Tells K (Is t) ds = K (Is t) × AllHold ds
Tells K Fine ds = K Fine × AllHold ds
Tells K (Wrong code) ds = FirstFails ds code
Tells K Silent ds = ⊥

pub wrong_by : (K : Verdict → Type 0) (v : Verdict) (ds : Demands) (code : Code) → Tells K v ds → FirstFails ds code → v ≡ Wrong code
wrong_by K (Is t) ds code h f = absurd (never_both ds code h.1 f)
wrong_by K Fine ds code h f = absurd (never_both ds code h.1 f)
wrong_by K (Wrong c) ds code h f = ap (λ (c : Code). Wrong c) (one_code ds c code h f)
wrong_by K Silent ds code h f = absurd h

pub fine_by : (v : Verdict) (ds : Demands) → Tells IsOfStatement v ds → AllHold ds → v ≡ Fine
fine_by (Is t) ds h a = absurd h.0
fine_by Fine ds h a = refl
fine_by (Wrong code) ds h a = absurd (never_both ds code a h)
fine_by Silent ds h a = absurd h

pub type_by : (v : Verdict) (ds : Demands) → Tells IsOfExpression v ds → AllHold ds → (t : Ty) × (v ≡ Is t)
type_by (Is t) ds h a = (t, refl)
type_by Fine ds h a = absurd h.0
type_by (Wrong code) ds h a = absurd (never_both ds code a h)
type_by Silent ds h a = absurd h

-- ---- one demand more

module _ (K : Verdict → Type 0) where
  more_told : (P : Type 0) (code : Code) (v : Verdict) (ds : Demands) → P → Tells K v ds → Tells K v ((P, code) ∷ ds)
  more_told P code (Is t) ds p h = (h.0, (p, h.1))
  more_told P code Fine ds p h = (h.0, (p, h.1))
  more_told P code (Wrong c) ds p h = inr (p, h)
  more_told P code Silent ds p h = absurd h

  module _ (w : World) where
    pub demand_tells : (b : Bool) (P : Type 0) (code : Code) (then : Inquiry Verdict) (ds : Demands) → (b ≡ true → P) → (P → b ≡ true) → (P → Tells K (conclusion w then) ds) → Tells K (conclusion w (demand b code then)) ((P, code) ∷ ds)
    demand_tells true P code then ds to from h = more_told P code (conclusion w then) ds (to refl) (h (to refl))
    demand_tells false P code then ds to from h = inl (λ p. let e = from p in absurd cc, refl)

    pub asked_tells : (m : Inquiry Bool) (P : Type 0) (code : Code) (then : Inquiry Verdict) (ds : Demands) → (conclusion w m ≡ true → P) → (P → conclusion w m ≡ true) → (P → Tells K (conclusion w then) ds) → Tells K (conclusion w (demand_asked m code then)) ((P, code) ∷ ds)
    asked_tells m P code then ds to from h =
        subst (λ v. Tells K v ((P, code) ∷ ds)) (sym (conclusion-and_then w m (λ ok. demand ok code then))) (demand_tells (conclusion w m) P code then ds to from h)

    pub given_tells : {A : Type 0} (o : Option A) (P : Type 0) (code : Code) (then : A → Inquiry Verdict) (ds : Demands) → ((a : A) → o ≡ Some a → P) → (o ≡ None → P → ⊥) → ((a : A) → o ≡ Some a → Tells K (conclusion w (then a)) ds) → Tells K (conclusion w (demand_some o code then)) ((P, code) ∷ ds)
    given_tells None P code then ds some none h = inl (none refl, refl)
    given_tells (Some a) P code then ds some none h = more_told P code (conclusion w (then a)) ds (some a refl) (h a refl)
