-- The functions compute the judgement.
use Rattle.std.proofs.Common.{◌≡◌, ℕ, List, [], ◌∷◌, Option, Some, None, refl, sym, ap, ◌∙◌, subst, ◌⊎◌, inl, inr}
use Rattle.std.specs.Prelude.{Contains, ◌↔◌}
use Rattle.std.proofs.lemmas.List.Elements.{Contains-append_left, Contains-push, Contains-push_cases}
use Rattle.mj_tree.specs.declared.tree.Ty.{Ty}
use Rattle.mj_answer.specs.declared.code.Code.{Code}
use Rattle.ordered_names.proofs.Alike.{nowhere, Contains-first, Contains-later, Contains-cases}
use Rattle.mj_phrases.specs.declared.verdict.Verdict.{Verdict}
use Rattle.mj_phrases.specs.declared.verdict.Verdict.TheVariants.{Is, Fine, Wrong, Silent}
use Rattle.mj_phrases.specs.declared.verdict.Mistake.{Mistake}
use Rattle.mj_phrases.specs.Inquiries.{World, Inquiry, conclusion}
use Rattle.mj_phrases.specs.Phrases.{Phrase, Phrases, phrase, nothing, part, HasType, AllTyped, PhraseFault, FaultIn, FaultInAny, FaultInSome, type_by, verdict_by, and_type, type_of, types_of, add_own, add_faults, add_all, add_each}

-- ---- types

is_by : (v : Verdict) (t : Ty) → type_by v ≡ Some t → v ≡ Is t
is_by (Is u) t e = let s : u ≡ t = cc in ap (λ (x : Ty). Is x) s
is_by Fine t e = absurd cc
is_by (Wrong c) t e = absurd cc
is_by Silent t e = absurd cc

type_from : (w : World) (row : List Ty → Inquiry Verdict) (parts : Phrases) (t : Ty) (o : Option (List Ty)) → ((ts : List Ty) → o ≡ Some ts → AllTyped w parts ts) → type_by (verdict_by w row o) ≡ Some t → (ts : List Ty) × AllTyped w parts ts × (conclusion w (row ts) ≡ Is t)
type_from w row parts t None all e = absurd cc
type_from w row parts t (Some ts) all e = (ts, all ts refl, is_by (conclusion w (row ts)) t e)

both_from : (o : Option Ty) (os : Option (List Ty)) (ts : List Ty) → and_type o os ≡ Some ts → (t : Ty) × (us : List Ty) × (o ≡ Some t) × (os ≡ Some us) × (t ∷ us ≡ ts)
both_from None os ts e = absurd cc
both_from (Some t) None ts e = absurd cc
both_from (Some t) (Some us) ts e = let s : t ∷ us ≡ ts = cc in (t, us, refl, refl, s)

mutual
  pub typed : (w : World) (p : Phrase) (t : Ty) → type_of w p ≡ Some t → HasType w p t
  typed w (phrase mark row parts) t e = type_from w row parts t (types_of w parts) (λ ts h. all_typed w parts ts h) e

  pub all_typed : (w : World) (ps : Phrases) (ts : List Ty) → types_of w ps ≡ Some ts → AllTyped w ps ts
  all_typed w nothing [] e = tt
  all_typed w nothing (t ∷ ts) e = absurd cc
  all_typed w (part p ps) ts e =
      let b = both_from (type_of w p) (types_of w ps) ts e in
      subst (AllTyped w (part p ps)) b.4 (typed w p b.0 b.2, all_typed w ps b.1 b.3)

mutual
  pub has : (w : World) (p : Phrase) (t : Ty) → HasType w p t → type_of w p ≡ Some t
  has w (phrase mark row parts) t h =
      let e = have_all w parts h.0 h.1 in
      let r = h.2 in
      rw (e, r) refl

  pub have_all : (w : World) (ps : Phrases) (ts : List Ty) → AllTyped w ps ts → types_of w ps ≡ Some ts
  have_all w nothing [] h = refl
  have_all w nothing (t ∷ ts) h = absurd h
  have_all w (part p ps) [] h = absurd h
  have_all w (part p ps) (t ∷ ts) h =
      let a = has w p t h.0 in
      let b = have_all w ps ts h.1 in
      rw (a, b) refl

pub one_type : (w : World) (p : Phrase) (t u : Ty) → HasType w p t → HasType w p u → t ≡ u
one_type w p t u h j = let e : Some t ≡ Some u = sym (has w p t h) ∙ has w p u j in cc

pub one_list : (w : World) (ps : Phrases) (ts us : List Ty) → AllTyped w ps ts → AllTyped w ps us → ts ≡ us
one_list w ps ts us h j = let e : Some ts ≡ Some us = sym (have_all w ps ts h) ∙ have_all w ps us j in cc

-- ---- diagnostics

abbrev mistake : ℕ → Code → Mistake
mistake mark code = record { mark = mark; code = code }

own_cases : (faults : List Mistake) (mark : ℕ) (v : Verdict) (m : Mistake) → Contains (add_own faults mark v) m → Contains faults m ⊎ ((c : Code) × (v ≡ Wrong c) × (mistake mark c ≡ m))
own_cases faults mark (Is t) m h = inl h
own_cases faults mark Fine m h = inl h
own_cases faults mark (Wrong c) m h = elim (Contains-push_cases faults (mistake mark c) m h) [ inl a ↦ inl a | inr e ↦ inr (c, refl, e) ]
own_cases faults mark Silent m h = inl h

own_kept : (faults : List Mistake) (mark : ℕ) (v : Verdict) (m : Mistake) → Contains faults m → Contains (add_own faults mark v) m
own_kept faults mark (Is t) m h = h
own_kept faults mark Fine m h = h
own_kept faults mark (Wrong c) m h = Contains-append_left faults (mistake mark c ∷ []) m h
own_kept faults mark Silent m h = h

own_there : (faults : List Mistake) (mark : ℕ) (v : Verdict) (m : Mistake) → m.mark ≡ mark → v ≡ Wrong m.code → Contains (add_own faults mark v) m
own_there faults mark v m e w = rw (w, ← e) (Contains-push faults m)

wrong_from : (w : World) (row : List Ty → Inquiry Verdict) (o : Option (List Ty)) (c : Code) → verdict_by w row o ≡ Wrong c → (ts : List Ty) × (o ≡ Some ts) × (conclusion w (row ts) ≡ Wrong c)
wrong_from w row None c e = absurd cc
wrong_from w row (Some ts) c e = (ts, refl, e)

fault_from : (w : World) (mark : ℕ) (row : List Ty → Inquiry Verdict) (parts : Phrases) (m : Mistake) (c : Code) → verdict_by w row (types_of w parts) ≡ Wrong c → mistake mark c ≡ m → PhraseFault w (phrase mark row parts) m
fault_from w mark row parts m c h e =
    let f = wrong_from w row (types_of w parts) c h in
    (ap (λ (x : Mistake). x.mark) (sym e), (f.0, all_typed w parts f.0 f.1, f.2 ∙ ap (λ (x : Mistake). Wrong x.code) e))

mutual
  listed : (w : World) (p : Phrase) (faults : List Mistake) (m : Mistake) → Contains (add_faults w faults p) m → Contains faults m ⊎ FaultIn w p m
  listed w (phrase mark row parts) faults m h =
      elim (own_cases (add_all w faults parts) mark (verdict_by w row (types_of w parts)) m h) [
        | inl a ↦ elim (all_listed w parts faults m a) [ inl b ↦ inl b | inr f ↦ inr (inl f) ]
        | inr v ↦ inr (inr (fault_from w mark row parts m v.0 v.1 v.2))
      ]

  all_listed : (w : World) (ps : Phrases) (faults : List Mistake) (m : Mistake) → Contains (add_all w faults ps) m → Contains faults m ⊎ FaultInAny w ps m
  all_listed w nothing faults m h = inl h
  all_listed w (part p ps) faults m h =
      elim (all_listed w ps (add_faults w faults p) m h) [
        | inl a ↦ elim (listed w p faults m a) [ inl b ↦ inl b | inr f ↦ inr (inl f) ]
        | inr f ↦ inr (inr f)
      ]

mutual
  kept : (w : World) (p : Phrase) (faults : List Mistake) (m : Mistake) → Contains faults m → Contains (add_faults w faults p) m
  kept w (phrase mark row parts) faults m h = own_kept (add_all w faults parts) mark (verdict_by w row (types_of w parts)) m (all_kept w parts faults m h)

  all_kept : (w : World) (ps : Phrases) (faults : List Mistake) (m : Mistake) → Contains faults m → Contains (add_all w faults ps) m
  all_kept w nothing faults m h = h
  all_kept w (part p ps) faults m h = all_kept w ps (add_faults w faults p) m (kept w p faults m h)

mutual
  there : (w : World) (p : Phrase) (faults : List Mistake) (m : Mistake) → FaultIn w p m → Contains (add_faults w faults p) m
  there w (phrase mark row parts) faults m (inl f) = own_kept (add_all w faults parts) mark (verdict_by w row (types_of w parts)) m (all_there w parts faults m f)
  there w (phrase mark row parts) faults m (inr f) =
      let e = have_all w parts f.1.0 f.1.1 in
      own_there (add_all w faults parts) mark (verdict_by w row (types_of w parts)) m f.0 (ap (verdict_by w row) e ∙ f.1.2)

  all_there : (w : World) (ps : Phrases) (faults : List Mistake) (m : Mistake) → FaultInAny w ps m → Contains (add_all w faults ps) m
  all_there w nothing faults m f = absurd f
  all_there w (part p ps) faults m (inl f) = all_kept w ps (add_faults w faults p) m (there w p faults m f)
  all_there w (part p ps) faults m (inr f) = all_there w ps (add_faults w faults p) m f

-- ---- lists of phrases

pub each_listed : (w : World) (ps : List Phrase) (faults : List Mistake) (m : Mistake) → Contains (add_each w faults ps) m → Contains faults m ⊎ FaultInSome w ps m
each_listed w [] faults m h = inl h
each_listed w (p ∷ ps) faults m h =
    elim (each_listed w ps (add_faults w faults p) m h) [
      | inl a ↦ elim (listed w p faults m a) [ inl b ↦ inl b | inr f ↦ inr (p, Contains-first p ps, f) ]
      | inr f ↦ inr (f.0, Contains-later p ps f.0 f.1, f.2)
    ]

pub each_kept : (w : World) (ps : List Phrase) (faults : List Mistake) (m : Mistake) → Contains faults m → Contains (add_each w faults ps) m
each_kept w [] faults m h = h
each_kept w (p ∷ ps) faults m h = each_kept w ps (add_faults w faults p) m (kept w p faults m h)

pub each_there : (w : World) (ps : List Phrase) (faults : List Mistake) (m : Mistake) (p : Phrase) → Contains ps p → FaultIn w p m → Contains (add_each w faults ps) m
each_there w [] faults m p h f = absurd (nowhere p h)
each_there w (q ∷ qs) faults m p h f =
    elim (Contains-cases q qs p h) [
      | inl e ↦ each_kept w qs (add_faults w faults q) m (there w q faults m (subst (λ p. FaultIn w p m) (sym e) f))
      | inr l ↦ each_there w qs (add_faults w faults q) m p l f
    ]

pub each_exact : (w : World) (ps : List Phrase) (m : Mistake) → Contains (add_each w [] ps) m ↔ FaultInSome w ps m
each_exact w ps m =
    (λ h. elim (each_listed w ps [] m h) [ inl a ↦ absurd (nowhere m a) | inr f ↦ f ], λ f. each_there w ps [] m f.0 f.1 f.2)
