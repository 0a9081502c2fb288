-- The walk over phrases and their parts.
use Rattle.std.proofs.Common.{◌≡◌, ℕ, ◌+◌, ◌<◌, ◌≤◌, List, [], ◌∷◌, ◌++◌, length, drop, get_or, Option, Some, None, Result, Ok, Err, IfOk, IfErr, refl, ap, subst, sym, ◌∙◌, append_assoc, append-nil}
use Rattle.std.proofs.lemmas.List.{drop_all}
use Rattle.mj_tree.specs.Views.{exp_view, exps_view}
use Rattle.mj_tree.specs.declared.tree.Exp.{Exp}
use Rattle.mj_tree.specs.declared.tree.Ty.{Ty}
use Rattle.mj_phrases.specs.declared.verdict.Mistake.{Mistake}
use Rattle.mj_phrases.specs.declared.verdict.Verdict.{Verdict}
use Rattle.mj_phrases.specs.Inquiries.{Inquiry}
use Rattle.mj_phrases.specs.Phrases.{Phrase, Phrases, phrase, nothing, part, Finding, one_type, both_types, own_step, phrase_step, parts_step, and_type, with_type, mistakes_step}
use Rattle.mj_phrases.specs.Steps.{Check, Proceeds, Aborts, Yields}
use Rattle.mj_phrases.specs.Table.{Scope, phrase_of, phrases_of}
use Rattle.mj_phrases.proofs.Asked.{Comes, memory_inside, front_at}

pub if_ok : {A E : Type 0} {P Q : A → Type 0} (r : Result A E) → ((a : A) → P a → Q a) → IfOk r P → IfOk r Q
if_ok (Ok a) f h = f a h
if_ok (Err e) f h = tt

pub if_err : {A E : Type 0} {P Q : E → Type 0} (r : Result A E) → ((e : E) → P e → Q e) → IfErr r P → IfErr r Q
if_err (Ok a) f h = tt
if_err (Err e) f h = f e h

abbrev found : {T : Type 0} → Option T → List Mistake → Finding T
found t mistakes = record { type = t; mistakes = mistakes }

module _ {S E : Type 0} (stands : S → Check → Check → Type 0) (halts : S → Check → E → Type 0) where
  -- ---- after all parts

  module _ (mark : ℕ) (row : List Ty → Inquiry Verdict) (p : Phrase) (ps : Phrases) (before : List Mistake) (old mid : S) where
    -- the first part, then the others, then the phrase itself
    pub goes_whole : (first : Finding Ty) (others : Finding (List Ty)) (x : Finding Ty) (next new : S) → Proceeds stands (phrase_step p before) old first mid → Proceeds stands (parts_step ps first.mistakes) mid others next → Proceeds stands (own_step mark row (found (and_type first.type others.type) others.mistakes)) next x new → Proceeds stands (phrase_step (phrase mark row (part p ps)) before) old x new
    unfolding phrase_step parts_step
    goes_whole first others x next new a b c = record {
      goes = λ start k h.
          c.goes start k
          (b.goes start (λ others. own_step mark row (found (and_type first.type others.type) others.mistakes) k)
          (a.goes start (λ first. parts_step ps first.mistakes (λ others. own_step mark row (found (and_type first.type others.type) others.mistakes) k)) h));
    }

    pub up_whole : (first : Finding Ty) (others : Finding (List Ty)) (e : E) (next new : S) → Proceeds stands (phrase_step p before) old first mid → Proceeds stands (parts_step ps first.mistakes) mid others next → Aborts stands halts (own_step mark row (found (and_type first.type others.type) others.mistakes)) next e new → Aborts stands halts (phrase_step (phrase mark row (part p ps)) before) old e new
    unfolding phrase_step parts_step
    up_whole first others e next new a b c = record {
      ends = λ start k h.
          c.ends start k
          (b.goes start (λ others. own_step mark row (found (and_type first.type others.type) others.mistakes) k)
          (a.goes start (λ first. parts_step ps first.mistakes (λ others. own_step mark row (found (and_type first.type others.type) others.mistakes) k)) h));
    }

    pub up_others : (first : Finding Ty) (e : E) (new : S) → Proceeds stands (phrase_step p before) old first mid → Aborts stands halts (parts_step ps first.mistakes) mid e new → Aborts stands halts (phrase_step (phrase mark row (part p ps)) before) old e new
    unfolding phrase_step parts_step
    up_others first e new a b = record {
      ends = λ start k h.
          b.ends start (λ others. own_step mark row (found (and_type first.type others.type) others.mistakes) k)
          (a.goes start (λ first. parts_step ps first.mistakes (λ others. own_step mark row (found (and_type first.type others.type) others.mistakes) k)) h);
    }

  -- the part, then the phrase itself, which asks nothing
  pub goes_one : (mark : ℕ) (row : List Ty → Inquiry Verdict) (p : Phrase) (before : List Mistake) (first x : Finding Ty) (old new : S) → Proceeds stands (phrase_step p before) old first new → Yields (own_step mark row (one_type first.type first.mistakes)) x → Proceeds stands (phrase_step (phrase mark row (part p nothing)) before) old x new
  unfolding phrase_step parts_step
  goes_one mark row p before first x old new a yields = record {
    goes = λ start k h.
        subst (λ now. stands new start now) (yields k)
        (a.goes start (λ first. own_step mark row (one_type first.type first.mistakes) k) h);
  }

  -- both parts, then the phrase itself, which asks nothing
  pub goes_two : (mark : ℕ) (row : List Ty → Inquiry Verdict) (p q : Phrase) (before : List Mistake) (first second x : Finding Ty) (old mid new : S) → Proceeds stands (phrase_step p before) old first mid → Proceeds stands (phrase_step q first.mistakes) mid second new → Yields (own_step mark row (both_types first.type second.type second.mistakes)) x → Proceeds stands (phrase_step (phrase mark row (part p (part q nothing))) before) old x new
  unfolding phrase_step parts_step
  goes_two mark row p q before first second x old mid new a b yields = record {
    goes = λ start k h.
        subst (λ now. stands new start now) (yields k)
        (b.goes start (λ second. own_step mark row (both_types first.type second.type second.mistakes) k)
        (a.goes start (λ first. phrase_step q first.mistakes (λ second. own_step mark row (both_types first.type second.type second.mistakes) k)) h));
  }

  -- ---- out of memory after the parts

  module _ (out : E) (wanting : (s : S) (start now : Check) → stands s start now → halts s start out) {A : Type 0} (mark : ℕ) (row : List Ty → Inquiry Verdict) (before : List Mistake) where
    pub memory_one : (p : Phrase) (first : Finding Ty) (old new : S) → Proceeds stands (phrase_step p before) old first new → (r : Result A E) → IfErr r (λ e. e ≡ out) → IfErr r (λ e. Aborts stands halts (phrase_step (phrase mark row (part p nothing)) before) old e new)
    unfolding phrase_step parts_step
    memory_one p first old new g r h =
        memory_inside stands halts out wanting (phrase_step (phrase mark row (part p nothing)) before) (phrase_step p before) (λ k first. own_step mark row (found (and_type first.type (Some [])) first.mistakes) k) (λ k. refl) old first new g r h

    pub memory_two : (p q : Phrase) (first second : Finding Ty) (old mid new : S) → Proceeds stands (phrase_step p before) old first mid → Proceeds stands (phrase_step q first.mistakes) mid second new → (r : Result A E) → IfErr r (λ e. e ≡ out) → IfErr r (λ e. Aborts stands halts (phrase_step (phrase mark row (part p (part q nothing))) before) old e new)
    unfolding phrase_step parts_step
    memory_two p q first second old mid new a b r h =
        memory_inside stands halts out wanting (phrase_step (phrase mark row (part p (part q nothing))) before)
        (λ k. phrase_step p before (λ first. phrase_step q first.mistakes (λ second. k (found (and_type first.type (and_type second.type (Some []))) second.mistakes))))
        (λ k both. own_step mark row both k) (λ k. refl) old (found (and_type first.type (and_type second.type (Some []))) second.mistakes) new
        (record { goes = λ start k w. b.goes start (λ second. k (found (and_type first.type (and_type second.type (Some []))) second.mistakes)) (a.goes start (λ first. phrase_step q first.mistakes (λ second. k (found (and_type first.type (and_type second.type (Some []))) second.mistakes))) w) })
        r h

  -- ---- a loop over parts

  module _ (scope : Scope) (exps : List Exp) (before : List Mistake) (old : S) where
    abbrev pub parts_from : ℕ → Phrases
    parts_from i = phrases_of scope (exps_view (drop i exps))

    -- the types so far with those of the rest
    abbrev pub joined : Option (List Ty) → Option (List Ty) → Option (List Ty)
    joined None rest = None
    joined (Some ts) None = None
    joined (Some ts) (Some us) = Some (ts ++ us)

    -- what is left of the parts from an index on
    abbrev pub PartsLeft : ℕ → Option (List Ty) → List Mistake → S → Type 0
    PartsLeft i types mistakes mid = Comes stands (parts_step (phrases_of scope (exps_view exps)) before) (λ k. parts_step (parts_from i) mistakes (λ rest. k (found (joined types rest.type) rest.mistakes))) old mid

    joined-with_type : (types : Option (List Ty)) (t : Option Ty) (rest : Option (List Ty)) → joined types (and_type t rest) ≡ joined (with_type types t) rest
    joined-with_type None t rest = refl
    joined-with_type (Some ts) None rest = refl
    joined-with_type (Some ts) (Some t) None = refl
    joined-with_type (Some ts) (Some t) (Some us) = ap (λ (x : List Ty). Some x) (sym (append_assoc ts (t ∷ []) us))

    next_part : (i : ℕ) (e : Exp) → i < length exps → e ≡ get_or exps i e → parts_from i ≡ part (phrase_of scope (exp_view e)) (parts_from (i + 1))
    next_part i e h is = ap (λ es. phrases_of scope (exps_view es)) (front_at exps i e h is)

    pub parts_more : (i : ℕ) (e : Exp) (types all : Option (List Ty)) (t : Option Ty) (mistakes more : List Mistake) (mid new : S) → PartsLeft i types mistakes mid → i < length exps → e ≡ get_or exps i e → Proceeds stands (phrase_step (phrase_of scope (exp_view e)) mistakes) mid (found t more) new → all ≡ with_type types t → PartsLeft (i + 1) all more new
    unfolding parts_step
    parts_more i e types all t mistakes more mid new l h is g a = record {
      comes = λ start k w.
          subst (λ (f : Option (List Ty) → Option (List Ty)). stands new start (parts_step (parts_from (i + 1)) more (λ rest. k (found (f rest.type) rest.mistakes))))
          (λ j rest. (joined-with_type types t rest ∙ ap (λ x. joined x rest) (sym a)) j)
          (g.goes start (λ first. parts_step (parts_from (i + 1)) first.mistakes (λ rest. k (found (joined types (and_type first.type rest.type)) rest.mistakes)))
          (subst (λ ps. stands mid start (parts_step ps mistakes (λ rest. k (found (joined types rest.type) rest.mistakes)))) (next_part i e h is) (l.comes start k w)));
    }

    pub parts_up : (i : ℕ) (e : Exp) (types : Option (List Ty)) (mistakes : List Mistake) (fault : E) (mid new : S) → PartsLeft i types mistakes mid → i < length exps → e ≡ get_or exps i e → Aborts stands halts (phrase_step (phrase_of scope (exp_view e)) mistakes) mid fault new → Aborts stands halts (parts_step (phrases_of scope (exps_view exps)) before) old fault new
    unfolding parts_step
    parts_up i e types mistakes fault mid new l h is g = record {
      ends = λ start k w.
          g.ends start (λ first. parts_step (parts_from (i + 1)) first.mistakes (λ rest. k (found (joined types (and_type first.type rest.type)) rest.mistakes)))
          (subst (λ ps. stands mid start (parts_step ps mistakes (λ rest. k (found (joined types rest.type) rest.mistakes)))) (next_part i e h is) (l.comes start k w));
    }

    pub parts_memory : (out : E) → ((s : S) (start now : Check) → stands s start now → halts s start out) → (i : ℕ) (types : Option (List Ty)) (mistakes : List Mistake) (new : S) → PartsLeft i types mistakes new → Aborts stands halts (parts_step (phrases_of scope (exps_view exps)) before) old out new
    parts_memory out wanting i types mistakes new l = record { ends = λ start k w. wanting new start _ (l.comes start k w) }

    joined-from_nil : (rest : Option (List Ty)) → rest ≡ joined (Some []) rest
    joined-from_nil None = refl
    joined-from_nil (Some us) = refl

    pub parts_start : (types : Option (List Ty)) → types ≡ Some [] → PartsLeft 0 types before old
    parts_start types e = record {
      comes = λ start k w.
          subst (λ (f : Option (List Ty) → Option (List Ty)). stands old start (parts_step (parts_from 0) before (λ rest. k (found (f rest.type) rest.mistakes))))
          (λ j rest. (joined-from_nil rest ∙ ap (λ x. joined x rest) (sym e)) j) w;
    }

    joined-nil : (types : Option (List Ty)) → joined types (Some []) ≡ types
    joined-nil None = refl
    joined-nil (Some ts) = ap (λ (x : List Ty). Some x) (append-nil ts)

    pub parts_done : (i : ℕ) (types : Option (List Ty)) (mistakes : List Mistake) (new : S) → PartsLeft i types mistakes new → length exps ≤ i → Proceeds stands (parts_step (phrases_of scope (exps_view exps)) before) old (found types mistakes) new
    unfolding parts_step
    parts_done i types mistakes new l h = record {
      goes = λ start k w.
          subst (λ x. stands new start (k (found x mistakes))) (joined-nil types)
          (subst (λ ps. stands new start (parts_step ps mistakes (λ rest. k (found (joined types rest.type) rest.mistakes)))) (ap (λ es. phrases_of scope (exps_view es)) (drop_all i exps h)) (l.comes start k w));
    }

  -- ---- phrases whose mistakes alone matter

  pub up_mistakes : (p : Phrase) (before : List Mistake) (e : E) (old new : S) → Aborts stands halts (phrase_step p before) old e new → Aborts stands halts (mistakes_step p before) old e new
  up_mistakes p before e old new g = record { ends = λ start k h. g.ends start (λ found. k found.mistakes) h }
