-- Steps of a check, one after the other.
use Rattle.std.proofs.Common.{◌≡◌, ℕ, ◌+◌, ◌<◌, ◌≤◌, Bool, true, false, List, ◌∷◌, length, drop, get_or, drop-cons, add-one, Result, Ok, Err, IfErr, cond, arith, refl, ap, subst, sym, ◌∙◌}
use Rattle.std.proofs.lemmas.Bool.{eq-eqb, ne_eqb}
use Rattle.std.specs.Prelude.{nat_eq}
use Rattle.std.proofs.lemmas.List.{drop_all}
use Rattle.mj_tree.specs.declared.tree.Ty.{Ty}
use Rattle.mj_answer.specs.declared.code.Code.{Code}
use Rattle.mj_answer.specs.declared.code.Code.TheVariants.{E312, E313}
use Rattle.mj_phrases.specs.declared.verdict.Verdict.{Verdict}
use Rattle.mj_phrases.specs.declared.verdict.Verdict.TheVariants.{Wrong}
use Rattle.mj_phrases.specs.Inquiries.{Sig, Inquiry, Concludes, AsksDescent, AsksField, AsksMethod, AsksDeclared, and_then}
use Rattle.mj_phrases.specs.Phrases.{demand, demand_asked, is}
use Rattle.mj_phrases.specs.Steps.{Check, Proceeds, Aborts}
use Rattle.mj_phrases.specs.Table.{is_accepted, are_accepted, arguments}

pub and_then-and_then : {R S T : Type 0} (m : Inquiry R) (f : R → Inquiry S) (g : S → Inquiry T) → and_then (and_then m f) g ≡ and_then m (λ r. and_then (f r) g)
and_then-and_then (Concludes r) f g = refl
and_then-and_then (AsksDescent c d k) f g = λ i. AsksDescent c d (λ a. and_then-and_then (k a) f g i)
and_then-and_then (AsksField c x k) f g = λ i. AsksField c x (λ a. and_then-and_then (k a) f g i)
and_then-and_then (AsksMethod c m k) f g = λ i. AsksMethod c m (λ a. and_then-and_then (k a) f g i)
and_then-and_then (AsksDeclared c k) f g = λ i. AsksDeclared c (λ a. and_then-and_then (k a) f g i)

module _ {S : Type 0} (stands : S → Check → Check → Type 0) where
  -- a demand that the declarations decide
  pub goes_demand : (m : Inquiry Bool) (code : Code) (next : Inquiry Verdict) (ok : Bool) (v : Verdict) (old new : S) → Proceeds stands (and_then m) old ok new → demand ok code next ≡ Concludes v → Proceeds stands (and_then (demand_asked m code next)) old v new
  goes_demand m code next ok v old new g e = record {
    goes = λ start k h.
        subst (λ x. stands new start (and_then x k)) e
        (g.goes start (λ ok. and_then (demand ok code next) k) (subst (stands old start) (and_then-and_then m (λ ok. demand ok code next) k) h));
  }

  pub up_demand : {E : Type 0} (halts : S → Check → E → Type 0) (m : Inquiry Bool) (code : Code) (next : Inquiry Verdict) (e : E) (old new : S) → Aborts stands halts (and_then m) old e new → Aborts stands halts (and_then (demand_asked m code next)) old e new
  up_demand halts m code next e old new g = record {
    ends = λ start k h. g.ends start (λ ok. and_then (demand ok code next) k) (subst (stands old start) (and_then-and_then m (λ ok. demand ok code next) k) h);
  }

-- a loop that began with the first step at old now stands at the second one
pub record Comes {S X : Type 0} (stands : S → Check → Check → Type 0) (first rest : (X → Check) → Check) (old new : S) : Type 0 where
  pub comes : (start : Check) (k : X → Check) → stands old start (first k) → stands new start (rest k)

-- ---- out of memory

err_is : {A E : Type 0} (P : E → Type 0) (out : E) (r : Result A E) → IfErr r (λ e. e ≡ out) → P out → IfErr r P
err_is P out (Ok a) h p = tt
err_is P out (Err e) h p = subst P (sym h) p

module _ {S E : Type 0} (stands : S → Check → Check → Type 0) (halts : S → Check → E → Type 0) (out : E) (wanting : (s : S) (start now : Check) → stands s start now → halts s start out) where
  -- memory may run out after a step
  pub memory : {X : Type 0} (step : (X → Check) → Check) (old : S) (x : X) (new : S) → Proceeds stands step old x new → Aborts stands halts step old out new
  memory step old x new g = record { ends = λ start k h. wanting new start (k x) (g.goes start k h) }

  -- it may run out after the first part of a step
  pub memory_inside : {A X Y : Type 0} (whole : (Y → Check) → Check) (step : (X → Check) → Check) (rest : (Y → Check) → X → Check) → ((k : Y → Check) → whole k ≡ step (rest k)) → (old : S) (x : X) (new : S) → Proceeds stands step old x new → (r : Result A E) → IfErr r (λ e. e ≡ out) → IfErr r (λ e. Aborts stands halts whole old e new)
  memory_inside whole step rest same old x new g r h =
      err_is (λ e. Aborts stands halts whole old e new) out r h
      (record { ends = λ start k w. wanting new start (rest k x) (g.goes start (rest k) (subst (stands old start) (same k) w)) })

-- ---- calls

module _ {S E : Type 0} (stands : S → Check → Check → Type 0) (halts : S → Check → E → Type 0) (s : Sig) (ts : List Ty) (old : S) where
  -- there are as many arguments as formals
  as_many : length ts ≡ length s.formals → (start : Check) (k : Verdict → Check) → stands old start (and_then (arguments s ts) k) → stands old start (and_then (demand_asked (are_accepted ts s.formals) E313 (is s.returns)) k)
  unfolding arguments
  as_many same start k h =
      subst (λ b. stands old start (and_then (cond b (demand_asked (are_accepted ts s.formals) E313 (is s.returns)) (Concludes (Wrong E312))) k)) (eq-eqb (length ts) (length s.formals) same) h

  pub goes_called : (us : List Ty) (ok : Bool) (v : Verdict) (new : S) → us ≡ s.formals → length ts ≡ length us → Proceeds stands (and_then (are_accepted ts us)) old ok new → demand ok E313 (is s.returns) ≡ Concludes v → Proceeds stands (and_then (arguments s ts)) old v new
  goes_called us ok v new u same l e =
      let l' : Proceeds stands (and_then (are_accepted ts s.formals)) old ok new = subst (λ us. Proceeds stands (and_then (are_accepted ts us)) old ok new) u l in
      record { goes = λ start k h. (goes_demand stands (are_accepted ts s.formals) E313 (is s.returns) ok v old new l' e).goes start k (as_many (same ∙ ap length u) start k h) }

  pub up_called : (us : List Ty) (e : E) (new : S) → us ≡ s.formals → length ts ≡ length us → Aborts stands halts (and_then (are_accepted ts us)) old e new → Aborts stands halts (and_then (arguments s ts)) old e new
  up_called us e new u same l =
      let l' : Aborts stands halts (and_then (are_accepted ts s.formals)) old e new = subst (λ us. Aborts stands halts (and_then (are_accepted ts us)) old e new) u l in
      record { ends = λ start k h. (up_demand stands halts (are_accepted ts s.formals) E313 (is s.returns) e old new l').ends start k (as_many (same ∙ ap length u) start k h) }

module _ {S : Type 0} (stands : S → Check → Check → Type 0) where
  pub goes_miscounted : (s : Sig) (ts us : List Ty) (old : S) → us ≡ s.formals → (length ts ≡ length us → ⊥) → Proceeds stands (and_then (arguments s ts)) old (Wrong E312) old
  unfolding arguments
  goes_miscounted s ts us old u other =
      let off : nat_eq (length ts) (length s.formals) ≡ false = ne_eqb (length ts) (length s.formals) (λ e. other (e ∙ ap length (sym u))) in
      record { goes = λ start k h. subst (λ b. stands old start (and_then (cond b (demand_asked (are_accepted ts s.formals) E313 (is s.returns)) (Concludes (Wrong E312))) k)) off h }

-- ---- a loop over arguments

-- the list from an index on
pub front_at : {A : Type 0} (xs : List A) (i : ℕ) (x : A) → i < length xs → x ≡ get_or xs i x → drop i xs ≡ x ∷ drop (i + 1) xs
front_at xs i x h e = drop-cons xs i x h ∙ ap (λ j. get_or xs i x ∷ drop j xs) (sym (add-one i)) ∙ ap (λ y. y ∷ drop (i + 1) xs) (sym e)

module _ {S E : Type 0} (stands : S → Check → Check → Type 0) (halts : S → Check → E → Type 0) (ts us : List Ty) (old : S) where
  -- what is left of the arguments from an index on
  abbrev pub Left : ℕ → S → Type 0
  Left i mid = Comes stands (and_then (are_accepted ts us)) (and_then (are_accepted (drop i ts) (drop i us))) old mid

  one_more : (i : ℕ) (t u : Ty) → i < length ts → i < length us → t ≡ get_or ts i t → u ≡ get_or us i u → {R : Type 0} (k : Bool → Inquiry R)
      → and_then (are_accepted (drop i ts) (drop i us)) k ≡ and_then (is_accepted t u) (λ ok. and_then (cond ok (are_accepted (drop (i + 1) ts) (drop (i + 1) us)) (Concludes false)) k)
  unfolding are_accepted
  one_more i t u h j e f k =
      ap (λ xs. and_then (are_accepted xs (drop i us)) k) (front_at ts i t h e)
      ∙ ap (λ ys. and_then (are_accepted (t ∷ drop (i + 1) ts) ys) k) (front_at us i u j f)
      ∙ and_then-and_then (is_accepted t u) (λ ok. cond ok (are_accepted (drop (i + 1) ts) (drop (i + 1) us)) (Concludes false)) k

  pub left_more : (i : ℕ) (t u : Ty) (ok : Bool) (mid new : S) → Left i mid → i < length ts → length ts ≡ length us → t ≡ get_or ts i t → u ≡ get_or us i u → Proceeds stands (and_then (is_accepted t u)) mid ok new → ok ≡ true → Left (i + 1) new
  left_more i t u ok mid new l h same e f g said = record {
    comes = λ start k w.
        subst (λ b. stands new start (and_then (cond b (are_accepted (drop (i + 1) ts) (drop (i + 1) us)) (Concludes false)) k)) said
        (g.goes start (λ ok. and_then (cond ok (are_accepted (drop (i + 1) ts) (drop (i + 1) us)) (Concludes false)) k)
        (subst (stands mid start) (one_more i t u h (omega (arith, h, same)) e f k) (l.comes start k w)));
  }

  pub left_refused : (i : ℕ) (t u : Ty) (ok : Bool) (mid new : S) → Left i mid → i < length ts → length ts ≡ length us → t ≡ get_or ts i t → u ≡ get_or us i u → Proceeds stands (and_then (is_accepted t u)) mid ok new → ok ≡ false → Proceeds stands (and_then (are_accepted ts us)) old false new
  left_refused i t u ok mid new l h same e f g said = record {
    goes = λ start k w.
        subst (λ b. stands new start (and_then (cond b (are_accepted (drop (i + 1) ts) (drop (i + 1) us)) (Concludes false)) k)) said
        (g.goes start (λ ok. and_then (cond ok (are_accepted (drop (i + 1) ts) (drop (i + 1) us)) (Concludes false)) k)
        (subst (stands mid start) (one_more i t u h (omega (arith, h, same)) e f k) (l.comes start k w)));
  }

  pub left_up : (i : ℕ) (t u : Ty) (e : E) (mid new : S) → Left i mid → i < length ts → length ts ≡ length us → t ≡ get_or ts i t → u ≡ get_or us i u → Aborts stands halts (and_then (is_accepted t u)) mid e new → Aborts stands halts (and_then (are_accepted ts us)) old e new
  left_up i t u e mid new l h same is js g = record {
    ends = λ start k w.
        g.ends start (λ ok. and_then (cond ok (are_accepted (drop (i + 1) ts) (drop (i + 1) us)) (Concludes false)) k)
        (subst (stands mid start) (one_more i t u h (omega (arith, h, same)) is js k) (l.comes start k w));
  }

  pub left_none : (i : ℕ) (new : S) → Left i new → length ts ≤ i → Proceeds stands (and_then (are_accepted ts us)) old true new
  unfolding are_accepted
  left_none i new l h = record {
    goes = λ start k w. subst (λ xs. stands new start (and_then (are_accepted xs (drop i us)) k)) (drop_all i ts h) (l.comes start k w);
  }
