-- What is found in a list is the first that passes.
use Rattle.std.proofs.Common.{◌≡◌, ℕ, zero, suc, ◌<◌, Bool, true, false, cond, List, [], ◌∷◌, slice_get, find, Some, refl, sym, ap, subst, ◌∙◌, bytes_eq, arith}
use Rattle.std.proofs.lemmas.Option.{none-some, same_Some}
use Rattle.std.proofs.lemmas.Slice.Eq.{bytes_eq-Decides}
use Rattle.std.proofs.lemmas.Bool.{false_from_ne_true, false≢true}
use Rattle.mj_tree.specs.Trees.{Name, Method}
use Rattle.mj_members.specs.Declarations.{ClassDecl}
use Rattle.mj_classes.specs.Members.{own_method}
use Rattle.mj_rules.specs.ClassFaults.{IsFirstMethod}

module _ {A : Type 0} (test : A → Bool) where
  -- it stands at this place and passes, and none before it passes
  pub record IsFirstTo (xs : List A) (x : A) : Type 0 where
    pub at : ℕ
    pub here : slice_get xs at ≡ Some x
    pub passes : test x ≡ true
    pub first : (i : ℕ) (y : A) → i < at → slice_get xs i ≡ Some y → test y ≡ false

  behind : (y : A) (ys : List A) (x : A) → test y ≡ false → IsFirstTo ys x → IsFirstTo (y ∷ ys) x
  behind y ys x fails r = record { at = suc r.at; here = r.here; passes = r.passes; first = before }
    where
      before : (i : ℕ) (z : A) → i < suc r.at → slice_get (y ∷ ys) i ≡ Some z → test z ≡ false
      before zero z l s = subst (λ (a : A). test a ≡ false) (same_Some y z s) fails
      before (suc i) z l s = r.first i z (omega arith) s

  pub found_first : (xs : List A) (x : A) → find test xs ≡ Some x → IsFirstTo xs x
  found_first [] x e = absurd (none-some x e)
  found_first (y ∷ ys) x e = by_test (test y) refl (found_first ys x) e
    where
      by_test : (b : Bool) → test y ≡ b → (find test ys ≡ Some x → IsFirstTo ys x) → cond b (Some y) (find test ys) ≡ Some x → IsFirstTo (y ∷ ys) x
      by_test true t rest f = record {
        at = 0;
        here = f;
        passes = subst (λ (a : A). test a ≡ true) (same_Some y x f) t;
        first = λ i z l s. absurd (omega arith);
      }
      by_test false t rest f = behind y ys x t (rest f)

  pub first_found : (xs : List A) (at : ℕ) (x : A) → slice_get xs at ≡ Some x → test x ≡ true → ((i : ℕ) (y : A) → i < at → slice_get xs i ≡ Some y → test y ≡ false) → find test xs ≡ Some x
  first_found [] at x e t h = absurd (none-some x e)
  first_found (y ∷ ys) zero x e t h = ap (λ b. cond b (Some y) (find test ys)) (ap test (same_Some y x e) ∙ t) ∙ e
  first_found (y ∷ ys) (suc n) x e t h = ap (λ b. cond b (Some y) (find test ys)) (h 0 y (omega arith) refl) ∙ first_found ys n x e t (λ i z l s. h (suc i) z (omega arith) s)

-- ---- the first method of a name

pub own_of : (k : ClassDecl) (m : Name) (n : ℕ) (a : Method) → IsFirstMethod k n a → a.name ≡ m → own_method m k ≡ Some a
own_of k m n a is named =
    first_found (λ (f : Method). bytes_eq f.name m) k.methods n a is.here ((bytes_eq-Decides a.name m).1 named)
    (λ i y l s. false_from_ne_true (bytes_eq y.name m) (λ t. is.first i y l s ((bytes_eq-Decides y.name m).0 t ∙ sym named)))

pub own_is : (k : ClassDecl) (m : Name) (a : Method) → own_method m k ≡ Some a → (n : ℕ) × IsFirstMethod k n a × (a.name ≡ m)
own_is k m a e =
    let f = found_first (λ (f : Method). bytes_eq f.name m) k.methods a e in
    let named = (bytes_eq-Decides a.name m).0 f.passes in (
      f.at,
      record { here = f.here; first = λ i y l s same. false≢true (sym (f.first i y l s) ∙ (bytes_eq-Decides y.name m).1 (same ∙ named)) },
      named,
    )
