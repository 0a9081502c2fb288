-- Declared types, and what is declared with them: what is read is spelled there, and each spelling
-- is read back.
use Rattle.std.proofs.Common.{◌≡◌, ℕ, zero, suc, List, [], ◌∷◌, ◌++◌, Result, Ok, refl, sym, subst}
use Rattle.mj_tree.specs.declared.tree.Ty.{Ty}
use Rattle.mj_tree.specs.declared.tree.Ty.TheVariants.{Int, Boolean, IntArray, Class}
use Rattle.byte_readers.specs.declared.breach.Breach.{Breach}
use Rattle.byte_readers.specs.Spelling.{name}
use Rattle.byte_readers.specs.Lawful.{IsBytes, Takes, Lawful}
use Rattle.byte_readers.specs.Laws.{IsBytes-rest, ok_is, takes_nothing, takes_behind, made_takes, made_again, lawful_name, lawful_four, lawful_pair, lawful_made}
use Rattle.tree_spelling.specs.Spelling.{ty, field, variable}
use Rattle.tree_spelling.specs.Storable.{TyFits, FieldFits, VariableFits}
use Rattle.tree_spelling.specs.Reading.{ty_at, made_field, field_at, made_variable, variable_at}

abbrev done : {A : Type 0} → A → Result A Breach
done x = Ok x

leaf : (b : ℕ) (bytes : List ℕ) (one t : Ty) (rest : List ℕ) → ty one ≡ b ∷ [] → TyFits one
    → IsBytes (b ∷ bytes) → done {A = Ty × List ℕ} (one, bytes) ≡ done (t, rest)
    → Takes (b ∷ bytes) (ty t) rest × TyFits t
leaf b bytes one t rest spelled fit fits e =
    let whole : Takes (b ∷ bytes) (ty one) bytes =
    subst (λ (x : List ℕ). Takes (b ∷ bytes) x bytes) (sym spelled)
    (takes_behind b bytes [] bytes (takes_nothing bytes (IsBytes-rest b bytes fits))) in
    subst (λ (x : Ty × List ℕ). Takes (b ∷ bytes) (ty x.0) x.1 × TyFits x.0)
    (ok_is (one, bytes) (t, rest) e) (whole, fit)

ty_takes : (bytes : List ℕ) (t : Ty) (rest : List ℕ) → IsBytes bytes → ty_at bytes ≡ Ok (t, rest)
    → Takes bytes (ty t) rest × TyFits t
unfolding ty_at
ty_takes [] t rest fits e = absurd cc
ty_takes (zero ∷ bytes) t rest fits e = leaf 0 bytes Int t rest refl tt fits e
ty_takes (suc zero ∷ bytes) t rest fits e = leaf 1 bytes Boolean t rest refl tt fits e
ty_takes (suc (suc zero) ∷ bytes) t rest fits e = leaf 2 bytes IntArray t rest refl tt fits e
ty_takes (suc (suc (suc zero)) ∷ bytes) t rest fits e =
    let m = made_takes lawful_name Class bytes t rest (IsBytes-rest 3 bytes fits) e in
    subst (λ (t : Ty). Takes (3 ∷ bytes) (ty t) rest × TyFits t) m.1
    (takes_behind 3 bytes (name m.0) rest m.2, m.3)
ty_takes (suc (suc (suc (suc b))) ∷ bytes) t rest fits e = absurd cc

ty_again : (t : Ty) (rest : List ℕ) → TyFits t → ty_at (ty t ++ rest) ≡ Ok (t, rest)
unfolding ty_at
ty_again Int rest h = refl
ty_again Boolean rest h = refl
ty_again IntArray rest h = refl
ty_again (Class c) rest h = made_again lawful_name Class c rest h

pub lawful_ty : Lawful ty_at ty TyFits
lawful_ty = record { takes = ty_takes; again = ty_again }

pub lawful_field : Lawful field_at field FieldFits
lawful_field =
    lawful_made (lawful_pair lawful_name lawful_ty) made_field (λ f. (f.name, f.ty))
    (λ _. refl) (λ _. refl)

pub lawful_variable : Lawful variable_at variable VariableFits
lawful_variable =
    lawful_made (lawful_pair lawful_name (lawful_pair lawful_ty lawful_four)) made_variable
    (λ v. (v.name, (v.ty, v.mark))) (λ _. refl) (λ _. refl)
