-- What is given, and nothing else.
use Rattle.std.proofs.Common.{◌≡◌, ◌↔◌, Option, Some, None, refl, sym, ap, ◌∙◌}
use Rattle.std.proofs.lemmas.Option.{none-some}
use Rattle.query_laws.specs.Given.{IsGivenOrNone}

pub through : {A B C : Type 0} → (A ↔ B) → (B ↔ C) → (A ↔ C)
through f g = (λ a. g.0 (f.0 a), λ c. f.1 (g.1 c))

-- values of one kind are equal if their contents are
pub contents : {A V : Type 0} (of : A → V) → ((a b : A) → of a ≡ of b → a ≡ b) → (a b : A) → (of a ≡ of b) ↔ (a ≡ b)
contents of same a b = (same a b, λ e. ap of e)

empty : {X : Type 0} (found : Option X) → ((x : X) → found ≡ Some x → ⊥) → found ≡ None
empty None never = refl
empty (Some x) never = absurd (never x refl)

-- what is found is what is given, if each thing that is given is found
pub given : {X : Type 0} (Is : X → Type 0) (found : Option X) → ((x : X) → Is x ↔ (found ≡ Some x)) → (o : Option X) → (found ≡ o) ↔ IsGivenOrNone Is o
given Is found law None = (λ e x is. none-some x (sym e ∙ (law x).0 is), λ none. empty found (λ x e. none x ((law x).1 e)))
given Is found law (Some x) = (λ e. (law x).1 e, λ is. (law x).0 is)
