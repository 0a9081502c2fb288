-- A kind is found by its number, and a number past the last kind's has none.
use Rattle.std.proofs.Common.{◌≡◌, ℕ, ◌<◌, ◌≤◌, inl, inr, false, eqb, Option, Some, None, refl, sym, ap, ◌∙◌, arith}
use Rattle.std.specs.Prelude.{IsSome, IfSome, ◌↔◌}
use Rattle.std.proofs.lemmas.Bool.{ne_eqb, cases_lt}
use Rattle.steps_keys.specs.declared.kind.Kind.{Kind}
use Rattle.steps_keys.specs.Kinds.{number_of, kind_count, kind_with}
use Rattle.steps_keys.specs.KindLaws.{kind_again}

other : (k n : ℕ) → k < kind_count → kind_count ≤ n → eqb k n ≡ false
other k n lt le = ne_eqb k n (λ e. omega (arith, e, lt, le))

no_kind : (n : ℕ) → kind_count ≤ n → kind_with n ≡ None
unfolding kind_with
no_kind n le = rw (other 0 n (omega arith) le, other 1 n (omega arith) le, other 2 n (omega arith) le, other 3 n (omega arith) le, other 4 n (omega arith) le, other 5 n (omega arith) le) refl

pub kind_found : (n : ℕ) (found : Option Kind) → IfSome found (λ kind. number_of kind ≡ n) → IsSome found ↔ (n < kind_count) → found ≡ kind_with n
kind_found n (Some kind) is known = sym (kind_again kind) ∙ ap kind_with is
kind_found n None is known = elim (cases_lt n kind_count) [ inl lt ↦ let h = known.1 lt in absurd cc | inr le ↦ sym (no_kind n le) ]
