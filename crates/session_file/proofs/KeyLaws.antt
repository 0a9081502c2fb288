-- Marks by their numbers.
use Rattle.std.proofs.Common.{◌≡◌, ℕ, ◌<◌, ◌≤◌, inl, inr, false, eqb, Option, Some, None, refl, sym, ap, ◌∙◌, arith}
use Rattle.std.specs.Prelude.{IsSome, IfSome, ◌↔◌}
use Rattle.std.proofs.lemmas.Bool.{ne_eqb, cases_lt}
use Rattle.sessions.specs.declared.mark.Mark.{Mark}
use Rattle.sessions.specs.declared.mark.Mark.TheVariants.{Input, Executed, Green}
use Rattle.sessions.specs.Marks.{mark_number}
use Rattle.session_file.specs.Keys.{mark_with}

pub mark_again : (mark : Mark) → mark_with (mark_number mark) ≡ Some mark
unfolding mark_with
mark_again Input = refl
mark_again Executed = refl
mark_again Green = refl

other_mark : (k n : ℕ) → k < 3 → 3 ≤ n → eqb k n ≡ false
other_mark k n lt le = ne_eqb k n (λ e. omega (arith, e, lt, le))

no_mark : (n : ℕ) → 3 ≤ n → mark_with n ≡ None
unfolding mark_with
no_mark n le = rw (other_mark 0 n (omega arith) le, other_mark 1 n (omega arith) le, other_mark 2 n (omega arith) le) refl

pub mark_found : (n : ℕ) (found : Option Mark) → IfSome found (λ mark. mark_number mark ≡ n) → IsSome found ↔ (n < 3) → found ≡ mark_with n
mark_found n (Some mark) is known = sym (mark_again mark) ∙ ap mark_with is
mark_found n None is known = elim (cases_lt n 3) [ inl lt ↦ let h = known.1 lt in absurd cc | inr le ↦ sym (no_mark n le) ]
