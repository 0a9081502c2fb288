-- Reading a phrase by its tag.
use Rattle.std.proofs.Common.{◌≡◌, ℕ, suc, ◌-◌, List, Some, Ok, refl, ap, ◌∙◌, arith}
use Rattle.byte_readers.specs.Reading.{byte_at, four_at}
use Rattle.tree_spelling.specs.declared.tag.ExpTag.{ExpTag}
use Rattle.tree_spelling.specs.declared.tag.StmtTag.{StmtTag}
use Rattle.tree_spelling.specs.Tags.{exp_tag_of, stmt_tag_of}
use Rattle.tree_spelling.specs.Reading.{exp_body_at, exp_at, stmt_body_at, stmt_at}

one_level : (room : ℕ) → (room ≡ 0 → ⊥) → room ≡ suc (room - 1)
one_level room h = omega (arith, h)

pub exp_by_tag : (room tag mark : ℕ) (bytes rest after : List ℕ) (which : ExpTag) → (room ≡ 0 → ⊥) → byte_at bytes ≡ Ok (tag, rest) → Some which ≡ exp_tag_of tag → four_at rest ≡ Ok (mark, after) → exp_at room bytes ≡ exp_body_at (exp_at (room - 1)) which mark after
unfolding exp_at
exp_by_tag room tag mark bytes rest after which h b t m = ap (λ (r : ℕ). exp_at r bytes) (one_level room h) ∙ rw (b, ← t, m) refl

pub stmt_by_tag : (room tag mark : ℕ) (bytes rest after : List ℕ) (which : StmtTag) → (room ≡ 0 → ⊥) → byte_at bytes ≡ Ok (tag, rest) → Some which ≡ stmt_tag_of tag → four_at rest ≡ Ok (mark, after) → stmt_at room bytes ≡ stmt_body_at (exp_at (room - 1)) (stmt_at (room - 1)) which mark after
unfolding stmt_at
stmt_by_tag room tag mark bytes rest after which h b t m = ap (λ (r : ℕ). stmt_at r bytes) (one_level room h) ∙ rw (b, ← t, m) refl
