-- What is written of lists of phrases.
use Rattle.std.proofs.Common.{◌≡◌, ℕ, suc, List, [], ◌∷◌, ◌++◌, length, refl, ap, ◌∙◌, append_assoc}
use Rattle.mj_tree.specs.declared.tree.Exp.{Exp}
use Rattle.mj_tree.specs.declared.tree.Stmt.{Stmt}
use Rattle.mj_tree.specs.Views.{exps_view, stmts_view}
use Rattle.tree_spelling.specs.Spelling.{count_exps, count_stmts}

-- ---- the number of items

pub count_exps_view : (es : List Exp) → count_exps (exps_view es) ≡ length es
count_exps_view [] = refl
count_exps_view (e ∷ es) = ap (λ (n : ℕ). suc n) (count_exps_view es)

pub count_stmts_view : (ss : List Stmt) → count_stmts (stmts_view ss) ≡ length ss
count_stmts_view [] = refl
count_stmts_view (s ∷ ss) = ap (λ (n : ℕ). suc n) (count_stmts_view ss)

-- ---- one part behind another

pub one_more : (a b new x y : List ℕ) → b ≡ a ++ x → new ≡ b ++ y → new ≡ a ++ (x ++ y)
one_more a b new x y hb hn = hn ∙ ap (λ (l : List ℕ). l ++ y) hb ∙ append_assoc a x y
