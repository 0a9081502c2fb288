-- The walk over statements, and over a method.
use Rattle.std.proofs.Common.{◌≡◌, ℕ, ◌+◌, ◌<◌, ◌≤◌, List, [], length, drop, get_or, subst, sym}
use Rattle.std.proofs.lemmas.List.{drop_all}
use Rattle.mj_tree.specs.Trees.{Name, Method}
use Rattle.mj_tree.specs.Views.{stmt_view, stmts_view}
use Rattle.mj_tree.specs.declared.tree.Stmt.{Stmt}
use Rattle.mj_tree.specs.declared.tree.Variable.{Variable}
use Rattle.mj_phrases.specs.declared.verdict.Mistake.{Mistake}
use Rattle.mj_phrases.specs.Variables.{variables_of, add_repeated_each}
use Rattle.mj_phrases.specs.Phrases.{mistakes_step}
use Rattle.mj_phrases.specs.Steps.{Check, Proceeds, Aborts}
use Rattle.mj_phrases.specs.Table.{Scope, return_phrase, method_scope}
use Rattle.mj_phrases.proofs.Asked.{Comes, front_at}
use Rattle.mj_typing.specs.Bodies.{declared_step, method_step, type_step, types_step, statement_step, statements_step}

module _ {S E : Type 0} (stands : S → Check → Check → Type 0) (halts : S → Check → E → Type 0) where
  -- ---- a loop over statements

  module _ (scope : Scope) (stmts : List Stmt) (before : List Mistake) (old : S) where
    -- what is left of the statements from an index on
    abbrev pub StatementsLeft : ℕ → List Mistake → S → Type 0
    StatementsLeft i mistakes mid = Comes stands (statements_step scope (stmts_view stmts) before) (statements_step scope (stmts_view (drop i stmts)) mistakes) old mid

    pub statements_start : StatementsLeft 0 before old
    statements_start = record { comes = λ start k w. w }

    pub statements_more : (i : ℕ) (a : Stmt) (mistakes more : List Mistake) (mid new : S) → StatementsLeft i mistakes mid → i < length stmts → a ≡ get_or stmts i a → Proceeds stands (statement_step scope (stmt_view a) mistakes) mid more new → StatementsLeft (i + 1) more new
    unfolding statements_step
    statements_more i a mistakes more mid new l h is g = record {
      comes = λ start k w.
          g.goes start (λ more. statements_step scope (stmts_view (drop (i + 1) stmts)) more k)
          (subst (λ ss. stands mid start (statements_step scope (stmts_view ss) mistakes k)) (front_at stmts i a h is) (l.comes start k w));
    }

    pub statements_up : (i : ℕ) (a : Stmt) (mistakes : List Mistake) (e : E) (mid new : S) → StatementsLeft i mistakes mid → i < length stmts → a ≡ get_or stmts i a → Aborts stands halts (statement_step scope (stmt_view a) mistakes) mid e new → Aborts stands halts (statements_step scope (stmts_view stmts) before) old e new
    unfolding statements_step
    statements_up i a mistakes e mid new l h is g = record {
      ends = λ start k w.
          g.ends start (λ more. statements_step scope (stmts_view (drop (i + 1) stmts)) more k)
          (subst (λ ss. stands mid start (statements_step scope (stmts_view ss) mistakes k)) (front_at stmts i a h is) (l.comes start k w));
    }

    pub statements_done : (i : ℕ) (mistakes : List Mistake) (new : S) → StatementsLeft i mistakes new → length stmts ≤ i → Proceeds stands (statements_step scope (stmts_view stmts) before) old mistakes new
    unfolding statements_step
    statements_done i mistakes new l h = record {
      goes = λ start k w. subst (λ ss. stands new start (statements_step scope (stmts_view ss) mistakes k)) (drop_all i stmts h) (l.comes start k w);
    }

  -- ---- a loop over variables

  module _ (vs : List Variable) (before : List Mistake) (old : S) where
    -- what is left of the variables from an index on
    abbrev pub TypesLeft : ℕ → List Mistake → S → Type 0
    TypesLeft i mistakes mid = Comes stands (types_step vs before) (types_step (drop i vs) mistakes) old mid

    pub types_more : (i : ℕ) (v : Variable) (mistakes more : List Mistake) (mid new : S) → TypesLeft i mistakes mid → i < length vs → v ≡ get_or vs i v → Proceeds stands (type_step v.mark v.ty mistakes) mid more new → TypesLeft (i + 1) more new
    unfolding types_step
    types_more i v mistakes more mid new l h is g = record {
      comes = λ start k w. g.goes start (λ more. types_step (drop (i + 1) vs) more k) (subst (λ us. stands mid start (types_step us mistakes k)) (front_at vs i v h is) (l.comes start k w));
    }

    pub types_up : (i : ℕ) (v : Variable) (mistakes : List Mistake) (e : E) (mid new : S) → TypesLeft i mistakes mid → i < length vs → v ≡ get_or vs i v → Aborts stands halts (type_step v.mark v.ty mistakes) mid e new → Aborts stands halts (types_step vs before) old e new
    unfolding types_step
    types_up i v mistakes e mid new l h is g = record {
      ends = λ start k w. g.ends start (λ more. types_step (drop (i + 1) vs) more k) (subst (λ us. stands mid start (types_step us mistakes k)) (front_at vs i v h is) (l.comes start k w));
    }

    pub types_done : (i : ℕ) (mistakes : List Mistake) (new : S) → TypesLeft i mistakes new → length vs ≤ i → Proceeds stands (types_step vs before) old mistakes new
    unfolding types_step
    types_done i mistakes new l h = record {
      goes = λ start k w. subst (λ us. stands new start (types_step us mistakes k)) (drop_all i vs h) (l.comes start k w);
    }

  -- ---- a method

  module _ (class : Name) (m : Method) (scope : Scope) (before : List Mistake) (old next now : S) (a b : List Mistake) where
    pub goes_method : (c : List Mistake) (new : S) → scope ≡ method_scope class m → before ≡ add_repeated_each [] [] (variables_of m)
        → Proceeds stands (declared_step m before) old a next → Proceeds stands (statements_step scope m.body a) next b now → Proceeds stands (mistakes_step (return_phrase scope m.return_mark m.returns m.returned) b) now c new
        → Proceeds stands (method_step class m) old c new
    unfolding method_step
    goes_method c new s r d ss last = record {
      goes = λ start k w.
          last.goes start k
          (ss.goes start (λ b. mistakes_step (return_phrase scope m.return_mark m.returns m.returned) b k)
          (d.goes start (λ a. statements_step scope m.body a (λ b. mistakes_step (return_phrase scope m.return_mark m.returns m.returned) b k))
          (subst (λ s. stands old start (declared_step m before (λ a. statements_step s m.body a (λ b. mistakes_step (return_phrase s m.return_mark m.returns m.returned) b k)))) (sym s)
          (subst (λ ms. stands old start (declared_step m ms (λ a. statements_step (method_scope class m) m.body a (λ b. mistakes_step (return_phrase (method_scope class m) m.return_mark m.returns m.returned) b k)))) (sym r) w))));
    }

    pub up_return : (e : E) (new : S) → scope ≡ method_scope class m → before ≡ add_repeated_each [] [] (variables_of m)
        → Proceeds stands (declared_step m before) old a next → Proceeds stands (statements_step scope m.body a) next b now → Aborts stands halts (mistakes_step (return_phrase scope m.return_mark m.returns m.returned) b) now e new
        → Aborts stands halts (method_step class m) old e new
    unfolding method_step
    up_return e new s r d ss last = record {
      ends = λ start k w.
          last.ends start k
          (ss.goes start (λ b. mistakes_step (return_phrase scope m.return_mark m.returns m.returned) b k)
          (d.goes start (λ a. statements_step scope m.body a (λ b. mistakes_step (return_phrase scope m.return_mark m.returns m.returned) b k))
          (subst (λ s. stands old start (declared_step m before (λ a. statements_step s m.body a (λ b. mistakes_step (return_phrase s m.return_mark m.returns m.returned) b k)))) (sym s)
          (subst (λ ms. stands old start (declared_step m ms (λ a. statements_step (method_scope class m) m.body a (λ b. mistakes_step (return_phrase (method_scope class m) m.return_mark m.returns m.returned) b k)))) (sym r) w))));
    }
