-- Checks that ask conclude with the mistakes.
use Rattle.std.proofs.Common.{◌≡◌, ℕ, List, [], ◌∷◌, ◌++◌, Result, Ok, Err, IfOk, refl, sym, ap, ◌∙◌, subst}
use Rattle.mj_tree.specs.Trees.{Name, Statement, Statements, Block, If, While, Print, Assign, Store, done, next, Method, Main}
use Rattle.mj_tree.specs.declared.tree.Ty.{Ty}
use Rattle.mj_tree.specs.declared.tree.Ty.TheVariants as ty
use Rattle.mj_tree.specs.declared.tree.Variable.{Variable}
use Rattle.mj_phrases.specs.declared.verdict.Mistake.{Mistake}
use Rattle.mj_phrases.specs.Inquiries.{World, Concludes, conclusion}
use Rattle.mj_phrases.specs.Phrases.{Phrase, add_faults, add_each, mistakes_step}
use Rattle.mj_phrases.specs.Steps.{Check, Proceeds}
use Rattle.mj_phrases.specs.Table.{Scope, own_phrase, statement_phrases, statements_phrases, return_phrase, method_scope, main_scope}
use Rattle.mj_phrases.specs.Variables.{variables_of, add_repeated_each}
use Rattle.mj_phrases.proofs.Checks.{phrase_said}
use Rattle.mj_typing.specs.Bodies.{return_type_mark, add_undeclared, add_undeclared_each, type_step, types_step, statement_step, statements_step, declared_step, method_step, main_step, method_check, main_check, method_faults, main_faults}

module _ (w : World) where
  pub add_each-append : (mistakes : List Mistake) (ps qs : List Phrase) → add_each w mistakes (ps ++ qs) ≡ add_each w (add_each w mistakes ps) qs
  add_each-append mistakes [] qs = refl
  add_each-append mistakes (p ∷ ps) qs = add_each-append (add_faults w mistakes p) ps qs

  mutual
    unfolding statement_step statements_step

    statement_said : (s : Scope) (a : Statement) (mistakes : List Mistake) (k : List Mistake → Check) → conclusion w (statement_step s a mistakes k) ≡ conclusion w (k (add_each w mistakes (statement_phrases s a)))
    statement_said s (Block mark body) mistakes k =
        phrase_said w (own_phrase s (Block mark body)) mistakes (λ found. statements_step s body found.mistakes k)
        ∙ statements_said s body (add_faults w mistakes (own_phrase s (Block mark body))) k
    statement_said s (If mark e a b) mistakes k =
        phrase_said w (own_phrase s (If mark e a b)) mistakes (λ found. statement_step s a found.mistakes (λ others. statement_step s b others k))
        ∙ statement_said s a (add_faults w mistakes (own_phrase s (If mark e a b))) (λ others. statement_step s b others k)
        ∙ statement_said s b (add_each w (add_faults w mistakes (own_phrase s (If mark e a b))) (statement_phrases s a)) k
        ∙ ap (λ ms. conclusion w (k ms)) (sym (add_each-append (add_faults w mistakes (own_phrase s (If mark e a b))) (statement_phrases s a) (statement_phrases s b)))
    statement_said s (While mark e a) mistakes k =
        phrase_said w (own_phrase s (While mark e a)) mistakes (λ found. statement_step s a found.mistakes k)
        ∙ statement_said s a (add_faults w mistakes (own_phrase s (While mark e a))) k
    statement_said s (Print mark e) mistakes k = phrase_said w (own_phrase s (Print mark e)) mistakes (λ found. k found.mistakes)
    statement_said s (Assign mark x x_mark e) mistakes k = phrase_said w (own_phrase s (Assign mark x x_mark e)) mistakes (λ found. k found.mistakes)
    statement_said s (Store mark x x_mark i e) mistakes k = phrase_said w (own_phrase s (Store mark x x_mark i e)) mistakes (λ found. k found.mistakes)

    statements_said : (s : Scope) (ss : Statements) (mistakes : List Mistake) (k : List Mistake → Check) → conclusion w (statements_step s ss mistakes k) ≡ conclusion w (k (add_each w mistakes (statements_phrases s ss)))
    statements_said s done mistakes k = refl
    statements_said s (next a ss) mistakes k =
        statement_said s a mistakes (λ more. statements_step s ss more k)
        ∙ statements_said s ss (add_each w mistakes (statement_phrases s a)) k
        ∙ ap (λ ms. conclusion w (k ms)) (sym (add_each-append mistakes (statement_phrases s a) (statements_phrases s ss)))

  type_said : (mark : ℕ) (t : Ty) (mistakes : List Mistake) (k : List Mistake → Check) → conclusion w (type_step mark t mistakes k) ≡ conclusion w (k (add_undeclared w mistakes mark t))
  type_said mark ty.Int mistakes k = refl
  type_said mark ty.Boolean mistakes k = refl
  type_said mark ty.IntArray mistakes k = refl
  type_said mark (ty.Class c) mistakes k = refl

  types_said : (vs : List Variable) (mistakes : List Mistake) (k : List Mistake → Check) → conclusion w (types_step vs mistakes k) ≡ conclusion w (k (add_undeclared_each w mistakes vs))
  unfolding types_step
  types_said [] mistakes k = refl
  types_said (v ∷ vs) mistakes k = type_said v.mark v.ty mistakes (λ more. types_step vs more k) ∙ types_said vs (add_undeclared w mistakes v.mark v.ty) k

  pub main_concludes : (m : Main) → conclusion w (main_check m) ≡ main_faults w m
  unfolding main_check main_step
  main_concludes m = statement_said main_scope m.statement [] (λ mistakes. Concludes mistakes)

  pub method_concludes : (class : Name) (m : Method) → conclusion w (method_check class m) ≡ method_faults w class m
  unfolding method_check method_step declared_step
  method_concludes class m =
      let s : Scope = method_scope class m in
      let repeated = add_repeated_each [] [] (variables_of m) in
      let a = add_undeclared w repeated return_type_mark m.returns in
      let b = add_undeclared_each w a m.formals in
      let c = add_undeclared_each w b m.locals in
      let d = add_each w c (statements_phrases s m.body) in
      let last = return_phrase s m.return_mark m.returns m.returned in
      let after : List Mistake → Check = λ c. mistakes_step last c (λ mistakes. Concludes mistakes) in
      type_said return_type_mark m.returns repeated (λ a. types_step m.formals a (λ b. types_step m.locals b (λ c. statements_step s m.body c after)))
      ∙ types_said m.formals a (λ b. types_step m.locals b (λ c. statements_step s m.body c after))
      ∙ types_said m.locals b (λ c. statements_step s m.body c after)
      ∙ statements_said s m.body c after
      ∙ phrase_said w last d (λ found. Concludes found.mistakes)
      ∙ sym (add_each-append c (statements_phrases s m.body) (last ∷ []))

-- ---- declarations that answer by themselves

module _ {S : Type 0} (world : S → World) (old new : S) (mistakes : List Mistake) where
  abbrev pub Stands : S → Check → Check → Type 0
  Stands s start now = conclusion (world s) start ≡ conclusion (world s) now

  said_plainly : (step : (List Mistake → Check) → Check) → Proceeds Stands step old mistakes new → world new ≡ world old → mistakes ≡ conclusion (world old) (step (λ mistakes. Concludes mistakes))
  said_plainly step g same = sym (g.goes (step (λ mistakes. Concludes mistakes)) (λ mistakes. Concludes mistakes) refl) ∙ ap (λ w. conclusion w (step (λ mistakes. Concludes mistakes))) same

  pub method_plainly : (class : Name) (m : Method) → Proceeds Stands (method_step class m) old mistakes new → world new ≡ world old → mistakes ≡ method_faults (world old) class m
  unfolding method_check
  method_plainly class m g same = said_plainly (method_step class m) g same ∙ method_concludes (world old) class m

  pub main_plainly : (m : Main) → Proceeds Stands (main_step m) old mistakes new → world new ≡ world old → mistakes ≡ main_faults (world old) m
  unfolding main_check
  main_plainly m g same = said_plainly (main_step m) g same ∙ main_concludes (world old) m

pub handed_on : {A E F : Type 0} (P : A → Type 0) (r : Result A E) (u : Result A F) → IfOk u (λ v. r ≡ Ok v) → IfOk r P → IfOk u P
handed_on P r (Ok v) e h = subst (λ r. IfOk r P) e h
handed_on P r (Err f) e h = tt
