-- Codes of trees: a tree of numbers for each, and the way back. They serve the models of the types
-- that hold trees.
use Rattle.std.specs.Prelude.{◌≡◌, ℕ, zero, suc, true, false, List, [], ◌∷◌, refl}
use Rattle.std.specs.Coded.{code_by, coded×, coded_ℕ, coded_list, coded_option}
use Rattle.std.proofs.Common.{ap, sym, ◌∙◌}
use base.Stored.{Coded, Gv, gnil, gnum, gcons, num}
use Rattle.mj_tree.specs.declared.tree.Operator.TheVariants.{And, Less, Plus, Minus, Times}
use Rattle.mj_tree.specs.contracts.tree.Ty as ty_contracts
use Rattle.mj_tree.specs.contracts.tree.Field as field_contracts
use Rattle.mj_tree.specs.contracts.tree.Variable as variable_contracts
use Rattle.mj_tree.specs.Trees.{Expression, Expressions, none, more, Statement, Statements, done, next, Method, Main, File}
use Rattle.mj_tree.specs.Trees as trees
use Rattle.tree_spelling.specs.Tags.{operator_byte, boolean_byte}
use Rattle.tree_spelling.specs.Reading.{made_method, made_main, made_class, made_file}

abbrev code_n : List ℕ → Gv
code_n [] = gnil
code_n (n ∷ ns) = gcons (gnum n) (code_n ns)

abbrev back_n : Gv → List ℕ
back_n gnil = []
back_n (gnum n) = []
back_n (gcons a b) = num a ∷ back_n b

pub back_n-code_n : (ns : List ℕ) → back_n (code_n ns) ≡ ns
back_n-code_n [] = refl
back_n-code_n (n ∷ ns) = ap (λ l. n ∷ l) (back_n-code_n ns)

-- a tag, a mark, a list of numbers, and the parts
abbrev layer : ℕ → ℕ → List ℕ → Gv → Gv
layer tag mark ns parts = gcons (gcons (gnum tag) (gcons (gnum mark) (code_n ns))) parts

abbrev first_n : List ℕ → ℕ
first_n [] = 0
first_n (n ∷ ns) = n

abbrev rest_n : List ℕ → List ℕ
rest_n [] = []
rest_n (n ∷ ns) = ns

abbrev left : Gv → Gv
left gnil = gnil
left (gnum n) = gnil
left (gcons a b) = a

abbrev right : Gv → Gv
right gnil = gnil
right (gnum n) = gnil
right (gcons a b) = b

-- ---- expressions

abbrev mutual
  code_e : Expression → Gv
  code_e (trees.Binary operator mark a b) =
      layer (operator_byte operator) mark [] (gcons (code_e a) (gcons (code_e b) gnil))
  code_e (trees.Index mark a b) = layer 5 mark [] (gcons (code_e a) (gcons (code_e b) gnil))
  code_e (trees.Length mark a) = layer 6 mark [] (gcons (code_e a) gnil)
  code_e (trees.Call mark a m es) = layer 7 mark m (gcons (code_e a) (code_es es))
  code_e (trees.Literal mark n) = layer 8 mark (n ∷ []) gnil
  code_e (trees.Boolean mark value) = layer (boolean_byte value) mark [] gnil
  code_e (trees.Named mark n) = layer 11 mark n gnil
  code_e (trees.This mark) = layer 12 mark [] gnil
  code_e (trees.NewArray mark a) = layer 13 mark [] (gcons (code_e a) gnil)
  code_e (trees.NewObject mark n) = layer 14 mark n gnil
  code_e (trees.Not mark a) = layer 15 mark [] (gcons (code_e a) gnil)
  code_e (trees.Parenthesized mark a) = layer 16 mark [] (gcons (code_e a) gnil)

  code_es : Expressions → Gv
  code_es none = gnil
  code_es (more e es) = gcons (code_e e) (code_es es)

abbrev first_e : Expressions → Expression
first_e none = trees.This 0
first_e (more e es) = e

abbrev rest_e : Expressions → Expressions
rest_e none = none
rest_e (more e es) = es

abbrev exp_by_tag : ℕ → ℕ → List ℕ → Expressions → Expression
exp_by_tag zero mark ns es = trees.Binary And mark (first_e es) (first_e (rest_e es))
exp_by_tag (suc zero) mark ns es = trees.Binary Less mark (first_e es) (first_e (rest_e es))
exp_by_tag (suc (suc zero)) mark ns es = trees.Binary Plus mark (first_e es) (first_e (rest_e es))
exp_by_tag (suc (suc (suc zero))) mark ns es =
    trees.Binary Minus mark (first_e es) (first_e (rest_e es))
exp_by_tag (suc (suc (suc (suc zero)))) mark ns es =
    trees.Binary Times mark (first_e es) (first_e (rest_e es))
exp_by_tag (suc (suc (suc (suc (suc zero))))) mark ns es =
    trees.Index mark (first_e es) (first_e (rest_e es))
exp_by_tag (suc (suc (suc (suc (suc (suc zero)))))) mark ns es = trees.Length mark (first_e es)
exp_by_tag (suc (suc (suc (suc (suc (suc (suc zero))))))) mark ns es =
    trees.Call mark (first_e es) ns (rest_e es)
exp_by_tag (suc (suc (suc (suc (suc (suc (suc (suc zero)))))))) mark ns es =
    trees.Literal mark (first_n ns)
exp_by_tag (suc (suc (suc (suc (suc (suc (suc (suc (suc zero))))))))) mark ns es =
    trees.Boolean mark true
exp_by_tag (suc (suc (suc (suc (suc (suc (suc (suc (suc (suc zero)))))))))) mark ns es =
    trees.Boolean mark false
exp_by_tag (suc (suc (suc (suc (suc (suc (suc (suc (suc (suc (suc zero))))))))))) mark ns es =
    trees.Named mark ns
exp_by_tag (suc (suc (suc (suc (suc (suc (suc (suc (suc (suc (suc (suc zero)))))))))))) mark ns es =
    trees.This mark
exp_by_tag (suc (suc (suc (suc (suc (suc (suc (suc (suc (suc (suc (suc (suc zero))))))))))))) mark ns es = trees.NewArray mark (first_e es)
exp_by_tag (suc (suc (suc (suc (suc (suc (suc (suc (suc (suc (suc (suc (suc (suc zero)))))))))))))) mark ns es = trees.NewObject mark ns
exp_by_tag (suc (suc (suc (suc (suc (suc (suc (suc (suc (suc (suc (suc (suc (suc (suc zero))))))))))))))) mark ns es = trees.Not mark (first_e es)
exp_by_tag (suc (suc (suc (suc (suc (suc (suc (suc (suc (suc (suc (suc (suc (suc (suc (suc n)))))))))))))))) mark ns es = trees.Parenthesized mark (first_e es)

abbrev back_e : Gv → Expression × Expressions
back_e gnil = (trees.This 0, none)
back_e (gnum n) = (trees.This 0, none)
back_e (gcons a b) = (
  exp_by_tag (num (left a)) (num (left (right a))) (back_n (right (right a))) (back_e b).1,
  more (back_e a).0 (back_e b).1,
)

mutual
  pub back_e-code_e : (e : Expression) → (back_e (code_e e)).0 ≡ e
  back_e-code_e (trees.Binary And mark a b) =
      ap (λ x. trees.Binary And mark x (back_e (code_e b)).0) (back_e-code_e a)
      ∙ ap (trees.Binary And mark a) (back_e-code_e b)
  back_e-code_e (trees.Binary Less mark a b) =
      ap (λ x. trees.Binary Less mark x (back_e (code_e b)).0) (back_e-code_e a)
      ∙ ap (trees.Binary Less mark a) (back_e-code_e b)
  back_e-code_e (trees.Binary Plus mark a b) =
      ap (λ x. trees.Binary Plus mark x (back_e (code_e b)).0) (back_e-code_e a)
      ∙ ap (trees.Binary Plus mark a) (back_e-code_e b)
  back_e-code_e (trees.Binary Minus mark a b) =
      ap (λ x. trees.Binary Minus mark x (back_e (code_e b)).0) (back_e-code_e a)
      ∙ ap (trees.Binary Minus mark a) (back_e-code_e b)
  back_e-code_e (trees.Binary Times mark a b) =
      ap (λ x. trees.Binary Times mark x (back_e (code_e b)).0) (back_e-code_e a)
      ∙ ap (trees.Binary Times mark a) (back_e-code_e b)
  back_e-code_e (trees.Index mark a b) =
      ap (λ x. trees.Index mark x (back_e (code_e b)).0) (back_e-code_e a)
      ∙ ap (trees.Index mark a) (back_e-code_e b)
  back_e-code_e (trees.Length mark a) = ap (trees.Length mark) (back_e-code_e a)
  back_e-code_e (trees.Call mark a m es) =
      ap (λ x. trees.Call mark x (back_n (code_n m)) (back_e (code_es es)).1) (back_e-code_e a)
      ∙ ap (λ n. trees.Call mark a n (back_e (code_es es)).1) (back_n-code_n m)
      ∙ ap (trees.Call mark a m) (back_es es)
  back_e-code_e (trees.Literal mark n) = refl
  back_e-code_e (trees.Boolean mark true) = refl
  back_e-code_e (trees.Boolean mark false) = refl
  back_e-code_e (trees.Named mark n) = ap (trees.Named mark) (back_n-code_n n)
  back_e-code_e (trees.This mark) = refl
  back_e-code_e (trees.NewArray mark a) = ap (trees.NewArray mark) (back_e-code_e a)
  back_e-code_e (trees.NewObject mark n) = ap (trees.NewObject mark) (back_n-code_n n)
  back_e-code_e (trees.Not mark a) = ap (trees.Not mark) (back_e-code_e a)
  back_e-code_e (trees.Parenthesized mark a) = ap (trees.Parenthesized mark) (back_e-code_e a)

  pub back_es : (es : Expressions) → (back_e (code_es es)).1 ≡ es
  back_es none = refl
  back_es (more e es) =
      ap (λ x. more x (back_e (code_es es)).1) (back_e-code_e e) ∙ ap (more e) (back_es es)

abbrev pub expression_code : Coded Expression
expression_code =
    record {
      code = code_e;
      inj = λ x y p. sym (back_e-code_e x) ∙ ap (λ g. (back_e g).0) p
          ∙ back_e-code_e y;
    }

-- ---- statements

abbrev mutual
  code_s : Statement → Gv
  code_s (trees.Block mark ss) = layer 0 mark [] (code_ss ss)
  code_s (trees.If mark c t e) =
      layer 1 mark [] (gcons (code_e c) (gcons (code_s t) (gcons (code_s e) gnil)))
  code_s (trees.While mark c s) = layer 2 mark [] (gcons (code_e c) (gcons (code_s s) gnil))
  code_s (trees.Print mark v) = layer 3 mark [] (gcons (code_e v) gnil)
  code_s (trees.Assign mark n k v) = layer 4 mark (k ∷ n) (gcons (code_e v) gnil)
  code_s (trees.Store mark n k i v) =
      layer 5 mark (k ∷ n) (gcons (code_e i) (gcons (code_e v) gnil))

  code_ss : Statements → Gv
  code_ss done = gnil
  code_ss (next s ss) = gcons (code_s s) (code_ss ss)

abbrev first_s : Statements → Statement
first_s done = trees.Block 0 done
first_s (next s ss) = s

abbrev rest_s : Statements → Statements
rest_s done = done
rest_s (next s ss) = ss

-- the parts are read as expressions and as statements
abbrev stmt_by_tag : ℕ → ℕ → List ℕ → Expressions → Statements → Statement
stmt_by_tag zero mark ns es ss = trees.Block mark ss
stmt_by_tag (suc zero) mark ns es ss =
    trees.If mark (first_e es) (first_s (rest_s ss)) (first_s (rest_s (rest_s ss)))
stmt_by_tag (suc (suc zero)) mark ns es ss = trees.While mark (first_e es) (first_s (rest_s ss))
stmt_by_tag (suc (suc (suc zero))) mark ns es ss = trees.Print mark (first_e es)
stmt_by_tag (suc (suc (suc (suc zero)))) mark ns es ss =
    trees.Assign mark (rest_n ns) (first_n ns) (first_e es)
stmt_by_tag (suc (suc (suc (suc (suc n))))) mark ns es ss =
    trees.Store mark (rest_n ns) (first_n ns) (first_e es) (first_e (rest_e es))

abbrev back_s : Gv → Statement × Statements
back_s gnil = (trees.Block 0 done, done)
back_s (gnum n) = (trees.Block 0 done, done)
back_s (gcons a b) = (
  stmt_by_tag (num (left a)) (num (left (right a))) (back_n (right (right a))) (back_e b).1
      (back_s b).1,
  next (back_s a).0 (back_s b).1,
)

mutual
  pub back_s-code_s : (s : Statement) → (back_s (code_s s)).0 ≡ s
  back_s-code_s (trees.Block mark ss) = ap (trees.Block mark) (back_ss ss)
  back_s-code_s (trees.If mark c t e) =
      ap (λ x. trees.If mark x (back_s (code_s t)).0 (back_s (code_s e)).0) (back_e-code_e c)
      ∙ ap (λ x. trees.If mark c x (back_s (code_s e)).0) (back_s-code_s t)
      ∙ ap (trees.If mark c t) (back_s-code_s e)
  back_s-code_s (trees.While mark c s) =
      ap (λ x. trees.While mark x (back_s (code_s s)).0) (back_e-code_e c)
      ∙ ap (trees.While mark c) (back_s-code_s s)
  back_s-code_s (trees.Print mark v) = ap (trees.Print mark) (back_e-code_e v)
  back_s-code_s (trees.Assign mark n k v) =
      ap (λ x. trees.Assign mark x k (back_e (code_e v)).0) (back_n-code_n n)
      ∙ ap (trees.Assign mark n k) (back_e-code_e v)
  back_s-code_s (trees.Store mark n k i v) =
      ap (λ x. trees.Store mark x k (back_e (code_e i)).0 (back_e (code_e v)).0) (back_n-code_n n)
      ∙ ap (λ x. trees.Store mark n k x (back_e (code_e v)).0) (back_e-code_e i)
      ∙ ap (trees.Store mark n k i) (back_e-code_e v)

  pub back_ss : (ss : Statements) → (back_s (code_ss ss)).1 ≡ ss
  back_ss done = refl
  back_ss (next s ss) =
      ap (λ x. next x (back_s (code_ss ss)).1) (back_s-code_s s) ∙ ap (next s) (back_ss ss)

abbrev pub statement_code : Coded Statement
statement_code =
    record {
      code = code_s;
      inj = λ x y p. sym (back_s-code_s x) ∙ ap (λ g. (back_s g).0) p
          ∙ back_s-code_s y;
    }

abbrev pub statements_code : Coded Statements
statements_code =
    record { code = code_ss; inj = λ x y p. sym (back_ss x) ∙ ap (λ g. (back_s g).1) p ∙ back_ss y }

-- ---- methods, classes and files

abbrev pub name_code : Coded (List ℕ)
name_code = coded_list coded_ℕ

abbrev pub method_code : Coded Method
method_code =
    code_by _ (coded× name_code (coded× ty_contracts.the_row.coded
    (coded× (coded_list variable_contracts.the_row.coded)
    (coded× (coded_list variable_contracts.the_row.coded)
    (coded× statements_code (coded× expression_code coded_ℕ))))))
    (λ m. (m.name, (m.returns, (m.formals, (m.locals, (m.body, (m.returned, m.return_mark)))))))
    made_method (λ _. refl)

abbrev pub main_code : Coded Main
main_code =
    code_by _ (coded× name_code statement_code) (λ m. (m.name, m.statement))
    made_main (λ _. refl)

abbrev pub class_code : Coded trees.Class
class_code =
    code_by _ (coded× name_code (coded× (coded_option name_code)
    (coded× (coded_list field_contracts.the_row.coded) (coded_list method_code))))
    (λ c. (c.name, (c.superclass, (c.fields, c.methods)))) made_class (λ _. refl)

abbrev pub file_code : Coded File
file_code =
    code_by _ (coded× (coded_option main_code) (coded_list class_code)) (λ f. (f.main, f.classes))
    made_file (λ _. refl)
