-- In a declared class a main stands alone, and the tokens of names have small numbers.
use Rattle.std.proofs.Common.{◌≡◌, ℕ, suc, ◌<◌, ◌≤◌, ◌^◌, List, [], ◌∷◌, length, Option, Some, None, option_and_then, Contains, refl, subst, arith, inl, inr}
use Rattle.std.proofs.lemmas.List.{length-drop}
use Rattle.std.proofs.lemmas.List.Elements.{All-contains, Contains-append_cases}
use Rattle.std.proofs.lemmas.Option.{none-some}
use Rattle.mj_lexer.specs.declared.token.Token.{Token}
use Rattle.mj_lexer.specs.declared.front.Front.TheVariants.{Word}
use Rattle.mj_lexer.specs.Fronts.{IsWithin}
use Rattle.mj_lexer.specs.Lexes.{limit, Cuts, here, blank, word}
use Rattle.mj_lexer.specs.Lexing.{tokens_of}
use Rattle.mj_lexer.proofs.Only.{front_is}
use Rattle.mj_lexer.proofs.Within.{front_within}
use Rattle.mj_lexer.proofs.Lexings.{Lexes-tokens_of}
use Rattle.mj_tree.specs.Trees.{Name, Statement, Method, Main, Class, File}
use Rattle.mj_tree.specs.declared.tree.Ty.{Ty}
use Rattle.mj_tree.specs.declared.tree.Ty.TheVariants as ty
use Rattle.mj_parser.specs.FileReading.{tree_of}
use Rattle.mj_parser.specs.MarkBounds.{VariableBelow, MethodMarksBelow, ClassMarksBelow, FileMarksBelow}
use Rattle.mj_parser.proofs.FileFound.{file_found}
use Rattle.mj_parser.proofs.Bounds.{marks_below}
use Rattle.ordered_names.proofs.Alike.{nowhere, Contains-first, Contains-later, Contains-cases}
use Rattle.mj_members.specs.Declarations.{ClassDecl, main_decl, class_decl}
use Rattle.mj_classes.specs.Declarations.{number_classes, main_first, classes_of, declared_from, decl}
use Rattle.named_files.specs.Projects.{SourceFile}
use Rattle.mj_phrases.specs.Variables.{name_token}
use Rattle.mj_typing.specs.Bodies.{NamesFit}
use Rattle.mj_rules.specs.Sentences.{file_of, trees_of, classes_in}
use Rattle.mj_rules.specs.FaultLists.{NamesFitIn}
use Rattle.mj_rules.proofs.OneAnswer.{decl_stands}

-- ---- a text has no more tokens than bytes

few_cut : {at : ℕ} {text : List ℕ} {tokens : List Token} {till : ℕ} {rest : List ℕ} → Cuts at text tokens till rest → length tokens ≤ length text
few_cut here = omega arith
few_cut {text = text} (blank n stands c) = omega (arith, few_cut c, length-drop n text)
few_cut {text = text} (word kind n stands c) =
    let w = subst (IsWithin (length text)) (front_is text (Word kind n) stands) (front_within text) in
    omega (arith, few_cut c, length-drop n text, w.0, w.1)

few_tokens : (text : List ℕ) (tokens : List Token) → tokens_of text ≡ Some tokens → length tokens ≤ limit
few_tokens text tokens e = let l = (Lexes-tokens_of text tokens).1 e in omega (arith, few_cut l.cut, l.short)

-- the marks of a file's tree are below a number that isn't above the greatest length of a text
abbrev pub MarksFit : File → Type 0
MarksFit f = (n : ℕ) × (n ≤ limit) × FileMarksBelow n f

by_tokens : (bytes : List ℕ) (f : File) (o : Option (List Token)) → tokens_of bytes ≡ o → option_and_then tree_of o ≡ Some f → MarksFit f
by_tokens bytes f None t e = absurd (none-some f e)
by_tokens bytes f (Some tokens) t e = (length tokens, few_tokens bytes tokens t, marks_below tokens f (file_found tokens f e))

pub marks_fit : (bytes : List ℕ) (f : File) → file_of bytes ≡ Some f → MarksFit f
unfolding file_of
marks_fit bytes f e = by_tokens bytes f (tokens_of bytes) refl e

-- ---- declared classes

-- a main stands alone, and the tokens of names have numbers of 64 bits
pub record IsOrderly (k : ClassDecl) : Type 0 where
  pub main_alone : (statement : Statement) → k.main ≡ Some statement → k.methods ≡ []
  pub names_fit : (m : Method) → Contains k.methods m → NamesFit m

module _ (n : ℕ) (few : n ≤ limit) where
  name_fits : (x : Name) (t : Ty) (mark : ℕ) → VariableBelow n (record { name = x; ty = t; mark = mark }) → name_token (record { name = x; ty = t; mark = mark }) < 2 ^ 64
  name_fits x ty.Int mark h = omega (arith, h, few)
  name_fits x ty.Boolean mark h = omega (arith, h, few)
  name_fits x ty.IntArray mark h = omega (arith, h, few)
  name_fits x (ty.Class c) mark h = omega (arith, h, few)

  names_fit : (m : Method) → MethodMarksBelow n m → NamesFit m
  names_fit m h v c =
      elim (Contains-append_cases m.formals m.locals v c) [
        | inl f ↦ name_fits v.name v.ty v.mark (All-contains (VariableBelow n) m.formals v h.formals f)
        | inr l ↦ name_fits v.name v.ty v.mark (All-contains (VariableBelow n) m.locals v h.locals l)
      ]

  plain_orderly : (file number : ℕ) (c : Class) → ClassMarksBelow n c → IsOrderly (class_decl file number c)
  plain_orderly file number c h = record {
    main_alone = λ statement e. absurd (none-some statement e);
    names_fit = λ m e. names_fit m (All-contains (MethodMarksBelow n) c.methods m h e);
  }

  numbered_orderly : (file number : ℕ) (cs : List Class) → ((c : Class) → Contains cs c → ClassMarksBelow n c) → (k : ClassDecl) → Contains (number_classes file number cs) k → IsOrderly k
  numbered_orderly file number [] h k e = absurd (nowhere k e)
  numbered_orderly file number (c ∷ cs) h k e =
      elim (Contains-cases (class_decl file number c) (number_classes file (suc number) cs) k e) [
        | inl is ↦ subst IsOrderly is (plain_orderly file number c (h c (Contains-first c cs)))
        | inr l ↦ numbered_orderly file (suc number) cs (λ d b. h d (Contains-later c cs d b)) k l
      ]

  main_first_orderly : (file : ℕ) (o : Option Main) (cs : List Class) → ((c : Class) → Contains cs c → ClassMarksBelow n c) → (k : ClassDecl) → Contains (main_first file o cs) k → IsOrderly k
  main_first_orderly file None cs h k e = numbered_orderly file 0 cs h k e
  main_first_orderly file (Some main) cs h k e =
      elim (Contains-cases (main_decl file main) (number_classes file 1 cs) k e) [
        | inl is ↦ subst IsOrderly is (record { main_alone = λ statement d. refl; names_fit = λ m d. absurd (nowhere m d) })
        | inr l ↦ numbered_orderly file 1 cs h k l
      ]

orderly_from : (file : ℕ) (files : List SourceFile) (k : ClassDecl) → Contains (declared_from file (trees_of files)) k → IsOrderly k
orderly_from file [] k e = absurd (nowhere k e)
orderly_from file (f ∷ files) k e = by_tree (file_of f.bytes) refl (λ d. orderly_from (suc file) files k d) e
  where
    by_tree : (o : Option File) → file_of f.bytes ≡ o → (Contains (declared_from (suc file) (trees_of files)) k → IsOrderly k) → Contains (declared_from file (o ∷ trees_of files)) k → IsOrderly k
    by_tree None t rest e = rest e
    by_tree (Some tree) t rest e =
        let fit = marks_fit f.bytes tree t in
        elim (Contains-append_cases (classes_of file tree) (declared_from (suc file) (trees_of files)) k e) [
          | inl a ↦ main_first_orderly fit.0 fit.1 file tree.main tree.classes (λ c b. All-contains (ClassMarksBelow fit.0) tree.classes c fit.2.classes b) k a
          | inr b ↦ rest b
        ]

pub orderly_class : (files : List SourceFile) (c : Name) (k : ClassDecl) → decl (classes_in files) c ≡ Some k → IsOrderly k
orderly_class files c k e = orderly_from 0 files k (decl_stands (classes_in files) c k e)

pub names_fit_in : (files : List SourceFile) → NamesFitIn (classes_in files)
names_fit_in files k listed = (orderly_from 0 files k listed).names_fit
