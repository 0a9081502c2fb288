-- The marks of mistakes in a project have four bytes.
use Rattle.std.proofs.Common.{◌≡◌, ℕ, suc, ◌<◌, ◌≤◌, ◌^◌, Bool, true, false, List, [], ◌∷◌, Option, Some, None, option_map, option_and_then, Contains, bytes_eq, refl, arith, if◌then◌else◌}
use Rattle.std.specs.Prelude.{IfSome}
use Rattle.std.specs.List.{AllByRecursion}
use Rattle.std.proofs.lemmas.List.Elements.{All-contains, at_from_Contains}
use Rattle.mj_lexer.specs.Lexes.{limit}
use Rattle.mj_tree.specs.Trees.{Name, Statement, Method, Main, Class, File}
use Rattle.mj_parser.specs.MarkBounds.{StmtMarksBelow, MethodMarksBelow, ClassMarksBelow, MainMarksBelow, FileMarksBelow}
use Rattle.mj_members.specs.Declarations.{ClassDecl}
use Rattle.mj_classes.specs.Declarations.{number_classes, main_first, classes_of, declared_from, decl}
use Rattle.mj_classes.specs.Members.{own_method}
use Rattle.mj_classes.proofs.Tables.{all_append}
use Rattle.ordered_names.proofs.Alike.{Contains-first, Contains-later}
use Rattle.mj_phrases.specs.declared.verdict.Mistake.{Mistake}
use Rattle.mj_phrases.specs.Inquiries.{World}
use Rattle.named_files.specs.Projects.{SourceFile}
use Rattle.mj_rules.specs.Sentences.{file_of, trees_of, classes_in}
use Rattle.mj_rules.specs.ClassFaults.{main_word}
use Rattle.mj_rules.proofs.Declared.{marks_fit}
use Rattle.mj_rules.proofs.RowLemmas.{found_stands}
use Rattle.tree_bytes.specs.Bodies.{OfMain, OfMethod}
use Rattle.recorder.specs.Projects.{Project}
use Rattle.recorder.proofs.Recorded.{all_at}
use Rattle.query_rules.specs.Items.{class_at, body_by, own_body, body_at, mistakes_in}
use Rattle.body_query.proofs.Marks.{method_small, main_small}

nowhere : (x : Method) → Contains [] x → ⊥
nowhere x e = let a = at_from_Contains [] x e in absurd (omega (arith, a.1))

-- ---- the marks of a project's trees

pub record DeclBelow (n : ℕ) (k : ClassDecl) : Type 0 where
  pub main : IfSome k.main (λ statement. StmtMarksBelow n statement)
  pub methods : (m : Method) → Contains k.methods m → MethodMarksBelow n m

abbrev pub DeclFits : ClassDecl → Type 0
DeclFits k = (n : ℕ) × (n ≤ limit) × DeclBelow n k

module _ (n : ℕ) (few : n ≤ limit) where
  numbered_fit : (file number : ℕ) (cs : List Class) → ((c : Class) → Contains cs c → ClassMarksBelow n c) → AllByRecursion DeclFits (number_classes file number cs)
  numbered_fit file number [] h = tt
  numbered_fit file number (c ∷ cs) h = (
    (n, few, record { main = tt; methods = λ m e. All-contains (MethodMarksBelow n) c.methods m (h c (Contains-first c cs)) e }),
    numbered_fit file (suc number) cs (λ d e. h d (Contains-later c cs d e)),
  )

  main_first_fit : (file : ℕ) (o : Option Main) (cs : List Class) → MainMarksBelow n o → ((c : Class) → Contains cs c → ClassMarksBelow n c) → AllByRecursion DeclFits (main_first file o cs)
  main_first_fit file None cs m h = numbered_fit file 0 cs h
  main_first_fit file (Some main) cs m h = ((n, few, record { main = m; methods = λ x e. absurd (nowhere x e) }), numbered_fit file 1 cs h)

  classes_fit : (file : ℕ) (f : File) → FileMarksBelow n f → AllByRecursion DeclFits (classes_of file f)
  classes_fit file f h = main_first_fit file f.main f.classes h.main (λ c e. All-contains (ClassMarksBelow n) f.classes c h.classes e)

declared_fit : (file : ℕ) (files : List SourceFile) → AllByRecursion DeclFits (declared_from file (trees_of files))
declared_fit file [] = tt
declared_fit file (f ∷ files) = by_tree (file_of f.bytes) refl (declared_fit (suc file) files)
  where
    by_tree : (o : Option File) → file_of f.bytes ≡ o → AllByRecursion DeclFits (declared_from (suc file) (trees_of files)) → AllByRecursion DeclFits (declared_from file (o ∷ trees_of files))
    by_tree None e h = h
    by_tree (Some tree) e h = let w = marks_fit f.bytes tree e in all_append DeclFits (classes_of file tree) (declared_from (suc file) (trees_of files)) (classes_fit w.0 w.1 file tree w.2) h

pub class_fits : (p : Project) (c : Name) (k : ClassDecl) → class_at p c ≡ Some k → DeclFits k
unfolding decl
class_fits p c k e = all_at DeclFits (classes_in p) k (found_stands (λ (d : ClassDecl). bytes_eq d.name c) (classes_in p) k e).0 (declared_fit 0 p)

-- ---- the mistakes in a body

abbrev pub Small : List Mistake → Type 0
Small mistakes = AllByRecursion (λ x. x.mark < 2 ^ 32) mistakes

module _ (w : World) (c m : Name) (k : ClassDecl) (n : ℕ) (few : n ≤ limit) where
  main_body : (statement : Statement) (t : Bool) → StmtMarksBelow n statement → Small (mistakes_in w c (if t then Some (OfMain statement) else None))
  main_body statement true h = main_small n (2 ^ 32) (omega (arith, few)) w (record { name = c; statement = statement }) h
  main_body statement false h = tt

  method_body : (o : Option Method) → own_method m k ≡ o → ((x : Method) → Contains k.methods x → MethodMarksBelow n x) → Small (mistakes_in w c (option_map OfMethod o))
  method_body None e h = tt
  method_body (Some x) e h = method_small n (2 ^ 32) (omega (arith, few)) w c x (omega arith) (h x (found_stands (λ (f : Method). bytes_eq f.name m) k.methods x e).0)

  any_body : (o : Option Statement) → IfSome o (λ statement. StmtMarksBelow n statement) → ((x : Method) → Contains k.methods x → MethodMarksBelow n x) → Small (mistakes_in w c (body_by o m k))
  any_body (Some statement) s h = main_body statement (bytes_eq m main_word) s
  any_body None s h = method_body (own_method m k) refl h

pub small_mistakes : (w : World) (p : Project) (c m : Name) → Small (mistakes_in w c (body_at p c m))
small_mistakes w p c m = by_class (class_at p c) refl
  where
    by_class : (o : Option ClassDecl) → class_at p c ≡ o → Small (mistakes_in w c (option_and_then (own_body m) o))
    by_class None e = tt
    by_class (Some k) e = let h = class_fits p c k e in any_body w c m k h.0 h.1 k.main h.2.main h.2.methods
