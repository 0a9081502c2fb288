-- The program of a method in a project.
use Rattle.std.proofs.Common.{◌≡◌, ℕ, suc, Bool, true, false, cond, List, [], ◌∷◌, find, Option, Some, None, refl, sym, ap, ◌∙◌, arith}
use Rattle.std.specs.Prelude.{option_and_then}
use Rattle.std.specs.Str.{bytes_eq}
use Rattle.item_ids.specs.declared.key.Key.TheVariants as keys
use Rattle.mj_tree.specs.Trees.{Name, Statement, Main, Class, File}
use Rattle.mj_members.specs.Declarations.{ClassDecl, main_decl, class_decl}
use Rattle.mj_classes.specs.Declarations.{number_classes, main_first, classes_of, decl}
use Rattle.named_files.specs.Projects.{IsProject}
use Rattle.tree_bytes.specs.NamedBodies.{class_body, main_body, method_in, body_behind, body_named}
use Rattle.result_bytes.specs.declared.value.Value.{Value}
use Rattle.result_bytes.specs.declared.value.Value.TheVariants as values
use Rattle.profiles.specs.declared.profile.Profile.{Profile}
use Rattle.recorder.specs.Projects.{Project}
use Rattle.recorder.specs.Programs.{Ret, runs, asks, Fits}
use Rattle.query_rules.specs.Items.{class_at, body_by, own_body}
use Rattle.query_rules.specs.Meaning.{mean}
use Rattle.query_rules.specs.Reads.{asked_keys, reads}
use Rattle.text_queries.specs.ClassTrees.{class_named}
use Rattle.text_queries.specs.Method.{method_steps}
use Rattle.text_queries.specs.Laws.{MethodTies}
use Rattle.text_queries.proofs.Files.{moved}
use Rattle.text_queries.proofs.ClassTrees.{tree_for, tree_runs, tree_asks, tree_fits, class_told}

-- ---- a body by the names of its class and its method

module _ (file : ℕ) (c m : Name) where
  abbrev named : ClassDecl → Bool
  named k = bytes_eq k.name c

  in_classes : (number : ℕ) (cs : List Class) → class_body c m cs ≡ option_and_then (own_body m) (find named (number_classes file number cs))
  in_classes number [] = refl
  in_classes number (k ∷ cs) = by_name (bytes_eq k.name c) (in_classes (suc number) cs)
    where
      by_name : (b : Bool) → class_body c m cs ≡ option_and_then (own_body m) (find named (number_classes file (suc number) cs))
          → option_and_then (λ (x : Class). method_in m x.methods) (cond b (Some k) (find (λ (x : Class). bytes_eq x.name c) cs)) ≡ option_and_then (own_body m) (cond b (Some (class_decl file number k)) (find named (number_classes file (suc number) cs)))
      by_name true h = refl
      by_name false h = h

  behind_main : (o : Option Main) (cs : List Class) → body_behind o c m cs ≡ option_and_then (own_body m) (find named (main_first file o cs))
  behind_main None cs = in_classes 0 cs
  behind_main (Some main) cs = by_name (bytes_eq main.name c) (in_classes 1 cs)
    where
      by_name : (b : Bool) → class_body c m cs ≡ option_and_then (own_body m) (find named (number_classes file 1 cs))
          → cond b (main_body m main) (class_body c m cs) ≡ option_and_then (own_body m) (cond b (Some (main_decl file main)) (find named (number_classes file 1 cs)))
      by_name true h = refl
      by_name false h = h

-- the first method of the name in the first class of the name
pub body_same : (file : ℕ) (tree : File) (c m : Name) → body_named tree c m ≡ option_and_then (own_body m) (decl (classes_of file tree) c)
unfolding decl
body_same file tree c m = behind_main file c m tree.main tree.classes

-- it doesn't depend on where the class stands
body_moved : (m : Name) (i : ℕ) (k : ClassDecl) → own_body m (moved i k) ≡ own_body m k
body_moved m i k = by_main k.main
  where
    by_main : (o : Option Statement) → body_by o m (moved i k) ≡ body_by o m k
    by_main None = refl
    by_main (Some statement) = refl

-- ---- the tie

abbrev value_of : Name → Name → Option File → Value
value_of c m tree = values.Method (option_and_then (λ file. body_named file c m) tree)

by_class : (c m : Name) (o : Option File) → option_and_then (λ tree. body_named tree c m) o ≡ option_and_then (own_body m) (option_and_then (class_named c) o)
by_class c m None = refl
by_class c m (Some tree) = body_same 0 tree c m

module _ (c m : Name) (profile : Profile) (p : Project) (is : IsProject p) where
  means : mean profile p (keys.Method c m) ≡ runs (method_steps c m Ret) (mean profile p)
  unfolding mean runs
  means = sym
      (tree_runs profile p c (λ tree. Ret (value_of c m tree))
      ∙ ap values.Method (by_class c m (tree_for p (class_at p c)) ∙ class_told (own_body m) (body_moved m) p is c))

  asked : reads profile p (keys.Method c m) ≡ asks (method_steps c m Ret) (mean profile p) []
  unfolding reads asked_keys
  asked = sym (tree_asks profile p c (value_of c m))

pub method_ties : MethodTies
unfolding Fits
method_ties c m profile = record {
  means = λ p is. means c m profile p is;
  asked = λ p is. asked c m profile p is;
  fits = tree_fits (keys.Method c m) (omega arith) (λ tree. Ret (value_of c m tree)) (λ tree. refl) c;
}
