-- The program of a class's header in a project.
use Rattle.std.proofs.Common.{◌≡◌, [], Option, Some, None, option_map, refl, sym, ap, ◌∙◌, arith}
use Rattle.std.specs.Prelude.{option_and_then}
use Rattle.item_ids.specs.declared.key.Key.TheVariants as keys
use Rattle.mj_tree.specs.Trees.{Name, File}
use Rattle.mj_members.specs.Declarations.{ClassDecl}
use Rattle.named_files.specs.Projects.{IsProject}
use Rattle.result_bytes.specs.declared.value.Value.{Value}
use Rattle.result_bytes.specs.declared.value.Value.TheVariants as values
use Rattle.profiles.specs.declared.profile.Profile.{Profile}
use Rattle.recorder.specs.Projects.{Project}
use Rattle.recorder.specs.Programs.{Ret, runs, asks, Fits}
use Rattle.query_rules.specs.Items.{class_at, header_of}
use Rattle.query_rules.specs.Meaning.{mean}
use Rattle.query_rules.specs.Reads.{asked_keys, reads}
use Rattle.text_queries.specs.ClassTrees.{class_named}
use Rattle.text_queries.specs.Header.{header_steps}
use Rattle.text_queries.specs.Laws.{HeaderTies}
use Rattle.text_queries.proofs.ClassTrees.{tree_runs, tree_asks, tree_fits, class_told}

abbrev value_of : Name → Option File → Value
value_of c tree = values.Header (option_map header_of (option_and_then (class_named c) tree))

as_and_then : (o : Option ClassDecl) → option_map header_of o ≡ option_and_then (λ k. Some (header_of k)) o
as_and_then None = refl
as_and_then (Some k) = refl

module _ (c : Name) (profile : Profile) (p : Project) (is : IsProject p) where
  means : mean profile p (keys.Header c) ≡ runs (header_steps c Ret) (mean profile p)
  unfolding mean runs
  means = sym
      (tree_runs profile p c (λ tree. Ret (value_of c tree))
      ∙ ap values.Header (as_and_then _ ∙ (class_told (λ k. Some (header_of k)) (λ i k. refl) p is c ∙ sym (as_and_then (class_at p c)))))

  asked : reads profile p (keys.Header c) ≡ asks (header_steps c Ret) (mean profile p) []
  unfolding reads asked_keys
  asked = sym (tree_asks profile p c (value_of c))

pub header_ties : HeaderTies
unfolding Fits
header_ties c profile = record {
  means = λ p is. means c profile p is;
  asked = λ p is. asked c profile p is;
  fits = tree_fits (keys.Header c) (omega arith) (λ tree. Ret (value_of c tree)) (λ tree. refl) c;
}
