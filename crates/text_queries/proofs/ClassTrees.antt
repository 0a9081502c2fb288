-- The tree of the file that declares a class, in a project.
use Rattle.std.proofs.Common.{◌≡◌, ℕ, ◌+◌, ◌<◌, [], ◌∷◌, Option, Some, None, option_map, refl, sym, ap, ◌∙◌, arith}
use Rattle.std.specs.Prelude.{option_and_then}
use Rattle.item_ids.specs.declared.key.Key.{Key}
use Rattle.item_ids.specs.declared.key.Key.TheVariants as keys
use Rattle.item_ids.specs.Inputs.{rank}
use Rattle.mj_tree.specs.Trees.{Name, File}
use Rattle.mj_members.specs.Declarations.{ClassDecl}
use Rattle.named_files.specs.Projects.{IsProject}
use Rattle.result_bytes.specs.Parts.{index_in}
use Rattle.result_bytes.specs.declared.value.Value.{Value}
use Rattle.profiles.specs.declared.profile.Profile.{Profile}
use Rattle.recorder.specs.Projects.{Project}
use Rattle.recorder.specs.Programs.{Prog, Ret, runs, asks, Fits}
use Rattle.query_rules.specs.Items.{tree_at, class_at, file_of_class}
use Rattle.query_rules.specs.Meaning.{mean}
use Rattle.query_rules.specs.Reads.{tree_of_class, first_keys}
use Rattle.text_queries.specs.Index.{first_file}
use Rattle.text_queries.specs.ClassTrees.{file_step, class_tree_step, class_named}
use Rattle.text_queries.proofs.Files.{moved, stands_in, class_tree}
use Rattle.text_queries.proofs.Indexes.{index_tells}

abbrev pub tree_for : Project → Option ClassDecl → Option File
tree_for p o = option_and_then (λ k. tree_at p (file_of_class p k)) o

-- ---- what the step gives and asks

module _ (profile : Profile) (p : Project) where
  file_runs : (o : Option ClassDecl) (k : Option File → Prog) → runs (file_step (option_map (file_of_class p) o) k) (mean profile p) ≡ runs (k (tree_for p o)) (mean profile p)
  unfolding mean runs
  file_runs None k = refl
  file_runs (Some x) k = refl

  pub tree_runs : (c : Name) (k : Option File → Prog) → runs (class_tree_step c k) (mean profile p) ≡ runs (k (tree_for p (class_at p c))) (mean profile p)
  unfolding runs
  tree_runs c k = ap (λ o. runs (file_step o k) (mean profile p)) (index_tells profile p c) ∙ file_runs (class_at p c) k

  file_asks : (o : Option ClassDecl) (value : Option File → Value) → asks (file_step (option_map (file_of_class p) o) (λ tree. Ret (value tree))) (mean profile p) (keys.Index ∷ []) ≡ first_keys (keys.Index ∷ []) (tree_of_class p o)
  unfolding asks
  file_asks None value = refl
  file_asks (Some x) value = refl

  pub tree_asks : (c : Name) (value : Option File → Value) → asks (class_tree_step c (λ tree. Ret (value tree))) (mean profile p) [] ≡ first_keys [] (keys.Index ∷ tree_of_class p (class_at p c))
  unfolding asks
  tree_asks c value =
      ap (λ ks. keys.Index ∷ ks)
      (ap (λ o. asks (file_step o (λ tree. Ret (value tree))) (mean profile p) (keys.Index ∷ [])) (index_tells profile p c) ∙ file_asks (class_at p c) value)

module _ (q : Key) (high : 2 < rank q) (k : Option File → Prog) (fits : (tree : Option File) → Fits q (k tree)) where
  file_fits : (o : Option Name) → Fits q (file_step o k)
  unfolding Fits
  file_fits None = fits None
  file_fits (Some f) = (omega (arith, high), λ v. fits _)

  pub tree_fits : (c : Name) → Fits q (class_tree_step c k)
  unfolding Fits
  tree_fits c = (high, λ v. file_fits (first_file (index_in v) c))

-- ---- what the tree says about the class

-- What doesn't depend on where a class stands follows from the tree of its file.
pub class_told : {A : Type 0} (seen : ClassDecl → Option A) → ((i : ℕ) (k : ClassDecl) → seen (moved i k) ≡ seen k) → (p : Project) → IsProject p → (c : Name)
    → option_and_then seen (option_and_then (class_named c) (tree_for p (class_at p c))) ≡ option_and_then seen (class_at p c)
class_told {A} seen alike p is c = by_class (class_at p c) refl
  where
    by_class : (o : Option ClassDecl) → class_at p c ≡ o → option_and_then seen (option_and_then (class_named c) (tree_for p o)) ≡ option_and_then seen o
    by_class None e = refl
    by_class (Some k) e =
        let s = stands_in p c k e in
        ap (λ o. option_and_then seen (option_and_then (class_named c) o)) (class_tree p is c k s)
        ∙ (ap (option_and_then seen) s.found ∙ (sym (alike (0 + s.at) s.alone) ∙ ap seen (sym s.is)))
