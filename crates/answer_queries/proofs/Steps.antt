-- Steps of the loops that collect the diagnostics of a project.
use Rattle.std.proofs.Common.{◌≡◌, ℕ, ◌+◌, ◌<◌, ◌≤◌, Bool, true, false, ◌||◌, List, [], ◌∷◌, ◌++◌, length, drop, get_or, slice_get, Option, Some, None, option_map, sym, ap, ◌∙◌, append_assoc, append-nil, ◌⊎◌, inl, inr, if◌then◌else◌}
use Rattle.std.proofs.Math.Bool.{or_assoc}
use Rattle.std.proofs.lemmas.List.{length-map, drop_all}
use Rattle.std.proofs.lemmas.Option.{slice_get-map}
use Rattle.mj_tree.specs.declared.place.Place.TheVariants as places
use Rattle.mj_answer.specs.declared.code.Code.TheVariants.{E104}
use Rattle.mj_answer.specs.declared.diagnostic.Diagnostic.{Diagnostic}
use Rattle.mj_tree.specs.Trees.{Name}
use Rattle.mj_tree.proofs.Positions.{read_at}
use Rattle.mj_rules.specs.FaultLists.{fault, has_main, file_faults}
use Rattle.named_files.proofs.Listed.{map_at}
use Rattle.mj_rules.proofs.Steps.{drop_at, or_false}
use Rattle.body_query.specs.Bounds.{bound}
use Rattle.answer_queries.specs.Trees.{NamedTree, named_tree, named_trees}
use Rattle.answer_queries.specs.declared.trees.ParsedFile.{ParsedFile}
use Rattle.answer_queries.specs.ProjectFaults.{any_main, files_faults, repeated_class}

-- ---- files as they are seen

pub file_at : (files : List ParsedFile) (n : ℕ) (f : ParsedFile) → n < length files → f ≡ get_or files n f → slice_get (named_trees files) n ≡ Some (named_tree f)
file_at files n f within is = map_at named_tree files n f (read_at files n f within is)

-- the file at a place, if there is one
pub file_there : (files : List ParsedFile) (n : ℕ) (o : Option ParsedFile) → o ≡ slice_get files n → slice_get (named_trees files) n ≡ option_map named_tree o
file_there files n o e = slice_get-map named_tree files n ∙ ap (option_map named_tree) (sym e)

pub as_many : (files : List ParsedFile) → length (named_trees files) ≡ length files
as_many files = length-map files named_tree

-- ---- diagnostics of files

pub any_step : (files : List NamedTree) (before : Bool) (n : ℕ) (f : NamedTree) → slice_get files n ≡ Some f → (before || has_main f.1 || any_main (drop (n + 1) files)) ≡ (before || any_main (drop n files))
any_step files before n f ef = or_assoc before (has_main f.1) (any_main (drop (n + 1) files)) ∙ ap (λ fs. before || any_main fs) (sym (drop_at files n f ef))

pub files_step : (files : List NamedTree) (before : Bool) (n : ℕ) (f : NamedTree) (old new : List Diagnostic) → slice_get files n ≡ Some f → new ≡ old ++ file_faults before f.0 f.1
    → new ++ files_faults (before || has_main f.1) (drop (n + 1) files) ≡ old ++ files_faults before (drop n files)
files_step files before n f old new ef e =
    ap (λ (ds : List Diagnostic). ds ++ files_faults (before || has_main f.1) (drop (n + 1) files)) e
    ∙ (append_assoc old (file_faults before f.0 f.1) (files_faults (before || has_main f.1) (drop (n + 1) files))
    ∙ ap (λ fs. old ++ files_faults before fs) (sym (drop_at files n f ef)))

pub any_end : (files : List NamedTree) (before : Bool) (n : ℕ) → length files ≤ n → (before || any_main (drop n files)) ≡ before
any_end files before n h = ap (λ fs. before || any_main fs) (drop_all n files h) ∙ or_false before

pub files_end : (files : List NamedTree) (before : Bool) (n : ℕ) (old : List Diagnostic) → length files ≤ n → old ++ files_faults before (drop n files) ≡ old
files_end files before n old h = ap (λ fs. old ++ files_faults before fs) (drop_all n files h) ∙ append-nil old

-- ---- repeated classes

pub none_added : (old : List Diagnostic) (o : Option NamedTree) (n : ℕ) → o ≡ None → old ≡ old ++ repeated_class o n
none_added old o n e = sym (ap (λ p. old ++ repeated_class p n) e ∙ append-nil old)

pub one_added : (old new : List Diagnostic) (name : Name) (n : ℕ) (o : Option NamedTree) (f : NamedTree) → new ≡ old ++ fault (places.ClassOf name (bound n)) E104 ∷ [] → o ≡ Some f → name ≡ f.0
    → new ≡ old ++ repeated_class o n
one_added old new name n o f e there same =
    e ∙ (ap (λ m. old ++ fault (places.ClassOf m (bound n)) E104 ∷ []) same ∙ sym (ap (λ p. old ++ repeated_class p n) there))

-- what is added if a flag is set
pub by_flag : (flag : Bool) (old new ds : List Diagnostic) → ((flag ≡ true) × (new ≡ old ++ ds)) ⊎ ((flag ≡ false) × (new ≡ old)) → new ≡ old ++ (if flag then ds else [])
by_flag flag old new ds (inl h) = h.1 ∙ sym (ap (λ b. old ++ (if b then ds else [])) h.0)
by_flag flag old new ds (inr h) = h.1 ∙ sym (ap (λ b. old ++ (if b then ds else [])) h.0 ∙ append-nil old)
