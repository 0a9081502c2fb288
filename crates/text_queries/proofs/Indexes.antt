-- The index of a project.
use Rattle.std.proofs.Common.{◌≡◌, Option, Some, None, option_map, find, refl, ap, ◌∙◌}
use Rattle.std.specs.Str.{bytes_eq}
use Rattle.item_ids.specs.declared.key.Key.TheVariants as keys
use Rattle.mj_tree.specs.Trees.{Name}
use Rattle.mj_tree.proofs.Positions.{find-map}
use Rattle.mj_members.specs.Declarations.{ClassDecl}
use Rattle.mj_classes.specs.Declarations.{decl}
use Rattle.mj_rules.specs.Sentences.{classes_in}
use Rattle.mj_rules.specs.Answering.{first_classes}
use Rattle.result_bytes.specs.Parts.{index_in}
use Rattle.result_bytes.specs.declared.files.IndexRow.{IndexRow}
use Rattle.profiles.specs.declared.profile.Profile.{Profile}
use Rattle.recorder.specs.Projects.{Project}
use Rattle.query_rules.specs.Items.{class_at, file_of_class, index_row}
use Rattle.query_rules.specs.Meaning.{mean}
use Rattle.text_queries.specs.Index.{first_file}
use Rattle.text_queries.proofs.Firsts.{found_first}

file_told : (p : Project) (o : Option ClassDecl) → option_map (λ (row : IndexRow). row.file) (option_map (index_row p) o) ≡ option_map (file_of_class p) o
file_told p None = refl
file_told p (Some k) = refl

class_found : (p : Project) (c : Name) → find (λ (k : ClassDecl). bytes_eq k.name c) (first_classes (classes_in p)) ≡ class_at p c
unfolding decl
class_found p c = found_first (λ (k : ClassDecl). k.name) (classes_in p) c

-- the file that the index has for a class is the one that declares it
pub index_tells : (profile : Profile) (p : Project) (c : Name) → first_file (index_in (mean profile p keys.Index)) c ≡ option_map (file_of_class p) (class_at p c)
unfolding mean
index_tells profile p c =
    ap (option_map (λ (row : IndexRow). row.file)) (find-map (index_row p) (λ (row : IndexRow). bytes_eq row.class c) (first_classes (classes_in p)) ∙ ap (option_map (index_row p)) (class_found p c))
    ∙ file_told p (class_at p c)
