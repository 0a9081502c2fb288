-- What is known by the spots at which classes are declared.
use Rattle.std.specs.Prelude.{◌≡◌, ◌≢◌, ◌↔◌, ℕ, suc, ◌<◌, false, List, [], ◌∷◌, ◌++◌, length, flat_map, Option, Some, option_map, slice_get}
use Rattle.item_ids.specs.declared.key.Key.{Key}
use Rattle.item_ids.specs.declared.key.Key.TheVariants as keys
use Rattle.mj_tree.specs.Trees.{Name, File}
use Rattle.mj_tree.specs.declared.place.Place.{Place}
use Rattle.mj_tree.specs.declared.place.Place.TheVariants as places
use Rattle.mj_answer.specs.declared.code.Code.TheVariants.{E103, E104}
use Rattle.mj_members.specs.Declarations.{ClassDecl}
use Rattle.mj_classes.specs.Declarations.{declarations, declared_from}
use Rattle.named_files.specs.Projects.{SourceFile}
use Rattle.profiles.specs.declared.profile.Profile.{Profile}
use Rattle.mj_rules.specs.Sentences.{classes_in, trees_of}
use Rattle.mj_rules.specs.ProjectFaults.{HasMain, FaultOfProject}
use Rattle.result_bytes.specs.declared.files.IndexRow.{IndexRow}
use Rattle.result_bytes.specs.Parts.{index_in}
use Rattle.recorder.specs.Projects.{Project}
use Rattle.query_rules.specs.Items.{name_of}
use Rattle.query_rules.specs.Meaning.{mean}
use Rattle.query_rules.specs.Reads.{all_trees, asked_keys}
use Rattle.text_queries.specs.Index.{first_file}
use Rattle.declaration_laws.specs.Spots.{spot_of, spots, first_spot, declares, first_main}

-- what an edit of the file between these leaves
pub record EditLeaves (before after : List (Option File)) (c : Name) : Type 0 where
  -- the spots before the file, in it, and after it
  pub parts : (f : Option File) → spots (declarations (before ++ f ∷ after)) c
      ≡ spots (declarations before) c
      ++ (spots (declared_from (length before) (f ∷ [])) c
      ++ spots (declared_from (suc (length before)) after) c)
  -- a name that the file declares neither before nor after the edit has the spots that it had
  pub others : (old new : Option File) → declares old c ≡ false → declares new c ≡ false
      → spots (declarations (before ++ new ∷ after)) c
      ≡ spots (declarations (before ++ old ∷ after)) c

abbrev pub EditLaw : Type 0
EditLaw = (before after : List (Option File)) (c : Name) → EditLeaves before after c

-- the index has for a class the file of its first spot
abbrev pub IndexLaw : Type 0
IndexLaw =
    (profile : Profile) (p : Project) (c : Name)
    → first_file (index_in (mean profile p keys.Index)) c
    ≡ option_map (λ s. name_of (slice_get p s.file)) (first_spot (classes_in p) c)

-- an earlier class of a list has the name of the one at a place
pub record IsRepeated (ks : List ClassDecl) (i : ℕ) (c : Name) : Type 0 where
  pub place : ℕ
  pub earlier : place < i
  pub class : ClassDecl
  pub there : slice_get ks place ≡ Some class
  pub name : class.name ≡ c

-- it does just if the class isn't declared at the first spot of its name
abbrev pub RepeatLaw : Type 0
RepeatLaw =
    (files : List SourceFile) (i : ℕ) (k : ClassDecl) → slice_get (classes_in files) i ≡ Some k
    → IsRepeated (classes_in files) i k.name
    ↔ (first_spot (classes_in files) k.name ≢ Some (spot_of k))

-- ---- the diagnostics of a project that go by spots

-- the place of a class that isn't declared at the first spot of its name
pub record IsLaterClass (files : List SourceFile) (x : Place) : Type 0 where
  pub number : ℕ
  pub class : ClassDecl
  pub there : slice_get (classes_in files) number ≡ Some class
  pub file : SourceFile
  pub in_file : slice_get files class.file ≡ Some file
  pub later : first_spot (classes_in files) class.name ≢ Some (spot_of class)
  pub at : x ≡ places.ClassOf file.name class.number

-- these are the places of E104
abbrev pub LaterClassLaw : Type 0
LaterClassLaw =
    (files : List SourceFile) (x : Place) → FaultOfProject files x E104 ↔ IsLaterClass files x

-- the place of a file with a main class that isn't the first one with one
pub record IsLaterMain (files : List SourceFile) (x : Place) : Type 0 where
  pub number : ℕ
  pub file : SourceFile
  pub main : HasMain files number file
  pub later : first_main (trees_of files) ≢ Some number
  pub at : x ≡ places.File file.name

-- these are the places of E103
abbrev pub LaterMainLaw : Type 0
LaterMainLaw =
    (files : List SourceFile) (x : Place) → FaultOfProject files x E103 ↔ IsLaterMain files x

-- ---- the reads of the answer

abbrev pub row_parts : IndexRow → List Key
row_parts row = keys.Members row.class ∷ keys.Diags row.class ∷ []

-- after the trees and the index, the parts of the classes that the index has
abbrev pub AnswerLaw : Type 0
AnswerLaw =
    (profile : Profile) (p : Project) → asked_keys profile p keys.Answer
    ≡ keys.Files ∷ (all_trees p
    ++ (keys.Index ∷ flat_map row_parts (index_in (mean profile p keys.Index))))
