-- What each query means in a project, by the rules of a profile.
use Rattle.std.specs.Prelude.{option_map, option_and_then}
use Rattle.item_ids.specs.declared.key.Key.{Key}
use Rattle.item_ids.specs.declared.key.Key.TheVariants as keys
use Rattle.mj_classes.specs.Chains.{chain_of}
use Rattle.named_files.specs.Projects.{names_of}
use Rattle.profiles.specs.declared.profile.Profile.{Profile}
use Rattle.mj_rules.specs.Sentences.{classes_in}
use Rattle.mj_rules.specs.Worlds.{world_of}
use Rattle.mj_rules.specs.FaultLists.{declaration_faults, class_faults, inside}
use Rattle.mj_rules.specs.Answering.{rules_of}
use Rattle.mj_rules.specs.Tables.{table_of}
use Rattle.result_bytes.specs.declared.value.Value.{Value}
use Rattle.result_bytes.specs.declared.value.Value.TheVariants as values
use Rattle.recorder.specs.Projects.{Project, bytes_at}
use Rattle.query_rules.specs.Items.{tree_at, class_at, index_of, header_of, chain_value, body_at, signature_of, mistakes_in, fault_set, faults_of}

unfoldable pub mean : Profile → Project → Key → Value
-- the names of the files in their order
mean profile p keys.Files = values.Files (names_of p)
-- the bytes of the file of this name
mean profile p (keys.Source f) = values.Source (bytes_at p f)
-- its tree, if it is a sentence
mean profile p (keys.Tree f) = values.Tree (tree_at p f)
-- each class with its file, ascending
mean profile p keys.Index = values.Index (index_of p)
-- main or not, the superclass, all fields with their types, the names of all methods
mean profile p (keys.Header c) = values.Header (option_map header_of (class_at p c))
-- the first method of the name, or the statement of main
mean profile p (keys.Method c m) = values.Method (body_at p c m)
-- the types of its formals and of its return
mean profile p (keys.Sig c m) = values.Sig (option_and_then signature_of (body_at p c m))
-- the chain and its end
mean profile p (keys.Supers c) = values.Supers (option_map chain_value (chain_of (classes_in p) c))
-- fields and methods by name, with their owners
mean profile p (keys.Members c) =
    values.Members (option_map (λ k. table_of (classes_in p) c) (class_at p c))
-- the diagnostics of the class's declarations
mean profile p (keys.CheckClass c) =
    values.CheckClass (faults_of (declaration_faults profile (classes_in p)) (class_at p c))
-- the mistakes in the body
mean profile p (keys.CheckBody c m) =
    values.CheckBody (fault_set (inside m
    (mistakes_in (world_of (classes_in p)) c (body_at p c m))))
-- all diagnostics of the class
mean profile p (keys.Diags c) =
    values.Diags (faults_of (class_faults profile (classes_in p)) (class_at p c))
-- the answer of the rules
mean profile p keys.Answer = values.Answer (rules_of profile p)
