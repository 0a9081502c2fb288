-- The tree of a file.
use Rattle.std.specs.Prelude.{option_and_then}
use Rattle.item_ids.specs.declared.key.Key.TheVariants as keys
use Rattle.mj_tree.specs.Trees.{Name}
use Rattle.mj_rules.specs.Sentences.{file_of}
use Rattle.result_bytes.specs.Parts.{source_in}
use Rattle.result_bytes.specs.declared.value.Value.{Value}
use Rattle.result_bytes.specs.declared.value.Value.TheVariants as values
use Rattle.recorder.specs.Programs.{Prog, Ask}

-- Source(f), then the tree of these bytes, if they are a sentence
abbrev pub tree_steps : Name → (Value → Prog) → Prog
tree_steps f k = Ask (keys.Source f) (λ v. k (values.Tree (option_and_then file_of (source_in v))))
