-- The header of a class.
use Rattle.std.specs.Prelude.{option_map, option_and_then}
use Rattle.mj_tree.specs.Trees.{Name}
use Rattle.result_bytes.specs.declared.value.Value.{Value}
use Rattle.result_bytes.specs.declared.value.Value.TheVariants as values
use Rattle.recorder.specs.Programs.{Prog}
use Rattle.query_rules.specs.Items.{header_of}
use Rattle.text_queries.specs.ClassTrees.{class_tree_step, class_named}

-- the tree of the class's file, then the header of the first class of the name in it
abbrev pub header_steps : Name → (Value → Prog) → Prog
header_steps c k =
    class_tree_step c (λ tree. k (values.Header
    (option_map header_of (option_and_then (class_named c) tree))))
