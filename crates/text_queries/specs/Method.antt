-- A method, or the statement of main.
use Rattle.std.specs.Prelude.{option_and_then}
use Rattle.mj_tree.specs.Trees.{Name}
use Rattle.tree_bytes.specs.NamedBodies.{body_named}
use Rattle.result_bytes.specs.declared.value.Value.{Value}
use Rattle.result_bytes.specs.declared.value.Value.TheVariants as values
use Rattle.recorder.specs.Programs.{Prog}
use Rattle.text_queries.specs.ClassTrees.{class_tree_step}

-- the tree of the class's file, then the first method of the name in the first class of the name in
-- it
abbrev pub method_steps : Name → Name → (Value → Prog) → Prog
method_steps c m k =
    class_tree_step c (λ tree. k (values.Method
    (option_and_then (λ file. body_named file c m) tree)))
