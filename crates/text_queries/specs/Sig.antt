-- The types of a method.
use Rattle.std.specs.Prelude.{option_and_then}
use Rattle.item_ids.specs.declared.key.Key.TheVariants as keys
use Rattle.mj_tree.specs.Trees.{Name}
use Rattle.result_bytes.specs.Parts.{body_in}
use Rattle.result_bytes.specs.declared.value.Value.{Value}
use Rattle.result_bytes.specs.declared.value.Value.TheVariants as values
use Rattle.recorder.specs.Programs.{Prog, Ask}
use Rattle.query_rules.specs.Items.{signature_of}

-- Method(c, m), then the types of that method
abbrev pub sig_steps : Name → Name → (Value → Prog) → Prog
sig_steps c m k =
    Ask (keys.Method c m) (λ v. k (values.Sig (option_and_then signature_of (body_in v))))
