use Rattle.std.proofs.Common.{◌≡◌, ◌++◌, take, string_bytes}
use Rattle.std.specs.Prelude.{flat_map}
use Rattle.mj_answer.specs.Text.{class_text}
use Rattle.mj_answer.proofs.text.write_classes.Given as goal

abbrev pub invariant-loop-class : goal.invariant-loop-class
invariant-loop-class l = string_bytes l.text ≡ string_bytes l.initial.text ++ flat_map class_text (take l.class-index l.classes)
