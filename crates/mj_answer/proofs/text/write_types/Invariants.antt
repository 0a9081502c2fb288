use Rattle.std.proofs.Common.{◌≡◌, ◌++◌, take, string_bytes}
use Rattle.std.specs.Prelude.{flat_map, codes}
use Rattle.mj_answer.specs.Text.{type_text}
use Rattle.mj_answer.proofs.text.write_types.Given as goal

abbrev pub invariant-loop-ty : goal.invariant-loop-ty
invariant-loop-ty l = string_bytes l.text ≡ string_bytes l.initial.text ++ flat_map (λ other. codes ", " ++ type_text other) (take l.ty-index l.others)
