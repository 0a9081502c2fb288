use Rattle.std.proofs.Common.{◌≡◌, ◌++◌, take, string_bytes}
use Rattle.std.specs.Prelude.{flat_map}
use Rattle.session_text.specs.CauseTexts.{why_line}
use Rattle.session_text.proofs.causes.words.write_whys.Given as goal

abbrev pub invariant-loop-why : goal.invariant-loop-why
invariant-loop-why l = string_bytes l.text ≡ string_bytes l.initial.text ++ flat_map why_line (take l.why-index l.whys)
