use Rattle.std.proofs.Common.{◌∙◌, [], sym}
use Rattle.diagnostic_lines.proofs.Clean.{clean_findings}
use Rattle.diagnostic_lines.proofs.lines.fault_text_of.Goals as goal

pub returns-then-is_clean : goal.returns-then-is_clean
returns-then-is_clean c = record {
  lines = [];
  each = rw (clean_findings c.args.answer.now (sym c.is_clean.ensures ∙ c.if-is_clean.true)) tt;
  joined = c.new.ensures.bytes;
}
