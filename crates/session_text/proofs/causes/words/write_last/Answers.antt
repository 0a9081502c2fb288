use Rattle.std.proofs.Common.{codes, decimal, string_bytes}
use Rattle.std.proofs.lemmas.Result.{on_ok_weaker}
use Rattle.session_text.specs.CauseTexts.{counts_line}
use Rattle.session_text.proofs.Added.{line_made}
use Rattle.session_text.proofs.causes.words.write_last.Goals as goal

pub returns : goal.returns
unfolding counts_line
returns c =
    on_ok_weaker c.writeln.result
    (λ e. line_made (string_bytes c.args.text.now) (codes "session ") (decimal c.args.number) (codes ": ") (decimal c.args.inputs) (codes " inputs changed, ") (decimal c.args.executed)
    (codes " executed, ") (decimal c.args.cut_off) (codes " of them cut off, ") (decimal c.args.green) (codes " green\n") _ _ _ c.in_ok-write.ensures.bytes c.in_ok-write-2.ensures.bytes e)
    c.writeln.ensures.bytes
