use Rattle.std.proofs.Common.{sym}
use Rattle.diagnostic_lines.proofs.TokenBytes.{no_place, one_place}
use Rattle.diagnostic_lines.proofs.index.IndexedText.byte_of.Goals as goal

pub returns-in_err-number : goal.returns-in_err-number
returns-in_err-number c =
    rw (c.from_residual.ensures, ← c.self.view_is) (no_place c.self.inside.lines c.self.inside.tokens c.args.class c.args.place.now c.self.invariant c.in_err-number.ensures.value)

pub returns : goal.returns
returns c =
    rw (← c.self.view_is) (one_place c.self.inside.lines c.self.inside.tokens c.args.class c.args.place.now c.in_ok-number.number c.token_byte.result c.self.invariant c.in_ok-number.ensures.value (rw (sym c.tokens.ensures) c.token_byte.ensures))
