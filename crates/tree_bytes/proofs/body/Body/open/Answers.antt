use Rattle.std.proofs.Common.{subst}
use Rattle.byte_readers.specs.Reading.{Fails}
use Rattle.tree_bytes.specs.Bodies.{body_at}
use Rattle.tree_bytes.proofs.Bodies.{first_is, read_back, refused_once}
use Rattle.tree_bytes.proofs.body.Body.open.Goals as goal

pub unreachable-requires : goal.unreachable-requires
unreachable-requires c =
    refused_once (body_at c.bytes.result.now) (read_back c.bytes.result.now c.args.self.now c.bytes.ensures.value c.bytes.ensures.fits)
    (subst (λ e. Fails e (body_at c.bytes.result.now)) c.in-Err-Breach.field-0-is c.in-Err-Breach.ensures)

pub returns-in-Ok-clause-value : goal.returns-in-Ok-clause-value
returns-in-Ok-clause-value c =
    first_is (body_at c.bytes.result.now) c.in-Ok.ensures (read_back c.bytes.result.now c.args.self.now c.bytes.ensures.value c.bytes.ensures.fits)
