use Rattle.std.proofs.Common.{◌∙◌, ◌-◌, Some, ap, drop, length, subst, take}
use Rattle.byte_readers.specs.Reading.{Fails}
use Rattle.tree_spelling.specs.Reading.{types_at}
use Rattle.tree_bytes.proofs.Bodies.{first_is, refused_once, types_read}
use Rattle.tree_bytes.proofs.body.Body.types.Goals as goal

pub unreachable-requires : goal.unreachable-requires
unreachable-requires c =
    let types = types_read c.args.self.now c.bytes-bytes.result.now c.bytes-bytes.ensures.fits c.bytes-bytes.ensures.value c.if-bytes-eq0.false in
    refused_once _ types.3 (subst (λ e. Fails e (types_at (take (length c.bytes-bytes.result.now - 1) (drop 1 c.bytes-bytes.result.now)))) c.in-Err-Breach.field-0-is c.in-Err-Breach.ensures)

pub returns-in-Ok : goal.returns-in-Ok
returns-in-Ok c =
    let types = types_read c.args.self.now c.bytes-bytes.result.now c.bytes-bytes.ensures.fits c.bytes-bytes.ensures.value c.if-bytes-eq0.false in
    ap Some (first_is _ c.in-Ok.ensures types.3) ∙ types.1
