use Rattle.std.proofs.Common.{◌-◌, drop, length, subst, take}
use Rattle.byte_readers.specs.Reading.{Fails, name_at}
use Rattle.tree_bytes.proofs.Bodies.{first_is, name_read, refused_once}
use Rattle.tree_bytes.proofs.body.Body.method_name.Goals as goal

pub unreachable-requires : goal.unreachable-requires
unreachable-requires c =
    let name = name_read c.args.self.now c.bytes.result.now c.requires c.bytes.ensures.fits c.bytes.ensures.value in
    refused_once _ name.1 (subst (λ e. Fails e (name_at (take (length c.bytes.result.now - 1) (drop 1 c.bytes.result.now)))) c.in-Err-Breach.field-0-is c.in-Err-Breach.ensures)

pub returns-in-Ok : goal.returns-in-Ok
returns-in-Ok c =
    let name = name_read c.args.self.now c.bytes.result.now c.requires c.bytes.ensures.fits c.bytes.ensures.value in
    first_is _ c.in-Ok.ensures name.1
