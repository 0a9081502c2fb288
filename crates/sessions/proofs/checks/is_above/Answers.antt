use Rattle.std.proofs.Common.{◌-◌, length, refl}
use Rattle.sessions.proofs.RecordLaws.{above_last, last_below}
use Rattle.sessions.proofs.checks.is_above.Goals as goal

pub returns-in-Some : goal.returns-in-Some
returns-in-Some c =
    let front = c.args.front.now in
    let test = rw c.key.ensures at c.is_less.ensures in (
      λ t. above_last front (length front - 1) c.in-Some.last.now c.args.key.now c.requires refl c.in-Some.ensures.value (test.0 t),
      λ above. test.1 (last_below front (length front - 1) c.in-Some.last.now c.args.key.now refl c.in-Some.ensures.value above),
    )
