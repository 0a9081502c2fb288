use Rattle.std.proofs.Common.{rules, length, ◌∙◌}
use Rattle.redgreen_files.proofs.FeedLaws.{exact_took, exact_breaks, exact_short}
use Rattle.redgreen_files.proofs.reading.files.exact.Goals as goal

pub returns-then-eq-clause-value : goal.returns-then-eq-clause-value
returns-then-eq-clause-value g c = exact_took c.args.text.now c.args.short c.args.other c.in-Ok.ensures.pulled.1 (search rules)

pub returns-else-eq-clause-value : goal.returns-else-eq-clause-value
returns-else-eq-clause-value g c = exact_breaks c.args.text.now c.args.short c.args.other c.in-Ok.ensures.pulled.1 (c.in-Ok.ensures.pulled.0 ∙ c.requires.room) (search rules)

pub returns-in-Err-Breach-clause-value : goal.returns-in-Err-Breach-clause-value
returns-in-Err-Breach-clause-value g c = exact_short c.args.text.now c.args.short c.args.other (length c.args.room.now) (rw c.in-Err-Breach.field-0-is at c.in-Err-Breach.ensures.pulled).1 c.requires.room
