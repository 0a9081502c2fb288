use Rattle.std.proofs.Common.{map, ap, ◌∙◌}
use Rattle.job_table.specs.Kept.{event_of}
use Rattle.job_table.proofs.EventRules.{events_last}
use Rattle.job_table.proofs.room.note.Goals as goal

pub returns-clause-events : goal.returns-clause-events
returns-clause-events g c = ap (map event_of) c.push_reserved.ensures.items ∙ events_last c.args.history.now.items c.args.event
