use Rattle.std.proofs.Common.{map, take}
use Rattle.std.specs.Arc.{arc_value}
use Rattle.sessions.specs.Sessions.{entry_at}
use Rattle.audit_replay.specs.Sums.{AreTexts}
use Rattle.audit_replay.proofs.sum.files.texts_of.Given as goal

abbrev pub invariant-loop-name : goal.invariant-loop-name
invariant-loop-name l = AreTexts (entry_at l.session) (take l.name-index l.names) (map arc_value l.texts.items)
