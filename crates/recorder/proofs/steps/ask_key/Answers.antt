use Rattle.std.specs.Arc.{arc_value}
use Rattle.recorder.proofs.StepRules.{ask_answered, ask_refused}
use Rattle.recorder.proofs.steps.ask_key.Goals as goal

pub returns-in-Ok-clause-ok : goal.returns-in-Ok-clause-ok
returns-in-Ok-clause-ok g c = record { goes = λ prog k s. ask_answered prog c.args.key.now k (arc_value c.in-Ok.sealed) c.args.recorder.now c.read.new.self c.in-Ok.ensures.ok s }

pub returns-in-Err-clause-err : goal.returns-in-Err-clause-err
returns-in-Err-clause-err g c = record { halts = λ prog k s. ask_refused prog _ c.args.key.now k c.in-Err.fault c.args.recorder.now c.read.new.self c.in-Err.ensures.err s }
