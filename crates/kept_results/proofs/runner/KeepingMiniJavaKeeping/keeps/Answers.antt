use Rattle.std.proofs.Common.{◌∙◌}
use Rattle.kept_results.proofs.Knowing.{known_keeps}
use Rattle.kept_results.proofs.runner.KeepingMiniJavaKeeping.keeps.Goals as goal

pub returns : goal.returns
returns c = λ read old new tells. c.keeps_by.ensures ∙ known_keeps c.args.change.now c.args.key.now c.args.value.now read old new tells
