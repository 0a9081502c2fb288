use Rattle.std.proofs.lemmas.Option.{none-some}
use Rattle.commands.proofs.laws.first_stands_apart.Goals as goal

pub returns : goal.returns
returns c s = record { past_is = tt; apart = λ v w a b same. absurd (none-some a.entry a.has) }
