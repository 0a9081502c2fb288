use Rattle.redgreen_words.specs.Words.{engine_takes}
use Rattle.redgreen_words.specs.Messages.{engine_parts}
use Rattle.redgreen_words.proofs.Steps.{reads_back, engine_laws}
use Rattle.redgreen_words.proofs.engine.FromEngine.read.Goals as goal

pub returns-clause-again : goal.returns-clause-again
returns-clause-again g c = λ message rest fits has. reads_back (g.F.Feed.holds c.args.feed.now) (g.F.Feed.holds c.read_whole.new.feed) engine_parts engine_takes engine_laws c.read_whole.result c.read_whole.ensures.value message rest fits has
