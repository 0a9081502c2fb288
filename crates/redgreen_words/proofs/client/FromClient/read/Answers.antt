use Rattle.redgreen_words.specs.Words.{client_takes}
use Rattle.redgreen_words.specs.Messages.{client_parts}
use Rattle.redgreen_words.proofs.Steps.{reads_back, client_laws}
use Rattle.redgreen_words.proofs.client.FromClient.read.Goals as goal

pub returns-clause-again : goal.returns-clause-again
returns-clause-again g c = λ message rest fits has. reads_back (g.F.Feed.holds c.args.feed.now) (g.F.Feed.holds c.read_whole.new.feed) client_parts client_takes client_laws c.read_whole.result c.read_whole.ensures.value message rest fits has
