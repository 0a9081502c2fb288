use Rattle.mini_java.proofs.Headline.{headline}
use Rattle.mini_java.proofs.laws.accepted_are_the_rules.Goals as goal

pub returns : goal.returns
returns c files old new profile p answer count runs accepted apart =
    (accepted.sources, headline c.answer_laws.ensures files old new profile p answer count runs accepted apart)
