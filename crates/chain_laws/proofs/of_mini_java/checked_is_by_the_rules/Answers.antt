use Rattle.query_rules.specs.Queries.{queries}
use Rattle.chain_laws.proofs.GoingOn.{behind_accepted}
use Rattle.chain_laws.proofs.of_mini_java.checked_is_by_the_rules.Goals as goal

pub returns : goal.returns
returns c = λ files old new profile project answer count runs accepted terms p made over apart.
    over.by_rules (behind_accepted queries files old new profile project answer count runs accepted made apart)
