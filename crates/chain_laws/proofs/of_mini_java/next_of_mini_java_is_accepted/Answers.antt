use Rattle.query_rules.specs.Queries.{queries}
use Rattle.providers.specs.Laws.{mini_java_laws}
use Rattle.chain_laws.proofs.GoingOn.{next_accepted}
use Rattle.chain_laws.proofs.OwnFiles.{own_files}
use Rattle.chain_laws.proofs.of_mini_java.next_of_mini_java_is_accepted.Goals as goal

pub returns : goal.returns
returns c = λ files old new profile project answer count runs accepted terms p next is_project.
    next_accepted queries files old new profile project answer count runs accepted mini_java_laws terms p next is_project (own_files terms.profile p)
