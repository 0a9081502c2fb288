use Rattle.query_rules.specs.Queries.{queries}
use Rattle.audit_replay.proofs.SessionFiles.{file_again}
use Rattle.chain_laws.proofs.Made.{made_taken}
use Rattle.chain_laws.proofs.of_mini_java.made_is_read_back.Goals as goal

pub returns : goal.returns
returns c = λ terms past p made over.
    let taken = made_taken queries terms past p over.history made over.session over.events in
    (taken, file_again past made over.session taken)
