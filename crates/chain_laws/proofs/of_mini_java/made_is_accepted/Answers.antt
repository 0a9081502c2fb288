use Rattle.std.proofs.Common.{None}
use Rattle.query_rules.specs.Queries.{queries}
use Rattle.providers.specs.Laws.{mini_java_laws}
use Rattle.audit_replay.specs.Audits.{last_of}
use Rattle.chain_laws.proofs.GoingOn.{behind_accepted, last_session, next_accepted}
use Rattle.chain_laws.proofs.OwnFiles.{own_files}
use Rattle.chain_laws.proofs.of_mini_java.made_is_accepted.Goals as goal

pub returns : goal.returns
returns c = λ files old new profile project answer count runs accepted terms p is_project workers made reports session gives apart.
    let past = last_of None accepted.sessions in
    let past_is = last_session queries None accepted.sessions tt accepted.passed.each in
    let stands = behind_accepted queries files old new profile project answer count runs accepted made apart in
    let is = c.sessions_are_next.ensures.made queries mini_java_laws terms past p gives.2.history made is_project past_is session gives.2.events stands in
    next_accepted queries files old new profile project answer count runs accepted mini_java_laws terms p made is_project (own_files terms.profile p) is apart
