use Rattle.audit_replay.proofs.SessionFiles.{one_session, same_sessions}
use Rattle.audit_replay.proofs.laws.files_tell_their_sessions.Goals as goal

pub returns-clause-one : goal.returns-clause-one
returns-clause-one c = one_session

pub returns-clause-each : goal.returns-clause-each
returns-clause-each c = same_sessions
