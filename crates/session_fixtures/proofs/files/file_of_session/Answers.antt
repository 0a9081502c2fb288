use Rattle.std.proofs.Common.{[]}
use Rattle.session_fixtures.proofs.files.file_of_session.Goals as goal

pub returns-in-Ok : goal.returns-in-Ok
returns-in-Ok c = c.in-Ok.ensures.holds [] c.new-sink.ensures.bytes
