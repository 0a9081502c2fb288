use Rattle.session_cache.proofs.Wholes.{all_read}
use Rattle.session_cache.proofs.whole.read_opened.Goals as goal

pub returns-in-Ok : goal.returns-in-Ok
returns-in-Ok g c = all_read g.F.Read.remaining c.args.file c.new-bytes.result.items _ c.new-bytes.ensures.items c.in-Ok.ensures.bytes
