use Rattle.std.proofs.lemmas.Result.{IfOk-weaker}
use Rattle.session_cache.proofs.whole.read_whole.Goals as goal

pub returns-in-Ok : goal.returns-in-Ok
returns-in-Ok g c = IfOk-weaker c.read_opened.result _ _ (λ bytes whole. record { opened = c.in-Ok.file; whole = whole }) c.read_opened.ensures
