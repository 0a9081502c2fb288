use Rattle.std.proofs.lemmas.Result.{IfOk-weaker}
use Rattle.key_states.proofs.ReachRules.{roots_added}
use Rattle.key_states.proofs.reaching.first_keys.Goals as goal

pub returns : goal.returns
returns c = IfOk-weaker c.set_of.result _ _ (λ set adds. roots_added _ _ _ c.in_ok-roots.ensures (rw c.own-first.ensures at adds)) c.set_of.ensures
