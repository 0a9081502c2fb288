use Rattle.std.proofs.Common.{subst, sym}
use Rattle.std.proofs.lemmas.Result.{IfOk-weaker}
use Rattle.answer_fixtures.specs.Telling.{IsKeyOf}
use Rattle.answer_fixtures.proofs.Alike.{one_key}
use Rattle.answer_fixtures.proofs.keys.equals_named.Goals as goal

pub returns : goal.returns
returns c =
    IfOk-weaker c.equals_copy.result _ _ (λ b same. (
      (λ h. subst (IsKeyOf c.args.asked) (sym (same.0 h)) c.in_ok-other.ensures.told),
      (λ named. same.1 (one_key c.keys_in_order.ensures.apart c.args.asked c.args.key.now c.in_ok-other.other named c.in_ok-other.ensures.told)),
    )) c.equals_copy.ensures
