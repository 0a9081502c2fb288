use Rattle.std.proofs.lemmas.Result.{IfOk-weaker}
use Rattle.answer_fixtures.proofs.Alike.{named_alike}
use Rattle.answer_fixtures.proofs.keys.is_copy.Goals as goal

pub returns : goal.returns
returns c =
    let alike = named_alike c.args.asked c.args.other c.in_ok-key.key c.in_ok-key.ensures.told in
    IfOk-weaker c.equals_named.result _ _ (λ b named. ((λ h. alike.0 (named.0 h)), (λ same. named.1 (alike.1 same)))) c.equals_named.ensures
