use Rattle.std.proofs.lemmas.Result.{IfOk-weaker}
use Rattle.answer_fixtures.proofs.keys.is_less.Goals as goal

pub returns : goal.returns
returns c =
    IfOk-weaker c.is_less_than.result _ _ (λ b order. record {
      first = c.in_ok-key.key;
      second = order.0;
      of_first = c.in_ok-key.ensures.told;
      of_second = order.1;
      told = order.2;
    }) c.is_less_than.ensures
