use Rattle.std.proofs.Common.{subst}
use Rattle.table_fixtures.specs.Called.{CallSays}
use Rattle.table_fixtures.proofs.calls.says_of.Goals as goal

pub returns : goal.returns
returns c =
    let saying = c.args.saying.now in
    let key = c.args.key.now in
    let old = c.args.table.now in
    let new = c.answer_to.new.table in
    λ so. record {
      key = key;
      of_key = c.requires;
      says = subst (λ said. CallSays saying.call saying.worker key said old new) (c.is_so.ensures.said so) c.in_ok-said.ensures;
      events = c.is_so.ensures.events so;
    }
