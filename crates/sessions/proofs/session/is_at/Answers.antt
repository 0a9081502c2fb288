use Rattle.std.proofs.Common.{◌∙◌, ap, sym}
use Rattle.sessions.specs.Sessions.{RecordValue}
use Rattle.item_ids.proofs.Apart.{test_same}
use Rattle.sessions.proofs.session.is_at.Goals as goal

pub returns-in-Some-clause-found : goal.returns-in-Some-clause-found
returns-in-Some-clause-found c = λ yes d.
    ap (λ (r : RecordValue). r.key) (sym (c.in-Some.ensures.lookup.3.1 d))
    ∙ (sym c.key.ensures ∙ test_same c.key.result.now c.args.key.now (sym c.eq.ensures ∙ yes))
