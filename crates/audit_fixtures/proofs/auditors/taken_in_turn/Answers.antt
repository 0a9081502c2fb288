use Rattle.std.proofs.Common.{List, ℕ, map}
use Rattle.std.specs.Borrow.{Bor}
use Rattle.audit_fixtures.proofs.Saying.{said_of_all}
use Rattle.audit_fixtures.proofs.auditors.taken_in_turn.Goals as goal

pub returns : goal.returns
returns c =
    said_of_all (map (λ (f : Bor (List ℕ)). f.now) c.args.files.now) c.args.runner.now.log.items c.taken.new.runner.log.items c.in_ok-auditor.auditor.state c.in_ok-auditor.ensures
    c.end.result c.end.ensures.gives c.told.result c.told.ensures
