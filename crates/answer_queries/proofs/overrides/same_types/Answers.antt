use Rattle.std.proofs.Common.{arith}
use Rattle.std.proofs.lemmas.Bool.Decides.{nat_tests}
use Rattle.answer_queries.proofs.Added.{differ_long}
use Rattle.answer_queries.proofs.overrides.same_types.Goals as goal

pub returns-then-types-others : goal.returns-then-types-others
returns-then-types-others c = differ_long c.args.types.now c.args.others.now (λ e. grind (arith, nat_tests))
