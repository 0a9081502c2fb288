use Rattle.std.proofs.Common.{true, false}
use Rattle.program_run.proofs.Crossing.{crossing_now}
use Rattle.program_run.proofs.subcommands.last.crossing_kinds.Goals as goal

pub returns-then-is : goal.returns-then-is
returns-then-is c = rw c.in-Some.is (crossing_now c.in-Some.past.now c.args.session.now true (rw (c.terms-before.ensures, c.terms-now.ensures) at c.if-is.ensures))

pub returns : goal.returns
returns c = rw c.in-Some.is (crossing_now c.in-Some.past.now c.args.session.now false (rw (c.terms-before.ensures, c.terms-now.ensures) at c.if-is.ensures))
