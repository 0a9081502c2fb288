use Rattle.std.proofs.Common.{◌≡◌, replicate, None}
use Rattle.mj_tables.proofs.making.no_tables.Given as goal

abbrev pub invariant-loop : goal.invariant-loop
invariant-loop l = l.tables.items ≡ replicate l.counter None
