use Rattle.std.proofs.Common.{arith}
use Rattle.session_file.proofs.ThreadLaws.{file_found, file_taken, file_only}
use Rattle.session_file.proofs.reading.by_threads.read_after_by.Goals as goal

pub returns-clause-found : goal.returns-clause-found
returns-clause-found g c = file_found _ c.args.bytes.now c.check_past.ensures (λ i. omega (arith, c.type_inv.bytes i)) c.read_by_two.result c.read_by_two.ensures

pub returns-clause-taken : goal.returns-clause-taken
returns-clause-taken g c = file_taken _ c.args.bytes.now c.check_past.ensures (λ i. omega (arith, c.type_inv.bytes i)) c.read_by_two.result c.read_by_two.ensures

pub returns-clause-only : goal.returns-clause-only
returns-clause-only g c = file_only _ c.args.bytes.now c.check_past.ensures (λ i. omega (arith, c.type_inv.bytes i)) c.read_by_two.result c.read_by_two.ensures
