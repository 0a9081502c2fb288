use Rattle.std.proofs.Common.{sym, ◌∙◌, arith}
use Rattle.session_file.proofs.ThreadLaws.{body_front, file_ended, file_breaks_so, unless_is}
use Rattle.session_file.proofs.reading.by_threads.read_by_two.Goals as goal

pub end_of-requires-clause-body : goal.end_of-requires-clause-body
end_of-requires-clause-body g c = body_front _ c.args.bytes.now c.requires.past (λ i. omega (arith, c.type_inv.bytes i)) c.in-Ok.session c.in-Ok.left (rw c.in-Ok.is at c.join-read.ensures.second)

pub returns-in-Ok : goal.returns-in-Ok
returns-in-Ok g c = unless_is c.end_of.result _ (c.end_of.ensures ∙ sym (file_ended _ c.args.bytes.now c.requires.past (λ i. omega (arith, c.type_inv.bytes i)) c.in-Ok.session c.in-Ok.left (rw c.in-Ok.is at c.join-read.ensures.second)))

pub returns-in-Err : goal.returns-in-Err
returns-in-Err g c = file_breaks_so _ c.args.bytes.now c.requires.past (λ i. omega (arith, c.type_inv.bytes i)) c.in-Err.fault (rw c.in-Err.is at c.join-read.ensures.second)
