use Rattle.std.proofs.Common.{refl}
use Rattle.linkable.specs.Telling.{session_told_of}
use Rattle.linkable.proofs.mjrg_check.Goals as goal

pub returns-in-Ok-clause-told : goal.returns-in-Ok-clause-told
returns-in-Ok-clause-told c = λ other. record { telling = session_told_of c.in-Ok.told; tells = c.in-Ok.ensures; handed = c.hand_over_session.ensures.handed }

pub returns-in-Ok-clause-memory : goal.returns-in-Ok-clause-memory
returns-in-Ok-clause-memory c = λ four. absurd (c.hand_over_session.ensures.other four)

pub returns-in-Err-clause-told : goal.returns-in-Err-clause-told
returns-in-Err-clause-told c = λ other. absurd (other c.out_of_memory.ensures.status)

pub returns-in-Err-clause-memory : goal.returns-in-Err-clause-memory
returns-in-Err-clause-memory c = λ four. record {
  session_length = c.out_of_memory.ensures.session_length;
  out_length = c.out_of_memory.ensures.out_length;
  err_length = c.out_of_memory.ensures.err_length;
  untouched = refl;
}
