use Rattle.std.proofs.Common.{refl}
use Rattle.file_index.proofs.Readings.{cut_call, uncut_call}
use Rattle.file_index.proofs.reading.read_over.Goals as goal

pub returns-in-Ok : goal.returns-in-Ok
returns-in-Ok c = cut_call c.args.bytes.now c.in-Ok.tokens _ c.read_tokens.result c.in-Ok.ensures.tokens refl c.read_tokens.ensures.tokens c.read_tokens.ensures.tree c.read_tokens.ensures.stop

pub returns-in-Err : goal.returns-in-Err
returns-in-Err c = uncut_call c.args.bytes.now c.in-Err.fault c.without_tokens.result (λ other. c.in-Err.ensures.refusal other) c.without_tokens.ensures.tokens c.without_tokens.ensures.tree c.without_tokens.ensures.stop c.without_tokens.ensures.memory
