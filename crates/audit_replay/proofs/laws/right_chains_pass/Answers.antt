use Rattle.std.proofs.Common.{map, refl}
use Rattle.sessions.specs.Spelling.{file_of}
use Rattle.audit_replay.proofs.RightRules.{refused}
use Rattle.audit_replay.proofs.laws.right_chains_pass.Goals as goal

pub returns : goal.returns
returns c queries sessions chain old new fault r = refused queries sessions chain (map file_of sessions) refl old new fault r
