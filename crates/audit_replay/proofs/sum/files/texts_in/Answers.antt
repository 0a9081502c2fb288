use Rattle.std.proofs.Common.{map}
use Rattle.std.specs.Arc.{arc_value}
use Rattle.sessions.specs.Sessions.{entry_at}
use Rattle.audit_replay.proofs.InputRules.{named_bytes, all_texts, no_names}
use Rattle.audit_replay.proofs.sum.files.texts_in.Goals as goal

pub texts_of-requires : goal.texts_of-requires
texts_of-requires c = named_bytes (entry_at c.args.session.now) c.in-Some.names.now c.in-Some.ensures.held c.requires

pub returns-in_ok-texts_of-in-Some : goal.returns-in_ok-texts_of-in-Some
returns-in_ok-texts_of-in-Some c = all_texts (entry_at c.args.session.now) c.in-Some.names.now c.in-Some.ensures.held (map arc_value c.in_ok-texts_of-in-Some.field-0.items) c.in_ok-texts_of-in-Some.ensures

pub returns-in-None : goal.returns-in-None
returns-in-None c = λ names h. absurd (no_names (entry_at c.args.session.now) names c.in-None.ensures.held h)
