use Rattle.std.proofs.Common.{◌<◌, ◌∙◌, [], ◌∷◌, length, map, ap, arith}
use Rattle.std.specs.Arc.{arc_value}
use Rattle.std.proofs.lemmas.List.{map-append}
use Rattle.sessions.specs.Sessions.{entry_at}
use Rattle.audit_replay.proofs.InputRules.{bytes_at_place, texts_more}
use Rattle.audit_replay.proofs.sum.files.texts_of.Goals as goal

pub text_of-requires : goal.text_of-requires
text_of-requires c =
    let lt : c.loop-name.name-index < length c.args.names.now = omega arith in
    bytes_at_place (entry_at c.args.session.now) c.args.names.now c.requires c.loop-name.name-index c.name-item.result lt c.name-item.is

pub loop-name-preserved : goal.loop-name-preserved
loop-name-preserved c =
    let lt : c.loop-name.name-index < length c.args.names.now = omega arith in
    let more = texts_more (entry_at c.args.session.now) c.args.names.now (map arc_value c.loop-name.texts.items) c.loop-name.name-index c.name-item.result _ lt c.name-item.is c.loop-name.invariant c.in_ok-text_of.ensures in
    rw (ap (map arc_value) c.in_ok-push.ensures.items ∙ map-append arc_value c.loop-name.texts.items (_ ∷ [])) more
