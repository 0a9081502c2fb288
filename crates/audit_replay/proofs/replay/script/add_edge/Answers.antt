use Rattle.std.proofs.Common.{◌≡◌, ◌∷◌, ◌++◌, [], ◌∙◌}
use Rattle.std.specs.Arc.{arc_value}
use Rattle.audit_replay.specs.Reruns.{AddsEdge}
use Rattle.audit_replay.proofs.ScriptRules.{adds_edge, ok_implies}
use Rattle.audit_replay.proofs.replay.script.add_edge.Goals as goal

pub returns : goal.returns
returns c =
    ok_implies (c.add.new.self ≡ c.args.script.now ++ record { key = c.in_ok-copy.field-0; value = arc_value c.in_ok-try_clone.field-0 } ∷ [])
    (AddsEdge c.args.session.now c.args.edge c.args.script.now c.add.new.self) c.add.result
    (λ added. adds_edge c.args.session.now c.records.ensures.session c.args.edge c.requires c.records.result.now c.records.ensures.value c.index-records-edge.result c.index-records-edge.is
    c.args.script.now c.add.new.self c.in_ok-copy.field-0 (arc_value c.in_ok-try_clone.field-0) (c.in_ok-copy.ensures ∙ c.key.ensures) (c.in_ok-try_clone.ensures ∙ c.sealed.ensures) added)
    c.add.ensures.ok
