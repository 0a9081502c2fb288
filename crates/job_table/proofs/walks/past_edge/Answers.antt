use Rattle.std.proofs.Common.{sym, ap, ◌∙◌, true≢false}
use Rattle.std.specs.Arc.{arc_value}
use Rattle.fingerprint.specs.Prints.{print_of}
use Rattle.graph_rules.specs.Steps.{Unchanged, Changed}
use Rattle.key_states.specs.Nodes.{status_at}
use Rattle.job_table.proofs.WalkRules.{edge_with, edge_same, edge_other}
use Rattle.job_table.proofs.walks.past_edge.Goals as goal

pub returns-then-same_print : goal.returns-then-same_print
returns-then-same_print c =
    let r = c.index-records-at.result in
    let is = rw c.records.ensures.value at c.index-records-at.is in
    let done = rw c.key.ensures at c.in-Some.ensures.some in
    let here = ap print_of (c.deref.ensures ∙ c.sealed.ensures) in
    let there = ap print_of c.deref-2.ensures in
    let status = status_at c.args.inputs.now c.args.nodes.now in
    edge_with c.args.past.now c.records.ensures.session c.args.at r c.requires.place is status Unchanged
    (edge_same (print_of r.value) (arc_value c.in-Some.sealed.now) (status r.key) done (sym here ∙ (c.same_print.ensures.0 c.if-same_print.true ∙ there)))

pub returns-else-same_print : goal.returns-else-same_print
returns-else-same_print c =
    let r = c.index-records-at.result in
    let is = rw c.records.ensures.value at c.index-records-at.is in
    let done = rw c.key.ensures at c.in-Some.ensures.some in
    let here = ap print_of (c.deref.ensures ∙ c.sealed.ensures) in
    let there = ap print_of c.deref-2.ensures in
    let status = status_at c.args.inputs.now c.args.nodes.now in
    edge_with c.args.past.now c.records.ensures.session c.args.at r c.requires.place is status Changed
    (edge_other (print_of r.value) (arc_value c.in-Some.sealed.now) (status r.key) done (λ e. true≢false (sym (c.same_print.ensures.1 (here ∙ (e ∙ sym there))) ∙ c.if-same_print.false)))
