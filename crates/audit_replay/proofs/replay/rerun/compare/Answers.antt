use Rattle.std.proofs.Common.{◌≡◌, ◌<◌, ◌≤◌, List, sym, ap, ◌∙◌, length, arith, true, false}
use Rattle.std.proofs.lemmas.List.{length-map}
use Rattle.recorder.specs.Backed.{ReadValue}
use Rattle.sessions.specs.Sessions.{Entry, entry_at, entry_of, key_at}
use Rattle.graph_rules.specs.Pasts.{Past}
use Rattle.audit_replay.proofs.CompareRules.{backed_in, told_held, other_in, begins_in, reads_other, leaves_edges, other_result, follows}
use Rattle.audit_replay.proofs.replay.rerun.compare.Goals as goal

pub returns-in-Some : goal.returns-in-Some
returns-in-Some g c =
    let s = c.args.session.now in
    let now : Past = entry_at s in
    let r : Entry = entry_of s.records c.args.item.now in
    let told : List ReadValue = c.args.recorder.now.told in
    let held = told_held now c.args.recorder.now.inner told c.requires.script.held c.reads-reads.ensures.keeps.answers in
    let b = backed_in g.R.Runner.queries c.args.outcome.now s.terms.profile r.key told c.requires.profile c.requires.key c.requires.told c.sealed-sealed.ensures.outcome in
    reads_other (g.R.Runner.queries.mean s.terms.profile) (g.R.Runner.queries.reads s.terms.profile) now r told held c.in-Some.i
    (other_in told c.reads-reads.result.now c.args.item.now.edges c.edges.result.now s.records c.in-Some.i c.reads-reads.ensures.value c.edges.ensures c.in-Some.ensures)
    b.asked

pub returns-then-reads-edges : goal.returns-then-reads-edges
returns-then-reads-edges g c =
    let s = c.args.session.now in
    let now : Past = entry_at s in
    let r : Entry = entry_of s.records c.args.item.now in
    let told : List ReadValue = c.args.recorder.now.told in
    let held = told_held now c.args.recorder.now.inner told c.requires.script.held c.reads-reads.ensures.keeps.answers in
    let b = backed_in g.R.Runner.queries c.args.outcome.now s.terms.profile r.key told c.requires.profile c.requires.key c.requires.told c.sealed-sealed.ensures.outcome in
    let few : length told < length r.reads = omega (arith, c.if-reads-edges.true, ap length c.reads-reads.ensures.value, ap length c.edges-2.ensures, length-map c.args.item.now.edges (key_at s.records)) in
    leaves_edges (g.R.Runner.queries.mean s.terms.profile) (g.R.Runner.queries.reads s.terms.profile) now r told held
    (begins_in told c.reads-reads.result.now c.args.item.now.edges c.edges.result.now s.records c.reads-reads.ensures.value c.edges.ensures c.in_default.ensures)
    few c.args.outcome.now.value b

pub returns-then-not-same_result : goal.returns-then-not-same_result
returns-then-not-same_result g c =
    let s = c.args.session.now in
    let now : Past = entry_at s in
    let r : Entry = entry_of s.records c.args.item.now in
    let told : List ReadValue = c.args.recorder.now.told in
    let held = told_held now c.args.recorder.now.inner told c.requires.script.held c.reads-reads.ensures.keeps.answers in
    let b = backed_in g.R.Runner.queries c.args.outcome.now s.terms.profile r.key told c.requires.profile c.requires.key c.requires.told c.sealed-sealed.ensures.outcome in
    let many : length r.reads ≤ length told = omega (arith, c.if-reads-edges.false, ap length c.reads-reads.ensures.value, ap length c.edges-2.ensures, length-map c.args.item.now.edges (key_at s.records)) in
    other_result (g.R.Runner.queries.mean s.terms.profile) (g.R.Runner.queries.reads s.terms.profile) now r told held
    (begins_in told c.reads-reads.result.now c.args.item.now.edges c.edges.result.now s.records c.reads-reads.ensures.value c.edges.ensures c.in_default.ensures)
    many c.args.outcome.now.value b
    (λ same. absurd (let t : false ≡ true = sym c.if-not-same_result.true ∙ c.same_result.ensures.1
    (c.deref.ensures ∙ (c.sealed-sealed.ensures.value ∙ (same ∙ sym (c.deref-2.ensures ∙ c.sealed.ensures)))) in cc))

pub returns : goal.returns
returns g c =
    let s = c.args.session.now in
    let now : Past = entry_at s in
    let r : Entry = entry_of s.records c.args.item.now in
    let told : List ReadValue = c.args.recorder.now.told in
    let held = told_held now c.args.recorder.now.inner told c.requires.script.held c.reads-reads.ensures.keeps.answers in
    let b = backed_in g.R.Runner.queries c.args.outcome.now s.terms.profile r.key told c.requires.profile c.requires.key c.requires.told c.sealed-sealed.ensures.outcome in
    let many : length r.reads ≤ length told = omega (arith, c.if-reads-edges.false, ap length c.reads-reads.ensures.value, ap length c.edges-2.ensures, length-map c.args.item.now.edges (key_at s.records)) in
    follows (g.R.Runner.queries.mean s.terms.profile) (g.R.Runner.queries.reads s.terms.profile) now r told held
    (begins_in told c.reads-reads.result.now c.args.item.now.edges c.edges.result.now s.records c.reads-reads.ensures.value c.edges.ensures c.in_default.ensures)
    many c.args.outcome.now.value b
    (sym (c.deref.ensures ∙ c.sealed-sealed.ensures.value) ∙ (c.same_result.ensures.0 c.if-not-same_result.false ∙ (c.deref-2.ensures ∙ c.sealed.ensures)))
