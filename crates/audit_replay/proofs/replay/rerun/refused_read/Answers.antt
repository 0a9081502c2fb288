use Rattle.std.proofs.Common.{◌≡◌, ◌<◌, List, sym, Some, length, subst}
use Rattle.item_ids.specs.Inputs.{rank}
use Rattle.recorder.specs.Backed.{ReadValue, IsNext}
use Rattle.recorder.specs.Recording.{key_of}
use Rattle.sessions.specs.Sessions.{Entry, entry_at, entry_of}
use Rattle.graph_rules.specs.Pasts.{Past}
use Rattle.audit_replay.specs.Reruns.{ReadsOther}
use Rattle.audit_replay.proofs.CompareRules.{told_held, other_in, begins_in, reads_other, reads_more, refused_unread, at_some}
use Rattle.audit_replay.proofs.replay.rerun.refused_read.Goals as goal

pub returns-in-Some-first_other : goal.returns-in-Some-first_other
returns-in-Some-first_other g c =
    let s = c.args.session.now in
    let now : Past = entry_at s in
    let r : Entry = entry_of s.records c.args.item.now in
    let told : List ReadValue = c.args.recorder.now.told in
    let held = told_held now c.args.recorder.now.inner told c.requires.script.held c.reads-reads.ensures.keeps.answers in
    reads_other (g.R.Runner.queries.mean s.terms.profile) (g.R.Runner.queries.reads s.terms.profile) now r told held c.in-Some-first_other.i
    (other_in told c.reads-reads.result.now c.args.item.now.edges c.edges.result.now s.records c.in-Some-first_other.i c.reads-reads.ensures.value c.edges.ensures c.in-Some-first_other.ensures)
    c.requires.asked

pub returns-in-None : goal.returns-in-None
returns-in-None g c =
    let s = c.args.session.now in
    let now : Past = entry_at s in
    let r : Entry = entry_of s.records c.args.item.now in
    let rec = c.args.recorder.now in
    let told : List ReadValue = c.args.recorder.now.told in
    let held = told_held now c.args.recorder.now.inner told c.requires.script.held c.reads-reads.ensures.keeps.answers in
    let k = c.in-Some._key.now in
    let e : key_of rec ≡ Some k = sym c.in-Some.ensures in
    let next = at_some (λ q. (rank q < rank c.args.item.now.key) × IsNext (g.R.Runner.queries.mean s.terms.profile) (g.R.Runner.queries.reads s.terms.profile) c.args.item.now.key told q) (key_of rec) k e c.requires.next in
    subst (λ (xs : List ReadValue). ReadsOther (g.R.Runner.queries.mean s.terms.profile) (g.R.Runner.queries.reads s.terms.profile) now r (length xs)) (sym c.reads-reads.ensures.value)
    (reads_more (g.R.Runner.queries.mean s.terms.profile) (g.R.Runner.queries.reads s.terms.profile) now r told held
    (begins_in told c.reads-reads.result.now c.args.item.now.edges c.edges.result.now s.records c.reads-reads.ensures.value c.edges.ensures c.in-None.ensures)
    c.args.recorder.now.inner c.requires.script.edges k
    (refused_unread c.args.recorder.now.inner rec.refused k e c.reads-reads.ensures.keeps.refusal) next.1)
