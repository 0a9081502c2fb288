use Rattle.std.proofs.Common.{◌∙◌, sym, ap}
use Rattle.fingerprint.specs.Prints.{print_of}
use Rattle.audit_graph.proofs.GreenRules.{across_profiles, other_edges, same_edges, other_print, stands_there}
use Rattle.audit_graph.proofs.greens.find_lack.Goals as goal

pub returns-then-crosses : goal.returns-then-crosses
returns-then-crosses g c =
    let key = c.key.ensures in
    across_profiles g.R.Runner.queries.by_profile c.args.past.now c.args.session.now c.find.ensures.session c.args.item.now c.in-Some.at c.in-Some.ensures.within
    (rw key at c.in-Some.ensures.found) (sym (rw (c.kind.ensures, c.key-2.ensures) at c.crosses.ensures) ∙ c.if-crosses.true)

pub returns-then-not-are_same : goal.returns-then-not-are_same
returns-then-not-are_same g c =
    let key = c.key.ensures in
    other_edges g.R.Runner.queries.by_profile c.args.past.now c.args.session.now c.find.ensures.session c.args.item.now c.in-Some.at c.in-Some.ensures.within
    (rw key at c.in-Some.ensures.found) (sym (rw (c.kind.ensures, c.key-2.ensures) at c.crosses.ensures) ∙ c.if-crosses.false) c.edges-old.result.now
    c.edges-old.ensures.edges (rw c.edges.ensures at c.if-not-are_same.ensures.same)

pub returns-in-Some-first_red : goal.returns-in-Some-first_red
returns-in-Some-first_red g c =
    let key = c.key.ensures in (
      same_edges g.R.Runner.queries.by_profile c.args.past.now c.args.session.now c.find.ensures.session c.args.item.now c.in-Some.at c.in-Some.ensures.within
          (rw key at c.in-Some.ensures.found) (sym (rw (c.kind.ensures, c.key-2.ensures) at c.crosses.ensures) ∙ c.if-crosses.false) c.edges-old.result.now
          c.edges-old.ensures.edges (rw c.edges.ensures at c.if-not-are_same.ensures.same),
      rw c.edges-2.ensures at (c.in-Some-first_red.ensures (rw c.edges-2.ensures (rw c.edges.ensures at c.if-not-are_same.ensures.same))),
    )

pub returns-then-not-same_print : goal.returns-then-not-same_print
returns-then-not-same_print g c =
    let key = c.key.ensures in (
      same_edges g.R.Runner.queries.by_profile c.args.past.now c.args.session.now c.find.ensures.session c.args.item.now c.in-Some.at c.in-Some.ensures.within
          (rw key at c.in-Some.ensures.found) (sym (rw (c.kind.ensures, c.key-2.ensures) at c.crosses.ensures) ∙ c.if-crosses.false) c.edges-old.result.now
          c.edges-old.ensures.edges (rw c.edges.ensures at c.if-not-are_same.ensures.same),
      rw c.edges-2.ensures at (c.in_default-first_red.ensures (rw c.edges-2.ensures (rw c.edges.ensures at c.if-not-are_same.ensures.same))),
      other_print g.R.Runner.queries.by_profile c.args.past.now c.args.session.now c.find.ensures.session c.args.item.now c.in-Some.at c.in-Some.ensures.within
          (rw key at c.in-Some.ensures.found) (sym (rw (c.kind.ensures, c.key-2.ensures) at c.crosses.ensures) ∙ c.if-crosses.false) c.edges-old.result.now
          c.edges-old.ensures.edges c.print.result.0 c.print-2.result.0 c.print.ensures
          (c.print-2.ensures ∙ ap print_of (c.deref.ensures ∙ c.sealed.ensures)) c.if-not-same_print.ensures,
    )

pub returns : goal.returns
returns g c =
    let key = c.key.ensures in
    stands_there g.R.Runner.queries.by_profile c.args.past.now c.args.session.now c.find.ensures.session c.args.item.now c.in-Some.at c.in-Some.ensures.within
    (rw key at c.in-Some.ensures.found) (sym (rw (c.kind.ensures, c.key-2.ensures) at c.crosses.ensures) ∙ c.if-crosses.false) c.edges-old.result.now
    c.edges-old.ensures.edges c.print.result.0 c.print-2.result.0 c.print.ensures
    (c.print-2.ensures ∙ ap print_of (c.deref.ensures ∙ c.sealed.ensures)) (rw c.edges.ensures at c.if-not-are_same.ensures.same)
    (rw c.edges-2.ensures at (c.in_default-first_red.ensures (rw c.edges-2.ensures (rw c.edges.ensures at c.if-not-are_same.ensures.same)))) c.if-not-same_print.ensures
