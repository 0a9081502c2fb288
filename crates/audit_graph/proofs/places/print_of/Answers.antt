use Rattle.std.proofs.Common.{◌∙◌, sym, ap, Some}
use Rattle.fingerprint.specs.Prints.{print_of}
use Rattle.graph_rules.proofs.SessionRules.{print_of_place}
use Rattle.audit_graph.proofs.places.print_of.Goals as goal

pub returns : goal.returns
returns c =
    let r = c.index-records-i.result in
    let is = rw c.records.ensures.value at c.index-records-i.is in
    ap Some (c.print.ensures ∙ ap print_of (c.deref.ensures ∙ c.sealed.ensures))
    ∙ sym (print_of_place c.args.session.now c.records.ensures.session c.args.i r c.requires (sym is))
