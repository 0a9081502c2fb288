use Rattle.std.proofs.Common.{◌∙◌}
use Rattle.item_ids.specs.declared.key.Key.TheVariants.{Files}
use Rattle.sessions.specs.Sessions.{entry_of}
use Rattle.sessions.proofs.EntryRules.{has_kind}
use Rattle.audit_graph.proofs.PlaceRules.{is_files}
use Rattle.audit_graph.proofs.sources.file_names.Goals as goal

pub unreachable-requires : goal.unreachable-requires
unreachable-requires c =
    let item = c.in-Some.item.now in
    let kind = has_kind c.args.session.now c.records-records.ensures.session Files (entry_of c.args.session.now.records item) c.in-Some.ensures.found in
    let files = is_files item.value kind in
    c.in_default-value.not-Files files.0 (c.value.ensures.value ∙ (c.deref.ensures ∙ (c.sealed.ensures ∙ files.1)))
