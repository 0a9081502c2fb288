use Rattle.std.proofs.Common.{◌∙◌, inr, get_or, ap, sym}
use Rattle.std.specs.Prelude.{is_some}
use Rattle.sessions.proofs.EntryRules.{entry_here}
use Rattle.session_text.proofs.causes.texts.causes_text.Goals as goal

pub trail_of-requires : goal.trail_of-requires
trail_of-requires c =
    let item = c.index-records-index.result in
    let is = c.index-records-index.is ∙ ap (λ rs. get_or rs c.args.index item) c.records.ensures.value in
    inr (ap (λ o. is_some o) (entry_here c.args.session.now c.records.ensures.session c.key-key.result.now c.args.index item c.requires is (sym c.key-key.ensures)))
