use Rattle.std.proofs.Common.{length, refl, sym, ap, ◌∙◌}
use Rattle.std.proofs.lemmas.List.{length-map}
use Rattle.std.specs.Prelude.{vec_len}
use Rattle.shared_table.specs.Kept.{event_of}
use Rattle.driver.specs.declared.reports.Reports.{Reports}
use Rattle.driver.proofs.SessionRules.{session_of}
use Rattle.driver.proofs.session.session_of.Goals as goal

pub returns : goal.returns
returns g c =
    let reports : Reports = record { events = c.args.events; history = length c.history-history.result.now } in
    session_of g.R.Runner.queries c.args.table.now (vec_len c.args.events) c.in_ok-close.field-0 reports
    c.laws.ensures.legal c.laws.ensures.backed c.laws.ensures.crossing c.in_ok-close.ensures.may_close c.in_ok-close.ensures.closing
    (sym (length-map c.history-history.result.now event_of) ∙ ap length c.history-history.ensures)
    refl
    c.requires.counted
