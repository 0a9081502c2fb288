use Rattle.std.proofs.Common.{◌∙◌, Some, map, ap, sym}
use Rattle.std.specs.Prelude.{◌==◌, find}
use Rattle.std.specs.List.{list_any}
use Rattle.std.specs.Option.{option_copied}
use Rattle.item_ids.specs.Kinds.{number_of}
use Rattle.item_ids.specs.Keys.{kind_of}
use Rattle.sessions.specs.Sessions.{entry_of, key_at}
use Rattle.session_text.specs.Causes.{is_red}
use Rattle.session_text.proofs.CauseRules.{any_kind, mark_is, run_is}
use Rattle.session_text.proofs.causes.reasons.cause_beside.Goals as goal

pub returns-in-Executed : goal.returns-in-Executed
returns-in-Executed c =
    let past = c.args.past.now in
    let session = c.args.session.now in
    let key = c.args.key.now in
    let crossing = c.args.crossing.now in
    let mark = mark_is session key (entry_of session.records c.args.item.now) c.requires ∙ ap (λ m. Some m) (sym c.in-Executed.ensures) in
    let first = sym (c.first_red.ensures ∙ ap (λ es. find (is_red (Some past) session) (map (key_at past.records) es)) c.edges.ensures) in
    let kind = sym (c.is_among.ensures ∙ (ap (λ k. list_any (λ x. number_of x == number_of k) crossing) c.kind.ensures ∙ any_kind crossing (kind_of key))) in
    run_is (Some past) session crossing key (entry_of past.records c.in-Some.had.now) (option_copied c.first_red.result) c.is_among.result mark c.in-Some.ensures.found first kind c.run_cause.result c.run_cause.ensures
