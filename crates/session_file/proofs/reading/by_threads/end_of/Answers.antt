use Rattle.std.proofs.Common.{List, ℕ, ◌<◌, ◌≡◌, length, sym, ap, subst, ◌∙◌}
use Rattle.std.proofs.lemmas.Bool.{eqb-true}
use Rattle.session_file.specs.Reading.{ended_at}
use Rattle.session_file.proofs.ThreadLaws.{ended_short, ended_whole, ended_more, ended_else, chunk_size, chunk_whole, some_left}
use Rattle.session_file.proofs.reading.by_threads.end_of.Goals.{in-Ok, in-Err}
use Rattle.session_file.proofs.reading.by_threads.end_of.Goals as goal

pub returns-in_default : goal.returns-in_default
returns-in_default c = sym (ended_short c.args.session _ (subst (λ (xs : List ℕ). length xs < 32) c.split_at.ensures.back c.in_default.ensures.cases))

pub returns-then-is_empty : goal.returns-then-is_empty
returns-then-is_empty c =
    let rest = c.split_at.result.1.now in
    let end = c.in-Some.end.now in
    let behind = c.in-Some.behind.now in
    let parts = c.in-Some.ensures.cases in
    let none : length behind ≡ 0 = eqb-true _ _ (sym c.is_empty.ensures ∙ c.if-is_empty.true) in
    ended_whole c.args.session end behind (chunk_size _ rest end behind c.split_at.ensures.back parts) c.with_end.result none c.with_end.ensures
    ∙ ap (ended_at c.args.session) (chunk_whole _ rest end behind c.split_at.ensures.back parts)

pub returns : goal.returns
returns c =
    let rest = c.split_at.result.1.now in
    let end = c.in-Some.end.now in
    let behind = c.in-Some.behind.now in
    let parts = c.in-Some.ensures.cases in
    let size = chunk_size _ rest end behind c.split_at.ensures.back parts in
    let whole = ap (ended_at c.args.session) (chunk_whole _ rest end behind c.split_at.ensures.back parts) in
    let some : 0 < length behind = some_left behind (sym c.is_empty.ensures ∙ c.if-is_empty.false) in
    elim c.match-with_end.branch [
      | in-Ok w ↦ w.result-is ∙ sym (ended_more c.args.session end behind size some w.in-Ok.ensures.1) ∙ whole
      | in-Err w ↦ w.result-is ∙ sym (ended_else c.args.session end behind size w.in-Err.fault w.in-Err.ensures) ∙ whole
    ]
