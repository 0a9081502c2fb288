use Rattle.std.proofs.Common.{◌∙◌, ◌+◌, ◌<◌, ◌≤◌, All, length, take, sym, subst, arith}
use Rattle.std.proofs.lemmas.List.{take_all}
use Rattle.std.proofs.lemmas.List.Elements.{All-more}
use Rattle.profiles.specs.declared.profile.Profile.TheVariants.{One}
use Rattle.query_fixtures.specs.Rows.{Means}
use Rattle.query_fixtures.proofs.driving.brings_all.Goals as goal

pub loop-row-preserved : goal.loop-row-preserved
loop-row-preserved c =
    let rows = c.args.rows.now in
    let at = c.loop-row.row-index in
    let l : at < length rows = omega arith in
    let same = c.loop-row.invariant.0 in
    let told = subst (λ it. All (λ row. Means One it row.query) (take at rows)) (sym same) c.loop-row.invariant.1 in
    let more = All-more (λ row. Means One c.loop-row.driver row.query) rows at _ l told (c.in_ok-brings.ensures.told c.if-not-branch.false) in
    (c.in_ok-brings.ensures.same ∙ same, subst (λ it. All (λ row. Means One it row.query) (take (at + 1) rows)) same more)

pub returns : goal.returns
returns c = λ t.
    let rows = c.args.rows.now in
    let at = c.loop-row.row-index in
    let l : length rows ≤ at = omega arith in
    subst (All (λ row. Means One c.args.driver.now row.query)) (take_all at rows l) c.loop-row.invariant.1
