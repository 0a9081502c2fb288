use Rattle.std.proofs.Common.{◌≡◌, true, false, sym, ap, ◌∙◌}
use Rattle.sessions.specs.Terms.{ends_with_print}
use Rattle.session_file.specs.Reading.{ItemValue}
use Rattle.session_file.proofs.StepLaws.{told_by_print, told_by_result}
use Rattle.session_file.proofs.reading.records.read_told.Goals as goal

pub returns-then-ends_with_print-clause-value : goal.returns-then-ends_with_print-clause-value
returns-then-ends_with_print-clause-value g c =
    let k : c.item.inside.key ≡ c.args.item.now.key = ap (λ (x : ItemValue). x.key) c.item.view_is in
    let m : c.item.inside.mark ≡ c.args.item.now.mark = ap (λ (x : ItemValue). x.mark) c.item.view_is in
    let ends : ends_with_print c.args.origin.now.form c.args.item.now.mark ≡ true = sym (rw (c.result_of-past.ensures.same, m) at c.ends_with_print.ensures) ∙ c.if-ends_with_print.true in
    told_by_print _ _ _ _ _ c.take_result.result c.args.origin.now c.args.index c.args.item.now ends (rw (c.result_of-past.ensures.value, k) at c.take_result.ensures.value)

pub returns-else-ends_with_print-clause-value : goal.returns-else-ends_with_print-clause-value
returns-else-ends_with_print-clause-value g c =
    let k : c.item.inside.key ≡ c.args.item.now.key = ap (λ (x : ItemValue). x.key) c.item.view_is in
    let m : c.item.inside.mark ≡ c.args.item.now.mark = ap (λ (x : ItemValue). x.mark) c.item.view_is in
    let other : ends_with_print c.args.origin.now.form c.args.item.now.mark ≡ false = sym (rw (c.result_of-past.ensures.same, m) at c.ends_with_print.ensures) ∙ c.if-ends_with_print.false in
    told_by_result _ _ _ _ _ c.read_result.result c.args.origin.now c.args.index c.args.item.now other (rw (c.kind.ensures, k) at c.read_result.ensures.value)
