use Rattle.std.proofs.Common.{◌∙◌, ◌<◌, ◌++◌, length, string_bytes, sym, ap, arith, append_assoc}
use Rattle.session_text.specs.SessionText.{record_line}
use Rattle.session_text.proofs.Lines.{lines_more}
use Rattle.session_text.proofs.text.write_records.Goals as goal

pub loop-i-preserved : goal.loop-i-preserved
loop-i-preserved c =
    let lt : c.loop-i.i < length c.args.records.now = omega (arith, c.loop-i-test.true) in
    let more = lines_more c.args.records.now c.loop-i.i c.index-records-i.result lt c.index-records-i.is in
    let item = record_line c.loop-i.i c.index-records-i.result in
    c.in_ok-write_record.ensures
    ∙ (ap (λ t. t ++ item) c.loop-i.invariant ∙ (append_assoc (string_bytes c.args.text.now) _ item ∙ ap (λ t. string_bytes c.args.text.now ++ t) (sym more)))
