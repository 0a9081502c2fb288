use Rattle.devices.proofs.PutLaws.{handed_on}
use Rattle.std.proofs.Common.{rules, ◌≡◌, ◌∙◌, ◌∷◌, [], sym, length, map}
use Rattle.std.proofs.lemmas.List.{map-append, length-map}
use Rattle.redgreen_files.specs.Spelling.{value_of}
use Rattle.redgreen_files.specs.Reading.{record_at}
use Rattle.redgreen_files.proofs.FeedLaws.{many_step, many_halts, many_took}
use Rattle.redgreen_files.proofs.reading.records.read_each.Goals as goal

pub returns-in_err-next-clause-value : goal.returns-in_err-next-clause-value
returns-in_err-next-clause-value g c =
    let n : c.len.result ≡ length c.loop.records.items = search rules in
    let i : c.len.result ≡ length (map value_of c.loop.records.items) = n ∙ sym (length-map c.loop.records.items value_of) in
    rw (handed_on c.from_residual.result _ c.from_residual.ensures.1) (many_halts record_at (map value_of c.loop.records.items) c.args.count c.loop.counter c.in_err-next.field-0.0 c.loop.invariant.lead c.loop-test.true (rw i at c.in_err-next.ensures.value))

pub loop-preserved : goal.loop-preserved
loop-preserved g c =
    let n : c.len.result ≡ length c.loop.records.items = search rules in
    let i : c.len.result ≡ length (map value_of c.loop.records.items) = n ∙ sym (length-map c.loop.records.items value_of) in
    rw (c.in_ok-push.ensures.items, map-append value_of c.loop.records.items (c.in_ok-next.next ∷ [])) record {
      lead = many_step record_at (map value_of c.loop.records.items) c.args.count c.loop.counter (value_of c.in_ok-next.next) c.loop.invariant.lead c.loop-test.true (rw i at c.in_ok-next.ensures.value);
      failed = c.in_ok-next.ensures.counted ∙ c.loop.invariant.failed;
    }

pub returns-clause-value : goal.returns-clause-value
returns-clause-value g c = many_took record_at (map value_of c.loop.records.items) c.args.count c.loop.counter c.loop.invariant.lead c.loop-test.false
