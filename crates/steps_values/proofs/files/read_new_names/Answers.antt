use Rattle.std.proofs.Common.{◌≡◌, ℕ, List, [], ◌∷◌, ◌++◌, sym, ap, not, ◌∙◌}
use Rattle.std.proofs.lemmas.Result.{err_from_is_err_and}
use Rattle.byte_readers.specs.Reading.{name_at}
use Rattle.byte_readers.proofs.Loop.{goes_on, is_refused, ends, is_done}
use Rattle.named_files.proofs.RepeatLemmas.{names-insert}
use Rattle.steps_values.specs.Reading.{is_new}
use Rattle.steps_values.proofs.files.read_new_names.Goals as goal

pub returns-in_err-text : goal.returns-in_err-text
returns-in_err-text c =
    let p = err_from_is_err_and c.from_residual.result c.from_residual.ensures.1 in
    rw (p.1, p.2) (ends c.in_err-text.field-0.0 name_at is_new c.loop.items.items c.args.count c.loop.counter c.loop.rest.now _ c.loop-test.true c.in_err-text.ensures.value c.loop.invariant.read)

pub returns-then-not-is_new : goal.returns-then-not-is_new
returns-then-not-is_new c =
    let told : c.in_ok-is_new.is_new ≡ is_new c.loop.items.items c.in_ok-text.text.now = c.in_ok-is_new.ensures.added ∙ ap not (c.loop.invariant.seen c.in_ok-text.text.now) in
    rw c.not_canonical.ensures (is_refused name_at is_new c.loop.items.items c.args.count c.loop.counter c.loop.rest.now c.in_ok-text.text.now c.in_ok-text.after.now _ c.loop-test.true c.in_ok-text.ensures.value (sym told ∙ c.if-not-is_new.true) c.loop.invariant.read)

pub loop-preserved : goal.loop-preserved
loop-preserved c =
    let text = c.in_ok-text.text in
    let told : c.in_ok-is_new.is_new ≡ is_new c.loop.items.items text.now = c.in_ok-is_new.ensures.added ∙ ap not (c.loop.invariant.seen text.now) in
    let items : c.push.new.self.items ≡ c.loop.items.items ++ text.now ∷ [] = c.in_ok-push.ensures.items ∙ ap (λ (n : List ℕ). c.loop.items.items ++ n ∷ []) c.in_ok-new.ensures in
    record {
      seen = rw items (names-insert c.loop.seen c.insert.new.self text c.loop.items.items c.in_ok-is_new.ensures.updates c.loop.invariant.seen);
      read = rw items (goes_on name_at is_new c.loop.items.items c.args.count c.loop.counter c.loop.rest.now text.now c.in_ok-text.after.now _ c.loop-test.true c.in_ok-text.ensures.value (sym told ∙ c.if-not-is_new.false) c.loop.invariant.read);
    }

pub returns : goal.returns
returns c = is_done name_at is_new c.loop.items.items c.args.count c.loop.counter c.loop.rest.now _ c.loop-test.false c.loop.invariant.read
