use Rattle.std.proofs.Common.{◌↔◌, ℕ, Bool, List, Result, Ok, Err, IsTrue, IfOk}
use Rattle.item_ids.specs.declared.kind.Kind.{Kind}
use Rattle.answer_fixtures.specs.declared.unfit.Unfit.{Unfit}
use Rattle.answer_fixtures.specs.Telling.{Tell, AllCount, IsTightness}
use Rattle.answer_fixtures.proofs.values.is_tight.Goals as goal

tightness : (kind : Kind) (digits bytes : List ℕ) → Tell digits bytes → (r : Result Bool Unfit) → IfOk r (λ b. IsTrue b ↔ AllCount kind bytes) → IfOk r (IsTightness kind digits)
tightness kind digits bytes of_digits (Ok b) h = record { bytes = bytes; of_digits = of_digits; told = h }
tightness kind digits bytes of_digits (Err e) h = h

pub returns : goal.returns
returns c =
    tightness c.args.kind c.args.digits.now c.in_ok-bytes.bytes.items c.in_ok-bytes.ensures c.all_count.result
    (rw c.as_slice.ensures.value at c.all_count.ensures)
