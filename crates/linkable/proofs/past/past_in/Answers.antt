use Rattle.std.proofs.Common.{ℕ, List, map, arith}
use Rattle.std.specs.Borrow.{Bor}
use Rattle.std.proofs.lemmas.List.{length-map}
use Rattle.linkable.proofs.PastRules.{full_in, some_files}
use Rattle.linkable.proofs.past.past_in.Goals as goal

pub returns-clause-refused : goal.returns-clause-refused
returns-clause-refused c =
    let end = rw c.in-Ok-Some.field-0-is at (rw c.as_slice.ensures.value at c.in-Ok-Some.ensures.end) in
    let files = map (λ (f : Bor (List ℕ)). f.now) c.in-Ok.files.items in
    full_in c.args.bytes.now files c.in-Ok.ensures.packed c.in-Ok-Some.session _ end
    (omega (arith, c.len.ensures, some_files files c.in-Ok-Some.session end, length-map c.in-Ok.files.items (λ (f : Bor (List ℕ)). f.now)))
    c.in-Err-share.stop c.in-Err-share.ensures.refused
