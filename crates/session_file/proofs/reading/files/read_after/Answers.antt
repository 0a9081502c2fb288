use Rattle.std.proofs.Common.{rules, ◌≡◌, ◌<◌, ◌++◌, length, [], List, ℕ, sym, ap, ◌∙◌, arith, refl, subst, Ok, Err}
use Rattle.std.proofs.lemmas.List.{append-nil, nil_from_length}
use Rattle.sessions.specs.Sessions.{SessionValue}
use Rattle.sessions.specs.Spelling.{file_of}
use Rattle.session_file.specs.Reading.{front_after, file_after, IsUnlessMemory}
use Rattle.session_file.proofs.FileLaws.{front_again, file_is_read, file_is_longer}
use Rattle.session_file.proofs.StepLaws.{front_whole, memory_breach}
use Rattle.session_file.proofs.reading.files.read_after.Goals as goal

pub returns-then-is_empty-clause-found : goal.returns-then-is_empty-clause-found
returns-then-is_empty-clause-found c =
    let l = c.in-Ok.ensures.found.left c.args.bytes.now c.new-feed.ensures in
    let len : length c.read_from_after.new.feed.rest.now ≡ 0 = search rules in
    let none : c.read_from_after.new.feed.rest.now ≡ [] = nil_from_length c.read_from_after.new.feed.rest.now len in
    (c.in-Ok.ensures.session, l.whole ∙ ap (λ (xs : List ℕ). file_of c.in-Ok.session ++ xs) (sym l.holds ∙ none) ∙ append-nil (file_of c.in-Ok.session))

pub returns-then-is_empty-clause-only : goal.returns-then-is_empty-clause-only
returns-then-is_empty-clause-only c = λ s h taken is.
    let l = c.in-Ok.ensures.found.left c.args.bytes.now c.new-feed.ensures in
    ap (λ x. Ok x) (front_whole _ c.args.bytes.now c.in-Ok.session l.rest s c.in-Ok.ensures.session c.in-Ok.ensures.taken l.whole h taken is).same

pub returns-then-is_empty-clause-exact : goal.returns-then-is_empty-clause-exact
returns-then-is_empty-clause-exact c =
    let l = c.in-Ok.ensures.found.left c.args.bytes.now c.new-feed.ensures in
    let len : length c.read_from_after.new.feed.rest.now ≡ 0 = search rules in
    let none : c.read_from_after.new.feed.rest.now ≡ [] = nil_from_length c.read_from_after.new.feed.rest.now len in
    sym (file_is_read _ c.args.bytes.now c.in-Ok.session l.rest (ap (front_after _) l.whole ∙ front_again _ c.in-Ok.session l.rest c.in-Ok.ensures.session c.in-Ok.ensures.taken) (sym l.holds ∙ none))

pub returns-else-is_empty-clause-only : goal.returns-else-is_empty-clause-only
returns-else-is_empty-clause-only c = λ s h taken is.
    let l = c.in-Ok.ensures.found.left c.args.bytes.now c.new-feed.ensures in
    let some : 0 < length c.read_from_after.new.feed.rest.now = search rules in
    let none = l.holds ∙ (front_whole _ c.args.bytes.now c.in-Ok.session l.rest s c.in-Ok.ensures.session c.in-Ok.ensures.taken l.whole h taken is).none in
    absurd (omega (arith, some, ap (λ (xs : List ℕ). length xs) none))

pub returns-else-is_empty-clause-exact : goal.returns-else-is_empty-clause-exact
returns-else-is_empty-clause-exact c =
    let l = c.in-Ok.ensures.found.left c.args.bytes.now c.new-feed.ensures in
    let some : 0 < length c.read_from_after.new.feed.rest.now = search rules in
    sym (file_is_longer _ c.args.bytes.now c.in-Ok.session l.rest (ap (front_after _) l.whole ∙ front_again _ c.in-Ok.session l.rest c.in-Ok.ensures.session c.in-Ok.ensures.taken) (omega (arith, some, ap (λ (xs : List ℕ). length xs) l.holds)))

pub returns-in-Err-clause-only : goal.returns-in-Err-clause-only
returns-in-Err-clause-only c = λ s h taken is.
    let exact = memory_breach _ c.args.bytes.now c.in-Err.fault c.in-Err.ensures.counted (c.in-Err.ensures.exact c.args.bytes.now c.new-feed.ensures) in
    let there : file_after _ c.args.bytes.now ≡ Ok s = file_is_read _ c.args.bytes.now s [] (ap (front_after _) (is ∙ sym (append-nil (file_of s))) ∙ front_again _ s [] h taken) refl in
    subst (IsUnlessMemory {A = SessionValue} (Err c.in-Err.fault)) there exact

pub returns-in-Err-clause-exact : goal.returns-in-Err-clause-exact
returns-in-Err-clause-exact c = memory_breach _ c.args.bytes.now c.in-Err.fault c.in-Err.ensures.counted (c.in-Err.ensures.exact c.args.bytes.now c.new-feed.ensures)
