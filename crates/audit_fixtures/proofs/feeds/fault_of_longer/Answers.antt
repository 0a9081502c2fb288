use Rattle.std.proofs.Common.{◌≡◌, ◌<◌, ℕ, List, length, map, sym, ap, subst, ◌∙◌, arith}
use Rattle.std.specs.Borrow.{Bor}
use Rattle.std.proofs.lemmas.List.{take-map}
use Rattle.devices.specs.declared.memory.MemorySink.{MemorySink}
use Rattle.audit_replay.proofs.FileRules.{file_there}
use Rattle.audit_fixtures.specs.Chains.{AreFilesOf}
use Rattle.audit_fixtures.proofs.Refusing.{longer_refused}
use Rattle.audit_fixtures.proofs.feeds.fault_of_longer.Goals as goal

pub returns : goal.returns
returns c =
    let at = c.args.at in
    let now : Bor (List ℕ) → List ℕ = λ (f : Bor (List ℕ)). f.now in
    let bytes : MemorySink → List ℕ = λ (f : MemorySink). f.bytes.items in
    let list : List (Bor (List ℕ)) = c.as_slice-list.result.now in
    let lt : at < length list = omega arith in
    let same : map now list ≡ map bytes c.in_ok-files.files.items =
    ap (map now) c.as_slice-list.ensures.value ∙ (c.in_ok-list.ensures ∙ ap (map bytes) c.as_slice.ensures.value) in
    longer_refused c.args.chain.now at (map now list) (subst (AreFilesOf c.args.chain.now) (sym same) c.in_ok-files.ensures)
    _ (file_there list at _ lt) _ (sym (take-map now at list)) _ (c.deref.ensures.value ∙ c.in_ok-bytes.ensures) c.fault_behind.result c.fault_behind.ensures
