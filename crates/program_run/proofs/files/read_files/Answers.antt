use Rattle.std.proofs.Common.{◌≡◌, ◌∷◌, ◌++◌, ◌∙◌, map, string_bytes, sym, ap}
use Rattle.std.specs.Vec.Iter.{into_iter_items}
use Rattle.program_run.specs.Unread.{AreUnread}
use Rattle.program_run.proofs.Failures.{one_unread, told_as}
use Rattle.program_run.proofs.Taking.{one_of}
use Rattle.program_run.proofs.files.read_files.Goals as goal

pub returns-in_err-read_file-clause-failed : goal.returns-in_err-read_file-clause-failed
returns-in_err-read_file-clause-failed g c =
    let at = c.loop-name in
    let name = c.in-Some.name in
    let steps : into_iter_items at.name-iterator ≡ name ∷ into_iter_items c.next.new.self = c.in-Some.ensures.steps.0 in
    let has = one_of string_bytes at.yielded name (into_iter_items c.next.new.self) c.args.names.items
    (ap (λ rest. at.yielded ++ rest) (sym steps) ∙ at.invariant.left) in
    told_as c.from_residual.result c.in_err-read_file.field-0.0 (AreUnread (map string_bytes c.args.names.items)) c.from_residual.ensures.1
    (one_unread _ (string_bytes name) c.in_err-read_file.field-0.0 has c.in_err-read_file.ensures.failed)
