use Rattle.std.proofs.Common.{List, sym, subst}
use mathlib.Core.List.{IsPrefix}
use Rattle.recorder.specs.Backed.{ReadValue}
use Rattle.shared_table.proofs.Told.{kept_on}
use Rattle.shared_table.proofs.memo.Memo.learn.Goals as goal

pub invariant_of-self : goal.invariant_of-self
invariant_of-self g c =
    let longer : IsPrefix c.self.inside.known c.args.longer = subst (λ (l : List ReadValue). IsPrefix l c.args.longer) (sym c.self.view_is) c.requires.begins in
    (kept_on c.self.inside.known c.args.longer c.self.inside.results longer c.self.invariant.0, c.requires.done)
