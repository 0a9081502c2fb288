use Rattle.std.proofs.Common.{◌≡◌, None, sym, subst}
use Rattle.mj_classes.specs.Declarations.{decl}
use Rattle.mj_classes.specs.Index.{declared_in}
use Rattle.mj_classes.proofs.Places.{place_none}
use Rattle.mj_tables.proofs.tables.MemberTables.table.Goals as goal

pub returns-in_err-at : goal.returns-in_err-at
returns-in_err-at c =
    let none : decl (declared_in c.self.inside.declarations) c.args.class.now ≡ None = place_none (declared_in c.self.inside.declarations) c.args.class.now (sym c.in_err-at.ensures) in
    rw c.from_residual.ensures (subst (λ d. decl (declared_in d) c.args.class.now ≡ None) c.self.view_is none)
