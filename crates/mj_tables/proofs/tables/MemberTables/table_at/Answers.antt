use Rattle.std.proofs.Common.{◌<◌, length, sym, subst, arith}
use Rattle.mj_classes.specs.Index.{declared_in}
use Rattle.mj_classes.specs.Walks.{IsFirstPlace}
use Rattle.mj_classes.proofs.Ancestors.{first_within}
use Rattle.mj_tables.specs.Tables.{IsTableAt}
use Rattle.mj_tables.proofs.TableSteps.{read_there}
use Rattle.mj_tables.proofs.tables.MemberTables.table_at.Goals as goal

pub index-requires : goal.index-requires
index-requires c =
    let cs = declared_in c.self.inside.declarations in
    let first : IsFirstPlace cs c.args.at = subst (λ d. IsFirstPlace (declared_in d) c.args.at) (sym c.self.view_is) c.requires in
    omega (arith, first_within cs c.args.at first, c.self.invariant.0.all)

pub returns : goal.returns
returns c =
    let cs = declared_in c.self.inside.declarations in
    let first : IsFirstPlace cs c.args.at = subst (λ d. IsFirstPlace (declared_in d) c.args.at) (sym c.self.view_is) c.requires in
    let lt : c.args.at < length c.self.inside.tables.items = omega (arith, first_within cs c.args.at first, c.self.invariant.0.all) in
    subst (λ d. IsTableAt (declared_in d) c.args.at c.in-Some.table) c.self.view_is
    (c.self.invariant.0.each c.args.at c.in-Some.table (read_there c.self.inside.tables.items c.args.at c.index.result.now c.in-Some.table lt c.index.ensures c.in-Some.is))
