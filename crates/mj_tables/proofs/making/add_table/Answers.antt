use Rattle.std.proofs.Common.{arith}
use Rattle.mj_classes.specs.Index.{declared_in}
use Rattle.mj_classes.proofs.Ancestors.{first_within}
use Rattle.mj_tables.proofs.TableSteps.{table_added, tables_grow, there_already}
use Rattle.mj_tables.proofs.making.add_table.Goals as goal

pub returns-in_ok-table-clause-grow : goal.returns-in_ok-table-clause-grow
returns-in_ok-table-clause-grow c =
    let lt = first_within (declared_in c.args.declarations.now) c.args.at c.requires.first in
    tables_grow c.args.tables.now.items c.args.at c.in_ok-table.table (omega (arith, lt, c.requires.right.all))

pub returns-in_ok-table-clause-here : goal.returns-in_ok-table-clause-here
returns-in_ok-table-clause-here c =
    let lt = first_within (declared_in c.args.declarations.now) c.args.at c.requires.first in
    table_added c.args.tables.now.items c.args.at c.in_ok-table.table (omega (arith, lt, c.requires.right.all))

pub returns-else-is_none-clause-here : goal.returns-else-is_none-clause-here
returns-else-is_none-clause-here c =
    let lt = first_within (declared_in c.args.declarations.now) c.args.at c.requires.first in
    there_already c.args.tables.now.items c.args.at c.index.result.now (omega (arith, lt, c.requires.right.all)) c.index.ensures c.if-is_none.ensures
