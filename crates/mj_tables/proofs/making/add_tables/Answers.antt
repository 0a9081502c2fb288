use Rattle.std.proofs.Common.{◌-◌, ◌<◌, length, arith}
use Rattle.mj_classes.specs.Index.{declared_in}
use Rattle.mj_tables.specs.Tables.{Grow}
use Rattle.mj_tables.proofs.TableSteps.{place_read, on_ok}
use Rattle.mj_tables.proofs.making.add_tables.Goals as goal

pub add_table-requires-clause-first : goal.add_table-requires-clause-first
add_table-requires-clause-first c =
    let missing = c.in_ok-missing.missing in
    let within : c.loop-number.number - 1 < length missing.items = omega (arith, c.len-number.ensures, missing.ok.0) in
    place_read (declared_in c.args.declarations.now) missing.items (c.loop-number.number - 1) c.index.result.now c.in_ok-missing.ensures within c.index.ensures

pub loop-number-preserved : goal.loop-number-preserved
loop-number-preserved c = record {
  right = c.in_ok-add_table.ensures.right;
  grow = λ at has. c.in_ok-add_table.ensures.grow at (c.loop-number.invariant.grow at has);
}

pub returns-clause-grow : goal.returns-clause-grow
returns-clause-grow c =
    on_ok (Grow c.loop-number.tables.items c.add_table-2.new.tables.items) (Grow c.args.tables.now.items c.add_table-2.new.tables.items) c.add_table-2.result (λ grow at has. grow at (c.loop-number.invariant.grow at has)) c.add_table-2.ensures.grow
