use Rattle.std.proofs.Common.{List, subst}
use Rattle.mj_tree.specs.Trees.{Method}
use Rattle.tree_bytes.specs.Indexes.{FindsMethods}
use Rattle.tree_bytes.proofs.Indexes.{each_more}
use Rattle.tree_bytes.proofs.index.index_each.Goals as goal

pub loop-class-preserved : goal.loop-class-preserved
loop-class-preserved c =
    let finds : FindsMethods c.in_ok-index_methods.field-0 c.class-item.result.methods.items =
    subst (λ (ms : List Method). FindsMethods c.in_ok-index_methods.field-0 ms) c.deref.ensures.value c.in_ok-index_methods.ensures in
    rw c.in_ok-push.ensures.items
    (each_more c.loop-class.each.items c.in_ok-index_methods.field-0 c.args.classes.now c.loop-class.class-index c.class-item.result c.loop-class-test.true c.class-item.is c.loop-class.invariant finds)
