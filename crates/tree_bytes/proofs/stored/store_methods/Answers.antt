use Rattle.mj_tree.specs.Views.{method_view}
use Rattle.tree_spelling.specs.Storable.{MethodFits}
use Rattle.tree_bytes.proofs.Storing.{kept_at}
use Rattle.tree_bytes.proofs.stored.store_methods.Goals as goal

pub store_method-requires : goal.store_method-requires
store_method-requires c = kept_at MethodFits method_view c.args.methods.now c.loop-method.method-index c.method-item.result c.loop-method-test.true c.method-item.is c.requires
