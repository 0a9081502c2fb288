use Rattle.mj_tree.specs.Views.{method_view}
use Rattle.tree_bytes.specs.Bodies.{OfMethod}
use Rattle.tree_bytes.proofs.Bodies.{behind_tag, kept, spelled}
use Rattle.tree_bytes.proofs.body.Body.of_method.Goals as goal

pub invariant_of-result : goal.invariant_of-result
invariant_of-result c = kept c.put_method.new.out.items (OfMethod (method_view c.args.method.now)) (behind_tag 1 _ _ _ _ c.new-bytes.ensures.items c.in_ok-push.ensures.items c.in_ok-put_method.ensures) c.requires

pub returns : goal.returns
returns c = spelled c.put_method.new.out.items (OfMethod (method_view c.args.method.now)) (behind_tag 1 _ _ _ _ c.new-bytes.ensures.items c.in_ok-push.ensures.items c.in_ok-put_method.ensures) c.requires
