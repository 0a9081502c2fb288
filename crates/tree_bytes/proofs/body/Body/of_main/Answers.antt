use Rattle.mj_tree.specs.Views.{stmt_view}
use Rattle.tree_bytes.specs.Bodies.{OfMain}
use Rattle.tree_bytes.proofs.Bodies.{behind_tag, kept, spelled}
use Rattle.tree_bytes.proofs.body.Body.of_main.Goals as goal

pub invariant_of-result : goal.invariant_of-result
invariant_of-result c = kept c.put_top_stmt.new.out.items (OfMain (stmt_view c.args.statement.now)) (behind_tag 0 _ _ _ _ c.new-bytes.ensures.items c.in_ok-push.ensures.items c.in_ok-put_top_stmt.ensures) c.requires

pub returns : goal.returns
returns c = spelled c.put_top_stmt.new.out.items (OfMain (stmt_view c.args.statement.now)) (behind_tag 0 _ _ _ _ c.new-bytes.ensures.items c.in_ok-push.ensures.items c.in_ok-put_top_stmt.ensures) c.requires
