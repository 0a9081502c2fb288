use Rattle.std.proofs.lemmas.Result.{on_ok_weaker}
use Rattle.tree_spelling.proofs.Written.{count_stmts_view, one_more}
use Rattle.tree_spelling.proofs.writing.+put_statements.Goals as goal

pub put_body-returns : goal.put_body-returns
put_body-returns t c = on_ok_weaker c.put_stmts.result (λ h. rw (count_stmts_view c.args.ss.now) (one_more c.args.out.now.items _ _ _ _ c.in_ok-put_eight.ensures h)) c.put_stmts.ensures
