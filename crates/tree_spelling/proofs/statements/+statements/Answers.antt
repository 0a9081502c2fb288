use Rattle.std.proofs.Common.{◌≡◌, ◌∷◌, ◌++◌, [], map, refl}
use Rattle.std.proofs.lemmas.Result.{err_from_is_err_and}
use Rattle.std.proofs.lemmas.List.{map_push}
use Rattle.mj_tree.specs.Views.{stmt_view}
use Rattle.byte_readers.specs.Reading.{any}
use Rattle.byte_readers.proofs.Loop.{goes_on, ends, is_done}
use Rattle.tree_spelling.specs.Reading.{stmt_at}
use Rattle.tree_spelling.proofs.Levels.{stmt_by_tag}
use Rattle.tree_spelling.proofs.statements.+statements.Goals as goal

pub read_all_stmts-returns-in_err-item : goal.read_all_stmts-returns-in_err-item
read_all_stmts-returns-in_err-item t c =
    let p = err_from_is_err_and c.from_residual.result c.from_residual.ensures.1 in
    rw (p.1, p.2) (ends c.in_err-item.field-0.0 (stmt_at c.args.room) any (map stmt_view c.loop.items.items) c.args.count c.loop.counter c.loop.rest.now _ c.loop-test.true c.in_err-item.ensures c.loop.invariant)

pub read_all_stmts-loop-preserved : goal.read_all_stmts-loop-preserved
read_all_stmts-loop-preserved t c =
    let n = c.in_ok-item.item in
    let e : map stmt_view c.push.new.self.items ≡ map stmt_view c.loop.items.items ++ stmt_view n ∷ [] = rw c.in_ok-push.ensures.items (map_push _ c.loop.items.items n) in
    rw e (goes_on (stmt_at c.args.room) any (map stmt_view c.loop.items.items) c.args.count c.loop.counter c.loop.rest.now (stmt_view n) c.in_ok-item.after.now _ c.loop-test.true c.in_ok-item.ensures refl c.loop.invariant)

pub read_all_stmts-returns : goal.read_all_stmts-returns
read_all_stmts-returns t c = is_done (stmt_at c.args.room) any (map stmt_view c.loop.items.items) c.args.count c.loop.counter c.loop.rest.now _ c.loop-test.false c.loop.invariant

pub read_stmt-returns : goal.read_stmt-returns
read_stmt-returns t c = rw (stmt_by_tag c.args.room _ _ c.args.bytes.now _ _ _ c.if-room-eq0.false c.in_ok-tag.ensures c.in-Some.ensures c.in_ok-mark.ensures) c.read_stmt_body.ensures
