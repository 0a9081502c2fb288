use Rattle.std.proofs.Common.{◌≡◌, ◌∷◌, ◌++◌, [], map, refl}
use Rattle.std.proofs.lemmas.Result.{err_from_is_err_and}
use Rattle.std.proofs.lemmas.List.{map_push}
use Rattle.mj_tree.specs.Views.{exp_view}
use Rattle.byte_readers.specs.Reading.{any}
use Rattle.byte_readers.proofs.Loop.{goes_on, ends, is_done}
use Rattle.tree_spelling.specs.Reading.{exp_at}
use Rattle.tree_spelling.proofs.Levels.{exp_by_tag}
use Rattle.tree_spelling.proofs.expressions.+expressions.Goals as goal

pub read_all_exps-returns-in_err-item : goal.read_all_exps-returns-in_err-item
read_all_exps-returns-in_err-item t c =
    let p = err_from_is_err_and c.from_residual.result c.from_residual.ensures.1 in
    rw (p.1, p.2) (ends c.in_err-item.field-0.0 (exp_at c.args.room) any (map exp_view c.loop.items.items) c.args.count c.loop.counter c.loop.rest.now _ c.loop-test.true c.in_err-item.ensures c.loop.invariant)

pub read_all_exps-loop-preserved : goal.read_all_exps-loop-preserved
read_all_exps-loop-preserved t c =
    let n = c.in_ok-item.item in
    let e : map exp_view c.push.new.self.items ≡ map exp_view c.loop.items.items ++ exp_view n ∷ [] = rw c.in_ok-push.ensures.items (map_push _ c.loop.items.items n) in
    rw e (goes_on (exp_at c.args.room) any (map exp_view c.loop.items.items) c.args.count c.loop.counter c.loop.rest.now (exp_view n) c.in_ok-item.after.now _ c.loop-test.true c.in_ok-item.ensures refl c.loop.invariant)

pub read_all_exps-returns : goal.read_all_exps-returns
read_all_exps-returns t c = is_done (exp_at c.args.room) any (map exp_view c.loop.items.items) c.args.count c.loop.counter c.loop.rest.now _ c.loop-test.false c.loop.invariant

pub read_exp-returns : goal.read_exp-returns
read_exp-returns t c = rw (exp_by_tag c.args.room _ _ c.args.bytes.now _ _ _ c.if-room-eq0.false c.in_ok-tag.ensures c.in-Some.ensures c.in_ok-mark.ensures) c.read_exp_body.ensures
