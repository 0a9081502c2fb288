use Rattle.std.proofs.Common.{sym, ◌∙◌, None, Some, arith, length}
use Rattle.std.proofs.lemmas.Result.{err_from_is_err_and}
use Rattle.mj_parser.specs.FileReading.{local_at, begins_local}
use Rattle.mj_expressions.proofs.Items.{items_begin, items_end, items_fail, items_go_on, fails_on}
use Rattle.mj_parser.proofs.declarations.locals.Goals as goal

pub items-init : goal.items-init
items-init c = record {
  within = c.requires;
  onward = omega arith;
  so_far = λ total leads. items_begin (local_at c.args.tokens.now) (begins_local c.args.tokens.now) (length c.args.tokens.now) c.args.at total (rw c.new-items.ensures.items at leads);
}

pub returns-in_err-next-clause-exact : goal.returns-in_err-next-clause-exact
returns-in_err-next-clause-exact c =
    let p = err_from_is_err_and c.from_residual.result c.from_residual.ensures.1 in
    rw (p.1, p.2) (fails_on _ _ _ (λ n. c.items.invariant.so_far None (items_fail (local_at c.args.tokens.now) (begins_local c.args.tokens.now) (length c.args.tokens.now) c.items.items.items c.items.after c.items.invariant.within (sym c.begins_local.ensures ∙ c.items-test.true) n)) c.in_err-next.ensures.exact)

pub items-preserved : goal.items-preserved
items-preserved c =
    let w = c.in_ok-next.ensures.within in
    let pushed = c.in_ok-push.ensures.items in
    record {
      within = w.1;
      onward = omega (arith, w.0);
      so_far = λ total leads. c.items.invariant.so_far total (items_go_on (local_at c.args.tokens.now) (begins_local c.args.tokens.now) (length c.args.tokens.now) c.items.items.items c.items.after c.in_ok-next.next.tree c.in_ok-next.next.after total c.items.invariant.within (sym c.begins_local.ensures ∙ c.items-test.true) c.in_ok-next.ensures.exact w.0 (rw pushed at leads));
    }

pub returns-clause-exact : goal.returns-clause-exact
returns-clause-exact c = c.items.invariant.so_far (Some (c.items.items.items, c.items.after)) (items_end (local_at c.args.tokens.now) (begins_local c.args.tokens.now) (length c.args.tokens.now) c.items.items.items c.items.after c.items.invariant.within (sym c.begins_local.ensures ∙ c.items-test.false))
