use Rattle.std.proofs.Common.{sym, ◌∙◌, ◌≤◌, length, None, Some, arith}
use Rattle.std.proofs.lemmas.Result.{err_from_is_err_and}
use Rattle.mj_parser.specs.FileReading.{variable_at}
use Rattle.mj_expressions.proofs.Items.{list_from, list_end, list_fail, list_go_on, list_ends, fails_on}
use Rattle.mj_parser.proofs.declarations.formals_from.Goals as goal

pub returns-in_err-next-clause-exact : goal.returns-in_err-next-clause-exact
returns-in_err-next-clause-exact c =
    let p = err_from_is_err_and c.from_residual-in_err-next.result c.from_residual-in_err-next.ensures.1 in
    let f = c.in_ok-formals.ensures.found in
    rw (p.1, p.2) (fails_on _ _ _ (λ n. list_from (variable_at c.args.tokens.now) c.args.tokens.now c.args.first.after c.args.first.tree None (rw (f.0, f.1) at (c.list.invariant.so_far None (list_fail (variable_at c.args.tokens.now) c.args.tokens.now c.list.formals.tree.items c.list.formals.after c.list.invariant.within (sym c.has.ensures.value ∙ c.list-test.true) n)))) c.in_err-next.ensures.exact)

pub list-preserved : goal.list-preserved
list-preserved c =
    let w = c.in_ok-next.ensures.within in
    let f = c.in_ok-formals-2.ensures.found in
    record {
      within = rw f.1 w.1;
      onward = rw f.1 (omega (arith, w.0));
      so_far = λ total leads. c.list.invariant.so_far total (list_go_on (variable_at c.args.tokens.now) c.args.tokens.now c.list.formals.tree.items c.list.formals.after c.list.invariant.within c.in_ok-next.next.tree c.in_ok-next.next.after total
          (sym c.has.ensures.value ∙ c.list-test.true) c.in_ok-next.ensures.exact (omega (arith, w.0)) (rw (f.0, f.1) at leads));
    }

pub returns-clause-exact : goal.returns-clause-exact
returns-clause-exact c =
    let f = c.in_ok-formals.ensures.found in
    let ended = list_end (variable_at c.args.tokens.now) c.args.tokens.now c.list.formals.tree.items c.list.formals.after c.list.invariant.within (sym c.has.ensures.value ∙ c.list-test.false) in
    rw (list_from (variable_at c.args.tokens.now) c.args.tokens.now c.args.first.after c.args.first.tree (Some (c.list.formals.tree.items, c.list.formals.after)) (rw (f.0, f.1) at (c.list.invariant.so_far (Some (c.list.formals.tree.items, c.list.formals.after)) ended)))
    (list_ends c.followed.result (λ x. x.tree) (λ x. x.after) c.list.formals.tree (λ v. v.items) (λ x. x.after ≤ length c.args.tokens.now) c.args.tokens.now c.list.formals.after c.followed.ensures.found c.followed.ensures.fault)
