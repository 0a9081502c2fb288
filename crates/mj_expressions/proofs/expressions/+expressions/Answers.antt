use Rattle.std.proofs.Common.{◌≡◌, ◌≤◌, length, sym, ◌∙◌, ap, None, Some, arith, map, List, [], ◌∷◌, ◌++◌}
use Rattle.mj_tree.specs.declared.tree.Exp.{Exp}
use Rattle.std.proofs.lemmas.List.{map-append}
use Rattle.std.proofs.lemmas.Result.{err_from_is_err_and}
use Rattle.mj_tree.specs.Views.{exp_view}
use Rattle.mj_expressions.specs.ExpressionReading.{exp_at}
use Rattle.mj_expressions.proofs.Items.{list_empty, list_no_first, list_begins, list_end, list_fail, list_go_on, list_ends, fails_on}
use Rattle.mj_expressions.proofs.Loops.{chain_ends, chain_too_deep, chain_no_part, chain_goes_on, post_ends, index_too_deep, no_index, index_goes_on, member_too_deep, no_member, member_goes_on, heights_push}
use Rattle.mj_expressions.proofs.expressions.+expressions.Goals as goal

pub chain-returns-then-left-room-clause-exact : goal.chain-returns-then-left-room-clause-exact
chain-returns-then-left-room-clause-exact t c = c.chain.invariant.so_far None (chain_too_deep _ _ _ _ _ _ c.chain.invariant.within c.in-Some.operator (sym c.in-Some.ensures.value) (omega arith))

pub chain-returns-in_err-right-clause-exact : goal.chain-returns-in_err-right-clause-exact
chain-returns-in_err-right-clause-exact t c =
    let p = err_from_is_err_and c.from_residual.result c.from_residual.ensures.1 in
    λ gas enough. rw (p.1, p.2) (fails_on _ _ _ (λ n. c.chain.invariant.so_far None (chain_no_part _ _ _ _ _ _ c.chain.invariant.within c.in-Some.operator (sym c.in-Some.ensures.value) (omega arith) n) gas enough) c.in_err-right.ensures.exact)

pub chain-chain-preserved : goal.chain-chain-preserved
chain-chain-preserved t c =
    let w = c.in_ok-right.ensures.within in
    let o = c.in_ok-right.ensures.low in
    let h = c.in_ok-right.ensures.height in
    let i = c.chain.invariant.height_is in
    let f = c.in_ok-left.ensures.found in
    record {
      within = rw f.1 w.1;
      onward = rw f.1 (omega (arith, w.0));
      height_is = rw f.0 (omega (arith, h, i, f.2));
      low = omega (arith, o, f.2);
      so_far = λ total leads. c.chain.invariant.so_far total (chain_goes_on _ _ _ _ _ _ c.chain.invariant.within c.in-Some.operator _ _ total (sym c.in-Some.ensures.value) (omega arith) c.in_ok-right.ensures.exact (omega (arith, w.0)) (rw (f.0, f.1) at leads));
    }

pub chain-returns-clause-exact : goal.chain-returns-clause-exact
chain-returns-clause-exact t c = c.chain.invariant.so_far _ (chain_ends _ _ _ _ _ _ c.chain.invariant.within (sym c.operator.ensures.value ∙ c.in_default.is))

pub read_suffixes-returns-then-left-room-clause-exact : goal.read_suffixes-returns-then-left-room-clause-exact
read_suffixes-returns-then-left-room-clause-exact t c = c.items.invariant.so_far None (index_too_deep _ _ _ _ _ c.items.invariant.within (sym c.takes_index.ensures.value ∙ c.if-takes_index.true) (omega arith))

pub read_suffixes-returns-in_err-left-clause-exact : goal.read_suffixes-returns-in_err-left-clause-exact
read_suffixes-returns-in_err-left-clause-exact t c =
    let p = err_from_is_err_and c.from_residual.result c.from_residual.ensures.1 in
    λ gas enough. rw (p.1, p.2) (fails_on _ _ _ (λ n. c.items.invariant.so_far None (no_index _ _ _ _ _ c.items.invariant.within (sym c.takes_index.ensures.value ∙ c.if-takes_index.true) (omega arith) n) gas enough) c.in_err-left.ensures.exact)

pub read_suffixes-items-preserved-then-takes_index : goal.read_suffixes-items-preserved-then-takes_index
read_suffixes-items-preserved-then-takes_index t c =
    let w = c.in_ok-left.ensures.within in
    record {
      within = w.1;
      onward = omega (arith, w.0);
      height_is = c.in_ok-left.ensures.height;
      low = c.in_ok-left.ensures.low;
      so_far = λ total leads. c.items.invariant.so_far total (index_goes_on _ _ _ _ _ c.items.invariant.within _ _ total (sym c.takes_index.ensures.value ∙ c.if-takes_index.true) (omega arith) c.in_ok-left.ensures.exact w.0 leads);
    }

pub read_suffixes-returns-then-left-room-2-clause-exact : goal.read_suffixes-returns-then-left-room-2-clause-exact
read_suffixes-returns-then-left-room-2-clause-exact t c = c.items.invariant.so_far None (member_too_deep _ _ _ _ _ c.items.invariant.within (sym c.takes_index.ensures.value ∙ c.if-takes_index.false) (sym c.has.ensures.value ∙ c.if-has.true) (omega arith))

pub read_suffixes-returns-in_err-left-2-clause-exact : goal.read_suffixes-returns-in_err-left-2-clause-exact
read_suffixes-returns-in_err-left-2-clause-exact t c =
    let p = err_from_is_err_and c.from_residual-in_err-left-2.result c.from_residual-in_err-left-2.ensures.1 in
    λ gas enough. rw (p.1, p.2) (fails_on _ _ _ (λ n. c.items.invariant.so_far None (no_member _ _ _ _ _ c.items.invariant.within (sym c.takes_index.ensures.value ∙ c.if-takes_index.false) (sym c.has.ensures.value ∙ c.if-has.true) (omega arith) n) gas enough) c.in_err-left-2.ensures.exact)

pub read_suffixes-items-preserved : goal.read_suffixes-items-preserved
read_suffixes-items-preserved t c =
    let w = c.in_ok-left-2.ensures.within in
    record {
      within = w.1;
      onward = omega (arith, w.0);
      height_is = c.in_ok-left-2.ensures.height;
      low = c.in_ok-left-2.ensures.low;
      so_far = λ total leads. c.items.invariant.so_far total (member_goes_on _ _ _ _ _ c.items.invariant.within _ _ total (sym c.takes_index.ensures.value ∙ c.if-takes_index.false) (sym c.has.ensures.value ∙ c.if-has.true) (omega arith) c.in_ok-left-2.ensures.exact w.0 leads);
    }

pub read_suffixes-returns-else-has-clause-exact : goal.read_suffixes-returns-else-has-clause-exact
read_suffixes-returns-else-has-clause-exact t c = c.items.invariant.so_far _ (post_ends _ _ _ _ _ c.items.invariant.within (sym c.takes_index.ensures.value ∙ c.if-takes_index.false) (sym c.has.ensures.value ∙ c.if-has.false))

pub arguments-returns-then-has-clause-exact : goal.arguments-returns-then-has-clause-exact
arguments-returns-then-has-clause-exact t c =
    let e = c.no_arguments.ensures in
    rw (e.0, e.1) (list_empty (exp_at c.args.room c.args.tokens.now 5) c.args.tokens.now c.args.at (sym c.has.ensures.value ∙ c.if-has.true))

pub arguments-returns-in_err-first-clause-exact : goal.arguments-returns-in_err-first-clause-exact
arguments-returns-in_err-first-clause-exact t c =
    let p = err_from_is_err_and c.from_residual.result c.from_residual.ensures.1 in
    rw (p.1, p.2) (fails_on _ _ _ (λ n. list_no_first (exp_at c.args.room c.args.tokens.now 5) c.args.tokens.now c.args.at (sym c.has.ensures.value ∙ c.if-has.false) n) c.in_err-first.ensures.exact)

pub arguments-list-init : goal.arguments-list-init
arguments-list-init t c =
    let w = c.in_ok-first.ensures.within in
    let h = c.in_ok-first.ensures.height in
    let none = c.no_arguments-2.ensures in
    let f = c.in_ok-listed.ensures.found in
    let pushed : c.in_ok-listed.listed.exps.items ≡ c.in_ok-first.first.exp ∷ [] = f.0 ∙ ap (λ (l : List Exp). l ++ c.in_ok-first.first.exp ∷ []) none.0 in
    record {
      within = rw f.1 w.1;
      onward = rw f.1 w.0;
      height_is = rw pushed (omega (arith, h, f.2, none.2));
      low = omega (arith, c.in_ok-first.ensures.low, f.2, none.2);
      so_far = λ total leads. list_begins (exp_at c.args.room c.args.tokens.now 5) c.args.tokens.now c.args.at c.in_ok-first.first.after (exp_view c.in_ok-first.first.exp) total (sym c.has.ensures.value ∙ c.if-has.false) c.in_ok-first.ensures.exact (rw (pushed, f.1) at leads);
    }

pub arguments-returns-in_err-next-clause-exact : goal.arguments-returns-in_err-next-clause-exact
arguments-returns-in_err-next-clause-exact t c =
    let p = err_from_is_err_and c.from_residual-in_err-next.result c.from_residual-in_err-next.ensures.1 in
    rw (p.1, p.2) (fails_on _ _ _ (λ n. c.list.invariant.so_far None (list_fail (exp_at c.args.room c.args.tokens.now 5) c.args.tokens.now (map exp_view c.list.listed.exps.items) c.list.listed.after c.list.invariant.within (sym c.has-in-list.ensures.value ∙ c.list-test.true) n)) c.in_err-next.ensures.exact)

pub arguments-list-preserved : goal.arguments-list-preserved
arguments-list-preserved t c =
    let w = c.in_ok-next.ensures.within in
    let o = c.in_ok-next.ensures.low in
    let h = c.in_ok-next.ensures.height in
    let i = c.list.invariant.height_is in
    let f = c.in_ok-listed-2.ensures.found in
    record {
      within = rw f.1 w.1;
      onward = rw f.1 (omega (arith, w.0));
      height_is = rw f.0 (omega (arith, heights_push c.list.listed.exps.items c.in_ok-next.next.exp, h, i, f.2));
      low = omega (arith, o, f.2);
      so_far = λ total leads. c.list.invariant.so_far total (list_go_on (exp_at c.args.room c.args.tokens.now 5) c.args.tokens.now (map exp_view c.list.listed.exps.items) c.list.listed.after c.list.invariant.within (exp_view c.in_ok-next.next.exp) c.in_ok-next.next.after total
          (sym c.has-in-list.ensures.value ∙ c.list-test.true) c.in_ok-next.ensures.exact (omega (arith, w.0)) (rw (f.0, f.1, map-append) at leads));
    }

pub arguments-returns-clause-exact : goal.arguments-returns-clause-exact
arguments-returns-clause-exact t c =
    let there = list_end (exp_at c.args.room c.args.tokens.now 5) c.args.tokens.now (map exp_view c.list.listed.exps.items) c.list.listed.after c.list.invariant.within (sym c.has-in-list.ensures.value ∙ c.list-test.false) in
    rw (c.list.invariant.so_far (Some (map exp_view c.list.listed.exps.items, c.list.listed.after)) there)
    (list_ends c.ended.result (λ x. x.exps.items) (λ x. x.after) c.list.listed.exps.items (map exp_view) (λ x. x.after ≤ length c.args.tokens.now) c.args.tokens.now c.list.listed.after c.ended.ensures.found c.ended.ensures.fault)
