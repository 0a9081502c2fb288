use Rattle.std.proofs.Common.{sym, ◌∙◌, arith}
use Rattle.std.proofs.lemmas.List.{take_rest, length-drop}
use Rattle.mj_lexer.proofs.Cutting.{after_blank, after_word, all_cut, breaks}
use Rattle.mj_lexer.proofs.Lexings.{breaks_fault}
use Rattle.mj_lexer.proofs.lexer.tokens.Goals as goal

pub returns-in-Nothing-clause-found : goal.returns-in-Nothing-clause-found
returns-in-Nothing-clause-found c =
    let w = rw (take_rest, c.in-Nothing.is) at c.in_ok-here.ensures.within in
    all_cut c.loop-tokens.at _ _ c.loop-tokens.invariant.short w c.loop-tokens.invariant.so_far

pub loop-tokens-preserved-in-Blank : goal.loop-tokens-preserved-in-Blank
loop-tokens-preserved-in-Blank c =
    let w = rw (take_rest, c.in-Blank.is) at c.in_ok-here.ensures.within in
    let e = rw take_rest at c.in_ok-here.ensures.value in
    record {
      within = omega (arith, w.1, length-drop c.loop-tokens.at c.args.text.now);
      so_far = λ tokens till rest. after_blank c.loop-tokens.at c.in-Blank.n _ _ tokens till rest _ (sym e ∙ c.in-Blank.is) c.loop-tokens.invariant.so_far;
      short = c.loop-tokens.invariant.short;
    }

pub loop-tokens-preserved : goal.loop-tokens-preserved
loop-tokens-preserved c =
    let w = rw (take_rest, c.in-Word.is) at c.in_ok-here.ensures.within in
    let e = rw take_rest at c.in_ok-here.ensures.value in
    record {
      within = omega (arith, w.1, length-drop c.loop-tokens.at c.args.text.now);
      so_far = λ tokens till rest. rw c.in_ok-push-in-Word.ensures.items (after_word c.loop-tokens.at c.in-Word.n c.in-Word.kind _ _ tokens till rest _ (sym e ∙ c.in-Word.is) c.loop-tokens.invariant.so_far);
      short = c.loop-tokens.invariant.short;
    }

pub returns-in-Wrong-clause-fault : goal.returns-in-Wrong-clause-fault
returns-in-Wrong-clause-fault c =
    let e = rw take_rest at c.in_ok-here.ensures.value in
    λ other. rw c.fault.ensures (breaks_fault _ _ _ (breaks c.loop-tokens.at _ _ _ c.loop-tokens.invariant.short (sym e ∙ c.in-Wrong.is) c.loop-tokens.invariant.so_far))
