use Rattle.std.proofs.Common.{drop, refl}
use Rattle.std.proofs.lemmas.List.{take_rest}
use Rattle.mj_parser.specs.FileReading.{method_from, method_at}
use Rattle.mj_expressions.proofs.Items.{fails_behind}
use Rattle.mj_parser.proofs.files.method_at.Goals as goal

pub returns-in-Ok-clause-exact : goal.returns-in-Ok-clause-exact
unfolding method_from
returns-in-Ok-clause-exact c =
    let e = rw take_rest at c.in-Ok.ensures.exact in
    rw (method_from, e) refl

pub returns-in-Err-clause-exact : goal.returns-in-Err-clause-exact
unfolding method_from
returns-in-Err-clause-exact c =
    let e = rw take_rest at c.in-Err.ensures.exact in
    fails_behind c.in-Err.fault c.behind.result (method_at (drop c.args.at c.args.tokens.now)) (method_from c.args.tokens.now c.args.at) c.behind.ensures.memory (λ n. rw (method_from, n) refl) e
