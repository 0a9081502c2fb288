use Rattle.std.proofs.Common.{drop, refl}
use Rattle.std.proofs.lemmas.List.{take_rest}
use Rattle.mj_parser.specs.FileReading.{main_from, main_method_at}
use Rattle.mj_expressions.proofs.Items.{fails_behind}
use Rattle.mj_parser.proofs.files.main_statement.Goals as goal

pub returns-in-Ok-clause-exact : goal.returns-in-Ok-clause-exact
unfolding main_from
returns-in-Ok-clause-exact c =
    let e = rw take_rest at c.in-Ok.ensures.exact in
    rw (main_from, e) refl

pub returns-in-Err-clause-exact : goal.returns-in-Err-clause-exact
unfolding main_from
returns-in-Err-clause-exact c =
    let e = rw take_rest at c.in-Err.ensures.exact in
    fails_behind c.in-Err.fault c.behind.result (main_method_at (drop 3 c.args.tokens.now)) (main_from c.args.tokens.now) c.behind.ensures.memory (λ n. rw (main_from, n) refl) e
