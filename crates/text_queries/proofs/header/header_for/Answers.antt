use Rattle.std.proofs.Common.{◌≡◌, Some, sym, ap, ◌∙◌}
use Rattle.std.specs.Option.{option_copied}
use Rattle.std.specs.Prelude.{option_and_then}
use Rattle.std.proofs.lemmas.Result.{IfOk-weaker}
use Rattle.text_queries.specs.NamedHeaders.{header_named}
use Rattle.text_queries.proofs.Headers.{tree_tells}
use Rattle.text_queries.proofs.header.header_for.Goals as goal

pub returns-in-Some : goal.returns-in-Some
returns-in-Some c =
    let there : Some c.in-Some.tree.now ≡ option_copied c.args.tree = sym (ap option_copied c.in-Some.is) in
    IfOk-weaker c.header_in.result (λ header. header ≡ header_named c.args.class.now c.in-Some.tree.now) _
    (λ header e. e ∙ (ap (option_and_then (header_named c.args.class.now)) there ∙ tree_tells c.args.class.now (option_copied c.args.tree)))
    c.header_in.ensures
