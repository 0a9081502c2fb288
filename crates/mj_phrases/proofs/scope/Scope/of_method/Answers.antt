use Rattle.std.proofs.Common.{rules, [], sym, ◌∙◌, ap}
use Rattle.mj_phrases.specs.Variables.{add_repeated_each}
use Rattle.mj_phrases.specs.Seen.{Covers}
use Rattle.mj_phrases.proofs.Scopes.{add_repeated_each-append}
use Rattle.mj_phrases.proofs.scope.Scope.of_method.Goals as goal

pub invariant_of-result : goal.invariant_of-result
invariant_of-result c =
    let none : Covers c.new-types.result [] = search rules in
    let both = c.in_ok-declare_all-2.ensures.types c.deref.result.now (c.in_ok-declare_all.ensures.types [] none) in
    rw (c.deref-3.ensures.value, ← c.deref.ensures.value, c.deref-4.ensures.value, ← c.deref-2.ensures.value) both

pub returns-clause-repeated : goal.returns-clause-repeated
returns-clause-repeated c =
    let none : Covers c.new-types.result [] = search rules in
    let formals = c.in_ok-declare_all.ensures.repeated [] none in
    let locals = c.in_ok-declare_all-2.ensures.repeated c.deref.result.now (c.in_ok-declare_all.ensures.types [] none) in
    rw (← c.deref.ensures.value, ← c.deref-2.ensures.value)
    (locals
    ∙ ap (λ ms. add_repeated_each ms c.deref.result.now c.deref-2.result.now) formals
    ∙ sym (add_repeated_each-append c.args.mistakes.now.items [] c.deref.result.now c.deref-2.result.now))
