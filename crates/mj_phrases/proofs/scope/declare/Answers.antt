use Rattle.std.proofs.Common.{sym, ◌∙◌, refl}
use Rattle.mj_phrases.proofs.Scopes.{covers_same, covers_more, has_name-covered}
use Rattle.mj_phrases.proofs.scope.declare.Goals as goal

pub returns-then-contains_key-clause-types : goal.returns-then-contains_key-clause-types
returns-then-contains_key-clause-types c = λ before covers. covers_same c.args.types.now before c.args.variable.now covers (sym c.if-contains_key.ensures)

pub returns-then-contains_key-clause-repeated : goal.returns-then-contains_key-clause-repeated
returns-then-contains_key-clause-repeated c = λ before covers.
    let e = has_name-covered c.args.types.now before c.args.variable.now.name covers ∙ sym c.if-contains_key.ensures in
    rw (e, c.in_ok-push.ensures.items, c.name_mark-mark.ensures) refl

pub returns-clause-types : goal.returns-clause-types
returns-clause-types c = λ before covers.
    covers_more c.args.types.now c.insert.new.self before c.args.variable.now c.in_ok-name.name c.in_ok-ty.ty c.in_ok-name.ensures c.in_ok-ty.ensures covers (sym c.if-contains_key.ensures) c.in_ok-insert.ensures.updates.0

pub returns-clause-repeated : goal.returns-clause-repeated
returns-clause-repeated c = λ before covers.
    let e = has_name-covered c.args.types.now before c.args.variable.now.name covers ∙ sym c.if-contains_key.ensures in
    rw e refl
