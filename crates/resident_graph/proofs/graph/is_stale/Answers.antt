use Rattle.std.proofs.Common.{◌≡◌, ◌<◌, Bool, true, false, not, Some, refl, sym, ap, ◌∙◌, arith}
use Rattle.item_ids.specs.Inputs.{rank}
use Rattle.result_bytes.specs.declared.value.Value.{Value}
use Rattle.graph_rules.specs.Keys.{input_of}
use Rattle.graph_rules.proofs.KeyRules.{above}
use Rattle.resident_graph.specs.Lists.{key_in}
use Rattle.resident_graph.proofs.Lists.{key_at, value_at}
use Rattle.resident_graph.proofs.graph.is_stale.Goals as goal

pub returns-in_default-get : goal.returns-in_default-get
returns-in_default-get c = λ off within in_values low.
    let here : key_in c.args.keys.now.keys c.args.at ≡ c.in-Some.key.now = key_at c.args.keys.now.keys c.args.at c.in-Some.key.now (sym c.in-Some.ensures.key) in
    let lt : 0 < rank c.in-Some.key.now = above c.args.inputs.now c.in-Some.key.now c.in_default-get.ensures in
    let zero : rank c.in-Some.key.now ≡ 0 = ap rank (sym here) ∙ low in
    absurd (omega (arith, lt, zero))

is_on : (b : Bool) → not b ≡ false → b ≡ true
is_on true e = refl
is_on false e = absurd (let bad : true ≡ false = e in cc)

pub returns-then-at-values : goal.returns-then-at-values
returns-then-at-values c = λ fresh within in_values low.
    let here : key_in c.args.keys.now.keys c.args.at ≡ c.in-Some.key.now = key_at c.args.keys.now.keys c.args.at c.in-Some.key.now (sym c.in-Some.ensures.key) in
    let same = c.same_result.ensures.0 (is_on c.same_result.result fresh) in
    let value = value_at c.args.values.now c.args.at c.index-values-at.result in_values c.index-values-at.is in
    ap (input_of c.args.inputs.now) here
    ∙ (c.in-Some-get.ensures
    ∙ ap (λ (v : Value). Some v) (sym c.deref-then-at-values.ensures ∙ (sym same ∙ (c.deref.ensures ∙ sym value))))
