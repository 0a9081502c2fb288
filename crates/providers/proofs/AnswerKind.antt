-- A result of the query's kind is an answer.
use Rattle.std.proofs.Common.{◌≡◌, refl}
use Rattle.item_ids.specs.declared.kind.Kind.TheVariants as kinds
use Rattle.result_bytes.specs.declared.value.Value.{Value}
use Rattle.result_bytes.specs.declared.value.Value.TheVariants as values
use Rattle.result_bytes.specs.Values.{kind_of_value}
use Rattle.providers.specs.AnswerValues.{IsAnswerValue}

pub answer_value : (v : Value) → kind_of_value v ≡ kinds.Answer → IsAnswerValue v
answer_value (values.Answer answer) is = (answer, refl)
answer_value (values.Files x) is = absurd cc
answer_value (values.Source x) is = absurd cc
answer_value (values.Tree x) is = absurd cc
answer_value (values.Index x) is = absurd cc
answer_value (values.Header x) is = absurd cc
answer_value (values.Method x) is = absurd cc
answer_value (values.Sig x) is = absurd cc
answer_value (values.Supers x) is = absurd cc
answer_value (values.Members x) is = absurd cc
answer_value (values.CheckClass x) is = absurd cc
answer_value (values.CheckBody x) is = absurd cc
answer_value (values.Diags x) is = absurd cc
