use Rattle.std.proofs.Common.{◌≡◌, ℕ, List, Result, Ok, Err, sym, ◌∙◌, arith}
use Rattle.std.specs.Prelude.{IfOk}
use Rattle.steps_keys.specs.declared.kind.Kind.{Kind}
use Rattle.byte_readers.specs.Lawful.{IsBytes}
use Rattle.steps_values.specs.declared.refusal.Refusal.{Refusal}
use Rattle.steps_values.specs.declared.refusal.Refusal.TheVariants.{Short, Trailing, NotCanonical, WrongKind, OutOfMemory}
use Rattle.steps_values.specs.declared.value.Value.{Value}
use Rattle.steps_values.specs.Values.{IsValue, canon, kind_of_value, decoding, IsDecodedUnlessMemory}
use Rattle.steps_values.proofs.ValueLaws.{decoded_takes, decoded_at}
use Rattle.steps_values.proofs.reading.decode.Goals as goal

found_in : (kind : Kind) (bytes : List ℕ) (r : Result Value Refusal) → IsBytes bytes → IsDecodedUnlessMemory r (decoding kind bytes) → IfOk r (λ v. IsValue v × (kind_of_value v ≡ kind) × (bytes ≡ canon v))
found_in kind bytes (Ok v) fits is = decoded_takes kind bytes v fits (sym is)
found_in kind bytes (Err e) fits is = tt

only_in : (r a b : Result Value Refusal) → a ≡ b → IsDecodedUnlessMemory r a → IsDecodedUnlessMemory r b
only_in (Ok v) a b e is = is ∙ e
only_in (Err OutOfMemory) a b e is = tt
only_in (Err Short) a b e is = is ∙ e
only_in (Err Trailing) a b e is = is ∙ e
only_in (Err (NotCanonical at)) a b e is = is ∙ e
only_in (Err WrongKind) a b e is = is ∙ e

pub returns-clause-found : goal.returns-clause-found
returns-clause-found c = found_in c.args.kind c.args.bytes.now c.read_value.result (λ i. omega (arith, c.type_inv.bytes i)) c.read_value.ensures

pub returns-clause-only : goal.returns-clause-only
returns-clause-only c = λ v h k e. only_in c.read_value.result (decoding c.args.kind c.args.bytes.now) (Ok v) (decoded_at c.args.kind c.args.bytes.now v h k e) c.read_value.ensures
