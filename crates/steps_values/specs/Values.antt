-- The canonical bytes of a value, kind by kind, and reading them.
use Rattle.std.specs.Prelude.{◌≡◌, ℕ, ◌-◌, List, [], ◌∷◌, length, IfSome, Result, Ok, Err, ◌==◌, if◌then◌else◌}
use Rattle.steps_keys.specs.declared.kind.Kind.{Kind}
use Rattle.steps_keys.specs.declared.kind.Kind.TheVariants as kinds
use Rattle.steps_keys.specs.Kinds.{number_of}
use Rattle.steps_keys.specs.declared.key.Key.{Key}
use Rattle.steps_keys.specs.Keys.{kind_of}
use Rattle.byte_readers.specs.declared.breach.Breach.{Breach}
use Rattle.byte_readers.specs.declared.breach.Breach.TheVariants as breaches
use Rattle.byte_readers.specs.Spelling.{name, option, list}
use Rattle.byte_readers.specs.Reading.{Decoder, made_at, option_at}
use Rattle.steps_values.specs.declared.refusal.Refusal.{Refusal}
use Rattle.steps_values.specs.declared.refusal.Refusal.TheVariants.{Short, Trailing, NotCanonical, WrongKind, OutOfMemory}
use Rattle.steps_values.specs.declared.value.Value.{Value}
use Rattle.steps_values.specs.declared.value.Value.TheVariants.{Files, Source, Plan, Compile, Link, Answer}
use Rattle.steps_values.specs.Canon.{text, plan}
use Rattle.steps_values.specs.Storable.{FileNamesFit, TextFits, PlanFits}
use Rattle.steps_values.specs.Reading.{file_names_at, text_at, plan_at}

abbrev pub kind_of_value : Value → Kind
kind_of_value (Files names) = kinds.Files
kind_of_value (Source bytes) = kinds.Source
kind_of_value (Plan steps) = kinds.Plan
kind_of_value (Compile bytes) = kinds.Compile
kind_of_value (Link bytes) = kinds.Link
kind_of_value (Answer bytes) = kinds.Answer

-- a value is of the kind of a key
abbrev pub IsOfKind : Key → Value → Type 0
IsOfKind k v = kind_of_value v ≡ kind_of k

-- what follows the kind's number
abbrev pub content : Value → List ℕ
content (Files names) = list name names
content (Source bytes) = option text bytes
content (Plan steps) = option plan steps
content (Compile bytes) = option text bytes
content (Link bytes) = option text bytes
content (Answer bytes) = option text bytes

-- the canonical bytes
unfoldable pub canon : Value → List ℕ
canon v = number_of (kind_of_value v) ∷ content v

-- the ranges that a value keeps in its type
unfoldable pub IsValue : Value → Type 0
IsValue (Files names) = FileNamesFit names
IsValue (Source bytes) = IfSome bytes TextFits
IsValue (Plan steps) = IfSome steps PlanFits
IsValue (Compile bytes) = IfSome bytes TextFits
IsValue (Link bytes) = IfSome bytes TextFits
IsValue (Answer bytes) = IfSome bytes TextFits

-- ---- reading from left to right

unfoldable pub content_at : Kind → Decoder Value
content_at kinds.Files bytes = made_at Files file_names_at bytes
content_at kinds.Source bytes = made_at Source (option_at text_at) bytes
content_at kinds.Plan bytes = made_at Plan (option_at plan_at) bytes
content_at kinds.Compile bytes = made_at Compile (option_at text_at) bytes
content_at kinds.Link bytes = made_at Link (option_at text_at) bytes
content_at kinds.Answer bytes = made_at Answer (option_at text_at) bytes

-- a breach as a refusal: bytes that are left, counted from the first byte of all
abbrev pub refusal : ℕ → Breach → Refusal
refusal len breaches.Short = Short
refusal len (breaches.NotCanonical left) = NotCanonical (len - left)

-- no byte may be left
abbrev pub whole : ℕ → Result (Value × List ℕ) Breach → Result Value Refusal
whole len (Ok x) = if length x.1 == 0 then Ok x.0 else Err Trailing
whole len (Err breach) = Err (refusal len breach)

-- the value of a kind that the bytes spell, or the first breach
unfoldable pub decoding : Kind → List ℕ → Result Value Refusal
decoding kind [] = Err Short
decoding kind (b ∷ bytes) =
    if b == number_of kind then whole (length (b ∷ bytes)) (content_at kind bytes)
    else Err WrongKind

-- the answer, unless memory ran out
abbrev pub IsDecodedUnlessMemory : Result Value Refusal → Result Value Refusal → Type 0
IsDecodedUnlessMemory (Err OutOfMemory) answer = Unit {0}
IsDecodedUnlessMemory result answer = result ≡ answer
