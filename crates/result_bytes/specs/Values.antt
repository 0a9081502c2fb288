-- The canonical bytes of a value, kind by kind, and reading them.
use Rattle.std.specs.Prelude.{◌≡◌, ℕ, ◌-◌, List, [], ◌∷◌, length, IfSome, Result, Ok, Err, ◌==◌, if◌then◌else◌}
use Rattle.item_ids.specs.declared.kind.Kind.{Kind}
use Rattle.item_ids.specs.declared.kind.Kind.TheVariants as kinds
use Rattle.item_ids.specs.Kinds.{number_of}
use Rattle.item_ids.specs.declared.key.Key.{Key}
use Rattle.item_ids.specs.Keys.{kind_of}
use Rattle.byte_readers.specs.declared.breach.Breach.{Breach}
use Rattle.byte_readers.specs.declared.breach.Breach.TheVariants as breaches
use Rattle.byte_readers.specs.Spelling.{name, option, list}
use Rattle.byte_readers.specs.Reading.{Decoder, made_at, option_at}
use Rattle.tree_spelling.specs.Spelling.{file}
use Rattle.tree_spelling.specs.Storable.{FileFits}
use Rattle.tree_spelling.specs.Reading.{file_at}
use Rattle.tree_bytes.specs.Bodies.{body, BodyFits, body_at}
use Rattle.result_bytes.specs.declared.refusal.Refusal.{Refusal}
use Rattle.result_bytes.specs.declared.refusal.Refusal.TheVariants.{Short, Trailing, NotCanonical, WrongKind, OutOfMemory}
use Rattle.result_bytes.specs.declared.value.Value.{Value}
use Rattle.result_bytes.specs.declared.value.Value.TheVariants.{Files, Source, Tree, Index, Header, Method, Sig, Supers, Members, CheckClass, CheckBody, Diags, Answer}
use Rattle.result_bytes.specs.Canon.{text, index_row, header, signature, chain}
use Rattle.answer_bytes.specs.Canon.{table, class_fault, answer}
use Rattle.result_bytes.specs.Storable.{FileNamesFit, TextFits, IndexFits, HeaderFits, SignatureFits, ChainFits}
use Rattle.answer_bytes.specs.Storable.{TableFits, ClassFaultsFit, AnswerFits}
use Rattle.result_bytes.specs.Reading.{file_names_at, text_at, index_at, header_at, signature_at, chain_at}
use Rattle.answer_bytes.specs.Reading.{table_at, class_faults_at, answer_at}

abbrev pub kind_of_value : Value → Kind
kind_of_value (Files names) = kinds.Files
kind_of_value (Source bytes) = kinds.Source
kind_of_value (Tree tree) = kinds.Tree
kind_of_value (Index rows) = kinds.Index
kind_of_value (Header h) = kinds.Header
kind_of_value (Method b) = kinds.Method
kind_of_value (Sig s) = kinds.Sig
kind_of_value (Supers c) = kinds.Supers
kind_of_value (Members t) = kinds.Members
kind_of_value (CheckClass faults) = kinds.CheckClass
kind_of_value (CheckBody faults) = kinds.CheckBody
kind_of_value (Diags faults) = kinds.Diags
kind_of_value (Answer a) = kinds.Answer

-- a value is of the kind of a key
abbrev pub IsOfKind : Key → Value → Type 0
IsOfKind k v = kind_of_value v ≡ kind_of k

-- what follows the kind's number
abbrev pub content : Value → List ℕ
content (Files names) = list name names
content (Source bytes) = option text bytes
content (Tree tree) = option file tree
content (Index rows) = list index_row rows
content (Header h) = option header h
content (Method b) = option body b
content (Sig s) = option signature s
content (Supers c) = option chain c
content (Members t) = option table t
content (CheckClass faults) = list class_fault faults
content (CheckBody faults) = list class_fault faults
content (Diags faults) = list class_fault faults
content (Answer a) = answer a

-- the canonical bytes
unfoldable pub canon : Value → List ℕ
canon v = number_of (kind_of_value v) ∷ content v

-- the ranges, levels and orders that a value keeps in its type
unfoldable pub IsValue : Value → Type 0
IsValue (Files names) = FileNamesFit names
IsValue (Source bytes) = IfSome bytes TextFits
IsValue (Tree tree) = IfSome tree FileFits
IsValue (Index rows) = IndexFits rows
IsValue (Header h) = IfSome h HeaderFits
IsValue (Method b) = IfSome b BodyFits
IsValue (Sig s) = IfSome s SignatureFits
IsValue (Supers c) = IfSome c ChainFits
IsValue (Members t) = IfSome t TableFits
IsValue (CheckClass faults) = ClassFaultsFit faults
IsValue (CheckBody faults) = ClassFaultsFit faults
IsValue (Diags faults) = ClassFaultsFit faults
IsValue (Answer a) = AnswerFits a

-- ---- reading from left to right

unfoldable pub content_at : Kind → Decoder Value
content_at kinds.Files bytes = made_at Files file_names_at bytes
content_at kinds.Source bytes = made_at Source (option_at text_at) bytes
content_at kinds.Tree bytes = made_at Tree (option_at file_at) bytes
content_at kinds.Index bytes = made_at Index index_at bytes
content_at kinds.Header bytes = made_at Header (option_at header_at) bytes
content_at kinds.Method bytes = made_at Method (option_at body_at) bytes
content_at kinds.Sig bytes = made_at Sig (option_at signature_at) bytes
content_at kinds.Supers bytes = made_at Supers (option_at chain_at) bytes
content_at kinds.Members bytes = made_at Members (option_at table_at) bytes
content_at kinds.CheckClass bytes = made_at CheckClass class_faults_at bytes
content_at kinds.CheckBody bytes = made_at CheckBody class_faults_at bytes
content_at kinds.Diags bytes = made_at Diags class_faults_at bytes
content_at kinds.Answer bytes = made_at Answer answer_at bytes

-- a breach as a refusal: bytes that are left, counted from the first byte of all
abbrev pub refusal : ℕ → Breach → Refusal
refusal len breaches.Short = Short
refusal len (breaches.NotCanonical left) = NotCanonical (len - left)

-- no byte may be left
abbrev pub whole : ℕ → Result (Value × List ℕ) Breach → Result Value Refusal
whole len (Ok x) = if length x.1 == 0 then Ok x.0 else Err Trailing
whole len (Err breach) = Err (refusal len breach)

-- the value of a kind that the bytes spell, or the first breach
unfoldable pub decoding : Kind → List ℕ → Result Value Refusal
decoding kind [] = Err Short
decoding kind (b ∷ bytes) =
    if b == number_of kind then whole (length (b ∷ bytes)) (content_at kind bytes)
    else Err WrongKind

-- the answer, unless memory ran out
abbrev pub IsDecodedUnlessMemory : Result Value Refusal → Result Value Refusal → Type 0
IsDecodedUnlessMemory (Err OutOfMemory) answer = Unit {0}
IsDecodedUnlessMemory result answer = result ≡ answer
