-- The canonical bytes of the items that values are made of. Numbers are big endian.
use Rattle.std.specs.Prelude.{ℕ, Bool, true, false, List, [], ◌∷◌, ◌++◌, length}
use Rattle.byte_readers.specs.Spelling.{eight, name, option, list}
use Rattle.tree_spelling.specs.Spelling.{ty, field}
use Rattle.result_bytes.specs.declared.parts.ChainEnd.{ChainEnd}
use Rattle.result_bytes.specs.declared.parts.ChainEnd.TheVariants.{Top, Undeclared, Repeated}
use Rattle.result_bytes.specs.declared.files.IndexRow.{IndexRow}
use Rattle.result_bytes.specs.Payloads.{HeaderValue, SignatureValue, ChainValue}

-- the bytes of a source: their number, and they themselves
abbrev pub text : List ℕ → List ℕ
text bytes = eight (length bytes) ++ bytes

-- a class with its file
abbrev pub index_row : IndexRow → List ℕ
index_row row = name row.class ++ name row.file

abbrev pub boolean : Bool → List ℕ
boolean false = 0x00 ∷ []
boolean true = 0x01 ∷ []

-- a class without its bodies: main or not, superclass, fields, names of the methods
abbrev pub header : HeaderValue → List ℕ
header h =
    boolean h.is_main ++ (option name h.superclass ++ (list field h.fields ++ list name h.methods))

-- the types of a method: those of the formals, and the return type
abbrev pub signature : SignatureValue → List ℕ
signature s = list ty s.formals ++ ty s.returns

abbrev pub chain_end : ChainEnd → List ℕ
chain_end Top = 0x00 ∷ []
chain_end (Undeclared class) = 0x01 ∷ name class
chain_end (Repeated class) = 0x02 ∷ name class

-- a chain of classes and its end
abbrev pub chain : ChainValue → List ℕ
chain c = list name c.classes ++ chain_end c.end
