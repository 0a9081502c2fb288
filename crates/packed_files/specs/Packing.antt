-- Files in one run of bytes.
use Rattle.std.specs.Prelude.{◌≡◌, ℕ, ◌<◌, ◌^◌, true, List, ◌++◌, length, flat_map}
use Rattle.std.specs.Str.{is_utf8}
use Rattle.byte_readers.specs.Spelling.{eight}
use Rattle.named_files.specs.Projects.{SourceFile}

-- the length of some bytes in eight bytes, the greatest first, and the bytes
abbrev pub run : List ℕ → List ℕ
run bytes = eight (length bytes) ++ bytes

-- the file's name, and its bytes
abbrev pub packed_file : SourceFile → List ℕ
packed_file file = run file.name ++ run file.bytes

-- one file behind the other
abbrev pub packed : List SourceFile → List ℕ
packed files = flat_map packed_file files

-- The name is a text, and both lengths have a spelling.
pub record IsPackable (file : SourceFile) : Type 0 where
  pub text : is_utf8 file.name ≡ true
  pub name : length file.name < 2 ^ 64
  pub bytes : length file.bytes < 2 ^ 64
