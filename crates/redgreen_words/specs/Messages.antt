-- Messages, and their bytes.
use Rattle.std.specs.Prelude.{ℕ, ◌<◌, List, [], ◌∷◌, ◌++◌, map, length, Option, Some, None}
use Rattle.std.specs.List.{concat}
use Rattle.redgreen_words.specs.declared.word.Word.{Word}
use Rattle.redgreen_words.specs.declared.word.Word.TheVariants as words
use Rattle.redgreen_words.specs.declared.client.FromClient.{FromClient}
use Rattle.redgreen_words.specs.declared.client.FromClient.TheVariants as client
use Rattle.redgreen_words.specs.declared.engine.FromEngine.{FromEngine}
use Rattle.redgreen_words.specs.declared.engine.FromEngine.TheVariants as engine
use Rattle.redgreen_words.specs.Words.{line_of, line_limit, AreSmall}

-- what a message is made of
pub record Parts : Type 0 where
  pub word : Word
  pub numbers : List ℕ
  pub strings : List (List ℕ)

-- the numbers in its line: the lengths of its byte strings come last
abbrev pub numbers_of : Parts → List ℕ
numbers_of p = p.numbers ++ map length p.strings

-- its line, LF, and the byte strings
abbrev pub spelled : Parts → List ℕ
spelled p = line_of p.word (numbers_of p) ++ (10 ∷ concat p.strings)

-- its numbers are below 2^64, and its line isn't too long
pub record Fits (p : Parts) : Type 0 where
  pub small : AreSmall (numbers_of p)
  pub short : length (line_of p.word (numbers_of p)) < line_limit

-- the byte string, if there is one
abbrev pub strings_of : Option (List ℕ) → List (List ℕ)
strings_of None = []
strings_of (Some string) = string ∷ []

abbrev pub client_parts : FromClient → Parts
client_parts (client.Audit paths) = record { word = words.Audit; numbers = []; strings = paths }
client_parts (client.Read id key) = record { word = words.Read; numbers = id ∷ []; strings = key ∷ [] }
client_parts (client.Done id bytes) = record { word = words.Done; numbers = id ∷ []; strings = bytes ∷ [] }
client_parts (client.Fail id text) = record { word = words.Fail; numbers = id ∷ []; strings = text ∷ [] }
client_parts (client.Bytes bytes) = record { word = words.Bytes; numbers = []; strings = strings_of bytes }
client_parts client.Stop = record { word = words.Stop; numbers = []; strings = [] }

abbrev pub engine_parts : FromEngine → Parts
engine_parts (engine.Run id key) = record { word = words.Run; numbers = id ∷ []; strings = key ∷ [] }
engine_parts (engine.Value id bytes) = record { word = words.Value; numbers = id ∷ []; strings = bytes ∷ [] }
engine_parts (engine.Input key) = record { word = words.Input; numbers = []; strings = key ∷ [] }
engine_parts (engine.Stale key) = record { word = words.Stale; numbers = []; strings = key ∷ [] }
engine_parts (engine.Accepted sessions runs values) = record { word = words.Accepted; numbers = sessions ∷ runs ∷ []; strings = values }
engine_parts (engine.Refused session entry code text) = record { word = words.Refused; numbers = session ∷ entry ∷ code ∷ []; strings = text ∷ [] }
