-- The words that messages begin with, and the lines that they stand in.
use Rattle.std.specs.Prelude.{◌≡◌, ℕ, ◌<◌, ◌≤◌, ◌^◌, ◌==◌, List, ◌∷◌, ◌++◌, codes, decimal, flat_map}
use Rattle.std.specs.List.{AllByRecursion, slice_split}
use Rattle.redgreen_words.specs.declared.word.Word.{Word}
use Rattle.redgreen_words.specs.declared.word.Word.TheVariants.{Run, Value, Input, Stale, Accepted, Refused, Audit, Read, Done, Fail, Bytes, Stop}

abbrev pub spell : Word → List ℕ
spell Run = codes "run"
spell Value = codes "value"
spell Input = codes "input"
spell Stale = codes "stale"
spell Accepted = codes "accepted"
spell Refused = codes "refused"
spell Audit = codes "audit"
spell Read = codes "read"
spell Done = codes "done"
spell Fail = codes "fail"
spell Bytes = codes "bytes"
spell Stop = codes "stop"

-- the word, and each number in decimal after one space
abbrev pub line_of : Word → List ℕ → List ℕ
line_of word numbers = spell word ++ flat_map (λ n. 32 ∷ decimal n) numbers

-- how many of the numbers aren't lengths
abbrev pub own_count : Word → ℕ
own_count Run = 1
own_count Value = 1
own_count Input = 0
own_count Stale = 0
own_count Accepted = 2
own_count Refused = 3
own_count Audit = 0
own_count Read = 1
own_count Done = 1
own_count Fail = 1
own_count Bytes = 0
own_count Stop = 0

-- which words an engine says, with how many numbers
abbrev pub engine_takes : Word → ℕ → Type 0
engine_takes Run n = n ≡ 2
engine_takes Value n = n ≡ 2
engine_takes Input n = n ≡ 1
engine_takes Stale n = n ≡ 1
engine_takes Accepted n = 2 ≤ n
engine_takes Refused n = n ≡ 4
engine_takes Audit n = ⊥
engine_takes Read n = ⊥
engine_takes Done n = ⊥
engine_takes Fail n = ⊥
engine_takes Bytes n = ⊥
engine_takes Stop n = ⊥

-- which words a client says, with how many numbers
abbrev pub client_takes : Word → ℕ → Type 0
client_takes Run n = ⊥
client_takes Value n = ⊥
client_takes Input n = ⊥
client_takes Stale n = ⊥
client_takes Accepted n = ⊥
client_takes Refused n = ⊥
client_takes Audit n = Unit {0}
client_takes Read n = n ≡ 2
client_takes Done n = n ≡ 2
client_takes Fail n = n ≡ 2
client_takes Bytes n = n ≤ 1
client_takes Stop n = n ≡ 0

-- a line has fewer bytes than this
abbrev pub line_limit : ℕ
line_limit = 1048576

abbrev pub AreSmall : List ℕ → Type 0
AreSmall numbers = AllByRecursion (λ n. n < 2 ^ 64) numbers

-- what is between the spaces of a line
abbrev pub items_of : List ℕ → List (List ℕ)
items_of line = slice_split (λ b. b == 32) line

abbrev pub IsOneLine : List ℕ → Type 0
IsOneLine bytes = AllByRecursion (λ b. b ≡ 10 → ⊥) bytes
