-- What is wrong with bytes that no message was read from.
use Rattle.std.specs.Prelude.{◌≡◌, ◌≢◌, ℕ, ◌+◌, ◌<◌, ◌^◌, List, [], ◌∷◌, ◌++◌, length, take, drop, sum, slice_get, decimal, Some}
use Rattle.redgreen_words.specs.declared.word.Word.{Word}
use Rattle.redgreen_words.specs.declared.fault.LineFault.{LineFault}
use Rattle.redgreen_words.specs.declared.fault.LineFault.TheVariants.{UnknownWord, NotANumber, WrongCount}
use Rattle.redgreen_words.specs.declared.fault.ReadFault.{ReadFault}
use Rattle.redgreen_words.specs.declared.fault.ReadFault.TheVariants.{Ended, CutLine, LongLine, Line, CutString, Device, OutOfMemory}
use Rattle.redgreen_words.specs.Words.{spell, line_of, own_count, items_of, AreSmall, IsOneLine}
use Rattle.redgreen_words.specs.Feeding.{HasLongLine, IsCutLine}

-- the bytes begin with this line, and the rest comes after its LF
pub record HasLine (bytes line rest : List ℕ) : Type 0 where
  pub whole : bytes ≡ line ++ (10 ∷ rest)
  pub one : IsOneLine line

-- no number below 2^64 is written so
abbrev pub IsNoNumber : List ℕ → Type 0
IsNoNumber item = (n : ℕ) → n < 2 ^ 64 → item ≢ decimal n

-- the item of this index isn't a number; the word has index 0
pub record IsNoNumberAt (line : List ℕ) (k : ℕ) : Type 0 where
  pub after : 0 < k
  pub item : List ℕ
  pub here : slice_get (items_of line) k ≡ Some item
  pub none : IsNoNumber item

-- a word and numbers, and no message has this word and so many
pub record HasWrongCount (takes : Word → ℕ → Type 0) (line : List ℕ) (count : ℕ) : Type 0 where
  pub word : Word
  pub numbers : List ℕ
  pub small : AreSmall numbers
  pub is : line ≡ line_of word numbers
  pub many : length numbers ≡ count
  pub none : takes word count → ⊥

abbrev pub IsNoLine : (Word → ℕ → Type 0) → List ℕ → LineFault → Type 0
IsNoLine takes line UnknownWord = (word : Word) (n : ℕ) → takes word n → slice_get (items_of line) 0 ≢ Some (spell word)
IsNoLine takes line (NotANumber k) = IsNoNumberAt line k
IsNoLine takes line (WrongCount count) = HasWrongCount takes line count

-- the first line isn't that of a message
pub record HasNoLine (takes : Word → ℕ → Type 0) (bytes : List ℕ) (fault : LineFault) : Type 0 where
  pub line : List ℕ
  pub rest : List ℕ
  pub here : HasLine bytes line rest
  pub none : IsNoLine takes line fault

-- the lengths of the byte strings of a line
abbrev pub lengths_in : Word → List ℕ → List ℕ
lengths_in word numbers = drop (own_count word) numbers

-- a message's line, and too few bytes after it for the byte string of this index
pub record IsCutAt (takes : Word → ℕ → Type 0) (bytes : List ℕ) (k : ℕ) : Type 0 where
  pub word : Word
  pub numbers : List ℕ
  pub rest : List ℕ
  pub small : AreSmall numbers
  pub here : HasLine bytes (line_of word numbers) rest
  pub fits : takes word (length numbers)
  pub inside : k < length (lengths_in word numbers)
  pub short : length rest < sum (take (k + 1) (lengths_in word numbers))

-- the bytes have this fault
abbrev pub IsWrong : (Word → ℕ → Type 0) → ReadFault → List ℕ → Type 0
IsWrong takes Ended bytes = bytes ≡ []
IsWrong takes CutLine bytes = IsCutLine bytes
IsWrong takes LongLine bytes = HasLongLine bytes
IsWrong takes (Line fault) bytes = HasNoLine takes bytes fault
IsWrong takes (CutString k) bytes = IsCutAt takes bytes k
IsWrong takes Device bytes = Unit {0}
IsWrong takes OutOfMemory bytes = Unit {0}
