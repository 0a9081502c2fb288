-- What each step of reading and writing a message gives.
use Rattle.std.specs.Prelude.{◌≡◌, ℕ, ◌+◌, ◌<◌, List, [], ◌∷◌, ◌++◌, length, map, drop, slice_get, decimal, Some, Result, Ok, Err}
use Rattle.std.specs.List.{concat}
use Rattle.devices.specs.Devices.{one_more, Begins}
use Rattle.redgreen_words.specs.declared.word.Word.{Word}
use Rattle.redgreen_words.specs.declared.fault.LineFault.{LineFault}
use Rattle.redgreen_words.specs.declared.fault.LineFault.TheVariants.{UnknownWord, NotANumber, WrongCount}
use Rattle.redgreen_words.specs.declared.fault.ReadFault.{ReadFault}
use Rattle.redgreen_words.specs.declared.fault.ReadFault.TheVariants.{Ended, CutLine, LongLine, Line, CutString, Device, OutOfMemory}
use Rattle.redgreen_words.specs.declared.fault.WriteFault.{WriteFault}
use Rattle.redgreen_words.specs.declared.fault.WriteFault.TheVariants as writes
use Rattle.redgreen_words.specs.Words.{spell, line_of, line_limit, items_of, AreSmall}
use Rattle.redgreen_words.specs.Messages.{Parts, numbers_of, spelled, Fits}
use Rattle.redgreen_words.specs.Feeding.{Given, OfHeld, EndsWithin, IsOutside}
use Rattle.redgreen_words.specs.Faults.{IsNoNumber, IsNoNumberAt, lengths_in, IsWrong}

-- ---- the items of a line

-- the item of this index is no number
pub record IsNoNumberIn (items : List (List ℕ)) (i : ℕ) : Type 0 where
  pub item : List ℕ
  pub here : slice_get items i ≡ Some item
  pub none : IsNoNumber item

abbrev pub RefusesItems : List (List ℕ) → LineFault → Type 0
RefusesItems items UnknownWord = ⊥
RefusesItems items (NotANumber k) = (i : ℕ) × (k ≡ i + 1) × IsNoNumberIn items i
RefusesItems items (WrongCount n) = ⊥

abbrev pub StopsItems : List (List ℕ) → ReadFault → Type 0
StopsItems items (Line fault) = RefusesItems items fault
StopsItems items OutOfMemory = Unit {0}
StopsItems items Ended = ⊥
StopsItems items CutLine = ⊥
StopsItems items LongLine = ⊥
StopsItems items (CutString k) = ⊥
StopsItems items Device = ⊥

-- the items are these numbers
abbrev pub AreNumbers : {A : Type 0} → List (List ℕ) → (A → List ℕ) → Result A ReadFault → Type 0
AreNumbers items view (Ok a) = (items ≡ map decimal (view a)) × AreSmall (view a)
AreNumbers items view (Err fault) = StopsItems items fault

-- ---- the line of a message

abbrev pub RefusesHead : List ℕ → LineFault → Type 0
RefusesHead line UnknownWord = (word : Word) → slice_get (items_of line) 0 ≡ Some (spell word) → ⊥
RefusesHead line (NotANumber k) = IsNoNumberAt line k
RefusesHead line (WrongCount n) = ⊥

abbrev pub StopsHead : List ℕ → ReadFault → Type 0
StopsHead line (Line fault) = RefusesHead line fault
StopsHead line OutOfMemory = Unit {0}
StopsHead line Ended = ⊥
StopsHead line CutLine = ⊥
StopsHead line LongLine = ⊥
StopsHead line (CutString k) = ⊥
StopsHead line Device = ⊥

-- the line has this word and these numbers
abbrev pub IsHead : {A : Type 0} → List ℕ → (A → Word) → (A → List ℕ) → Result A ReadFault → Type 0
IsHead line word numbers (Ok a) = (line ≡ line_of (word a) (numbers a)) × AreSmall (numbers a)
IsHead line word numbers (Err fault) = StopsHead line fault

-- ---- what comes after the line

-- there are other than so many numbers, or the bytes end within the one byte string, whose length is the last of them
abbrev pub StopsOne : (List ℕ → Type 0) → ℕ → List ℕ → ReadFault → Type 0
StopsOne old own numbers (Line UnknownWord) = ⊥
StopsOne old own numbers (Line (NotANumber k)) = ⊥
StopsOne old own numbers (Line (WrongCount n)) = (n ≡ length numbers) × (n ≡ own + 1 → ⊥)
StopsOne old own numbers (CutString k) = (length numbers ≡ own + 1) × EndsWithin old (drop own numbers) k
StopsOne old own numbers Ended = ⊥
StopsOne old own numbers CutLine = ⊥
StopsOne old own numbers LongLine = ⊥
StopsOne old own numbers Device = Unit {0}
StopsOne old own numbers OutOfMemory = Unit {0}

-- the byte string of this length alone
abbrev pub TakesLone : {A : Type 0} → (List ℕ → Type 0) → (List ℕ → Type 0) → (A → List ℕ) → List ℕ → Result A ReadFault → Type 0
TakesLone old new view numbers (Ok a) = (numbers ≡ length (view a) ∷ []) × Given old new (concat (view a ∷ []))
TakesLone old new view numbers (Err fault) = StopsOne old 0 numbers fault

-- a number, and the byte string of the length that comes after it
abbrev pub TakesNumbered : {A : Type 0} → (List ℕ → Type 0) → (List ℕ → Type 0) → (A → List ℕ) → List ℕ → Result (ℕ × A) ReadFault → Type 0
TakesNumbered old new view numbers (Ok x) = (numbers ≡ x.0 ∷ length (view x.1) ∷ []) × Given old new (concat (view x.1 ∷ []))
TakesNumbered old new view numbers (Err fault) = StopsOne old 1 numbers fault

-- no message of the word has these numbers, or the bytes end within its byte strings
abbrev pub RefusesRest : (Word → ℕ → Type 0) → (List ℕ → Type 0) → Word → List ℕ → ReadFault → Type 0
RefusesRest takes old word numbers (Line UnknownWord) = (n : ℕ) → takes word n → ⊥
RefusesRest takes old word numbers (Line (NotANumber k)) = ⊥
RefusesRest takes old word numbers (Line (WrongCount n)) = (n ≡ length numbers) × (takes word n → ⊥)
RefusesRest takes old word numbers (CutString k) = takes word (length numbers) × EndsWithin old (lengths_in word numbers) k
RefusesRest takes old word numbers Ended = ⊥
RefusesRest takes old word numbers CutLine = ⊥
RefusesRest takes old word numbers LongLine = ⊥
RefusesRest takes old word numbers Device = Unit {0}
RefusesRest takes old word numbers OutOfMemory = Unit {0}

-- the message has this word and these numbers, and its byte strings were taken
abbrev pub Finishes : {M : Type 0} → (M → Parts) → (Word → ℕ → Type 0) → (List ℕ → Type 0) → (List ℕ → Type 0)
    → Word → List ℕ → Result M ReadFault → Type 0
Finishes parts takes old new word numbers (Ok m) =
    ((parts m).word ≡ word) × (numbers_of (parts m) ≡ numbers) × Given old new (concat (parts m).strings)
Finishes parts takes old new word numbers (Err fault) = RefusesRest takes old word numbers fault

-- ---- messages

-- just the message's bytes were taken, or the bytes have the fault
abbrev pub Reads : {M : Type 0} → (M → Parts) → (Word → ℕ → Type 0) → (List ℕ → Type 0) → (List ℕ → Type 0)
    → Result M ReadFault → Type 0
Reads parts takes old new (Ok m) = Fits (parts m) × Given old new (spelled (parts m))
Reads parts takes old new (Err fault) = OfHeld old (IsWrong takes fault)

-- ---- writing

abbrev pub CountsWriteFault : WriteFault → ℕ → ℕ → Type 0
CountsWriteFault writes.LongLine old new = new ≡ old
CountsWriteFault writes.Device old new = new ≡ one_more old
CountsWriteFault writes.OutOfMemory old new = new ≡ old

-- just a failure of the device is counted
abbrev pub CountsWrite : {A : Type 0} → Result A WriteFault → ℕ → ℕ → Type 0
CountsWrite (Ok a) old new = new ≡ old
CountsWrite (Err fault) old new = CountsWriteFault fault old new

-- only a failure of the device leaves something written
abbrev pub WritesNot : (List ℕ → Type 0) → (List ℕ → Type 0) → Parts → WriteFault → Type 0
WritesNot old new p writes.LongLine = ((front : List ℕ) → old front → new front) × (length (line_of p.word (numbers_of p)) < line_limit → ⊥)
WritesNot old new p writes.Device = (front : List ℕ) → old front → Begins new front (spelled p)
WritesNot old new p writes.OutOfMemory = (front : List ℕ) → old front → new front

-- the message's bytes are appended
abbrev pub Writes : {A : Type 0} → (List ℕ → Type 0) → (List ℕ → Type 0) → Parts → Result A WriteFault → Type 0
Writes old new p (Ok a) = Fits p × ((front : List ℕ) → old front → new (front ++ spelled p))
Writes old new p (Err fault) = WritesNot old new p fault

-- the bytes are appended, or a beginning of them
abbrev pub PutsSlices : {A : Type 0} → (List ℕ → Type 0) → (List ℕ → Type 0) → List ℕ → Result A WriteFault → Type 0
PutsSlices old new bytes (Ok a) = (front : List ℕ) → old front → new (front ++ bytes)
PutsSlices old new bytes (Err writes.Device) = (front : List ℕ) → old front → Begins new front bytes
PutsSlices old new bytes (Err writes.OutOfMemory) = ⊥
PutsSlices old new bytes (Err writes.LongLine) = ⊥

-- the bytes are appended, or a beginning of them; or nothing, if memory ran out
abbrev pub Delivers : {A : Type 0} → (List ℕ → Type 0) → (List ℕ → Type 0) → List ℕ → Result A WriteFault → Type 0
Delivers old new bytes (Ok a) = (front : List ℕ) → old front → new (front ++ bytes)
Delivers old new bytes (Err writes.Device) = (front : List ℕ) → old front → Begins new front bytes
Delivers old new bytes (Err writes.OutOfMemory) = (front : List ℕ) → old front → new front
Delivers old new bytes (Err writes.LongLine) = ⊥

-- if the message was held, it is what was read, and what came after it is held from now on
abbrev pub ReadsBack : {M : Type 0} → (List ℕ → Type 0) → M → List ℕ → Result M ReadFault → Type 0
ReadsBack new m rest (Ok n) = (n ≡ m) × new rest
ReadsBack new m rest (Err fault) = IsOutside fault
