-- What is taken from a feed.
use Rattle.std.specs.Prelude.{◌≡◌, ℕ, ◌+◌, ◌<◌, ◌≤◌, List, [], ◌∷◌, ◌++◌, length, map, take, sum, Option, Some, None, Result, Ok, Err}
use Rattle.std.specs.List.{concat}
use Rattle.devices.specs.Devices.{one_more}
use Rattle.redgreen_words.specs.Words.{line_limit, IsOneLine}
use Rattle.redgreen_words.specs.declared.fault.ReadFault.{ReadFault}
use Rattle.redgreen_words.specs.declared.fault.ReadFault.TheVariants.{Ended, CutLine, LongLine, Line, CutString, Device, OutOfMemory}

-- the bytes begin with the part, and what comes after it is held from now on
pub record Left (new : List ℕ → Type 0) (part bytes : List ℕ) : Type 0 where
  pub rest : List ℕ
  pub whole : bytes ≡ part ++ rest
  pub holds : new rest

-- just the part was taken from what was held, if that is known
pub record Given (old new : List ℕ → Type 0) (part : List ℕ) : Type 0 where
  pub left : (bytes : List ℕ) → old bytes → Left new part bytes

-- this holds of what is held, if that is known
abbrev pub OfHeld : (List ℕ → Type 0) → (List ℕ → Type 0) → Type 0
OfHeld holds P = (bytes : List ℕ) → holds bytes → P bytes

-- just a failure of the device is counted
abbrev pub CountsFault : ReadFault → ℕ → ℕ → Type 0
CountsFault Device old new = new ≡ one_more old
CountsFault Ended old new = new ≡ old
CountsFault CutLine old new = new ≡ old
CountsFault LongLine old new = new ≡ old
CountsFault (Line fault) old new = new ≡ old
CountsFault (CutString k) old new = new ≡ old
CountsFault OutOfMemory old new = new ≡ old

abbrev pub CountsRead : {A : Type 0} → Result A ReadFault → ℕ → ℕ → Type 0
CountsRead (Ok a) old new = new ≡ old
CountsRead (Err fault) old new = CountsFault fault old new

-- memory ran out, or the device failed
abbrev pub IsOutside : ReadFault → Type 0
IsOutside Ended = ⊥
IsOutside CutLine = ⊥
IsOutside LongLine = ⊥
IsOutside (Line fault) = ⊥
IsOutside (CutString k) = ⊥
IsOutside Device = Unit {0}
IsOutside OutOfMemory = Unit {0}

-- the next byte, or none at the end
abbrev pub TakesByte : (List ℕ → Type 0) → (List ℕ → Type 0) → Result (Option ℕ) ReadFault → Type 0
TakesByte old new (Ok None) = OfHeld old (λ bytes. bytes ≡ [])
TakesByte old new (Ok (Some b)) = Given old new (b ∷ [])
TakesByte old new (Err fault) = IsOutside fault

-- ---- lines

-- so many bytes come without LF
pub record HasLongLine (bytes : List ℕ) : Type 0 where
  pub front : List ℕ
  pub rest : List ℕ
  pub whole : bytes ≡ front ++ rest
  pub one : IsOneLine front
  pub long : length front ≡ line_limit

-- some bytes without LF are all that there is
pub record IsCutLine (bytes : List ℕ) : Type 0 where
  pub some : 0 < length bytes
  pub one : IsOneLine bytes
  pub short : length bytes < line_limit

-- the bytes don't begin with a line
abbrev pub BreaksLine : ReadFault → List ℕ → Type 0
BreaksLine Ended bytes = bytes ≡ []
BreaksLine CutLine bytes = IsCutLine bytes
BreaksLine LongLine bytes = HasLongLine bytes
BreaksLine (Line fault) bytes = ⊥
BreaksLine (CutString k) bytes = ⊥
BreaksLine Device bytes = Unit {0}
BreaksLine OutOfMemory bytes = Unit {0}

-- the line and its LF were taken
pub record TookLine (old new : List ℕ → Type 0) (line : List ℕ) : Type 0 where
  pub given : Given old new (line ++ (10 ∷ []))
  pub one : IsOneLine line
  pub short : length line < line_limit

abbrev pub TakesLine : {A : Type 0} → (List ℕ → Type 0) → (List ℕ → Type 0) → (A → List ℕ) → Result A ReadFault → Type 0
TakesLine old new view (Ok line) = TookLine old new (view line)
TakesLine old new view (Err fault) = OfHeld old (BreaksLine fault)

-- ---- byte strings

-- at most so many bytes were taken and appended to the text, and none only at the end
pub record Appended (old new : List ℕ → Type 0) (before after : List ℕ) (most count : ℕ) : Type 0 where
  pub part : List ℕ
  pub size : length part ≡ count
  pub within : count ≤ most
  pub given : Given old new part
  pub appended : after ≡ before ++ part
  pub end : 0 < most → count ≡ 0 → OfHeld old (λ bytes. bytes ≡ [])

abbrev pub Appends : (List ℕ → Type 0) → (List ℕ → Type 0) → List ℕ → List ℕ → ℕ → Result ℕ ReadFault → Type 0
Appends old new before after most (Ok count) = Appended old new before after most count
Appends old new before after most (Err fault) = IsOutside fault

-- there are fewer than so many bytes for the byte string of this index
abbrev pub StopsString : (List ℕ → Type 0) → ℕ → ℕ → ReadFault → Type 0
StopsString old count index (CutString k) = (k ≡ index) × OfHeld old (λ bytes. length bytes < count)
StopsString old count index fault = IsOutside fault

-- so many bytes were taken, or there are fewer
abbrev pub TakesString : {A : Type 0} → (List ℕ → Type 0) → (List ℕ → Type 0) → (A → List ℕ) → ℕ → ℕ → Result A ReadFault → Type 0
TakesString old new view count index (Ok string) = (length (view string) ≡ count) × Given old new (view string)
TakesString old new view count index (Err fault) = StopsString old count index fault

-- the bytes end within the byte string of this index
abbrev pub EndsWithin : (List ℕ → Type 0) → List ℕ → ℕ → Type 0
EndsWithin old lengths k = (k < length lengths) × OfHeld old (λ bytes. length bytes < sum (take (k + 1) lengths))

abbrev pub StopsStrings : (List ℕ → Type 0) → List ℕ → ReadFault → Type 0
StopsStrings old lengths (CutString k) = EndsWithin old lengths k
StopsStrings old lengths fault = IsOutside fault

-- byte strings of these lengths were taken, or the bytes end within one of them
abbrev pub TakesStrings : {A : Type 0} → (List ℕ → Type 0) → (List ℕ → Type 0) → (A → List (List ℕ)) → List ℕ → Result A ReadFault → Type 0
TakesStrings old new view lengths (Ok strings) = (map length (view strings) ≡ lengths) × Given old new (concat (view strings))
TakesStrings old new view lengths (Err fault) = StopsStrings old lengths fault
