-- The rule of a list, and what a step that adds to it shows.
use Rattle.std.specs.Prelude.{ℕ, ◌≡◌, ◌==◌, true, List, [], ◌∷◌, ◌++◌, length, MatchBool}
use Rattle.logbook.specs.Pages.{Cell, Step, View, Book, Named}

-- the first word is the length of the list. A book has two words, of which this one leaves the second at 0
abbrev pub IsKept : {E : Type 0} → List Cell → List E → Type 0
IsKept cells log = cells ≡ (length log, true) ∷ (0, true) ∷ []

-- the word that threads share
abbrev pub head_of : Book → Named
head_of b = record { tracked = true; key = 0; book = b }

-- if the length was the one that was expected, the entry was added to all that had been seen
abbrev pub Adds : {E : Type 0} → Step E → View E ℕ → ℕ → View E ℕ → Type 0
Adds s v found w = MatchBool (found == s.old) (w.0 ≡ v.0 ++ s.ask ∷ []) (Unit {0})
