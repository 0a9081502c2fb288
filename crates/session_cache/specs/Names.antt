-- The names of chains, which are folders, and of the files of their sessions.
use Rattle.std.specs.Prelude.{◌≡◌, ◌≢◌, ℕ, ◌/◌, ◌%◌, ◌≤◌, List, ◌++◌, Option, Some, None, All, Contains, codes, decimal}
use Rattle.sessions.specs.Sessions.{most_number}
use Rattle.session_cache.specs.declared.names.EntryKind.{EntryKind}
use Rattle.session_cache.specs.declared.names.EntryKind.TheVariants.{Chain, Session}

-- the greatest number of a chain in its cache, which is that of a session in its chain
abbrev pub most : ℕ
most = most_number

-- a number up to 9999 in four decimal digits
abbrev pub four_digits : ℕ → List ℕ
four_digits n =
    decimal (n / 1000) ++ (decimal (n / 100 % 10) ++ (decimal (n / 10 % 10) ++ decimal (n % 10)))

-- the byte of a decimal digit
abbrev pub IsDigit : ℕ → Type 0
IsDigit b = (48 ≤ b) × (b ≤ 57)

abbrev pub AreFour : ℕ → ℕ → ℕ → ℕ → Type 0
AreFour a b c d = IsDigit a × IsDigit b × IsDigit c × IsDigit d

-- c0012, or s0012.mjrg
abbrev pub entry_name : EntryKind → ℕ → List ℕ
entry_name Chain n = codes "c" ++ four_digits n
entry_name Session n = codes "s" ++ (four_digits n ++ codes ".mjrg")

-- the number that these digits spell, if there is one
abbrev pub IsSpelled : (ℕ → List ℕ) → List ℕ → Option ℕ → Type 0
IsSpelled spelling text (Some n) = (n ≤ most) × (text ≡ spelling n)
IsSpelled spelling text None = (n : ℕ) → n ≤ most → text ≢ spelling n

-- the greatest of the numbers whose names are among these
abbrev pub IsHighest : EntryKind → List (List ℕ) → Option ℕ → Type 0
IsHighest what names (Some n) =
    (n ≤ most) × Contains names (entry_name what n)
    × ((m : ℕ) → m ≤ most → Contains names (entry_name what m) → m ≤ n)
IsHighest what names None = (m : ℕ) → m ≤ most → ¬ Contains names (entry_name what m)

-- these are the numbers that the names have
pub record AreNumbers (what : EntryKind) (names : List (List ℕ)) (numbers : List ℕ) : Type 0 where
  pub named : All (λ n. (n ≤ most) × Contains names (entry_name what n)) numbers
  pub all : (n : ℕ) → n ≤ most → Contains names (entry_name what n) → Contains numbers n
