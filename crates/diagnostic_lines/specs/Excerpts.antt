-- The line of a place, with a mark below the place.
use Rattle.std.specs.Prelude.{◌≡◌, ◌∷◌, ℕ, ◌+◌, ◌-◌, Bool, ◌&&◌, nat_le, nat_lt, if◌then◌else◌, List, [], ◌++◌, length, map, take, drop, replicate, codes}
use Rattle.std.specs.List.{suffix_len, take_while}
use Rattle.mj_lexer.specs.Bytes.{is_white}
use Rattle.mj_lexer.specs.Places.{is_inside_line}
use Rattle.diagnostic_lines.specs.Places.{TextPlace}

-- the last n bytes
abbrev pub last : ℕ → List ℕ → List ℕ
last n bytes = drop (length bytes - n) bytes

-- the bytes of a place's line that stand in front of the place, and those from the place on
abbrev pub in_front : TextPlace → List ℕ
in_front place =
    last (suffix_len is_inside_line (take place.byte place.text)) (take place.byte place.text)

abbrev pub from_on : TextPlace → List ℕ
from_on place = take_while is_inside_line (drop place.byte place.text)

abbrev pub is_printable : ℕ → Bool
is_printable b = nat_le 32 b && nat_le b 126

-- Each byte is shown by one: a printable one by itself, white space by a space, any other by a
-- question mark.
abbrev pub shown : ℕ → ℕ
shown b = if is_printable b then b else (if is_white b then 32 else 63)

-- how many bytes are shown at most on each side of a place: a line of at most 200 stands whole
abbrev pub room : List ℕ → List ℕ → ℕ
room front rest = if nat_le (length front + length rest) 200 then 200 else 100

-- what stands where bytes are left out
abbrev pub cut_mark : Bool → List ℕ
cut_mark is_cut = if is_cut then codes "..." else []

-- what is shown in front of a place, and from it on
abbrev pub left_part : ℕ → List ℕ → List ℕ
left_part n front = cut_mark (nat_lt n (length front)) ++ map shown (last n front)

abbrev pub right_part : ℕ → List ℕ → List ℕ
right_part n rest = map shown (take n rest) ++ cut_mark (nat_lt n (length rest))

-- the line, and below it the mark under the first byte of its second part
abbrev pub marked : List ℕ → List ℕ → List ℕ
marked left right =
    codes "    " ++ left ++ right ++ codes "\n    " ++ replicate (length left) 32 ++ codes "^\n"

abbrev pub marked_sides : List ℕ → List ℕ → List ℕ
marked_sides front rest =
    marked (left_part (room front rest) front) (right_part (room front rest) rest)

unfoldable pub excerpt : TextPlace → List ℕ
excerpt place = marked_sides (in_front place) (from_on place)

-- In the row below, as many spaces as bytes are shown in front of the byte, and then the mark.
pub record IsMarkedBelow (b : ℕ) (text : List ℕ) : Type 0 where
  pub front : List ℕ
  pub behind : List ℕ
  pub rows : text ≡ (front ++ shown b ∷ behind) ++ codes "\n" ++ replicate (length front) 32 ++ codes "^\n"

-- The mark stands below the byte at the place, if the place isn't behind its line.
abbrev pub MarkLaw : Type 0
MarkLaw =
    (place : TextPlace) (b : ℕ) (rest : List ℕ) → from_on place ≡ b ∷ rest
    → IsMarkedBelow b (excerpt place)
