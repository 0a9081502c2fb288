-- A place in a text.
use Rattle.std.specs.Prelude.{ℕ, List, Option, option_map}

-- a byte of a text, by its number
pub record TextPlace : Type 0 where
  pub text : List ℕ
  pub byte : ℕ

abbrev pub text_place : List ℕ → ℕ → TextPlace
text_place text byte = record { text = text; byte = byte }

abbrev pub in_text : List ℕ → Option ℕ → Option TextPlace
in_text text = option_map (text_place text)
