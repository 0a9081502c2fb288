-- The bytes of a name are below 128.
use Rattle.std.proofs.Common.{◌≡◌, ℕ, zero, suc, ◌+◌, ◌<◌, Bool, true, false, List, [], ◌∷◌, take, refl, arith, lit<}
use Rattle.std.specs.List.{prefix_len, slice_index}
use Rattle.std.specs.Str.{IsAscii}
use Rattle.mj_lexer.specs.Bytes.{is_name_byte}

pub name_byte_small : (b : ℕ) → is_name_byte b ≡ true → b < 128
name_byte_small b e = grind arith

none_small : (i : ℕ) → slice_index [] i < 128
none_small i = lit< tt

-- behind a byte that is in doubt
behind : (b : ℕ) (text : List ℕ) → ((i : ℕ) → slice_index (take (prefix_len is_name_byte text) text) i < 128)
    → (t : Bool) → is_name_byte b ≡ t → (i : ℕ) → slice_index (take (prefix_len is_name_byte (b ∷ text)) (b ∷ text)) i < 128
behind b text rest false e i = rw e (none_small i)
behind b text rest true e zero = let one : 1 + prefix_len is_name_byte text ≡ suc (prefix_len is_name_byte text) = omega arith in rw (e, one) (name_byte_small b e)
behind b text rest true e (suc i) = let one : 1 + prefix_len is_name_byte text ≡ suc (prefix_len is_name_byte text) = omega arith in rw (e, one) (rest i)

pub word_is_ascii : (text : List ℕ) → IsAscii (take (prefix_len is_name_byte text) text)
word_is_ascii [] i = lit< tt
word_is_ascii (b ∷ text) i = behind b text (word_is_ascii text) (is_name_byte b) refl i
