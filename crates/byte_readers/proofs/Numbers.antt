-- What byteorder reads is what std reads.
use Rattle.std.proofs.Common.{◌≡◌, ℕ, List, take, sym, ◌∙◌, arith}
use Rattle.std.specs.Int.{w16, w32, w64, from_be_bytes}
use Rattle.byteorder.specs.Endian.{big_number}
use Rattle.byteorder.specs.Numbers.{big_from-take}

pub two_is : (bytes : List ℕ) → big_number 2 bytes ≡ from_be_bytes w16 bytes
two_is bytes = omega arith

pub four_is : (bytes : List ℕ) → big_number 4 bytes ≡ from_be_bytes w32 bytes
four_is bytes = omega arith

pub eight_is : (bytes : List ℕ) → big_number 8 bytes ≡ from_be_bytes w64 bytes
eight_is bytes = omega arith

-- of the bytes in front of others

pub two_of : (bytes : List ℕ) → big_number 2 bytes ≡ from_be_bytes w16 (take 2 bytes)
two_of bytes = sym (big_from-take 0 2 2 bytes (omega arith)) ∙ two_is (take 2 bytes)

pub four_of : (bytes : List ℕ) → big_number 4 bytes ≡ from_be_bytes w32 (take 4 bytes)
four_of bytes = sym (big_from-take 0 4 4 bytes (omega arith)) ∙ four_is (take 4 bytes)

pub eight_of : (bytes : List ℕ) → big_number 8 bytes ≡ from_be_bytes w64 (take 8 bytes)
eight_of bytes = sym (big_from-take 0 8 8 bytes (omega arith)) ∙ eight_is (take 8 bytes)
