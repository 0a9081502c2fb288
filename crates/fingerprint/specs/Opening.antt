-- What is answered for bytes and a fingerprint.
use Rattle.std.specs.Prelude.{◌≡◌, ◌≢◌, ℕ, List, Result, Ok, Err}
use Rattle.item_ids.specs.declared.kind.Kind.{Kind}
use Rattle.result_bytes.specs.declared.refusal.Refusal.TheVariants.{OutOfMemory}
use Rattle.result_bytes.specs.declared.value.Value.{Value}
use Rattle.result_bytes.specs.Values.{decoding}
use Rattle.fingerprint.specs.declared.sealed.SealedFault.{SealedFault}
use Rattle.fingerprint.specs.declared.sealed.SealedFault.TheVariants.{Refused, WrongPrint}
use Rattle.fingerprint.specs.Prints.{print_of}

-- what refused the bytes is the refusal of reading them; a wrong fingerprint comes only if they
-- spell a value
abbrev pub IsOpened : Kind → List ℕ → List ℕ → Result Value SealedFault → Type 0
IsOpened kind bytes print (Ok v) = (decoding kind bytes ≡ Ok v) × (print ≡ print_of v)
IsOpened kind bytes print (Err WrongPrint) =
    (v : Value) × (decoding kind bytes ≡ Ok v) × (print ≢ print_of v)
IsOpened kind bytes print (Err (Refused OutOfMemory)) = Unit {0}
IsOpened kind bytes print (Err (Refused refusal)) = decoding kind bytes ≡ Err refusal

-- it is this value, unless memory ran out
abbrev pub IsOkUnlessMemory : Result Value SealedFault → Value → Type 0
IsOkUnlessMemory (Err (Refused OutOfMemory)) v = Unit {0}
IsOkUnlessMemory result v = result ≡ Ok v
