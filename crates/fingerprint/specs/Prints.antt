-- The fingerprint of a value.
use Rattle.std.specs.Prelude.{ℕ, List}
use Rattle.sha2.specs.Sha256.{sha256}
use Rattle.result_bytes.specs.declared.value.Value.{Value}
use Rattle.result_bytes.specs.Values.{canon}

-- the SHA-256 of its canonical bytes
unfoldable pub print_of : Value → List ℕ
print_of v = sha256 (canon v)
