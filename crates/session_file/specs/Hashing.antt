-- The hash of what is read.
use Rattle.std.specs.Prelude.{ℕ, List, IsSomeAnd}
use Rattle.sha2.specs.Hashers.{Holds256}
use Rattle.devices.specs.declared.hashing.HashingSink.{HashingSink}
use Rattle.session_file.specs.declared.reading.body_hash.BodyHash.{BodyHash}

-- this thread computes the hash, and it holds these bytes
abbrev pub HashHolds : BodyHash → List ℕ → Type 0
HashHolds hash bytes = IsSomeAnd hash.sink (λ (s : HashingSink). Holds256 s.hasher bytes)
