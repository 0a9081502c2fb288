-- The keys of a session, as they are looked up.
use Rattle.std.specs.Prelude.{◌≡◌, List, map}
use Rattle.std.specs.Borrow.{Bor}
use Rattle.item_ids.specs.declared.key.Key.{Key}
use Rattle.sessions.specs.Sessions.{RecordValue}

-- these are the keys of the records, in their order
abbrev pub AreKeysOf : List (Bor Key) → List RecordValue → Type 0
AreKeysOf keys records = map (λ k. k.now) keys ≡ map (λ r. r.key) records
