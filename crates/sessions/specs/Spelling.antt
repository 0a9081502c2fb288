-- The bytes of a session's file. Numbers are big endian.
use Rattle.std.specs.Prelude.{◌≡◌, ℕ, List, [], ◌∷◌, ◌++◌, length, flat_map, Option, IfSome, Some, None, replicate, if◌then◌else◌}
use Rattle.sha2.specs.Sha256.{sha256}
use Rattle.item_ids.specs.declared.key.Key.{Key}
use Rattle.item_ids.specs.Kinds.{number_of}
use Rattle.item_ids.specs.Keys.{kind_of, class_text, member_text}
use Rattle.byte_readers.specs.Spelling.{four, eight, name, list}
use Rattle.result_bytes.specs.declared.value.Value.{Value}
use Rattle.result_bytes.specs.Values.{canon}
use Rattle.fingerprint.specs.Prints.{print_of}
use Rattle.profiles.specs.Profiles.{profile_number}
use Rattle.sessions.specs.declared.mark.Mark.{Mark}
use Rattle.sessions.specs.declared.terms.Form.{Form}
use Rattle.sessions.specs.declared.terms.Terms.{Terms}
use Rattle.sessions.specs.Marks.{mark_number}
use Rattle.sessions.specs.Terms.{form_number, ends_with_print}
use Rattle.sessions.specs.Sessions.{RecordValue, SessionValue, IsSession}

-- `MJRG`, and the version's two bytes
abbrev pub start : Terms → List ℕ
start terms =
    0x4d ∷ 0x4a ∷ 0x52 ∷ 0x47 ∷ form_number terms.form ∷ profile_number terms.profile ∷ []

-- the number of the kind, and the names, of which one that is missing has no bytes
unfoldable pub key_bytes : Key → List ℕ
key_bytes key = number_of (kind_of key) ∷ (name (class_text key) ++ name (member_text key))

-- the fingerprint of a result, the number of its bytes, and its bytes
unfoldable pub result_bytes : Value → List ℕ
result_bytes v = print_of v ++ (eight (length (canon v)) ++ canon v)

-- what a record ends with: its result, of which form 2 writes just the fingerprint if it is green
unfoldable pub told_bytes : Form → Mark → Value → List ℕ
told_bytes form mark v = if ends_with_print form mark then print_of v else result_bytes v

unfoldable pub record_bytes : Form → RecordValue → List ℕ
record_bytes form r =
    key_bytes r.key
    ++ (mark_number r.mark ∷ (list eight r.edges ++ told_bytes form r.mark r.value))

-- what stands before the records: the start, the session's number, its link, and the number of the records
unfoldable pub head_bytes : SessionValue → List ℕ
head_bytes s = start s.terms ++ (four s.number ++ (s.link ++ eight (length s.records)))

-- all but the digest at the end
unfoldable pub body_bytes : SessionValue → List ℕ
body_bytes s = head_bytes s ++ flat_map (record_bytes s.terms.form) s.records

-- the file: the body, and its SHA-256
unfoldable pub file_of : SessionValue → List ℕ
file_of s = body_bytes s ++ sha256 (body_bytes s)

-- the SHA-256 of the file, which is the link of the session behind it
unfoldable pub digest_of : SessionValue → List ℕ
digest_of s = sha256 (file_of s)

-- the link of the session that comes next: the SHA-256 of the past's file, or zeros
abbrev pub next_link : Option SessionValue → List ℕ
next_link None = replicate 32 0
next_link (Some past) = digest_of past

-- what a session keeps by its type: it is one, and a digest that is kept is that of its file
pub record KeepsDigest (s : SessionValue) (digest : Option (List ℕ)) : Type 0 where
  pub session : IsSession s
  pub digest_is : IfSome digest (λ d. d ≡ digest_of s)
