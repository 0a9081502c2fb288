-- The parts of a session's file, one behind the other.
use Rattle.std.proofs.Common.{◌≡◌, ℕ, List, [], ◌∷◌, ◌++◌, length, refl, sym, ap, ◌∙◌, append_assoc}
use Rattle.std.specs.List.{flat_map}
use Rattle.std.proofs.lemmas.List.{append-nil}
use Rattle.sha2.specs.Sha256.{sha256}
use Rattle.item_ids.specs.Kinds.{number_of as kind_number}
use Rattle.item_ids.specs.Keys.{kind_of, class_text, member_text}
use Rattle.byte_readers.specs.Spelling.{four, eight}
use Rattle.result_bytes.specs.declared.value.Value.{Value}
use Rattle.result_bytes.specs.Values.{canon}
use Rattle.fingerprint.specs.Prints.{print_of}
use Rattle.sessions.specs.declared.terms.Form.{Form}
use Rattle.sessions.specs.Marks.{mark_number}
use Rattle.sessions.specs.Sessions.{RecordValue, SessionValue}
use Rattle.sessions.specs.Spelling.{start, key_bytes, result_bytes, told_bytes, record_bytes, head_bytes, body_bytes, file_of, digest_of}
use Rattle.session_file.specs.Parts.{front_bytes}

pub head_is : (s : SessionValue) (a b c d : List ℕ) → a ≡ start s.terms → b ≡ four s.number → c ≡ s.link → d ≡ eight (length s.records) → a ++ (b ++ (c ++ (d ++ []))) ≡ head_bytes s
unfolding head_bytes
head_is s a b c d ea eb ec ed = rw (ea, eb, ec, ed, append-nil) refl

pub front_is : (r : RecordValue) (k cl c ml m t n : List ℕ) → k ≡ kind_number (kind_of r.key) ∷ [] → cl ≡ length (class_text r.key) ∷ [] → c ≡ class_text r.key → ml ≡ length (member_text r.key) ∷ [] → m ≡ member_text r.key → t ≡ mark_number r.mark ∷ [] → n ≡ eight (length r.edges)
    → k ++ (cl ++ (c ++ (ml ++ (m ++ (t ++ (n ++ [])))))) ≡ front_bytes r
unfolding front_bytes key_bytes
front_is r k cl c ml m t n ek ecl ec eml em et en =
    rw (ek, ecl, ec, eml, em, et, en, append-nil) (ap (λ (xs : List ℕ). kind_number (kind_of r.key) ∷ (length (class_text r.key) ∷ xs)) (sym (append_assoc (class_text r.key) (length (member_text r.key) ∷ member_text r.key) (mark_number r.mark ∷ eight (length r.edges)))))

pub result_is : (v : Value) (p n b : List ℕ) → p ≡ print_of v → n ≡ eight (length (canon v)) → b ≡ canon v → p ++ (n ++ (b ++ [])) ≡ result_bytes v
unfolding result_bytes
result_is v p n b ep en eb = rw (ep, en, eb, append-nil) refl

pub record_is : (form : Form) (r : RecordValue) → front_bytes r ++ (flat_map eight r.edges ++ told_bytes form r.mark r.value) ≡ record_bytes form r
unfolding record_bytes front_bytes
record_is form r =
    let told = told_bytes form r.mark r.value in
    append_assoc (key_bytes r.key) (mark_number r.mark ∷ eight (length r.edges)) (flat_map eight r.edges ++ told)
    ∙ ap (λ (xs : List ℕ). key_bytes r.key ++ (mark_number r.mark ∷ xs)) (sym (append_assoc (eight (length r.edges)) (flat_map eight r.edges) told))

pub body_is : (s : SessionValue) → head_bytes s ++ flat_map (record_bytes s.terms.form) s.records ≡ body_bytes s
unfolding body_bytes
body_is s = refl

pub file_is : (s : SessionValue) (end : List ℕ) → end ≡ sha256 (body_bytes s) → body_bytes s ++ end ≡ file_of s
unfolding file_of
file_is s end e = ap (λ (xs : List ℕ). body_bytes s ++ xs) e

pub digest_is : (s : SessionValue) → sha256 (body_bytes s ++ sha256 (body_bytes s)) ≡ digest_of s
unfolding digest_of file_of
digest_is s = refl
