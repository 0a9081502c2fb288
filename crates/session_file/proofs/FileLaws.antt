-- The file: what is read is spelled there, and each spelling is read back.
use Rattle.std.proofs.Common.{◌≡◌, ℕ, ◌-◌, ◌<◌, ◌≤◌, ◌^◌, Bool, true, false, cond, eqb, ltb, leb, List, [], ◌∷◌, ◌++◌, length, take, drop, get_or, Option, Some, Result, Ok, Err, refl, sym, ap, subst, ◌∙◌, append_assoc, arith}
use Rattle.std.specs.Prelude.{bytes_eq, IfSome}
use Rattle.std.specs.List.{AllByRecursion, flat_map}
use Rattle.std.proofs.lemmas.Bool.{leb-true, le-leb, le-ltb, ne_eqb}
use Rattle.std.proofs.lemmas.List.{length-append, take_at, take-append-drop}
use Rattle.std.proofs.lemmas.Slice.Eq.{bytes_eq-Decides}
use Rattle.byteorder.specs.Endian.{big_number}
use Rattle.sha2.specs.Sha256.{sha256}
use Rattle.sha2.proofs.Facts256.{length-sha256}
use Rattle.byte_readers.specs.Lawful.{IsBytes, Takes}
use Rattle.byte_readers.specs.Laws.{IsBytes-drop, Takes-then, lawful_two, lawful_four, lawful_eight}
use Rattle.byte_readers.specs.Spelling.{two, four, eight}
use Rattle.byte_readers.specs.Reading.{two_at, four_at, eight_at}
use Rattle.profiles.specs.declared.profile.Profile.{Profile}
use Rattle.profiles.specs.declared.profile.Profile.TheVariants as profiles
use Rattle.sessions.specs.declared.terms.Form.{Form}
use Rattle.sessions.specs.declared.terms.Form.TheVariants as forms
use Rattle.sessions.specs.declared.terms.Terms.{Terms}
use Rattle.profiles.specs.Profiles.{profile_number}
use Rattle.sessions.specs.Terms.{form_number, version_of, terms_with}
use Rattle.sessions.specs.Sessions.{RecordValue, SessionValue, AreRecords, IsSession, IsTakenFrom}
use Rattle.sessions.proofs.TermLaws.{terms_again, terms_found, version_fits}
use Rattle.sessions.specs.Spelling.{start, record_bytes, head_bytes, body_bytes, file_of}
use Rattle.session_file.specs.declared.fault.FileFault.{FileFault}
use Rattle.session_file.specs.declared.fault.FileFault.TheVariants.{BadMagic, Version, Number, BadDigest, Trailing}
use Rattle.session_file.specs.Reading.{or_truncated, slice_at, there, tested, OriginValue, HeadValue, magic, magic_at, head_at, end_at, session_of, records_from, body_after, front_after, session_after, file_after, ◌>>=◌}
use Rattle.session_file.proofs.ReadLaws.{done, ok_is, bind_ok, bind_is, guard_ok, guard_so, there_ok, tested_ok, tested_is, number_takes, number_again, bytes_takes, bytes_again}
use Rattle.session_file.proofs.RecordReadLaws.{IsReadOver}
use Rattle.session_file.proofs.TakenLaws.{told_if_taken, taken_if_told}
use Rattle.session_file.proofs.RecordsReadLaws.{records_take, records_again}

magic_takes : (bytes rest : List ℕ) → IsBytes bytes → magic_at bytes ≡ Ok rest → Takes bytes magic rest
unfolding magic_at
magic_takes bytes rest fits e =
    let a = guard_ok (ltb (length bytes) 4) BadMagic (cond (bytes_eq (take 4 bytes) magic) (done (drop 4 bytes)) (Err BadMagic)) rest e in
    let b = guard_so (bytes_eq (take 4 bytes) magic) BadMagic (done (drop 4 bytes)) rest a.1 in
    let is = ok_is (drop 4 bytes) rest b.1 in
    let front : take 4 bytes ≡ magic = (bytes_eq-Decides (take 4 bytes) magic).0 b.0 in
    subst (λ (xs : List ℕ). Takes bytes magic xs) is (record { parts = sym (take-append-drop 4 bytes) ∙ ap (λ (xs : List ℕ). xs ++ drop 4 bytes) front; rest_fits = IsBytes-drop 4 bytes fits })

pub magic_again : (rest : List ℕ) → magic_at (magic ++ rest) ≡ Ok rest
unfolding magic_at
magic_again rest =
    let long : ltb (length (magic ++ rest)) 4 ≡ false = le-ltb _ _ (omega arith) in
    ap (λ (b : Bool). cond b (Err BadMagic) (done rest)) long

begin : (form : Form) (profile : Profile) → magic ++ two (version_of (record { profile = profile; form = form })) ≡ start (record { profile = profile; form = form })
unfolding two
begin forms.One profiles.One = refl
begin forms.One profiles.Two = refl
begin forms.Two profiles.One = refl
begin forms.Two profiles.Two = refl

version_is : (terms : Terms) → magic ++ two (version_of terms) ≡ start terms
version_is terms = begin terms.form terms.profile

told_version : (form : Form) (profile : Profile) → big_number 2 (form_number form ∷ profile_number profile ∷ []) ≡ version_of (record { profile = profile; form = form })
told_version forms.One profiles.One = refl
told_version forms.One profiles.Two = refl
told_version forms.Two profiles.One = refl
told_version forms.Two profiles.Two = refl

-- the terms that the first bytes of a file give
pub terms_told : (bytes : List ℕ) (terms : Terms) (n : ℕ) → n ≡ big_number 2 (get_or bytes 4 0 ∷ get_or bytes 5 0 ∷ []) → bytes ≡ start terms → terms_with n ≡ Some terms
terms_told bytes terms n told is =
    let version = told ∙ ap (λ (xs : List ℕ). big_number 2 (get_or xs 4 0 ∷ get_or xs 5 0 ∷ [])) is ∙ told_version terms.form terms.profile in
    ap terms_with version ∙ terms_again terms

-- ---- what stands before the records

abbrev head_of : HeadValue → List ℕ
head_of h = magic ++ (two (version_of h.terms) ++ (four h.number ++ (h.link ++ eight h.count)))

pub record HeadFits (h : HeadValue) : Type 0 where
  pub number : h.number ≤ 9999
  pub link : length h.link ≡ 32
  pub count : h.count < 2 ^ 64

pub head_takes : (bytes : List ℕ) (h : HeadValue) (rest : List ℕ) → IsBytes bytes → head_at bytes ≡ Ok (h, rest) → Takes bytes (head_of h) rest × HeadFits h
unfolding head_at
head_takes bytes h rest fits e =
    let a = bind_ok (magic_at bytes) _ (h, rest) e in
    let b = bind_ok (or_truncated (two_at a.0)) _ (h, rest) a.2 in
    let c = bind_ok (there Version (terms_with b.0.0) b.0.1) _ (h, rest) b.2 in
    let d = bind_ok (or_truncated (four_at c.0.1)) _ (h, rest) c.2 in
    let s = bind_ok (tested (leb d.0.0 9999) Number) _ (h, rest) d.2 in
    let l = bind_ok (slice_at 32 d.0.1) _ (h, rest) s.2 in
    let n = bind_ok (or_truncated (eight_at l.0.1)) _ (h, rest) l.2 in
    let ta = magic_takes bytes a.0 fits a.1 in
    let tb = number_takes lawful_two a.0 b.0.0 b.0.1 ta.rest_fits b.1 in
    let known = there_ok Version (terms_with b.0.0) b.0.1 c.0.0 c.0.1 c.1 in
    let version : b.0.0 ≡ version_of c.0.0 = sym (terms_found b.0.0 c.0.0 known.0) in
    let tv : Takes a.0 (two (version_of c.0.0)) c.0.1 = subst (λ (xs : List ℕ). Takes a.0 (two (version_of c.0.0)) xs) known.1 (subst (λ (k : ℕ). Takes a.0 (two k) b.0.1) version tb.0) in
    let td = number_takes lawful_four c.0.1 d.0.0 d.0.1 tv.rest_fits d.1 in
    let tl = bytes_takes 32 d.0.1 l.0.0 l.0.1 td.0.rest_fits l.1 in
    let tn = number_takes lawful_eight l.0.1 n.0.0 n.0.1 tl.0.rest_fits n.1 in
    let number : d.0.0 ≤ 9999 = leb-true _ _ (tested_ok _ _ s.0 s.1) in
    let all = Takes-then bytes magic a.0 (two (version_of c.0.0) ++ (four d.0.0 ++ (l.0.0 ++ eight n.0.0))) n.0.1 ta (Takes-then a.0 (two (version_of c.0.0)) c.0.1 (four d.0.0 ++ (l.0.0 ++ eight n.0.0)) n.0.1 tv (Takes-then c.0.1 (four d.0.0) d.0.1 (l.0.0 ++ eight n.0.0) n.0.1 td.0 (Takes-then d.0.1 l.0.0 l.0.1 (eight n.0.0) n.0.1 tl.0 tn.0))) in
    subst (λ (x : HeadValue × List ℕ). Takes bytes (head_of x.0) x.1 × HeadFits x.0) (ok_is (record { terms = c.0.0; number = d.0.0; link = l.0.0; count = n.0.0 }, n.0.1) (h, rest) n.2)
    (all, record { number = number; link = tl.1; count = tn.1 })

head_regrouped : (h : HeadValue) (rest : List ℕ) → head_of h ++ rest ≡ magic ++ (two (version_of h.terms) ++ (four h.number ++ (h.link ++ (eight h.count ++ rest))))
head_regrouped h rest =
    append_assoc magic (two (version_of h.terms) ++ (four h.number ++ (h.link ++ eight h.count))) rest
    ∙ ap (λ (xs : List ℕ). magic ++ xs) (append_assoc (two (version_of h.terms)) (four h.number ++ (h.link ++ eight h.count)) rest
    ∙ ap (λ (xs : List ℕ). two (version_of h.terms) ++ xs) (append_assoc (four h.number) (h.link ++ eight h.count) rest
    ∙ ap (λ (xs : List ℕ). four h.number ++ xs) (append_assoc h.link (eight h.count) rest)))

pub head_again : (h : HeadValue) (rest : List ℕ) → HeadFits h → head_at (head_of h ++ rest) ≡ Ok (h, rest)
unfolding head_at
head_again h rest fits =
    let e = eight h.count ++ rest in
    let l = h.link ++ e in
    let n = four h.number ++ l in
    ap head_at (head_regrouped h rest)
    ∙ bind_is (magic_at (magic ++ (two (version_of h.terms) ++ n))) _ (two (version_of h.terms) ++ n) (magic_again (two (version_of h.terms) ++ n))
    ∙ bind_is (or_truncated (two_at (two (version_of h.terms) ++ n))) _ (version_of h.terms, n) (number_again lawful_two (version_of h.terms) n (version_fits h.terms))
    ∙ bind_is (there Version (terms_with (version_of h.terms)) n) _ (h.terms, n) (ap (λ (o : Option Terms). there Version o n) (terms_again h.terms))
    ∙ bind_is (or_truncated (four_at n)) _ (h.number, l) (number_again lawful_four h.number l (omega (arith, fits.number)))
    ∙ bind_is (tested (leb h.number 9999) Number) _ tt (tested_is _ _ (le-leb _ _ fits.number))
    ∙ bind_is (slice_at 32 l) _ (h.link, e) (bytes_again 32 h.link e fits.link)
    ∙ bind_is (or_truncated (eight_at e)) _ (h.count, rest) (number_again lawful_eight h.count rest fits.count)

-- ---- the end

pub end_takes : (body bytes : List ℕ) (u : Unit {0}) (rest : List ℕ) → IsBytes bytes → end_at body bytes ≡ Ok (u, rest) → bytes ≡ sha256 body ++ rest
unfolding end_at
end_takes body bytes u rest fits e =
    let a = bind_ok (slice_at 32 bytes) _ (u, rest) e in
    let b = bind_ok (tested (bytes_eq a.0.0 (sha256 body)) BadDigest) _ (u, rest) a.2 in
    let t = bytes_takes 32 bytes a.0.0 a.0.1 fits a.1 in
    let digest : a.0.0 ≡ sha256 body = (bytes_eq-Decides a.0.0 (sha256 body)).0 (tested_ok _ _ b.0 b.1) in
    let left : a.0.1 ≡ rest = ap (λ (x : Unit {0} × List ℕ). x.1) (ok_is (tt, a.0.1) (u, rest) b.2) in
    t.0.parts ∙ ap (λ (xs : List ℕ). xs ++ a.0.1) digest ∙ ap (λ (xs : List ℕ). sha256 body ++ xs) left

pub end_again : (body rest : List ℕ) → end_at body (sha256 body ++ rest) ≡ Ok (tt, rest)
unfolding end_at
end_again body rest =
    let same : bytes_eq (sha256 body) (sha256 body) ≡ true = (bytes_eq-Decides (sha256 body) (sha256 body)).1 refl in
    bind_is (slice_at 32 (sha256 body ++ rest)) _ (sha256 body, rest) (bytes_again 32 (sha256 body) rest (length-sha256 body))
    ∙ bind_is (tested (bytes_eq (sha256 body) (sha256 body)) BadDigest) _ tt (tested_is _ _ same)

-- ---- the file

body_parts : (h : HeadValue) (records : List RecordValue) → h.count ≡ length records → head_of h ++ flat_map (record_bytes h.terms.form) records ≡ body_bytes (session_of h records)
unfolding body_bytes head_bytes
body_parts h records is =
    let rest = four h.number ++ (h.link ++ eight h.count) in
    let begin : head_of h ≡ start h.terms ++ rest = sym (append_assoc magic (two (version_of h.terms)) rest) ∙ ap (λ (xs : List ℕ). xs ++ rest) (version_is h.terms) in
    ap (λ (xs : List ℕ). xs ++ flat_map (record_bytes h.terms.form) records) (begin ∙ ap (λ (n : ℕ). start h.terms ++ (four h.number ++ (h.link ++ eight n))) is)

-- what stands in front of the rest
pub front_is : (bytes body rest : List ℕ) → bytes ≡ body ++ rest → take (length bytes - length rest) bytes ≡ body
front_is bytes body rest is =
    let n : length bytes - length rest ≡ length body = omega (arith, ap (λ (xs : List ℕ). length xs) is, length-append body rest) in
    ap (λ (k : ℕ). take k bytes) n ∙ ap (λ (xs : List ℕ). take (length body) xs) is ∙ take_at body rest (length body) refl

file_parts : (s : SessionValue) (body rest after : List ℕ) → body ≡ body_bytes s → rest ≡ sha256 body ++ after → body ++ rest ≡ file_of s ++ after
unfolding file_of
file_parts s body rest after eb er = ap (λ (xs : List ℕ). body ++ xs) er ∙ sym (append_assoc body (sha256 body) after) ∙ ap (λ (xs : List ℕ). (xs ++ sha256 xs) ++ after) eb

pub no_records : AreRecords []
no_records i r lt = absurd (omega (arith, lt))

abbrev over : Option SessionValue → HeadValue → OriginValue
over past head = record { past = past; form = head.terms.form }

-- what is read in front of the end
pub record FrontIs (past : Option SessionValue) (bytes rest : List ℕ) (s : SessionValue) : Type 0 where
  pub session : IsSession s
  pub taken : IsTakenFrom past s
  pub takes : Takes bytes (body_bytes s) rest
  pub front : take (length bytes - length rest) bytes ≡ body_bytes s

pub front_taken : (past : Option SessionValue) (bytes : List ℕ) (h : HeadValue) (middle : List ℕ) (records : List RecordValue) (rest : List ℕ) → IfSome past IsSession → IsBytes bytes → head_at bytes ≡ Ok (h, middle) → records_from (over past h) [] h.count middle ≡ Ok (records, rest) → FrontIs past bytes rest (session_of h records)
front_taken past bytes h middle records rest before fits eh er =
    let th = head_takes bytes h middle fits eh in
    let tr = records_take (over past h) h.count [] middle records rest before no_records th.0.rest_fits er in
    let count : h.count ≡ length records = sym tr.count_is ∙ ap (λ (xs : List RecordValue). length xs) tr.whole_is in
    let items : Takes middle (flat_map (record_bytes h.terms.form) records) rest = subst (λ (xs : List RecordValue). Takes middle (flat_map (record_bytes h.terms.form) xs) rest) tr.whole_is tr.takes in
    let made = session_of h records in
    let all : Takes bytes (body_bytes made) rest = subst (λ (xs : List ℕ). Takes bytes xs rest) (body_parts h records count) (Takes-then bytes (head_of h) middle (flat_map (record_bytes h.terms.form) records) rest th.0 items) in
    let session : IsSession made = record { number = th.1.number; link = th.1.link; few = omega (arith, count, th.1.count); records = tr.are } in
    record {
      session = session;
      taken = taken_if_told past made session (subst (AllByRecursion (IsReadOver (over past h))) tr.whole_is tr.told);
      takes = all;
      front = front_is bytes (body_bytes made) rest all.parts;
    }

-- what is read in front of the end is a session over the previous one
pub body_takes : (past : Option SessionValue) (bytes : List ℕ) (s : SessionValue) (rest : List ℕ) → IfSome past IsSession → IsBytes bytes → body_after past bytes ≡ Ok (s, rest) → FrontIs past bytes rest s
unfolding body_after
body_takes past bytes s rest before fits e =
    let a = bind_ok (head_at bytes) _ (s, rest) e in
    let b = bind_ok (records_from (over past a.0.0) [] a.0.0.count a.0.1) _ (s, rest) a.2 in
    subst (λ (x : SessionValue × List ℕ). FrontIs past bytes x.1 x.0) (ok_is (session_of a.0.0 b.0.0, b.0.1) (s, rest) b.2)
    (front_taken past bytes a.0.0 a.0.1 b.0.0 b.0.1 before fits a.1 b.1)

-- what is read from the front is a session over the previous one, and its file stands there
pub front_takes : (past : Option SessionValue) (bytes : List ℕ) (s : SessionValue) (rest : List ℕ) → IfSome past IsSession → IsBytes bytes → front_after past bytes ≡ Ok (s, rest) → IsSession s × IsTakenFrom past s × (bytes ≡ file_of s ++ rest)
unfolding front_after
front_takes past bytes s rest before fits e =
    let b = bind_ok (body_after past bytes) _ (s, rest) e in
    let d = bind_ok (end_at (take (length bytes - length b.0.1) bytes) b.0.1) _ (s, rest) b.2 in
    let made = b.0.0 in
    let front = body_takes past bytes made b.0.1 before fits b.1 in
    let end = end_takes (take (length bytes - length b.0.1) bytes) b.0.1 d.0.0 d.0.1 front.takes.rest_fits d.1 in
    subst (λ (x : SessionValue × List ℕ). IsSession x.0 × IsTakenFrom past x.0 × (bytes ≡ file_of x.0 ++ x.1)) (ok_is (made, d.0.1) (s, rest) d.2)
    (front.session, front.taken, front.takes.parts ∙ file_parts made (body_bytes made) b.0.1 d.0.1 refl (end ∙ ap (λ (xs : List ℕ). sha256 xs ++ d.0.1) front.front))

pub body_again : (past : Option SessionValue) (s : SessionValue) (rest : List ℕ) → IsSession s → IsTakenFrom past s → body_after past (body_bytes s ++ rest) ≡ Ok (s, rest)
unfolding body_after
body_again past s rest h taken =
    let head : HeadValue = record { terms = s.terms; number = s.number; link = s.link; count = length s.records } in
    let origin = over past head in
    let records = flat_map (record_bytes s.terms.form) s.records in
    let body : head_of head ++ records ≡ body_bytes s = body_parts head s.records refl in
    let regrouped : body_bytes s ++ rest ≡ head_of head ++ (records ++ rest) = ap (λ (xs : List ℕ). xs ++ rest) (sym body) ∙ append_assoc (head_of head) records rest in
    let one : head_at (body_bytes s ++ rest) ≡ Ok (head, records ++ rest) = ap head_at regrouped ∙ head_again head (records ++ rest) (record { number = h.number; link = h.link; count = h.few }) in
    bind_is (head_at (body_bytes s ++ rest)) _ (head, records ++ rest) one
    ∙ bind_is (records_from origin [] (length s.records) (records ++ rest)) _ (s.records, rest) (records_again origin s.records [] rest h.few h.records (told_if_taken past s h taken))

pub front_again : (past : Option SessionValue) (s : SessionValue) (after : List ℕ) → IsSession s → IsTakenFrom past s → front_after past (file_of s ++ after) ≡ Ok (s, after)
unfolding front_after file_of
front_again past s after h taken =
    let rest = sha256 (body_bytes s) ++ after in
    let all : (body_bytes s ++ sha256 (body_bytes s)) ++ after ≡ body_bytes s ++ rest = append_assoc (body_bytes s) (sha256 (body_bytes s)) after in
    let front : take (length (body_bytes s ++ rest) - length rest) (body_bytes s ++ rest) ≡ body_bytes s = front_is (body_bytes s ++ rest) (body_bytes s) rest refl in
    ap (front_after past) all
    ∙ bind_is (body_after past (body_bytes s ++ rest)) _ (s, rest) (body_again past s rest h taken)
    ∙ bind_is (end_at (take (length (body_bytes s ++ rest) - length rest) (body_bytes s ++ rest)) rest) _ (tt, after) (ap (λ (xs : List ℕ). end_at xs rest) front ∙ end_again (body_bytes s) after)

-- ---- what is read if nothing stands behind it

pub file_is_read : (past : Option SessionValue) (bytes : List ℕ) (s : SessionValue) (rest : List ℕ) → front_after past bytes ≡ Ok (s, rest) → rest ≡ [] → file_after past bytes ≡ Ok s
unfolding file_after
file_is_read past bytes s rest e none = rw (e, none) refl

pub file_is_longer : (past : Option SessionValue) (bytes : List ℕ) (s : SessionValue) (rest : List ℕ) → front_after past bytes ≡ Ok (s, rest) → 0 < length rest → file_after past bytes ≡ Err Trailing
unfolding file_after
file_is_longer past bytes s rest e some = rw (e, ne_eqb (length rest) 0 (λ z. omega (arith, some, z))) refl

-- the same breach
pub file_breaks : (past : Option SessionValue) (bytes : List ℕ) (fault : FileFault) → session_after past bytes ≡ Err fault → file_after past bytes ≡ Err fault
unfolding file_after
file_breaks past bytes fault e = breaks (front_after past bytes) e
  where
    breaks : (r : Result (SessionValue × List ℕ) FileFault) → (r >>= λ s. Ok s.0) ≡ Err fault → (r >>= λ s. tested (eqb (length s.1) 0) Trailing >>= λ u. Ok s.0) ≡ Err fault
    breaks (Ok x) e = absurd cc
    breaks (Err f) e = cc

pub session_is : (past : Option SessionValue) (bytes : List ℕ) (s : SessionValue) (rest : List ℕ) → front_after past bytes ≡ Ok (s, rest) → session_after past bytes ≡ Ok s
session_is past bytes s rest e = rw e refl

pub session_breaks : (past : Option SessionValue) (bytes : List ℕ) (fault : FileFault) → front_after past bytes ≡ Err fault → session_after past bytes ≡ Err fault
session_breaks past bytes fault e = rw e refl
