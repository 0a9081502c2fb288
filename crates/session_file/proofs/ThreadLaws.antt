-- A file in memory, whose digest another thread computes.
use Rattle.std.proofs.Common.{◌≡◌, ℕ, ◌+◌, ◌-◌, ◌<◌, true, false, eqb, List, [], ◌∷◌, ◌++◌, length, take, drop, Option, Result, Ok, Err, refl, sym, ap, subst, ◌∙◌, arith}
use Rattle.std.specs.Prelude.{bytes_eq, IfOk, IfSome}
use Rattle.std.proofs.lemmas.Bool.{eqb-true, eq-eqb, ne_eqb, false_from_ne_true}
use Rattle.std.proofs.lemmas.Slice.Eq.{bytes_eq-Decides}
use Rattle.std.proofs.lemmas.List.{length-append, length-drop, length-take, take-append-drop, drop_at, append-nil, nil_from_length}
use Rattle.sha2.specs.Sha256.{sha256}
use Rattle.byte_readers.specs.Lawful.{IsBytes}
use Rattle.sessions.specs.Sessions.{SessionValue, IsSession, IsTakenFrom}
use Rattle.sessions.specs.Spelling.{body_bytes, file_of}
use Rattle.session_file.specs.declared.fault.FileFault.{FileFault}
use Rattle.session_file.specs.declared.fault.FileFault.TheVariants.{BadMagic, Version, Truncated, BadDigest, KeyOrder, BadEdge, Result as BadResult, InputKind, Trailing, Device, BadKey, Number, NoPastResult, OutOfMemory}
use Rattle.session_file.specs.Reading.{◌>>=◌, tested, slice_at, end_at, body_after, front_after, file_after, ended_at, EndsWith, ReadsBody, IsUnlessMemory}
use Rattle.session_file.proofs.ReadLaws.{done, bind_ok, ok_is, tested_ok}
use Rattle.session_file.proofs.FeedLaws.{bytes_reads, bytes_end}
use Rattle.session_file.proofs.FileLaws.{body_takes, front_takes, front_again, file_is_read}

-- ---- answers, unless memory ran out

pub unless_map : {A B : Type 0} (fault : FileFault) (x : Result A FileFault) (y : Result B FileFault) → (x ≡ Err fault → y ≡ Err fault) → IsUnlessMemory {A = A} (Err fault) x → IsUnlessMemory {A = B} (Err fault) y
unless_map BadMagic x y f e = sym (f (sym e))
unless_map Version x y f e = sym (f (sym e))
unless_map Truncated x y f e = sym (f (sym e))
unless_map BadDigest x y f e = sym (f (sym e))
unless_map (KeyOrder i) x y f e = sym (f (sym e))
unless_map (BadEdge i j) x y f e = sym (f (sym e))
unless_map (BadResult i) x y f e = sym (f (sym e))
unless_map (InputKind i) x y f e = sym (f (sym e))
unless_map Trailing x y f e = sym (f (sym e))
unless_map Device x y f e = sym (f (sym e))
unless_map (BadKey i) x y f e = sym (f (sym e))
unless_map Number x y f e = sym (f (sym e))
unless_map (NoPastResult i) x y f e = sym (f (sym e))
unless_map OutOfMemory x y f e = tt

unless_err : {A : Type 0} (fault : FileFault) (y : Result A FileFault) → y ≡ Err fault → IsUnlessMemory {A = A} (Err fault) y
unless_err BadMagic y e = sym e
unless_err Version y e = sym e
unless_err Truncated y e = sym e
unless_err BadDigest y e = sym e
unless_err (KeyOrder i) y e = sym e
unless_err (BadEdge i j) y e = sym e
unless_err (BadResult i) y e = sym e
unless_err (InputKind i) y e = sym e
unless_err Trailing y e = sym e
unless_err Device y e = sym e
unless_err (BadKey i) y e = sym e
unless_err Number y e = sym e
unless_err (NoPastResult i) y e = sym e
unless_err OutOfMemory y e = tt

pub unless_is : {A : Type 0} (r y : Result A FileFault) → r ≡ y → IsUnlessMemory r y
unless_is (Ok x) y e = e
unless_is (Err fault) y e = unless_err fault y (sym e)

-- ---- all but the end

pub reads_body : (past : Option SessionValue) (bytes part rest : List ℕ) (s : SessionValue) (left : ℕ) → bytes ≡ part ++ rest → left ≡ length rest → ((r : List ℕ) → body_after past (part ++ r) ≡ Ok (s, r)) → ReadsBody past bytes (Ok (s, left))
reads_body past bytes part rest s left whole len reads =
    let lengths : length bytes ≡ length part + length rest = ap (λ (xs : List ℕ). length xs) whole ∙ length-append part rest in
    let at : length bytes - left ≡ length part = omega (arith, lengths, len) in
    let cut : drop (length bytes - left) bytes ≡ rest = ap (λ (k : ℕ). drop k bytes) at ∙ ap (λ (xs : List ℕ). drop (length part) xs) whole ∙ drop_at part rest (length part) refl in
    (omega (arith, lengths, len), ap (body_after past) whole ∙ reads rest ∙ ap (λ (xs : List ℕ). done (s, xs)) (sym cut))

-- ---- the whole

abbrev over_end : SessionValue → Unit {0} × List ℕ → Result (SessionValue × List ℕ) FileFault
over_end s e = Ok (s, e.1)

ends : (s : SessionValue) (r : Result (Unit {0} × List ℕ) FileFault) → ((r >>= over_end s) >>= λ x. tested (eqb (length x.1) 0) Trailing >>= λ u. Ok x.0) ≡ (r >>= λ e. tested (eqb (length e.1) 0) Trailing >>= λ u. Ok s)
ends s (Ok e) = refl
ends s (Err f) = refl

pub some_left : (bytes : List ℕ) → eqb (length bytes) 0 ≡ false → 0 < length bytes
some_left [] e = absurd cc
some_left (b ∷ bs) e = omega arith

-- what the last bytes come to
pub ended_short : (s : SessionValue) (rest : List ℕ) → length rest < 32 → ended_at s rest ≡ Err Truncated
unfolding end_at
ended_short s rest short = rw (bytes_end 32 rest short) refl

module _ (s : SessionValue) (end behind : List ℕ) (size : length end ≡ 32) where
  read_end : slice_at 32 (end ++ behind) ≡ Ok (end, behind)
  read_end = bytes_reads 32 end behind size

  ended_other : (end ≡ sha256 (body_bytes s) → ⊥) → ended_at s (end ++ behind) ≡ Err BadDigest
  unfolding end_at
  ended_other other =
      let differs : bytes_eq end (sha256 (body_bytes s)) ≡ false = false_from_ne_true _ (λ e. other ((bytes_eq-Decides end (sha256 (body_bytes s))).0 e)) in
      rw (read_end, differs) refl

  ended_same : end ≡ sha256 (body_bytes s) → ended_at s (end ++ behind) ≡ (tested (eqb (length behind) 0) Trailing >>= λ u. Ok s)
  unfolding end_at
  ended_same is =
      let same : bytes_eq end (sha256 (body_bytes s)) ≡ true = (bytes_eq-Decides end (sha256 (body_bytes s))).1 is in
      rw (read_end, same) refl

  pub ended_whole : (r : Result SessionValue FileFault) → length behind ≡ 0 → EndsWith s end r → r ≡ ended_at s (end ++ behind)
  ended_whole (Ok t) none h = let e : eqb (length behind) 0 ≡ true = eq-eqb _ _ none in rw (ended_same h.1, e, h.0) refl
  ended_whole (Err f) none h = ap (λ (x : FileFault). Err x) h.0 ∙ sym (ended_other h.1)

  pub ended_more : 0 < length behind → end ≡ sha256 (body_bytes s) → ended_at s (end ++ behind) ≡ Err Trailing
  ended_more some is = let e : eqb (length behind) 0 ≡ false = ne_eqb (length behind) 0 (λ z. omega (arith, some, z)) in rw (ended_same is, e) refl

  pub ended_else : (fault : FileFault) → EndsWith s end (Err fault) → ended_at s (end ++ behind) ≡ Err fault
  ended_else fault h = ended_other h.1 ∙ ap (λ (x : FileFault). Err x) (sym h.0)

-- the first 32 of the last bytes, and those behind them
module _ (whole rest end behind : List ℕ) (back : rest ≡ whole) (parts : (end ≡ take 32 rest) × (behind ≡ drop 32 rest) × (length behind + 32 ≡ length rest)) where
  pub chunk_size : length end ≡ 32
  chunk_size = omega (arith, length-take 32 rest, ap (λ (xs : List ℕ). length xs) parts.0, parts.2)

  pub chunk_whole : end ++ behind ≡ whole
  chunk_whole = ap (λ (xs : List ℕ). xs ++ behind) parts.0 ∙ ap (λ (xs : List ℕ). take 32 rest ++ xs) parts.1 ∙ take-append-drop 32 rest ∙ back

module _ (past : Option SessionValue) (bytes : List ℕ) (before : IfSome past IsSession) (fits : IsBytes bytes) where
  -- what stands in front of the bytes that are left
  pub body_front : (s : SessionValue) (left : ℕ) → ReadsBody past bytes (Ok (s, left)) → take (length bytes - left) bytes ≡ body_bytes s
  body_front s left h =
      let rest = drop (length bytes - left) bytes in
      let f = body_takes past bytes s rest before fits h.1 in
      let len : length rest ≡ left = omega (arith, length-drop (length bytes - left) bytes, h.0) in
      ap (λ (k : ℕ). take (length bytes - k) bytes) (sym len) ∙ f.front

  pub file_ended : (s : SessionValue) (left : ℕ) → ReadsBody past bytes (Ok (s, left)) → file_after past bytes ≡ ended_at s (drop (length bytes - left) bytes)
  unfolding file_after front_after
  file_ended s left h =
      let rest = drop (length bytes - left) bytes in
      let f = body_takes past bytes s rest before fits h.1 in
      rw (h.1, f.front) (ends s (end_at (body_bytes s) rest))

  pub file_breaks_so : (fault : FileFault) → ReadsBody past bytes (Err fault) → IsUnlessMemory {A = SessionValue} (Err fault) (file_after past bytes)
  unfolding file_after front_after
  file_breaks_so fault h = unless_map fault (body_after past bytes) (file_after past bytes) (λ e. rw e refl) h

  file_takes : (s : SessionValue) → file_after past bytes ≡ Ok s → IsSession s × IsTakenFrom past s × (bytes ≡ file_of s)
  unfolding file_after
  file_takes s e =
      let a = bind_ok (front_after past bytes) _ s e in
      let b = bind_ok (tested (eqb (length a.0.1) 0) Trailing) _ s a.2 in
      let none : a.0.1 ≡ [] = nil_from_length a.0.1 (eqb-true _ _ (tested_ok _ _ b.0 b.1)) in
      let t = front_takes past bytes a.0.0 a.0.1 before fits a.1 in
      subst (λ (x : SessionValue). IsSession x × IsTakenFrom past x × (bytes ≡ file_of x)) (ok_is a.0.0 s b.2)
      (t.0, t.1, t.2 ∙ ap (λ (xs : List ℕ). file_of a.0.0 ++ xs) none ∙ append-nil (file_of a.0.0))

  pub file_found : (r : Result SessionValue FileFault) → IsUnlessMemory r (file_after past bytes) → IfOk r (λ s. IsSession s × (bytes ≡ file_of s))
  file_found (Ok s) e = let t = file_takes s (sym e) in (t.0, t.2)
  file_found (Err fault) e = tt

  pub file_taken : (r : Result SessionValue FileFault) → IsUnlessMemory r (file_after past bytes) → IfOk r (IsTakenFrom past)
  file_taken (Ok s) e = (file_takes s (sym e)).1
  file_taken (Err fault) e = tt

  pub file_only : (r : Result SessionValue FileFault) → IsUnlessMemory r (file_after past bytes) → (s : SessionValue) → IsSession s → IsTakenFrom past s → bytes ≡ file_of s → IsUnlessMemory r (Ok s)
  file_only r e s h taken is =
      let there : file_after past bytes ≡ Ok s = file_is_read past bytes s [] (ap (front_after past) (is ∙ sym (append-nil (file_of s))) ∙ front_again past s [] h taken) refl in
      subst (IsUnlessMemory r) there e
