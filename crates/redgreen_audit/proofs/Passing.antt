-- Records that pass by their places make a session that passes.
use Rattle.std.proofs.Common.{◌≡◌, ◌≢◌, ℕ, zero, suc, ◌<◌, List, [], ◌∷◌, ◌++◌, map, get_or, slice_get, Some, refl, sym, ap, subst, ◌∙◌, length, append_assoc, arith}
use Rattle.std.specs.List.{AllByRecursion}
use Rattle.std.proofs.lemmas.List.{map-append}
use Rattle.std.proofs.lemmas.Option.{slice_get_within, same_Some}
use Rattle.std.proofs.lemmas.Bool.{cases_order}
use Rattle.std.proofs.Common.{inl, inr, Option, None, drop}
use Rattle.redgreen_rules.specs.Runs.{Told, IsIn}
use Rattle.redgreen_rules.specs.Sessions as rules
use Rattle.redgreen_rules.specs.Sessions.{Holds, AreHeld, IsNew, PassesBy, Passes, IsTakenOver, IsSameEntry}
use Rattle.redgreen_sessions.specs.declared.record.Mark.{Mark}
use Rattle.redgreen_sessions.specs.declared.record.Mark.TheVariants.{Input, Green, Executed}
use Rattle.redgreen_sessions.specs.declared.record.Record.{Record}
use Rattle.redgreen_sessions.specs.Views.{mark_of, tell_of, tell_at, told_at, entry_in, entries_of}
use Rattle.redgreen_sessions.specs.Marks.{previous_of}
use Rattle.redgreen_audit.specs.Checks.{HaveOnce, HaveNew, HasReads, IsUnchanged, IsUnchangedAt, IsTakenFrom, IsGreenBy, PassEach, named, previous_in, previous_at}
use Rattle.redgreen_audit.specs.Answering.{AreInside, AreOnce, AreAllInside, AreAllOnce}
use Rattle.redgreen_audit.proofs.Places.{in_map_get, at_seam, at_front, there}

-- ---- green records

abbrev told : List ℕ → List ℕ → Told
told k v = record { key = k; value = v }

pub same_told : (k l v w : List ℕ) → k ≡ l → v ≡ w → told k v ≡ told l w
same_told k l v w e f = rw (e, f) refl

named_none : (q : ℕ) → None ≡ named q → ⊥
named_none q e = cc

module _ (past now : List Record) (each : PassEach past now) where
  -- a record of the previous session that is named has the same key and value
  unchanged_in : (j q : ℕ) (o : Option Record) → slice_get now j ≡ o → previous_in o ≡ named q → tell_at past q ≡ tell_of o
  unchanged_in j q None at e = absurd (named_none q e)
  unchanged_in j q (Some r) at e =
      let u : IsUnchangedAt past q r = subst (IsUnchanged past r) e (each j r at).unchanged in
      ap tell_of u.here ∙ same_told u.had.key r.key u.had.value r.value u.key u.value

  unchanged_all : (reads had : List ℕ) → map (previous_at now) reads ≡ map named had → told_at past had ≡ told_at now reads
  unchanged_all [] [] e = refl
  unchanged_all [] (q ∷ had) e = absurd cc
  unchanged_all (j ∷ reads) [] e = absurd cc
  unchanged_all (j ∷ reads) (q ∷ had) e =
      let first : previous_at now j ≡ named q = ap (λ (xs : List (Option ℕ)). get_or xs 0 None) e in
      let rest : map (previous_at now) reads ≡ map named had = ap (λ (xs : List (Option ℕ)). drop 1 xs) e in
      ap (λ (t : Told). t ∷ told_at past had) (unchanged_in j q (slice_get now j) refl first)
      ∙ ap (λ (ts : List Told). tell_at now j ∷ ts) (unchanged_all reads had rest)

  -- the previous session has it
  taken_there : (place : ℕ) (r : Record) → IsUnchangedAt past place r → IsTakenFrom past now place r → IsTakenOver (entries_of past) (entry_in now r)
  taken_there place r u st =
      let same : u.had ≡ st.had = same_Some u.had st.had (sym u.here ∙ st.here) in
      record {
        had = entry_in past st.had;
        there = in_map_get (entry_in past) past place st.had st.here;
        no_input = st.no_input;
        again = record {
          key = ap (λ (x : Record). x.key) (sym same) ∙ u.key;
          told = unchanged_all r.reads.items st.had.reads.items st.reads;
          value = ap (λ (x : Record). x.value) (sym same) ∙ u.value;
        };
      }

-- ---- keys

new_more : (front xs : List Record) (r : Record) → HaveNew front xs → AllByRecursion (λ (a : Record). a.key ≢ r.key) (front ++ xs) → HaveNew front (xs ++ r ∷ [])
new_more front [] r h n = (subst (AllByRecursion (λ (a : Record). a.key ≢ r.key)) (nil front) n, tt)
  where
    nil : (ys : List Record) → ys ++ [] ≡ ys
    nil [] = refl
    nil (y ∷ ys) = ap (λ (zs : List Record). y ∷ zs) (nil ys)
new_more front (x ∷ xs) r h n = (h.0, new_more (front ++ x ∷ []) xs r h.1 (subst (AllByRecursion (λ (a : Record). a.key ≢ r.key)) (sym (append_assoc front (x ∷ []) xs)) n))

pub have_more : (xs : List Record) (r : Record) → HaveNew [] xs → AllByRecursion (λ (a : Record). a.key ≢ r.key) xs → HaveNew [] (xs ++ r ∷ [])
have_more xs r h n = new_more [] xs r h n

new_in : (now front : List Record) (k : List ℕ) → AllByRecursion (λ (a : Record). a.key ≢ k) front → IsNew (map (entry_in now) front) k
new_in now [] k h = tt
new_in now (a ∷ front) k h = (h.0, new_in now front k h.1)

-- ---- reads

holds_at : (now front rest : List Record) → front ++ rest ≡ now → (j : ℕ) → j < length front → Holds (map (entry_in now) front) (tell_at now j).key (tell_at now j).value
holds_at now front rest e j l =
    let a = there front j l in
    let at : slice_get now j ≡ Some a.0 = ap (λ (xs : List Record). slice_get xs j) (sym e) ∙ (at_front front rest j l ∙ a.1) in
    subst (λ (t : Told). Holds (map (entry_in now) front) t.key t.value) (sym (ap tell_of at))
    (record { entry = entry_in now a.0; there = in_map_get (entry_in now) front j a.0 a.1; key = refl; value = refl })

held : (now front rest : List Record) → front ++ rest ≡ now → (reads : List ℕ) → ((k : ℕ) → k < length reads → get_or reads k 0 < length front) → AreHeld (map (entry_in now) front) (told_at now reads)
held now front rest e [] h = tt
held now front rest e (j ∷ reads) h = (holds_at now front rest e j (h 0 (omega arith)), held now front rest e reads (λ k l. h (suc k) (omega (arith, l))))

-- ---- all

module _ (past now : List Record) where
  by_mark : PassEach past now → (front rest : List Record) (r : Record) → front ++ rest ≡ now → (m : Mark) → HasReads (length front) r m → IsUnchanged past r (previous_of m) → IsGreenBy past now r m → PassesBy (entries_of past) (map (entry_in now) front) (entry_in now r) (mark_of m)
  by_mark each front rest r e (Input previous) p u g = ap (told_at now) p
  by_mark each front rest r e (Green place) p u g = (held now front rest e r.reads.items p, taken_there past now each place r u g)
  by_mark each front rest r e (Executed previous) p u g = held now front rest e r.reads.items p.0

  from : PassEach past now → (front rest : List Record) → front ++ rest ≡ now → HaveNew front rest → Passes (entries_of past) (map (entry_in now) front) (map (entry_in now) rest)
  from each front [] e n = tt
  from each front (r ∷ rest) e n = let p = each (length front) r (ap (λ (xs : List Record). slice_get xs (length front)) (sym e) ∙ at_seam front rest r) in (
    new_in now front r.key n.0,
    by_mark each front (r ∷ rest) r e r.mark p.reads p.unchanged p.green,
    subst (λ (xs : List rules.Entry). Passes (entries_of past) xs (map (entry_in now) rest)) (map-append (entry_in now) front (r ∷ []))
        (from each (front ++ r ∷ []) rest (append_assoc front (r ∷ []) rest ∙ e) n.1),
  )

pub all_pass : (past now : List Record) → HaveNew [] now → PassEach past now → Passes (entries_of past) [] (entries_of now)
all_pass past now n each = from past now each [] now refl n

-- ---- places

pub inside_mark : (now : List Record) (i : ℕ) (r : Record) (m : Mark) → i < length now → HasReads i r m → AreInside now r.reads.items
inside_mark now i r (Input previous) l p = λ k h. absurd (omega (arith, h, ap length p))
inside_mark now i r (Green place) l p = λ k h. omega (arith, p k h, l)
inside_mark now i r (Executed previous) l p = λ k h. omega (arith, p.0 k h, l)

pub all_inside : (past now : List Record) → PassEach past now → AreAllInside now
all_inside past now each i r at = inside_mark now i r r.mark (slice_get_within now i r at) (each i r at).reads

-- ---- reads with keys of their own

pub in_at : {A : Type 0} (xs : List A) (i : ℕ) (x : A) → slice_get xs i ≡ Some x → IsIn xs x
in_at [] i x e = absurd cc
in_at (y ∷ xs) zero x e = inl (same_Some y x e)
in_at (y ∷ xs) (suc i) x e = inr (in_at xs i x e)

all_at : {A : Type 0} (P : A → Type 0) (xs : List A) (x : A) → AllByRecursion P xs → IsIn xs x → P x
all_at P [] x h l = elim l [ ]
all_at P (y ∷ ys) x h (inl e) = subst P e h.0
all_at P (y ∷ ys) x h (inr l) = all_at P ys x h.1 l

pushed : {A : Type 0} (front : List A) (x y : A) → IsIn front y → IsIn (front ++ x ∷ []) y
pushed [] x y l = elim l [ ]
pushed (z ∷ front) x y (inl e) = inl e
pushed (z ∷ front) x y (inr l) = inr (pushed front x y l)

last_in : {A : Type 0} (front : List A) (x : A) → IsIn (front ++ x ∷ []) x
last_in [] x = inl refl
last_in (z ∷ front) x = inr (last_in front x)

-- earlier records have other keys
front_new : (front rest : List Record) (a : Record) (j : ℕ) (s : Record) → HaveNew front rest → IsIn front a → slice_get rest j ≡ Some s → a.key ≢ s.key
front_new front [] a j s h l e = absurd cc
front_new front (x ∷ rest) a zero s h l e = subst (λ (y : Record). a.key ≢ y.key) (same_Some x s e) (all_at (λ (b : Record). b.key ≢ x.key) front a h.0 l)
front_new front (x ∷ rest) a (suc j) s h l e = front_new (front ++ x ∷ []) rest a j s h.1 (pushed front x a l) e

pub new_keys : (front rest : List Record) (i j : ℕ) (a s : Record) → HaveNew front rest → i < j → slice_get rest i ≡ Some a → slice_get rest j ≡ Some s → a.key ≢ s.key
new_keys front [] i j a s h l e f = absurd cc
new_keys front (x ∷ rest) zero zero a s h l e f = absurd (omega (arith, l))
new_keys front (x ∷ rest) zero (suc j) a s h l e f = front_new (front ++ x ∷ []) rest a j s h.1 (subst (IsIn (front ++ x ∷ [])) (same_Some x a e) (last_in front x)) f
new_keys front (x ∷ rest) (suc i) zero a s h l e f = absurd (omega (arith, l))
new_keys front (x ∷ rest) (suc i) (suc j) a s h l e f = new_keys (front ++ x ∷ []) rest i j a s h.1 (omega (arith, l)) e f

front_once : (front rest : List ℕ) (a j : ℕ) → HaveOnce front rest → IsIn front a → j < length rest → a ≢ get_or rest j 0
front_once front [] a j h l m = absurd (omega (arith, m))
front_once front (x ∷ rest) a zero h l m = all_at (λ (b : ℕ). b ≢ x) front a h.0 l
front_once front (x ∷ rest) a (suc j) h l m = front_once (front ++ x ∷ []) rest a j h.1 (pushed front x a l) (omega (arith, m))

once_places : (front rest : List ℕ) (i j : ℕ) → HaveOnce front rest → i < j → j < length rest → get_or rest i 0 ≢ get_or rest j 0
once_places front [] i j h l m = absurd (omega (arith, m))
once_places front (x ∷ rest) zero zero h l m = absurd (omega (arith, l))
once_places front (x ∷ rest) zero (suc j) h l m = front_once (front ++ x ∷ []) rest x j h.1 (last_in front x) (omega (arith, m))
once_places front (x ∷ rest) (suc i) zero h l m = absurd (omega (arith, l))
once_places front (x ∷ rest) (suc i) (suc j) h l m = once_places (front ++ x ∷ []) rest i j h.1 (omega (arith, l)) (omega (arith, m))

other_keys : (now : List Record) (p q : ℕ) → HaveNew [] now → p ≢ q → p < length now → q < length now → (tell_at now p).key ≢ (tell_at now q).key
other_keys now p q h ne l m =
    let a = there now p l in
    let b = there now q m in
    let ka : (tell_at now p).key ≡ a.0.key = ap (λ (o : Option Record). (tell_of o).key) a.1 in
    let kb : (tell_at now q).key ≡ b.0.key = ap (λ (o : Option Record). (tell_of o).key) b.1 in
    λ e. elim (cases_order p q) [
      | inl same ↦ ne same
      | inr two ↦ elim two [
        | inl lt ↦ new_keys [] now p q a.0 b.0 h lt a.1 b.1 (sym ka ∙ (e ∙ kb))
        | inr gt ↦ new_keys [] now q p b.0 a.0 h gt b.1 a.1 (sym kb ∙ (sym e ∙ ka))
      ]
    ]

reads_once : (now : List Record) (reads : List ℕ) → HaveNew [] now → AreInside now reads → HaveOnce [] reads → AreOnce now reads
reads_once now reads h inside once i j l m =
    other_keys now (get_or reads i 0) (get_or reads j 0) h (once_places [] reads i j once l m) (inside i (omega (arith, l, m))) (inside j m)

once_mark : (now : List Record) (i : ℕ) (r : Record) (m : Mark) → HaveNew [] now → AreInside now r.reads.items → HasReads i r m → mark_of m ≡ rules.Executed → AreOnce now r.reads.items
once_mark now i r (Input previous) h inside p is = let both : rules.Input ≡ rules.Executed = is in absurd cc
once_mark now i r (Green place) h inside p is = let both : rules.Green ≡ rules.Executed = is in absurd cc
once_mark now i r (Executed previous) h inside p is = reads_once now r.reads.items h inside p.1

pub all_once : (past now : List Record) → HaveNew [] now → PassEach past now → AreAllOnce now
all_once past now h each i r at is = once_mark now i r r.mark h (all_inside past now each i r at) (each i r at).reads is
