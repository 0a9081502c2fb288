-- Keys that were seen.
use Rattle.std.proofs.Common.{◌≡◌, ◌≢◌, ℕ, ◌+◌, ◌<◌, Bool, true, false, not, cond, ◌||◌, List, [], ◌∷◌, ◌++◌, map, take, get_or, refl, sym, ap, subst, ◌∙◌, length, Bor}
use Rattle.std.specs.List.{AllByRecursion, list_any}
use Rattle.std.specs.Str.{bytes_eq}
use Rattle.std.proofs.lemmas.List.{take_more, map-append}
use Rattle.std.proofs.lemmas.Slice.Eq.{bytes_eq-Decides}
use Rattle.redgreen_sessions.specs.declared.record.Record.{Record}
use Rattle.std.proofs.Common.{inl, inr, ◌⊎◌, Some}
use Rattle.std.proofs.lemmas.Option.{slice_get-get_or, same_Some}
use Rattle.redgreen_rules.specs.Runs.{IsIn}
use Rattle.redgreen_audit.specs.Refusals.{Repeats}
use Rattle.std.proofs.Common.{zero, suc, eqb, append_assoc, arith}
use Rattle.std.proofs.lemmas.Bool.{eqb-true, eqb-false, cases_lt}
use Rattle.std.proofs.lemmas.List.{length-take, get_or-take}
use Rattle.redgreen_rules.specs.Runs.{Told}
use Rattle.redgreen_sessions.specs.Views.{tell_at, told_at}
use Rattle.redgreen_audit.specs.Answering.{AreOnce, IsStrange, IsUntold, Tells, told_first}
use Rattle.redgreen_audit.specs.Checks.{HaveOnce, HaveNew}
use Rattle.redgreen_audit.proofs.Places.{map_more}
use Rattle.redgreen_audit.proofs.Passing.{have_more}

neither : (a b : Bool) → (a || b) ≡ false → (a ≡ false) × (b ≡ false)
neither true b e = absurd cc
neither false b e = (refl, e)

pub not_true : (b : Bool) → true ≡ not b → b ≡ false
not_true true e = absurd cc
not_true false e = refl

abbrev among : List ℕ → List (Bor (List ℕ)) → Bool
among k keys = list_any (λ (y : Bor (List ℕ)). bytes_eq k y.now) keys

unlike_all : (k : List ℕ) (keys : List (Bor (List ℕ))) → among k keys ≡ false → AllByRecursion (λ x. x ≢ k) (map (λ (b : Bor (List ℕ)). b.now) keys)
unlike_all k [] e = tt
unlike_all k (x ∷ keys) e =
    let n = neither (bytes_eq k x.now) (among k keys) e in
    (λ same. let yes : bytes_eq k x.now ≡ true = (bytes_eq-Decides k x.now).1 (sym same) in let no_way : true ≡ false = sym yes ∙ n.0 in absurd cc, unlike_all k keys n.1)

unlike_records : (k : List ℕ) (rs : List Record) → AllByRecursion (λ x. x ≢ k) (map (λ (r : Record). r.key) rs) → AllByRecursion (λ (a : Record). a.key ≢ k) rs
unlike_records k [] h = tt
unlike_records k (r ∷ rs) h = (h.0, unlike_records k rs h.1)

chosen : {A : Type 0} (b : Bool) (x y : A) → b ≡ false → cond b x y ≡ y
chosen true x y e = absurd cc
chosen false x y e = refl

pub record Seen (records : List Record) (n : ℕ) (keys : List (Bor (List ℕ))) : Type 0 where
  pub new : HaveNew [] (take n records)
  pub seen : map (λ (b : Bor (List ℕ)). b.now) keys ≡ map (λ (r : Record). r.key) (take n records)

pub seen_more : (records : List Record) (n : ℕ) (r : Record) (keys next : List (Bor (List ℕ))) (k : Bor (List ℕ)) → n < length records → r ≡ get_or records n r → k.now ≡ r.key
    → HaveNew [] (take n records) → map (λ (b : Bor (List ℕ)). b.now) keys ≡ map (λ (r : Record). r.key) (take n records)
    → list_any (λ (y : Bor (List ℕ)). bytes_eq k.now y.now) keys ≡ false → next ≡ cond (list_any (λ (y : Bor (List ℕ)). bytes_eq k.now y.now) keys) keys (keys ++ k ∷ []) → Seen records (n + 1) next
seen_more records n r keys next k l is key new seen fresh grown =
    let unlike : AllByRecursion (λ x. x ≢ k.now) (map (λ (r : Record). r.key) (take n records)) = subst (AllByRecursion (λ x. x ≢ k.now)) seen (unlike_all k.now keys fresh) in
    let all : AllByRecursion (λ (a : Record). a.key ≢ r.key) (take n records) = subst (λ (q : List ℕ). AllByRecursion (λ (a : Record). a.key ≢ q) (take n records)) key (unlike_records k.now (take n records) unlike) in
    let more : take (n + 1) records ≡ take n records ++ r ∷ [] = take_more records n r l ∙ ap (λ (x : Record). take n records ++ x ∷ []) (sym is) in
    let got : next ≡ keys ++ k ∷ [] = grown ∙ chosen (list_any (λ (y : Bor (List ℕ)). bytes_eq k.now y.now) keys) keys (keys ++ k ∷ []) fresh in
    record {
      new = subst (HaveNew []) (sym more) (have_more (take n records) r new all);
      seen =
          ap (map (λ (b : Bor (List ℕ)). b.now)) got ∙ (map-append (λ (b : Bor (List ℕ)). b.now) keys (k ∷ [])
          ∙ (ap (λ (ks : List (List ℕ)). ks ++ k.now ∷ []) seen ∙ (ap (λ (q : List ℕ). map (λ (r : Record). r.key) (take n records) ++ q ∷ []) key
          ∙ sym (map_more (λ (r : Record). r.key) records n r l is))));
    }

-- ---- a key that was seen

pub not_false : (b : Bool) → false ≡ not b → b ≡ true
not_false true e = refl
not_false false e = absurd cc

one_of : (a b : Bool) → (a || b) ≡ true → (a ≡ true) ⊎ (b ≡ true)
one_of true b e = inl refl
one_of false b e = inr e

found : (k : List ℕ) (keys : List (Bor (List ℕ))) → among k keys ≡ true → IsIn (map (λ (b : Bor (List ℕ)). b.now) keys) k
found k [] e = absurd cc
found k (x ∷ keys) e = elim (one_of (bytes_eq k x.now) (among k keys) e) [
  | inl same ↦ inl (sym ((bytes_eq-Decides k x.now).0 same))
  | inr later ↦ inr (found k keys later)
]

record Has (rs : List Record) (k : List ℕ) : Type 0 where
  pub other : Record
  pub there : IsIn rs other
  pub same : other.key ≡ k

has : (k : List ℕ) (rs : List Record) → IsIn (map (λ (r : Record). r.key) rs) k → Has rs k
has k [] l = elim l [ ]
has k (r ∷ rs) (inl e) = record { other = r; there = inl refl; same = e }
has k (r ∷ rs) (inr l) = let h = has k rs l in record { other = h.other; there = inr h.there; same = h.same }

pub repeats : (records : List Record) (n : ℕ) (r : Record) (keys : List (Bor (List ℕ))) (k : Bor (List ℕ)) → n < length records → r ≡ get_or records n r → k.now ≡ r.key
    → HaveNew [] (take n records) → map (λ (b : Bor (List ℕ)). b.now) keys ≡ map (λ (r : Record). r.key) (take n records)
    → list_any (λ (y : Bor (List ℕ)). bytes_eq k.now y.now) keys ≡ true → Repeats records n
repeats records n r keys k l is key new seen met =
    let h = has k.now (take n records) (subst (λ (ks : List (List ℕ)). IsIn ks k.now) seen (found k.now keys met)) in
    record { item = r; here = slice_get-get_or records n r l ∙ ap Some (sym is); before = new; other = h.other; there = h.there; same = h.same ∙ key }

-- ---- places that were seen

abbrev seen_place : ℕ → List ℕ → Bool
seen_place k keys = list_any (λ (y : ℕ). eqb k y) keys

unlike_places : (k : ℕ) (keys : List ℕ) → seen_place k keys ≡ false → AllByRecursion (λ (x : ℕ). x ≢ k) keys
unlike_places k [] e = tt
unlike_places k (x ∷ keys) e = let n = neither (eqb k x) (seen_place k keys) e in (λ same. eqb-false k x n.0 (sym same), unlike_places k keys n.1)

once_more : (front xs : List ℕ) (x : ℕ) → HaveOnce front xs → AllByRecursion (λ (a : ℕ). a ≢ x) (front ++ xs) → HaveOnce front (xs ++ x ∷ [])
once_more front [] x h n = (subst (AllByRecursion (λ (a : ℕ). a ≢ x)) (nil front) n, tt)
  where
    nil : (ys : List ℕ) → ys ++ [] ≡ ys
    nil [] = refl
    nil (y ∷ ys) = ap (λ (zs : List ℕ). y ∷ zs) (nil ys)
once_more front (y ∷ xs) x h n = (h.0, once_more (front ++ y ∷ []) xs x h.1 (subst (AllByRecursion (λ (a : ℕ). a ≢ x)) (sym (append_assoc front (y ∷ []) xs)) n))

pub record Places (places : List ℕ) (n : ℕ) (keys : List ℕ) : Type 0 where
  pub once : HaveOnce [] (take n places)
  pub seen : keys ≡ take n places

pub places_more : (places : List ℕ) (n : ℕ) (keys next : List ℕ) → n < length places → HaveOnce [] (take n places) → keys ≡ take n places
    → list_any (λ (y : ℕ). eqb (get_or places n 0) y) keys ≡ false → next ≡ cond (list_any (λ (y : ℕ). eqb (get_or places n 0) y) keys) keys (keys ++ get_or places n 0 ∷ []) → Places places (n + 1) next
places_more places n keys next l once seen fresh grown =
    let k = get_or places n 0 in
    let more = take_more places n 0 l in
    record {
      once = subst (HaveOnce []) (sym more) (once_more [] (take n places) k once (subst (AllByRecursion (λ (x : ℕ). x ≢ k)) seen (unlike_places k keys fresh)));
      seen = grown ∙ (chosen (list_any (λ (y : ℕ). eqb k y) keys) keys (keys ++ k ∷ []) fresh ∙ (ap (λ (xs : List ℕ). xs ++ k ∷ []) seen ∙ sym more));
    }

met_place : (k : ℕ) (keys : List ℕ) → seen_place k keys ≡ true → AllByRecursion (λ (a : ℕ). a ≢ k) keys → ⊥
met_place k [] e h = absurd cc
met_place k (x ∷ keys) e h = elim (one_of (eqb k x) (seen_place k keys) e) [
  | inl same ↦ h.0 (sym (eqb-true k x same))
  | inr later ↦ met_place k keys later h.1
]

once_at : (front xs : List ℕ) (n : ℕ) → n < length xs → HaveOnce front xs → AllByRecursion (λ (a : ℕ). a ≢ get_or xs n 0) (front ++ take n xs)
once_at front [] n l h = absurd (omega (arith, l))
once_at front (x ∷ xs) zero l h = subst (AllByRecursion (λ (a : ℕ). a ≢ x)) (sym (nil front)) h.0
  where
    nil : (ys : List ℕ) → ys ++ [] ≡ ys
    nil [] = refl
    nil (y ∷ ys) = ap (λ (zs : List ℕ). y ∷ zs) (nil ys)
once_at front (x ∷ xs) (suc n) l h = subst (AllByRecursion (λ (a : ℕ). a ≢ get_or xs n 0)) (append_assoc front (x ∷ []) (take n xs)) (once_at (front ++ x ∷ []) xs n (omega (arith, l)) h.1)

pub not_once : (places : List ℕ) (n : ℕ) (keys : List ℕ) → n < length places → keys ≡ take n places → list_any (λ (y : ℕ). eqb (get_or places n 0) y) keys ≡ true → HaveOnce [] places → ⊥
not_once places n keys l seen met h =
    met_place (get_or places n 0) keys met (subst (AllByRecursion (λ (a : ℕ). a ≢ get_or places n 0)) (sym seen) (once_at [] places n l h))

-- the next read's key wasn't told
pub untold_next : (records : List Record) (reads : List ℕ) (count : ℕ) (k v : List ℕ) → AreOnce records reads → count < length reads → tell_at records (get_or reads count 0) ≡ record { key = k; value = v } → IsUntold (told_at records (take count reads)) k
untold_next records reads count k v once l is = all (take count reads) (λ i m.
    let h = once i count (omega (arith, m, length-take count reads)) l in
    λ e. h (ap (λ (x : ℕ). (tell_at records x).key) (sym (get_or-take count reads i 0 (omega (arith, m, length-take count reads)))) ∙ (e ∙ sym (ap (λ (t : Told). t.key) is))))
  where
    all : (xs : List ℕ) → ((i : ℕ) → i < length xs → (tell_at records (get_or xs i 0)).key ≢ k) → IsUntold (told_at records xs) k
    all [] h = tt
    all (x ∷ xs) h = (h 0 (omega arith), all xs (λ i m. h (suc i) (omega (arith, m))))

pub told_more : (records : List Record) (reads : List ℕ) (count : ℕ) (k v : List ℕ) → AreOnce records reads → count < length reads → tell_at records (get_or reads count 0) ≡ record { key = k; value = v }
    → Tells (told_first records reads count) k v (told_first records reads (count + 1))
told_more records reads count k v once l is = inl (
  untold_next records reads count k v once l is,
  ap (map (tell_at records)) (take_more reads count 0 l) ∙ (map-append (tell_at records) (take count reads) (get_or reads count 0 ∷ []) ∙ ap (λ (t : Told). told_at records (take count reads) ++ t ∷ []) is),
)

pub strange_all : (records : List Record) (reads : List ℕ) (count : ℕ) (key other k : List ℕ) → (count < length reads → (tell_at records (get_or reads count 0)).key ≢ key)
    → ((i : ℕ) → i < length (take count reads) → (tell_at records (get_or (take count reads) i 0)).key ≢ key) → other ≡ key → Some other ≡ Some k → IsStrange records reads count k
strange_all records reads count key other k here before is e = subst (IsStrange records reads count) (sym is ∙ same_Some other k e) (λ j l m. elim (cases_lt j count) [
  | inl lt ↦ λ same. before j (omega (arith, l, lt, length-take count reads)) (ap (λ (x : ℕ). (tell_at records x).key) (get_or-take count reads j 0 lt) ∙ same)
  | inr ge ↦
      let at : count ≡ j = omega (arith, m, ge) in
      λ same. here (omega (arith, l, ge, m)) (ap (λ (x : ℕ). (tell_at records (get_or reads x 0)).key) at ∙ same)
])
