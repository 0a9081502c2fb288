-- Records one after the other, and the file: what is read is spelled there, and each spelling is
-- read back.
use Rattle.std.proofs.Common.{◌≡◌, ℕ, zero, suc, ◌+◌, ◌-◌, ◌<◌, ◌≤◌, ◌^◌, inl, inr, List, [], ◌∷◌, ◌++◌, length, take, get_or, Ok, Err, refl, sym, ap, subst, ◌∙◌, append_assoc, arith}
use Rattle.std.specs.Prelude.{IfSome}
use Rattle.std.specs.List.{AllByRecursion, flat_map}
use Rattle.std.proofs.lemmas.Bool.{cases_eq}
use Rattle.std.proofs.lemmas.List.{append-nil, length-append, take-append-le, take_at, length_push}
use Rattle.std.proofs.lemmas.List.Concat.{flat_map-cons}
use Rattle.std.proofs.Math.ListN.{get_or-append}
use Rattle.std.proofs.Math.Seq.{get_or-append_seam}
use Rattle.byte_readers.specs.Lawful.{IsBytes, Takes}
use Rattle.byte_readers.specs.Laws.{Takes-then}
use Rattle.sessions.specs.Sessions.{RecordValue, IsSession, FitsBehind, AreRecords}
use Rattle.sessions.specs.Spelling.{record_bytes}
use Rattle.session_file.specs.declared.fault.FileFault.{FileFault}
use Rattle.session_file.specs.Reading.{OriginValue, record_at, records_from}
use Rattle.session_file.proofs.ReadLaws.{done, ok_is, bind_ok, bind_is}
use Rattle.session_file.proofs.RecordReadLaws.{IsReadOver, record_takes, record_again}

-- ---- the loop

pub records_go_on : (origin : OriginValue) (front : List RecordValue) (count i : ℕ) (bytes : List ℕ) (r : RecordValue) (after : List ℕ) → i < count → record_at origin front bytes ≡ Ok (r, after) → records_from origin front (count - i) bytes ≡ records_from origin (front ++ r ∷ []) (count - (i + 1)) after
unfolding records_from
records_go_on origin front count i bytes r after lt h =
    let k : count - i ≡ suc (count - (i + 1)) = omega arith in
    rw (k, h) refl

pub records_break : (origin : OriginValue) (front : List RecordValue) (count i : ℕ) (bytes : List ℕ) (fault : FileFault) → i < count → record_at origin front bytes ≡ Err fault → records_from origin front (count - i) bytes ≡ Err fault
unfolding records_from
records_break origin front count i bytes fault lt h =
    let k : count - i ≡ suc (count - (i + 1)) = omega arith in
    rw (k, h) refl

pub records_done : (origin : OriginValue) (front : List RecordValue) (count i : ℕ) (bytes : List ℕ) → count ≤ i → records_from origin front (count - i) bytes ≡ Ok (front, bytes)
unfolding records_from
records_done origin front count i bytes le =
    let k : count - i ≡ 0 = omega arith in
    rw k refl

-- ---- records one after the other

at_push : (front : List RecordValue) (r : RecordValue) (i : ℕ) (d : RecordValue) → AreRecords front → FitsBehind front r → i < length front + 1 → FitsBehind (take i (front ++ r ∷ [])) (get_or (front ++ r ∷ []) i d)
at_push front r i d are fits lt =
    elim (cases_eq i (length front)) [
      | inl is ↦
          let one : take (length front) (front ++ r ∷ []) ≡ front = take_at front (r ∷ []) (length front) refl in
          let two : get_or (front ++ r ∷ []) (length front) d ≡ r = get_or-append_seam front r [] d in
          subst (λ (n : ℕ). FitsBehind (take n (front ++ r ∷ [])) (get_or (front ++ r ∷ []) n d)) (sym is) (subst (λ (xs : List RecordValue). FitsBehind xs (get_or (front ++ r ∷ []) (length front) d)) (sym one) (subst (FitsBehind front) (sym two) fits))
      | inr other ↦
          let small : i < length front = omega (arith, lt, other) in
          let le : i ≤ length front = omega (arith, small) in
          let one : take i (front ++ r ∷ []) ≡ take i front = take-append-le i front (r ∷ []) le in
          let two : get_or (front ++ r ∷ []) i d ≡ get_or front i d = get_or-append front (r ∷ []) d i small in
          subst (λ (xs : List RecordValue). FitsBehind xs (get_or (front ++ r ∷ []) i d)) (sym one) (subst (FitsBehind (take i front)) (sym two) (are i d small))
    ]

are_push : (front : List RecordValue) (r : RecordValue) → AreRecords front → FitsBehind front r → AreRecords (front ++ r ∷ [])
are_push front r are fits i d lt = at_push front r i d are fits (omega (arith, lt, length_push front r))

are_front : (front items : List RecordValue) → AreRecords (front ++ items) → AreRecords front
are_front front items are i d lt =
    let le : i ≤ length front = omega (arith, lt) in
    let long : i < length (front ++ items) = omega (arith, lt, length-append front items) in
    let one : take i (front ++ items) ≡ take i front = take-append-le i front items le in
    let two : get_or (front ++ items) i d ≡ get_or front i d = get_or-append front items d i lt in
    subst (λ (xs : List RecordValue). FitsBehind xs (get_or front i d)) one (subst (FitsBehind (take i (front ++ items))) two (are i d long))

next_fits : (front items : List RecordValue) (r : RecordValue) → AreRecords (front ++ r ∷ items) → FitsBehind front r
next_fits front items r are =
    let long : length front < length (front ++ r ∷ items) = omega (arith, length-append front (r ∷ items)) in
    let one : take (length front) (front ++ r ∷ items) ≡ front = take_at front (r ∷ items) (length front) refl in
    let two : get_or (front ++ r ∷ items) (length front) r ≡ r = get_or-append_seam front r items r in
    subst (λ (xs : List RecordValue). FitsBehind xs r) one (subst (FitsBehind (take (length front) (front ++ r ∷ items))) two (are (length front) r long))

pub record RecordsRead (origin : OriginValue) (front : List RecordValue) (n : ℕ) (bytes : List ℕ) (all : List RecordValue) (rest : List ℕ) : Type 0 where
  pub items : List RecordValue
  pub whole_is : front ++ items ≡ all
  pub count_is : length items ≡ n
  pub takes : Takes bytes (flat_map (record_bytes origin.form) items) rest
  pub told : AllByRecursion (IsReadOver origin) items
  pub are : AreRecords all

pub records_take : (origin : OriginValue) (n : ℕ) (front : List RecordValue) (bytes : List ℕ) (all : List RecordValue) (rest : List ℕ) → IfSome origin.past IsSession → AreRecords front → IsBytes bytes → records_from origin front n bytes ≡ Ok (all, rest) → RecordsRead origin front n bytes all rest
unfolding records_from
records_take origin zero front bytes all rest before are fits e =
    let is = ok_is (front, bytes) (all, rest) e in
    record {
      items = [];
      whole_is = append-nil front ∙ ap (λ (x : List RecordValue × List ℕ). x.0) is;
      count_is = refl;
      told = tt;
      takes = record { parts = ap (λ (x : List RecordValue × List ℕ). x.1) is; rest_fits = subst IsBytes (ap (λ (x : List RecordValue × List ℕ). x.1) is) fits };
      are = subst (λ (x : List RecordValue × List ℕ). AreRecords x.0) is are;
    }
records_take origin (suc n) front bytes all rest before are fits e =
    let a = bind_ok (record_at origin front bytes) (λ r. records_from origin (front ++ r.0 ∷ []) n r.1) (all, rest) e in
    let t = record_takes origin front bytes a.0.0 a.0.1 before are fits a.1 in
    let u = records_take origin n (front ++ a.0.0 ∷ []) a.0.1 all rest before (are_push front a.0.0 are t.fits) t.takes.rest_fits a.2 in
    record {
      items = a.0.0 ∷ u.items;
      whole_is = sym (append_assoc front (a.0.0 ∷ []) u.items) ∙ u.whole_is;
      count_is = ap (λ (k : ℕ). suc k) u.count_is;
      takes = rw flat_map-cons (Takes-then bytes (record_bytes origin.form a.0.0) a.0.1 (flat_map (record_bytes origin.form) u.items) rest t.takes u.takes);
      told = (t.told, u.told);
      are = u.are;
    }

pub records_again : (origin : OriginValue) (items front : List RecordValue) (rest : List ℕ) → length (front ++ items) < 2 ^ 64 → AreRecords (front ++ items) → AllByRecursion (IsReadOver origin) items → records_from origin front (length items) (flat_map (record_bytes origin.form) items ++ rest) ≡ Ok (front ++ items, rest)
unfolding records_from
records_again origin [] front rest few are told = ap (λ (x : List RecordValue). done (x, rest)) (sym (append-nil front))
records_again origin (r ∷ items) front rest few are told =
    let regrouped : flat_map (record_bytes origin.form) (r ∷ items) ++ rest ≡ record_bytes origin.form r ++ (flat_map (record_bytes origin.form) items ++ rest) = ap (λ (x : List ℕ). x ++ rest) (flat_map-cons (record_bytes origin.form) r items) ∙ append_assoc (record_bytes origin.form r) (flat_map (record_bytes origin.form) items) rest in
    let same : (front ++ r ∷ []) ++ items ≡ front ++ r ∷ items = append_assoc front (r ∷ []) items in
    let short : length front < 2 ^ 64 = omega (arith, few, length-append front (r ∷ items)) in
    ap (records_from origin front (suc (length items))) regrouped
    ∙ bind_is (record_at origin front (record_bytes origin.form r ++ (flat_map (record_bytes origin.form) items ++ rest))) (λ x. records_from origin (front ++ x.0 ∷ []) (length items) x.1) (r, flat_map (record_bytes origin.form) items ++ rest) (record_again origin front r (flat_map (record_bytes origin.form) items ++ rest) short (are_front front (r ∷ items) are) (next_fits front items r are) told.0)
    ∙ records_again origin items (front ++ r ∷ []) rest (subst (λ (xs : List RecordValue). length xs < 2 ^ 64) (sym same) few) (subst AreRecords (sym same) are) told.1
    ∙ ap (λ (x : List RecordValue). done (x, rest)) same
