-- Names that stand in a list more than once.
use Rattle.std.proofs.Common.{◌≡◌, ℕ, zero, suc, ◌+◌, ◌<◌, Bool, true, false, List, [], ◌∷◌, ◌++◌, map, length, get_or, take, slice_get, Some, Contains, refl, sym, ap, ◌∙◌, append_assoc, append-nil, bytes_eq, Bor, cond, not, ◌||◌}
use Rattle.std.specs.BTreeSet.{BTreeSet, contains_by, Updates}
use Rattle.std.specs.Cmp.Lexicographic.{slice_cmp}
use Rattle.std.specs.Ordering.{nat_cmp}
use Rattle.std.proofs.lemmas.Map.Text.{is_eq-slice_cmp}
use Rattle.std.proofs.lemmas.Option.{none-some, same_Some, slice_get-get_or, slice_get_within}
use Rattle.std.proofs.lemmas.List.{take_more, map-append}
use Rattle.std.proofs.lemmas.List.Folds.{Any-from_list_any, list_any_at, list_any-append}
use Rattle.std.proofs.lemmas.Slice.Eq.{bytes_eq-Decides}
use Rattle.named_files.specs.Repeats.{is_in, repeats_behind, repeats}
use Rattle.named_files.proofs.Listed.{contains_at}

pub Contains-is_in : (names : List (List ℕ)) (name : List ℕ) → is_in names name ≡ true → Contains names name
Contains-is_in names name h =
    let a = Any-from_list_any (λ n. bytes_eq n name) names h in
    contains_at names a.0 name (slice_get-get_or names a.0 a.1 a.2 ∙ ap Some (a.3 ∙ (bytes_eq-Decides a.1 name).0 a.4))

pub is_in-Contains : (names : List (List ℕ)) (name : List ℕ) → Contains names name → is_in names name ≡ true
is_in-Contains names name h = list_any_at (λ n. bytes_eq n name) names h.0 name h.1 ((bytes_eq-Decides _ name).1 h.2)

pub length-repeats_behind : (before names : List (List ℕ)) → length (repeats_behind before names) ≡ length names
length-repeats_behind before [] = refl
length-repeats_behind before (n ∷ names) = ap suc (length-repeats_behind (before ++ n ∷ []) names)

pub length-repeats : (names : List (List ℕ)) → length (repeats names) ≡ length names
unfolding repeats
length-repeats names = length-repeats_behind [] names

repeats_behind-at : (before names : List (List ℕ)) (i : ℕ) (flag : Bool) (name : List ℕ) → slice_get names i ≡ Some name → slice_get (repeats_behind before names) i ≡ Some flag
    → flag ≡ is_in (before ++ take i names) name
repeats_behind-at before [] i flag name e f = absurd (none-some name e)
repeats_behind-at before (n ∷ names) zero flag name e f = sym (same_Some _ _ f) ∙ (ap (is_in before) (same_Some n name e) ∙ ap (λ b. is_in b name) (sym (append-nil before)))
repeats_behind-at before (n ∷ names) (suc i) flag name e f = rw append_assoc at (repeats_behind-at (before ++ n ∷ []) names i flag name e f)

-- a flag says whether the name stands before itself
pub repeats-at : (names : List (List ℕ)) (i : ℕ) (flag : Bool) (name : List ℕ) → slice_get names i ≡ Some name → slice_get (repeats names) i ≡ Some flag → flag ≡ is_in (take i names) name
unfolding repeats
repeats-at names i flag name e f = repeats_behind-at [] names i flag name e f

-- the flags of a longer list
repeats_behind-push : (before names : List (List ℕ)) (name : List ℕ) → repeats_behind before (names ++ name ∷ []) ≡ repeats_behind before names ++ is_in (before ++ names) name ∷ []
repeats_behind-push before [] name = ap (λ b. is_in b name ∷ []) (sym (append-nil before))
repeats_behind-push before (n ∷ names) name =
    ap (λ flags. is_in before n ∷ flags) (rw append_assoc at (repeats_behind-push (before ++ n ∷ []) names name))

pub repeats-push : (names : List (List ℕ)) (name : List ℕ) → repeats (names ++ name ∷ []) ≡ repeats names ++ is_in names name ∷ []
unfolding repeats
repeats-push names name = repeats_behind-push [] names name

-- each name has a flag
pub flag_at : (names : List (List ℕ)) (i : ℕ) (name : List ℕ) → slice_get names i ≡ Some name → (flag : Bool) × (slice_get (repeats names) i ≡ Some flag) × (flag ≡ is_in (take i names) name)
flag_at names i name e =
    let within : i < length (repeats names) = rw (length-repeats names) (slice_get_within names i name e) in
    let here = slice_get-get_or (repeats names) i true within in
    (get_or (repeats names) i true, here, repeats-at names i (get_or (repeats names) i true) name e here)

-- ---- texts in a set

pub cond_or : (b x : Bool) → cond b true x ≡ (x || (b || false))
cond_or true true = refl
cond_or true false = refl
cond_or false true = refl
cond_or false false = refl

-- a set of texts has these names
abbrev pub HasNames : BTreeSet (Bor (List ℕ)) → List (List ℕ) → Type 0
HasNames set names = (q : List ℕ) → contains_by (λ k. slice_cmp nat_cmp q k.now) set ≡ is_in names q

pub names-insert : (old new : BTreeSet (Bor (List ℕ))) (key : Bor (List ℕ)) (names : List (List ℕ)) → Updates (λ x y. slice_cmp nat_cmp x.now y.now) old new key true
    → HasNames old names → HasNames new (names ++ key.now ∷ [])
names-insert old new key names up has = λ q.
    up.0 (record { ref_ptr = (0, 0); now = q })
    ∙ (ap (λ b. cond b true (contains_by (λ k. slice_cmp nat_cmp q k.now) old)) (is_eq-slice_cmp key.now q)
    ∙ (ap (λ x. cond (bytes_eq key.now q) true x) (has q)
    ∙ (cond_or (bytes_eq key.now q) (is_in names q) ∙ sym (list_any-append (λ n. bytes_eq n q) names (key.now ∷ [])))))

pub not_not : (a b : Bool) → a ≡ not b → not a ≡ b
not_not a true e = ap not e
not_not a false e = ap not e

pub names_more : (names : List (Bor (List ℕ))) (i : ℕ) (d : Bor (List ℕ)) → i < length names → map (λ (n : Bor (List ℕ)). n.now) (take (i + 1) names) ≡ map (λ (n : Bor (List ℕ)). n.now) (take i names) ++ (get_or names i d).now ∷ []
names_more names i d h = ap (map (λ (n : Bor (List ℕ)). n.now)) (take_more names i d h) ∙ map-append (λ (n : Bor (List ℕ)). n.now) (take i names) (get_or names i d ∷ [])
