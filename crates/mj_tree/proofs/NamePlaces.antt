-- The first places of names in a list, while they are put into a map.
use Rattle.std.proofs.Common.{◌≡◌, ℕ, ◌+◌, ◌<◌, Bool, true, false, List, [], ◌∷◌, ◌++◌, length, take, Option, Some, None, refl, sym, ap, ◌∙◌, arith, cond, get_or, map}
use Rattle.std.specs.Prelude.{position, is_some}
use Rattle.std.specs.Str.{bytes_eq}
use Rattle.std.specs.Ordering.{nat_cmp, is_eq}
use Rattle.std.specs.Cmp.Lexicographic.{slice_cmp}
use Rattle.std.proofs.lemmas.List.{take_more, map-append, length-map, length-take-le}
use Rattle.std.proofs.lemmas.Map.Text.{is_eq-slice_cmp}
use Rattle.mj_tree.specs.Trees.{Name}
use Rattle.mj_tree.proofs.Positions.{same_name, position_added, position_kept, none_of}

-- the place of the first of a name
abbrev pub named_at : {X Y : Type 0} → (X → Y) → (Y → Name) → List X → Name → Option ℕ
named_at view name xs q = position (λ y. bytes_eq (name y) q) (map view xs)

-- one more
pub more : {X Y : Type 0} (view : X → Y) (xs : List X) (n : ℕ) (x : X) → n < length xs → x ≡ get_or xs n x → map view (take (n + 1) xs) ≡ map view (take n xs) ++ view x ∷ []
more {X} view xs n x lt is =
    ap (map view) (take_more xs n x lt) ∙ (map-append view (take n xs) (get_or xs n x ∷ []) ∙ ap (λ (y : X). map view (take n xs) ++ view y ∷ []) (sym is))

-- it has a name that is there already
pub index_kept : {X Y : Type 0} (view : X → Y) (name : Y → Name) (xs : List X) (n : ℕ) (x : X) (found : Name → Option ℕ) → n < length xs → x ≡ get_or xs n x
    → ((q : Name) → found q ≡ named_at view name (take n xs) q) → is_some (found (name (view x))) ≡ true → (q : Name) → found q ≡ named_at view name (take (n + 1) xs) q
index_kept view name xs n x found lt is so_far there q =
    let all = more view xs n x lt is in
    rw all (sym (position_kept (λ y. bytes_eq (name y) q) (map view (take n xs)) (view x) (found q) (sym (so_far q)) (λ none. by (bytes_eq (name (view x)) q) refl none)))
  where
    by : (b : Bool) → bytes_eq (name (view x)) q ≡ b → found q ≡ None → b ≡ false
    by true t none =
        let same = same_name (name (view x)) q t in
        let nothing : found (name (view x)) ≡ None = ap found same ∙ none in
        let no_one : is_some (found (name (view x))) ≡ false = ap is_some nothing in
        absurd cc
    by false t none = refl

-- it has a new name, which is put in
pub index_added : {X Y : Type 0} (view : X → Y) (name : Y → Name) (xs : List X) (n : ℕ) (x : X) (found after : Name → Option ℕ) → n < length xs → x ≡ get_or xs n x
    → ((q : Name) → found q ≡ named_at view name (take n xs) q) → is_some (found (name (view x))) ≡ false
    → ((q : Name) → after q ≡ cond (is_eq (slice_cmp nat_cmp (name (view x)) q)) (Some n) (found q)) → (q : Name) → after q ≡ named_at view name (take (n + 1) xs) q
index_added {X} {Y} view name xs n x found after lt is so_far new puts q =
    let all = more view xs n x lt is in
    rw all (puts q ∙ (ap (λ b. cond b (Some n) (found q)) (is_eq-slice_cmp (name (view x)) q) ∙ by (bytes_eq (name (view x)) q) refl))
  where
    count : length (map view (take n xs)) ≡ n
    count = let short = length-take-le n xs (omega arith) in length-map (take n xs) view ∙ short

    nothing : found (name (view x)) ≡ None
    nothing = none_of (found (name (view x))) new

    by : (b : Bool) → bytes_eq (name (view x)) q ≡ b → cond b (Some n) (found q) ≡ position (λ y. bytes_eq (name y) q) (map view (take n xs) ++ view x ∷ [])
    by true t =
        let same = same_name (name (view x)) q t in
        let none : position (λ y. bytes_eq (name y) q) (map view (take n xs)) ≡ None = sym (so_far q) ∙ (ap found (sym same) ∙ nothing) in
        sym (position_added (λ y. bytes_eq (name y) q) (map view (take n xs)) (view x) none t ∙ ap (λ (m : ℕ). Some m) count)
    by false t = sym (position_kept (λ y. bytes_eq (name y) q) (map view (take n xs)) (view x) (found q) (sym (so_far q)) (λ none. t))
