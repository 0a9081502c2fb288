-- The index of files by name.
use Rattle.std.proofs.Common.{◌≡◌, ℕ, zero, suc, ◌+◌, ◌<◌, Bool, true, false, List, [], ◌∷◌, ◌++◌, length, take, Option, Some, None, All, refl, sym, ap, ◌∙◌, subst, arith, cond, get_or}
use Rattle.std.specs.Prelude.{position, is_some}
use Rattle.std.specs.Str.{bytes_eq}
use Rattle.std.specs.Ordering.{nat_cmp, is_eq}
use Rattle.std.specs.Cmp.Lexicographic.{slice_cmp}
use Rattle.std.proofs.lemmas.List.{take_more, length-map, length-take-le}
use Rattle.std.proofs.lemmas.Map.Text.{is_eq-slice_cmp}
use Rattle.mj_tree.specs.Trees.{Name}
use Rattle.named_files.specs.Projects.{SourceFile, names_of, IsFileName}
use Rattle.mj_tree.proofs.Positions.{same_name, position_added, position_kept, none_of}

abbrev pub place_of : List SourceFile → Name → Option ℕ
place_of fs q = position (λ f. bytes_eq f.name q) fs

-- one file more
more : (fs : List SourceFile) (n : ℕ) (x : SourceFile) → n < length fs → x ≡ get_or fs n x → take (n + 1) fs ≡ take n fs ++ x ∷ []
more fs n x lt is = take_more fs n x lt ∙ ap (λ (y : SourceFile). take n fs ++ y ∷ []) (sym is)

-- the file has a name that is there already
pub index_kept : (fs : List SourceFile) (n : ℕ) (x : SourceFile) (found : Name → Option ℕ) → n < length fs → x ≡ get_or fs n x
    → ((q : Name) → found q ≡ place_of (take n fs) q) → is_some (found x.name) ≡ true → (q : Name) → found q ≡ place_of (take (n + 1) fs) q
index_kept fs n x found lt is so_far there q =
    rw (more fs n x lt is) (sym (position_kept (λ f. bytes_eq f.name q) (take n fs) x (found q) (sym (so_far q)) (λ none. by (bytes_eq x.name q) refl none)))
  where
    by : (b : Bool) → bytes_eq x.name q ≡ b → found q ≡ None → b ≡ false
    by true t none =
        let nothing : found x.name ≡ None = ap found (same_name x.name q t) ∙ none in
        let no_one : is_some (found x.name) ≡ false = ap is_some nothing in
        absurd cc
    by false t none = refl

-- the file has a new name, which is put in
pub index_added : (fs : List SourceFile) (n : ℕ) (x : SourceFile) (found after : Name → Option ℕ) → n < length fs → x ≡ get_or fs n x
    → ((q : Name) → found q ≡ place_of (take n fs) q) → is_some (found x.name) ≡ false
    → ((q : Name) → after q ≡ cond (is_eq (slice_cmp nat_cmp x.name q)) (Some n) (found q)) → (q : Name) → after q ≡ place_of (take (n + 1) fs) q
index_added fs n x found after lt is so_far new puts q =
    rw (more fs n x lt is) (puts q ∙ (ap (λ b. cond b (Some n) (found q)) (is_eq-slice_cmp x.name q) ∙ by (bytes_eq x.name q) refl))
  where
    count : length (take n fs) ≡ n
    count = length-take-le n fs (omega arith)

    nothing : found x.name ≡ None
    nothing = none_of (found x.name) new

    by : (b : Bool) → bytes_eq x.name q ≡ b → cond b (Some n) (found q) ≡ position (λ f. bytes_eq f.name q) (take n fs ++ x ∷ [])
    by true t =
        let none : position (λ f. bytes_eq f.name q) (take n fs) ≡ None = sym (so_far q) ∙ (ap found (sym (same_name x.name q t)) ∙ nothing) in
        sym (position_added (λ f. bytes_eq f.name q) (take n fs) x none t ∙ ap (λ (m : ℕ). Some m) count)
    by false t = sym (position_kept (λ f. bytes_eq f.name q) (take n fs) x (found q) (sym (so_far q)) (λ none. t))

-- ---- names of files

name_at : (fs : List SourceFile) (n : ℕ) (x : SourceFile) (d : Name) → n < length fs → get_or (names_of fs) n d ≡ (get_or fs n x).name
name_at [] n x d lt = absurd (omega (arith, lt))
name_at (f ∷ fs) zero x d lt = refl
name_at (f ∷ fs) (suc n) x d lt = name_at fs n x d (omega (arith, lt))

pub good_name : (fs : List SourceFile) (n : ℕ) (x : SourceFile) → All IsFileName (names_of fs) → n < length fs → x ≡ get_or fs n x → IsFileName x.name
good_name fs n x all lt is =
    let same : get_or (names_of fs) n [] ≡ x.name = name_at fs n x [] lt ∙ ap (λ (f : SourceFile). f.name) (sym is) in
    subst IsFileName same (all n [] (omega (arith, lt, length-map fs (λ (f : SourceFile). f.name))))
