-- Names where they stand first, one after the other.
use Rattle.std.proofs.Common.{◌≡◌, Bool, true, false, not, List, [], ◌∷◌, ◌++◌, refl, ap, ◌∙◌, if◌then◌else◌, append-nil, append_assoc}
use Rattle.mj_tree.specs.Trees.{Name}
use Rattle.named_files.specs.Repeats.{is_in, repeats_behind, repeats}
use Rattle.member_queries.specs.FirstNames.{without_repeats, first_names}

-- a name, if it is new
abbrev pub new_name : Bool → Name → List Name
new_name is_new n = if is_new then n ∷ [] else []

one_name : (repeated : Bool) (n : Name) → without_repeats (n ∷ []) (repeated ∷ []) ≡ new_name (not repeated) n
one_name true n = refl
one_name false n = refl

first_then : (repeated : Bool) (n : Name) (ns ms : List Name) → (if repeated then ns ++ ms else n ∷ (ns ++ ms)) ≡ (if repeated then ns else n ∷ ns) ++ ms
first_then true n ns ms = refl
first_then false n ns ms = refl

behind_push : (before names : List Name) (n : Name)
    → without_repeats (names ++ n ∷ []) (repeats_behind before (names ++ n ∷ []))
    ≡ without_repeats names (repeats_behind before names) ++ new_name (not (is_in (before ++ names) n)) n
behind_push before [] n = rw append-nil (one_name (is_in before n) n)
behind_push before (x ∷ names) n =
    ap (λ l. if is_in before x then l else x ∷ l) (rw append_assoc at (behind_push (before ++ x ∷ []) names n))
    ∙ first_then (is_in before x) x (without_repeats names (repeats_behind (before ++ x ∷ []) names)) (new_name (not (is_in (before ++ x ∷ names) n)) n)

pub first_push : (names : List Name) (n : Name) → first_names (names ++ n ∷ []) ≡ first_names names ++ new_name (not (is_in names n)) n
unfolding first_names repeats
first_push names n = behind_push [] names n
