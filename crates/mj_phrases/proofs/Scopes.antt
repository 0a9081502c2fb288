-- The map of the first variables of each name.
use Rattle.std.proofs.lemmas.List.{take_all, take_more}
use Rattle.std.proofs.Common.{◌≡◌, ℕ, ◌+◌, ◌<◌, ◌≤◌, length, take, drop, get_or, append_assoc, append-nil, Bool, true, false, cond, List, [], ◌∷◌, ◌++◌, Option, Some, None, refl, sym, ap, ◌∙◌, subst}
use Rattle.std.specs.BTreeMap.{BTreeMap, get, is_at}
use Rattle.std.specs.Cmp.Lexicographic.{slice_cmp}
use Rattle.std.specs.Ordering.{nat_cmp}
use Rattle.std.specs.Prelude.{is_some}
use Rattle.std.proofs.lemmas.Map.Text.{is_eq-slice_cmp}
use Rattle.mj_tree.specs.Trees.{Name}
use Rattle.mj_tree.specs.declared.tree.Ty.{Ty}
use Rattle.mj_tree.specs.declared.tree.Variable.{Variable}
use Rattle.mj_phrases.specs.declared.verdict.Mistake.{Mistake}
use Rattle.mj_phrases.specs.Types.{is_same}
use Rattle.mj_phrases.specs.Variables.{has_name, add_repeated, add_repeated_each}
use Rattle.mj_phrases.specs.Seen.{Covers}
use Rattle.mj_phrases.specs.Table.{local_of}
use Rattle.mj_phrases.proofs.Asked.{front_at}
use Rattle.mj_phrases.proofs.Names.{same_from}

abbrev or_else : Option Ty → Option Ty → Option Ty
or_else None o = o
or_else (Some t) o = Some t

local_of-push : (bs : List Variable) (v : Variable) (x : Name) → local_of (bs ++ v ∷ []) x ≡ or_else (local_of bs x) (cond (is_same v.name x) (Some v.ty) None)
local_of-push [] v x = refl
local_of-push (b ∷ bs) v x = by_first (is_same b.name x) (local_of-push bs v x)
  where
    by_first : (first : Bool) → local_of (bs ++ v ∷ []) x ≡ or_else (local_of bs x) (cond (is_same v.name x) (Some v.ty) None) → cond first (Some b.ty) (local_of (bs ++ v ∷ []) x) ≡ or_else (cond first (Some b.ty) (local_of bs x)) (cond (is_same v.name x) (Some v.ty) None)
    by_first true e = refl
    by_first false e = e

pub has_name-local_of : (bs : List Variable) (x : Name) → has_name bs x ≡ is_some (local_of bs x)
has_name-local_of [] x = refl
has_name-local_of (b ∷ bs) x = by_first (is_same b.name x) (has_name-local_of bs x)
  where
    by_first : (first : Bool) → has_name bs x ≡ is_some (local_of bs x) → cond first true (has_name bs x) ≡ is_some (cond first (Some b.ty) (local_of bs x))
    by_first true e = refl
    by_first false e = e

or_else-none : (o : Option Ty) → or_else o None ≡ o
or_else-none None = refl
or_else-none (Some t) = refl

-- a name that is there stays the first one
there_already : (o : Option Ty) (same : Bool) (t : Ty) → (same ≡ true → is_some o ≡ true) → o ≡ or_else o (cond same (Some t) None)
there_already (Some u) same t h = refl
there_already None false t h = refl
there_already None true t h = let e = h refl in absurd cc

pub covers_same : (types : BTreeMap Name Ty) (before : List Variable) (v : Variable) → Covers types before → is_some (get (slice_cmp nat_cmp) types v.name) ≡ true → Covers types (before ++ v ∷ [])
covers_same types before v c h x =
    c x
    ∙ there_already (local_of before x) (is_same v.name x) v.ty (λ s. subst (λ y. is_some (local_of before y) ≡ true) (same_from v.name x s) (ap is_some (sym (c v.name)) ∙ h))
    ∙ sym (local_of-push before v x)

-- a name that isn't there is the first one
not_there : (o : Option Ty) (same : Bool) (t : Ty) → (same ≡ true → is_some o ≡ false) → cond same (Some t) o ≡ or_else o (cond same (Some t) None)
not_there None true t h = refl
not_there None false t h = refl
not_there (Some u) true t h = let e = h refl in absurd cc
not_there (Some u) false t h = refl

pub covers_more : (types more : BTreeMap Name Ty) (before : List Variable) (v : Variable) (name : Name) (t : Ty) → name ≡ v.name → t ≡ v.ty → Covers types before → is_some (get (slice_cmp nat_cmp) types v.name) ≡ false → ((q : Name) → get (slice_cmp nat_cmp) more q ≡ cond (is_at (slice_cmp nat_cmp name) q) (Some t) (get (slice_cmp nat_cmp) types q)) → Covers more (before ++ v ∷ [])
covers_more types more before v name t n e c h u x =
    u x
    ∙ ap (λ b. cond b (Some t) (get (slice_cmp nat_cmp) types x)) (is_eq-slice_cmp name x ∙ ap (λ y. is_same y x) n)
    ∙ ap (λ (t : Ty). cond (is_same v.name x) (Some t) (get (slice_cmp nat_cmp) types x)) e
    ∙ ap (λ o. cond (is_same v.name x) (Some v.ty) o) (c x)
    ∙ not_there (local_of before x) (is_same v.name x) v.ty (λ s. subst (λ y. is_some (local_of before y) ≡ false) (same_from v.name x s) (ap is_some (sym (c v.name)) ∙ h))
    ∙ sym (local_of-push before v x)

pub has_name-covered : (types : BTreeMap Name Ty) (before : List Variable) (x : Name) → Covers types before → has_name before x ≡ is_some (get (slice_cmp nat_cmp) types x)
has_name-covered types before x c = has_name-local_of before x ∙ ap is_some (sym (c x))

-- ---- a loop over variables

before_next : (vs before : List Variable) (i : ℕ) (v : Variable) → i < length vs → v ≡ get_or vs i v → (before ++ take i vs) ++ v ∷ [] ≡ before ++ take (i + 1) vs
before_next vs before i v h e =
    append_assoc before (take i vs) (v ∷ [])
    ∙ ap (λ l. before ++ l) (ap (λ x. take i vs ++ x ∷ []) e ∙ sym (take_more vs i v h))

pub covers_next : (types : BTreeMap Name Ty) (vs before : List Variable) (i : ℕ) (v : Variable) → i < length vs → v ≡ get_or vs i v → Covers types ((before ++ take i vs) ++ v ∷ []) → Covers types (before ++ take (i + 1) vs)
covers_next types vs before i v h e c = subst (Covers types) (before_next vs before i v h e) c

pub repeated_next : (mistakes more : List Mistake) (vs before : List Variable) (i : ℕ) (v : Variable) → i < length vs → v ≡ get_or vs i v → more ≡ add_repeated mistakes (before ++ take i vs) v
    → add_repeated_each more (before ++ take (i + 1) vs) (drop (i + 1) vs) ≡ add_repeated_each mistakes (before ++ take i vs) (drop i vs)
repeated_next mistakes more vs before i v h e m =
    ap (λ l. add_repeated_each more l (drop (i + 1) vs)) (sym (before_next vs before i v h e))
    ∙ ap (λ ms. add_repeated_each ms ((before ++ take i vs) ++ v ∷ []) (drop (i + 1) vs)) m
    ∙ ap (λ us. add_repeated_each mistakes (before ++ take i vs) us) (sym (front_at vs i v h e))

pub covers_done : (types : BTreeMap Name Ty) (vs before : List Variable) (i : ℕ) → length vs ≤ i → Covers types (before ++ take i vs) → Covers types (before ++ vs)
covers_done types vs before i h c = subst (λ l. Covers types (before ++ l)) (take_all i vs h) c

pub add_repeated_each-append : (mistakes : List Mistake) (before vs us : List Variable) → add_repeated_each mistakes before (vs ++ us) ≡ add_repeated_each (add_repeated_each mistakes before vs) (before ++ vs) us
add_repeated_each-append mistakes before [] us = ap (λ l. add_repeated_each mistakes l us) (sym (append-nil before))
add_repeated_each-append mistakes before (v ∷ vs) us =
    add_repeated_each-append (add_repeated mistakes before v) (before ++ v ∷ []) vs us
    ∙ ap (λ l. add_repeated_each (add_repeated_each (add_repeated mistakes before v) (before ++ v ∷ []) vs) l us) (append_assoc before (v ∷ []) vs)
