-- Writes to lists of places, and reads from them.
use Rattle.std.proofs.Common.{◌≡◌, ◌≢◌, ◌==◌, inl, inr, ℕ, zero, suc, ◌+◌, ◌<◌, Bool, true, false, not, filter, if◌then◌else◌, List, [], ◌∷◌, ◌++◌, map, take, length, get_or, slice_get, set, Some, Contains, Vec, refl, sym, ap, ◌∙◌, subst, arith}
use Rattle.std.specs.List.{AllByRecursion}
use Rattle.std.specs.Prelude.{Result, Ok, Err, OnErr}
use Rattle.std.specs.declared.alloc.Global.{Global}
use Rattle.std.proofs.lemmas.Option.{none-some, same_Some}
use Rattle.std.proofs.lemmas.Bool.{cases_eq, ne_eqb}
use Rattle.std.proofs.lemmas.List.{get_or-set_other, get_or-set_same, map-append, take_more}
use Rattle.std.proofs.lemmas.List.Elements.{Contains-append_left, Contains-append_cases, Contains-push}
use Rattle.item_ids.specs.declared.key.Key.{Key}
use Rattle.recorder.specs.Backed.{ReadValue, keys}
use Rattle.result_bytes.specs.declared.value.Value.{Value}
use Rattle.std.specs.Arc.{arc_value}
use Rattle.std.specs.declared.sync.Arc.{Arc}
use Rattle.item_ids.specs.Inputs.{rank}
use Rattle.resident_graph.specs.Lists.{key_in, value_in, list_in, flag_in, Widens, WidensBut, IsQueue}

-- ---- lists of places

pub items_at : (es : List (Vec ℕ Global)) (at : ℕ) (v : Vec ℕ Global) → at < length es → v ≡ get_or es at v → list_in es at ≡ v.items
items_at [] at v lt is = absurd (omega arith)
items_at (e ∷ es) zero v lt is = ap (λ (x : Vec ℕ Global). x.items) (sym is)
items_at (e ∷ es) (suc at) v lt is = items_at es at v (omega (arith, lt)) is

widen : (es : List (Vec ℕ Global)) (at : ℕ) (new : Vec ℕ Global) → ((i : ℕ) → Contains (list_in es at) i → Contains new.items i) → Widens es (set es at new)
widen [] at new more j i has = has
widen (e ∷ es) zero new more zero i has = more i has
widen (e ∷ es) zero new more (suc j) i has = has
widen (e ∷ es) (suc at) new more zero i has = has
widen (e ∷ es) (suc at) new more (suc j) i has = widen es at new more j i has

pub list_here : (es : List (Vec ℕ Global)) (at : ℕ) (new : Vec ℕ Global) → at < length es → list_in (set es at new) at ≡ new.items
list_here [] at new lt = absurd (omega arith)
list_here (e ∷ es) zero new lt = refl
list_here (e ∷ es) (suc at) new lt = list_here es at new (omega (arith, lt))

pub list_there : (es : List (Vec ℕ Global)) (at : ℕ) (new : Vec ℕ Global) (j : ℕ) → j ≢ at → list_in (set es at new) j ≡ list_in es j
list_there [] at new j ne = refl
list_there (e ∷ es) zero new zero ne = absurd (ne refl)
list_there (e ∷ es) zero new (suc j) ne = refl
list_there (e ∷ es) (suc at) new zero ne = refl
list_there (e ∷ es) (suc at) new (suc j) ne = list_there es at new j (λ e. ne (ap suc e))

pub wider_same : (es : List (Vec ℕ Global)) (at : ℕ) (v new : Vec ℕ Global) → at < length es → v ≡ get_or es at v → new.items ≡ v.items → Widens es (set es at new)
wider_same es at v new lt is same = widen es at new (λ i has. subst (λ (xs : List ℕ). Contains xs i) (items_at es at v lt is ∙ sym same) has)

pub wider_push : (es : List (Vec ℕ Global)) (at x : ℕ) (v new : Vec ℕ Global) → at < length es → v ≡ get_or es at v → new.items ≡ v.items ++ x ∷ [] → Widens es (set es at new)
wider_push es at x v new lt is more = widen es at new (λ i has.
    subst (λ (xs : List ℕ). Contains xs i) (sym more) (Contains-append_left v.items (x ∷ []) i (subst (λ (xs : List ℕ). Contains xs i) (items_at es at v lt is) has)))

pub has_pushed : (es : List (Vec ℕ Global)) (at x : ℕ) (v new : Vec ℕ Global) → at < length es → new.items ≡ v.items ++ x ∷ [] → Contains (list_in (set es at new) at) x
has_pushed es at x v new lt more = subst (λ (xs : List ℕ). Contains xs x) (sym (list_here es at new lt ∙ more)) (Contains-push v.items x)

-- ---- the queue

pub queue_more : (ks : List Key) (queued : List Bool) (queue new : List (Vec ℕ Global)) (at : ℕ) → IsQueue ks queued queue → Widens queue new → Contains (list_in new (rank (key_in ks at))) at → IsQueue ks (set queued at true) new
queue_more ks queued queue new at is wider has i flag = elim (cases_eq i at) [
  | inl same ↦ subst (λ (x : ℕ). Contains (list_in new (rank (key_in ks x))) x) (sym same) has
  | inr other ↦ wider (rank (key_in ks i)) i (is i (sym (get_or-set_other queued at i true false other) ∙ flag))
]

pub queue_wider : (ks : List Key) (queued : List Bool) (queue new : List (Vec ℕ Global)) → IsQueue ks queued queue → Widens queue new → IsQueue ks queued new
queue_wider ks queued queue new is wider i flag = wider (rank (key_in ks i)) i (is i flag)

-- what a popped place that isn't queued leaves
pub kept_popped : (queued : List Bool) (old new : List ℕ) (at : ℕ) → old ≡ new ++ at ∷ [] → flag_in queued at ≡ false → (i : ℕ) → flag_in queued i ≡ true → Contains old i → Contains new i
kept_popped queued old new at is off i on has = elim (Contains-append_cases new (at ∷ []) i (subst (λ (xs : List ℕ). Contains xs i) is has)) [
  | inl in_new ↦ in_new
  | inr in_last ↦ absurd (last in_last)
]
  where
    here : (k : ℕ) → get_or (at ∷ []) k i ≡ i → k < 1 → at ≡ i
    here zero e lt = e
    here (suc k) e lt = absurd (omega arith)

    last : Contains (at ∷ []) i → ⊥
    last c = let e : at ≡ i = here c.0 c.2 (let l = c.1 in omega arith) in
        let f : flag_in queued i ≡ false = subst (λ (x : ℕ). flag_in queued x ≡ false) e off in
        let bad : true ≡ false = sym on ∙ f in cc

-- ---- keys

pub key_at : (ks : List Key) (i : ℕ) (q : Key) → slice_get ks i ≡ Some q → key_in ks i ≡ q
key_at [] i q is = absurd (none-some q is)
key_at (k ∷ ks) zero q is = same_Some k q is
key_at (k ∷ ks) (suc i) q is = key_at ks i q is

pub places_more : (ks : List Key) (places : List ℕ) (told : List ReadValue) (i at : ℕ) (t : ReadValue) → i < length told → t ≡ get_or told i t → map (key_in ks) places ≡ keys (take i told) → key_in ks at ≡ t.key
    → map (key_in ks) (places ++ at ∷ []) ≡ keys (take (i + 1) told)
places_more ks places told i at t lt is so_far here =
    map-append (key_in ks) places (at ∷ [])
    ∙ (ap (λ (xs : List Key). xs ++ key_in ks at ∷ []) so_far
    ∙ (ap (λ (k : Key). keys (take i told) ++ k ∷ []) (here ∙ ap (λ (x : ReadValue). x.key) is)
    ∙ (sym (map-append (λ (x : ReadValue). x.key) (take i told) (get_or told i t ∷ []))
    ∙ ap keys (sym (take_more told i t lt)))))

pub all_more : (P : ℕ → Type 0) (xs : List ℕ) (x : ℕ) → AllByRecursion P xs → P x → AllByRecursion P (xs ++ x ∷ [])
all_more P [] x h p = (p, tt)
all_more P (y ∷ ys) x h p = (h.0, all_more P ys x h.1 p)

-- ---- the queue, with places off the end of a level

pub trimmed : (ks : List Key) (queued : List Bool) (queue : List (Vec ℕ Global)) (level : ℕ) (v new : Vec ℕ Global) → level < length queue → v ≡ get_or queue level v
    → ((i : ℕ) → flag_in queued i ≡ true → Contains v.items i → Contains new.items i) → IsQueue ks queued queue → IsQueue ks queued (set queue level new)
trimmed ks queued queue level v new lt at kept is i flag =
    let old = is i flag in
    elim (cases_eq (rank (key_in ks i)) level) [
      | inl same ↦ (
          let before : Contains (list_in queue level) i = subst (λ (l : ℕ). Contains (list_in queue l) i) same old in
          let inside : Contains v.items i = subst (λ (xs : List ℕ). Contains xs i) (items_at queue level v lt at) before in
          subst (λ (l : ℕ). Contains (list_in (set queue level new) l) i) (sym same) (subst (λ (xs : List ℕ). Contains xs i) (sym (list_here queue level new lt)) (kept i flag inside))
          )
      | inr other ↦ subst (λ (xs : List ℕ). Contains xs i) (sym (list_there queue level new (rank (key_in ks i)) other)) old
    ]

-- in levels without places nothing is queued
pub nothing_below : (ks : List Key) (queued : List Bool) (queue : List (Vec ℕ Global)) (bound : ℕ) → IsQueue ks queued queue → ((k : ℕ) → k < bound → list_in queue k ≡ [])
    → (i : ℕ) → rank (key_in ks i) < bound → flag_in queued i ≡ false
nothing_below ks queued queue bound is none i low = go (flag_in queued i) refl
  where
    go : (b : Bool) → flag_in queued i ≡ b → flag_in queued i ≡ false
    go false e = e
    go true e =
        let has : Contains [] i = subst (λ (xs : List ℕ). Contains xs i) (none (rank (key_in ks i)) low) (is i e) in
        absurd (let l = has.1 in omega (arith, l))

pub past_end : (queue : List (Vec ℕ Global)) (k : ℕ) → (k < length queue → ⊥) → list_in queue k ≡ []
past_end [] zero past = refl
past_end [] (suc k) past = refl
past_end (q ∷ queue) zero past = absurd (past (omega arith))
past_end (q ∷ queue) (suc k) past = past_end queue k (λ lt. past (omega (arith, lt)))

pub empty_below : (queue : List (Vec ℕ Global)) (level : ℕ) (new : Vec ℕ Global) → level < length queue → new.items ≡ [] → ((k : ℕ) → k < level → list_in queue k ≡ [])
    → (k : ℕ) → k < level + 1 → list_in (set queue level new) k ≡ []
empty_below queue level new lt none below k l = elim (cases_eq k level) [
  | inl same ↦ subst (λ (x : ℕ). list_in (set queue level new) x ≡ []) (sym same) (list_here queue level new lt ∙ none)
  | inr other ↦ list_there queue level new k other ∙ below k (let ne = other in omega (arith, l))
]

-- ---- values and flags

pub value_here : (vs : List (Arc Value Global)) (at : ℕ) (a : Arc Value Global) → at < length vs → value_in (set vs at a) at ≡ arc_value a
value_here [] at a lt = absurd (omega arith)
value_here (v ∷ vs) zero a lt = refl
value_here (v ∷ vs) (suc at) a lt = value_here vs at a (omega (arith, lt))

pub value_there : (vs : List (Arc Value Global)) (at : ℕ) (a : Arc Value Global) (j : ℕ) → j ≢ at → value_in (set vs at a) j ≡ value_in vs j
value_there [] at a j ne = refl
value_there (v ∷ vs) zero a zero ne = absurd (ne refl)
value_there (v ∷ vs) zero a (suc j) ne = refl
value_there (v ∷ vs) (suc at) a zero ne = refl
value_there (v ∷ vs) (suc at) a (suc j) ne = value_there vs at a j (λ e. ne (ap suc e))

pub value_at : (vs : List (Arc Value Global)) (at : ℕ) (a : Arc Value Global) → at < length vs → a ≡ get_or vs at a → value_in vs at ≡ arc_value a
value_at [] at a lt is = absurd (omega arith)
value_at (v ∷ vs) zero a lt is = ap (λ (x : Arc Value Global). arc_value x) (sym is)
value_at (v ∷ vs) (suc at) a lt is = value_at vs at a (omega (arith, lt)) is

pub flag_here : (qs : List Bool) (at : ℕ) → at < length qs → flag_in (set qs at false) at ≡ false
flag_here qs at lt = get_or-set_same qs at false false lt

pub flag_there : (qs : List Bool) (at j : ℕ) → j ≢ at → flag_in (set qs at false) j ≡ flag_in qs j
flag_there qs at j ne = get_or-set_other qs at j false false ne

-- ---- readers without one place

unequal : (i at : ℕ) → i ≢ at → (i == at) ≡ false
unequal i at ne = ne_eqb i at ne

head_kept : (at : ℕ) (xs : List ℕ) (x i : ℕ) → i ≢ at → x ≡ i → Contains (filter (λ j. not (j == at)) (x ∷ xs)) i
head_kept at xs x i ne is = rw (is, unequal i at ne) (zero, (let lt : 0 < length (i ∷ filter (λ j. not (j == at)) xs) = omega arith in lt), refl)

tail_kept : (at : ℕ) (xs : List ℕ) (x i : ℕ) → Contains (filter (λ j. not (j == at)) xs) i → Contains (filter (λ j. not (j == at)) (x ∷ xs)) i
tail_kept at xs x i has = elim (not (x == at)) as (λ b. Contains (if b then x ∷ filter (λ j. not (j == at)) xs else filter (λ j. not (j == at)) xs) i) [
  | true ↦ (suc has.0, (let lt : suc has.0 < length (x ∷ filter (λ j. not (j == at)) xs) = let b = has.1 in omega arith in lt), has.2)
  | false ↦ has
]

kept_at : (at : ℕ) (xs : List ℕ) (i : ℕ) → i ≢ at → (k : ℕ) → k < length xs → get_or xs k i ≡ i → Contains (filter (λ j. not (j == at)) xs) i
kept_at at [] i ne k lt is = absurd (omega arith)
kept_at at (x ∷ xs) i ne zero lt is = head_kept at xs x i ne is
kept_at at (x ∷ xs) i ne (suc k) lt is = tail_kept at xs x i (kept_at at xs i ne k (omega arith) is)

kept_filter : (at : ℕ) (xs : List ℕ) (i : ℕ) → i ≢ at → Contains xs i → Contains (filter (λ j. not (j == at)) xs) i
kept_filter at xs i ne has = kept_at at xs i ne has.0 has.1 has.2

pub wider_without : (es : List (Vec ℕ Global)) (edge at : ℕ) (v new : Vec ℕ Global) → edge < length es → v ≡ get_or es edge v → new.items ≡ filter (λ j. not (j == at)) v.items → WidensBut at es (set es edge new)
wider_without es edge at v new lt is without j i ne has = elim (cases_eq j edge) [
  | inl same ↦ (
      let before : Contains v.items i = subst (λ (xs : List ℕ). Contains xs i) (items_at es edge v lt is) (subst (λ (x : ℕ). Contains (list_in es x) i) same has) in
      subst (λ (x : ℕ). Contains (list_in (set es edge new) x) i) (sym same) (subst (λ (xs : List ℕ). Contains xs i) (sym (list_here es edge new lt ∙ without)) (kept_filter at v.items i ne before))
      )
  | inr other ↦ subst (λ (xs : List ℕ). Contains xs i) (sym (list_there es edge new j other)) has
]

-- what holds whatever a result is
pub on_err : {T E P : Type 0} (r : Result T E) → P → OnErr r P
on_err (Ok x) p = tt
on_err (Err e) p = p

-- one more list
pub wider_more : (es : List (Vec ℕ Global)) (x : Vec ℕ Global) → Widens es (es ++ x ∷ [])
wider_more [] x zero i has = absurd (let l = has.1 in omega (arith, l))
wider_more [] x (suc j) i has = absurd (let l = has.1 in omega (arith, l))
wider_more (e ∷ es) x zero i has = has
wider_more (e ∷ es) x (suc j) i has = wider_more es x j i has
