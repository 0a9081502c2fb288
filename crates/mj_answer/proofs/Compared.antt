-- The derived comparison of diagnostics is their order.
use Rattle.std.proofs.Common.{◌≡◌, ℕ, ◌<◌, List, [], ◌∷◌, Ordering, refl, sym, ap, ◌∙◌, ◌⊎◌, inl, inr, Bool, true, false, ◌&&◌}
use Rattle.std.specs.Prelude.{◌==◌}
use Rattle.std.specs.Cmp.{unsigned_Decides}
use Rattle.std.proofs.lemmas.Slice.Eq.{slice_eq-Decides}
use Rattle.std.specs.List.{AllByRecursion}
use Rattle.std.specs.List.Sorted.{IsStrictlySortedBy}
use Rattle.std.specs.Ordering.{nat_cmp, ordering_then}
use Rattle.std.specs.Cmp.Lexicographic.{pointwise, slice_cmp}
use Rattle.std.specs.declared.cmp.Ordering.TheVariants.{Less, Equal, Greater}
use Rattle.std.proofs.lemmas.Cmp.{ranked}
use Rattle.std.proofs.lemmas.Bool.{and_parts}
use Rattle.mj_tree.specs.declared.place.Place.{Place}
use Rattle.mj_tree.specs.declared.place.Place.TheVariants.{Project, File, ClassOf, Class, Field, Method, Inside}
use Rattle.mj_answer.specs.declared.code.Code.{Code}
use Rattle.mj_answer.specs.declared.diagnostic.Diagnostic.{Diagnostic}
use Rattle.mj_answer.specs.contracts.diagnostic.DiagnosticOrd.TheImpl.{cmp-value}
use Rattle.mj_answer.specs.contracts.diagnostic.DiagnosticPartialEq.TheImpl.{eq-value}
use Rattle.mj_answer.specs.Codes.{code_number}
use Rattle.ordered_names.specs.Order.{NameBefore, IsAscendingBy}
use Rattle.mj_answer.specs.Order.{Before, PlaceBefore, place_order}
use Rattle.ordered_names.proofs.Orders.{equal_names}
use Rattle.mj_answer.proofs.Orders.{code_injective}

pub ascends : {X : Type 0} (cmp : X → X → Ordering) (B : X → X → Type 0) → ((x y : X) → cmp x y ≡ Less → B x y) → (xs : List X) → IsStrictlySortedBy cmp xs → IsAscendingBy B xs
unfolding IsStrictlySortedBy
ascends cmp B less [] h = tt
ascends {X} cmp B less (x ∷ xs) h = (each xs h.0, ascends cmp B less xs h.1)
  where
    each : (ys : List X) → AllByRecursion (λ (y : X). cmp x y ≡ Less) ys → AllByRecursion (B x) ys
    each [] k = tt
    each (y ∷ ys) k = (less x y k.0, each ys k.1)

number_less : (m n : ℕ) → nat_cmp m n ≡ Less → m < n
number_less m n e = ranked m n Less (sym e)

number_equal : (m n : ℕ) → nat_cmp m n ≡ Equal → m ≡ n
number_equal m n e = ranked m n Equal (sym e)

-- different outcomes are not the same
not_less : Greater ≡ Less → ⊥
not_less e = absurd cc

not_equal : false ≡ true → ⊥
not_equal e = absurd cc

then_less : (o p : Ordering) → ordering_then o p ≡ Less → (o ≡ Less) ⊎ ((o ≡ Equal) × (p ≡ Less))
then_less Less p e = inl refl
then_less Equal p e = inr (refl, e)
then_less Greater p e = absurd cc

then_equal : (o p : Ordering) → ordering_then o p ≡ Equal → (o ≡ Equal) × (p ≡ Equal)
then_equal Less p e = absurd cc
then_equal Equal p e = (refl, e)
then_equal Greater p e = absurd cc

abbrev fault_at : Place → Code → Diagnostic
fault_at place code = record { place = place; code = code }

-- at two places of one kind, whose contents compare to o
alike : (p q : Place) (c d : Code) (o : Ordering) → (o ≡ Less → PlaceBefore p q) → (o ≡ Equal → p ≡ q) → ordering_then o (nat_cmp (code_number c) (code_number d)) ≡ Less → Before (fault_at p c) (fault_at q d)
alike p q c d o less same e =
    elim (then_less o (nat_cmp (code_number c) (code_number d)) e) [ inl h ↦ inl (less h) | inr h ↦ inr (same h.0, number_less (code_number c) (code_number d) h.1) ]

named_less : (m n : List ℕ) (i j : ℕ) → ordering_then (slice_cmp nat_cmp m n) (nat_cmp i j) ≡ Less → NameBefore m n ⊎ ((m ≡ n) × (i < j))
named_less m n i j e = elim (then_less (slice_cmp nat_cmp m n) (nat_cmp i j) e) [ inl h ↦ inl h | inr h ↦ inr (equal_names m n h.0, number_less i j h.1) ]

named_equal : (f : List ℕ → ℕ → Place) (m n : List ℕ) (i j : ℕ) → ordering_then (slice_cmp nat_cmp m n) (nat_cmp i j) ≡ Equal → f m i ≡ f n j
named_equal f m n i j e =
    let s = then_equal (slice_cmp nat_cmp m n) (nat_cmp i j) e in
    ap (λ (v : List ℕ). f v i) (equal_names m n s.0) ∙ ap (f n) (number_equal i j s.1)

-- the derived comparison goes by the kind of place, then by its contents, then by the code
less_at : (p q : Place) (c d : Code) → cmp-value.it (fault_at p c) (fault_at q d) ≡ Less → Before (fault_at p c) (fault_at q d)
less_at Project Project c d e = inr (refl, number_less (code_number c) (code_number d) e)
less_at Class Class c d e = inr (refl, number_less (code_number c) (code_number d) e)
less_at (File m) (File n) c d e = alike (File m) (File n) c d (slice_cmp nat_cmp m n) (λ h. inr (refl, inl h)) (λ h. ap (λ (v : List ℕ). File v) (equal_names m n h)) e
less_at (Field i) (Field j) c d e = alike (Field i) (Field j) c d (nat_cmp i j) (λ h. inr (refl, inr (refl, number_less i j h))) (λ h. ap (λ (v : ℕ). Field v) (number_equal i j h)) e
less_at (Method i) (Method j) c d e = alike (Method i) (Method j) c d (nat_cmp i j) (λ h. inr (refl, inr (refl, number_less i j h))) (λ h. ap (λ (v : ℕ). Method v) (number_equal i j h)) e
less_at (ClassOf m i) (ClassOf n j) c d e = alike (ClassOf m i) (ClassOf n j) c d (ordering_then (slice_cmp nat_cmp m n) (nat_cmp i j)) (λ h. inr (refl, named_less m n i j h)) (named_equal (λ v k. ClassOf v k) m n i j) e
less_at (Inside m i) (Inside n j) c d e = alike (Inside m i) (Inside n j) c d (ordering_then (slice_cmp nat_cmp m n) (nat_cmp i j)) (λ h. inr (refl, named_less m n i j h)) (named_equal (λ v k. Inside v k) m n i j) e
less_at Project q c d e = inl (inl (number_less (place_order Project) (place_order q) refl))
less_at p Project c d e = absurd (not_less e)
less_at (File m) q c d e = inl (inl (number_less (place_order (File m)) (place_order q) refl))
less_at p (File n) c d e = absurd (not_less e)
less_at (ClassOf m i) q c d e = inl (inl (number_less (place_order (ClassOf m i)) (place_order q) refl))
less_at p (ClassOf n j) c d e = absurd (not_less e)
less_at Class q c d e = inl (inl (number_less (place_order Class) (place_order q) refl))
less_at p Class c d e = absurd (not_less e)
less_at (Field i) q c d e = inl (inl (number_less (place_order (Field i)) (place_order q) refl))
less_at p (Field j) c d e = absurd (not_less e)
less_at (Method i) q c d e = inl (inl (number_less (place_order (Method i)) (place_order q) refl))
less_at p (Method j) c d e = absurd (not_less e)

pub fault_less : (x y : Diagnostic) → cmp-value.it x y ≡ Less → Before x y
fault_less x y e = less_at x.place y.place x.code y.code e

names_equal : (m n : List ℕ) → pointwise ◌==◌ m n ≡ true → m ≡ n
names_equal m n = (slice_eq-Decides unsigned_Decides m n (pointwise ◌==◌ m n) refl).0

joined : (p q : Place) (c d : Code) (s : Bool) → (s ≡ true → p ≡ q) → (s && (code_number c == code_number d)) ≡ true → fault_at p c ≡ fault_at q d
joined p q c d s same e =
    let both = and_parts s (code_number c == code_number d) e in
    ap (λ (v : Place). fault_at v c) (same both.0) ∙ ap (fault_at q) (code_injective c d ((unsigned_Decides (code_number c) (code_number d)).0 both.1))

named_joined : (f : List ℕ → ℕ → Place) (m n : List ℕ) (i j : ℕ) → (pointwise ◌==◌ m n && (i == j)) ≡ true → f m i ≡ f n j
named_joined f m n i j e =
    let both = and_parts (pointwise ◌==◌ m n) (i == j) e in
    ap (λ (v : List ℕ). f v i) (names_equal m n both.0) ∙ ap (f n) ((unsigned_Decides i j).0 both.1)

equal_at : (p q : Place) (c d : Code) → eq-value.it (fault_at p c) (fault_at q d) ≡ true → fault_at p c ≡ fault_at q d
equal_at Project Project c d e = joined Project Project c d true (λ h. refl) e
equal_at Class Class c d e = joined Class Class c d true (λ h. refl) e
equal_at (File m) (File n) c d e = joined (File m) (File n) c d (pointwise ◌==◌ m n) (λ h. ap (λ (v : List ℕ). File v) (names_equal m n h)) e
equal_at (Field i) (Field j) c d e = joined (Field i) (Field j) c d (i == j) (λ h. ap (λ (v : ℕ). Field v) ((unsigned_Decides i j).0 h)) e
equal_at (Method i) (Method j) c d e = joined (Method i) (Method j) c d (i == j) (λ h. ap (λ (v : ℕ). Method v) ((unsigned_Decides i j).0 h)) e
equal_at (ClassOf m i) (ClassOf n j) c d e = joined (ClassOf m i) (ClassOf n j) c d (pointwise ◌==◌ m n && (i == j)) (named_joined (λ v k. ClassOf v k) m n i j) e
equal_at (Inside m i) (Inside n j) c d e = joined (Inside m i) (Inside n j) c d (pointwise ◌==◌ m n && (i == j)) (named_joined (λ v k. Inside v k) m n i j) e
equal_at p q c d e = absurd (not_equal e)

pub fault_equal : (x y : Diagnostic) → eq-value.it x y ≡ true → x ≡ y
fault_equal x y e = equal_at x.place y.place x.code y.code e
