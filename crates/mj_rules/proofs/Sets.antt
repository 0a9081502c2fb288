-- Lists as sets, by insertion.
use Rattle.std.proofs.Common.{◌≡◌, ℕ, ◌<◌, List, [], ◌∷◌, Ordering, Less, Equal, Greater, Contains, refl, sym, ap, subst, ◌∙◌, ◌⊎◌, inl, inr, arith}
use Rattle.std.specs.List.{AllByRecursion}
use Rattle.std.specs.Ordering.{nat_cmp, ordering_then, ordering_reverse, match_ordering}
use Rattle.std.proofs.lemmas.Cmp.{nat_list_cmp_total, tied_itself}
use Rattle.std.proofs.lemmas.Bool.Decides.{nat_tests}
use Rattle.mj_answer.specs.declared.diagnostic.Diagnostic.{Diagnostic}
use Rattle.mj_answer.specs.Codes.{code_number}
use Rattle.ordered_names.specs.Order.{IsAscendingBy, IsStrictTotalOrder, NameBefore}
use Rattle.mj_answer.specs.Order.{Before, place_order, name_in, number_in}
use Rattle.ordered_names.proofs.Alike.{Contains-cases, Contains-first, Contains-later, nowhere}
use Rattle.ordered_names.proofs.Orders.{names}
use Rattle.mj_answer.proofs.Orders.{faults}
use Rattle.mj_rules.specs.Answering.{with_element, set_of, name_order, fault_order}

-- what a comparison says
pub record Compares {X : Type 0} (compare : X → X → Ordering) (B : X → X → Type 0) : Type 0 where
  pub order : IsStrictTotalOrder B
  pub less : (x y : X) → compare x y ≡ Less → B x y
  pub same : (x y : X) → compare x y ≡ Equal → x ≡ y
  pub more : (x y : X) → compare x y ≡ Greater → B y x

module _ {X : Type 0} (compare : X → X → Ordering) (B : X → X → Type 0) (says : Compares compare B) where
  all_after : (x y : X) (zs : List X) → B x y → AllByRecursion (B y) zs → AllByRecursion (B x) zs
  all_after x y [] b h = tt
  all_after x y (z ∷ zs) b h = (says.order.transitive x y z b h.0, all_after x y zs b h.1)

  all_with : (y x : X) (zs : List X) → B y x → AllByRecursion (B y) zs → AllByRecursion (B y) (with_element compare x zs)
  all_with y x [] b h = (b, tt)
  all_with y x (z ∷ zs) b h = by_order (compare x z) (all_with y x zs b h.1)
    where
      by_order : (o : Ordering) → AllByRecursion (B y) (with_element compare x zs) → AllByRecursion (B y) (match_ordering o (x ∷ z ∷ zs) (z ∷ zs) (z ∷ with_element compare x zs))
      by_order Less w = (b, h)
      by_order Equal w = h
      by_order Greater w = (h.0, w)

  with_ascends : (x : X) (zs : List X) → IsAscendingBy B zs → IsAscendingBy B (with_element compare x zs)
  with_ascends x [] h = (tt, tt)
  with_ascends x (z ∷ zs) h = by_order (compare x z) refl (with_ascends x zs h.1)
    where
      by_order : (o : Ordering) → compare x z ≡ o → IsAscendingBy B (with_element compare x zs) → IsAscendingBy B (match_ordering o (x ∷ z ∷ zs) (z ∷ zs) (z ∷ with_element compare x zs))
      by_order Less e w = ((says.less x z e, all_after x z zs (says.less x z e) h.0), h)
      by_order Equal e w = h
      by_order Greater e w = (all_with z x zs (says.more x z e) h.0, w)

  pub set_ascends : (xs : List X) → IsAscendingBy B (set_of compare xs)
  set_ascends [] = tt
  set_ascends (x ∷ xs) = with_ascends x (set_of compare xs) (set_ascends xs)

  from_with : (x : X) (zs : List X) (d : X) → Contains (with_element compare x zs) d → (x ≡ d) ⊎ Contains zs d
  from_with x [] d h = Contains-cases x [] d h
  from_with x (z ∷ zs) d h = by_order (compare x z) (from_with x zs d) h
    where
      by_order : (o : Ordering) → (Contains (with_element compare x zs) d → (x ≡ d) ⊎ Contains zs d) → Contains (match_ordering o (x ∷ z ∷ zs) (z ∷ zs) (z ∷ with_element compare x zs)) d → (x ≡ d) ⊎ Contains (z ∷ zs) d
      by_order Less w k = Contains-cases x (z ∷ zs) d k
      by_order Equal w k = inr k
      by_order Greater w k = elim (Contains-cases z (with_element compare x zs) d k) [
        | inl e ↦ inr (subst (Contains (z ∷ zs)) e (Contains-first z zs))
        | inr i ↦ elim (w i) [ inl e ↦ inl e | inr j ↦ inr (Contains-later z zs d j) ]
      ]

  to_with : (x : X) (zs : List X) (d : X) → (x ≡ d) ⊎ Contains zs d → Contains (with_element compare x zs) d
  to_with x [] d (inl e) = subst (Contains (x ∷ [])) e (Contains-first x [])
  to_with x [] d (inr i) = absurd (nowhere d i)
  to_with x (z ∷ zs) d h = by_order (compare x z) refl (to_with x zs d) h
    where
      by_order : (o : Ordering) → compare x z ≡ o → ((x ≡ d) ⊎ Contains zs d → Contains (with_element compare x zs) d) → (x ≡ d) ⊎ Contains (z ∷ zs) d
          → Contains (match_ordering o (x ∷ z ∷ zs) (z ∷ zs) (z ∷ with_element compare x zs)) d
      by_order Less e w (inl f) = subst (Contains (x ∷ z ∷ zs)) f (Contains-first x (z ∷ zs))
      by_order Less e w (inr i) = Contains-later x (z ∷ zs) d i
      by_order Equal e w (inl f) = subst (Contains (z ∷ zs)) (sym (says.same x z e) ∙ f) (Contains-first z zs)
      by_order Equal e w (inr i) = i
      by_order Greater e w (inl f) = Contains-later z (with_element compare x zs) d (w (inl f))
      by_order Greater e w (inr i) = elim (Contains-cases z zs d i) [
        | inl f ↦ subst (Contains (z ∷ with_element compare x zs)) f (Contains-first z (with_element compare x zs))
        | inr j ↦ Contains-later z (with_element compare x zs) d (w (inr j))
      ]

  pub from_set : (xs : List X) (d : X) → Contains (set_of compare xs) d → Contains xs d
  from_set [] d h = h
  from_set (x ∷ xs) d h = elim (from_with x (set_of compare xs) d h) [
    | inl e ↦ subst (Contains (x ∷ xs)) e (Contains-first x xs)
    | inr i ↦ Contains-later x xs d (from_set xs d i)
  ]

  pub to_set : (xs : List X) (d : X) → Contains xs d → Contains (set_of compare xs) d
  to_set [] d h = h
  to_set (x ∷ xs) d h = to_with x (set_of compare xs) d (elim (Contains-cases x xs d h) [ inl e ↦ inl e | inr i ↦ inr (to_set xs d i) ])

-- ---- the two comparisons

from_trichotomy : {X : Type 0} (compare : X → X → Ordering) (B : X → X → Type 0) → IsStrictTotalOrder B → ((x y : X) → B x y → compare x y ≡ Less) → ((x : X) → compare x x ≡ Equal) → ((x y : X) → B y x → compare x y ≡ Greater)
    → Compares compare B
from_trichotomy {X} compare B order lt eq gt = record {
  order = order;
  less = λ x y e. elim (order.total x y) [
    | inl b ↦ b
    | inr c ↦ elim c [
      | inl s ↦ let clash : Equal ≡ Less = sym (ap (compare x) (sym s) ∙ eq x) ∙ e in absurd cc
      | inr b ↦ let clash : Greater ≡ Less = sym (gt x y b) ∙ e in absurd cc
    ]
  ];
  same = λ x y e. elim (order.total x y) [
    | inl b ↦ let clash : Less ≡ Equal = sym (lt x y b) ∙ e in absurd cc
    | inr c ↦ elim c [
      | inl s ↦ s
      | inr b ↦ let clash : Greater ≡ Equal = sym (gt x y b) ∙ e in absurd cc
    ]
  ];
  more = λ x y e. elim (order.total x y) [
    | inl b ↦ let clash : Less ≡ Greater = sym (lt x y b) ∙ e in absurd cc
    | inr c ↦ elim c [
      | inl s ↦ let clash : Equal ≡ Greater = sym (ap (compare x) (sym s) ∙ eq x) ∙ e in absurd cc
      | inr b ↦ b
    ]
  ];
}

pub names_compare : Compares name_order NameBefore
names_compare = from_trichotomy name_order NameBefore names (λ m n h. h) (λ m. tied_itself nat_list_cmp_total m) (λ m n h. nat_list_cmp_total.antisymm m n ∙ ap ordering_reverse h)

number_lt : (m n : ℕ) → m < n → nat_cmp m n ≡ Less
number_lt m n h = grind (arith, nat_tests)

number_gt : (m n : ℕ) → n < m → nat_cmp m n ≡ Greater
number_gt m n h = grind (arith, nat_tests)

number_eq : (m n : ℕ) → m ≡ n → nat_cmp m n ≡ Equal
number_eq m n h = grind (arith, nat_tests)

name_eq : (m n : List ℕ) → m ≡ n → name_order m n ≡ Equal
name_eq m n e = ap (name_order m) (sym e) ∙ tied_itself nat_list_cmp_total m

name_gt : (m n : List ℕ) → NameBefore n m → name_order m n ≡ Greater
name_gt m n h = nat_list_cmp_total.antisymm m n ∙ ap ordering_reverse h

-- the first part decides, or the others do if it is a tie
at_first : (a b : Ordering) (o : Ordering) → a ≡ o → (o ≡ Equal → ⊥) → ordering_then a b ≡ o
at_first a b Less e never = ap (λ x. ordering_then x b) e
at_first a b Greater e never = ap (λ x. ordering_then x b) e
at_first a b Equal e never = absurd (never refl)

at_later : (a b o : Ordering) → a ≡ Equal → b ≡ o → ordering_then a b ≡ o
at_later a b o e f = ap (λ x. ordering_then x b) e ∙ f

less_decides : Less ≡ Equal → ⊥
less_decides e = cc

greater_decides : Greater ≡ Equal → ⊥
greater_decides e = cc

-- the parts of the comparison
abbrev kinds : Diagnostic → Diagnostic → Ordering
kinds d e = nat_cmp (place_order d.place) (place_order e.place)

abbrev names_in : Diagnostic → Diagnostic → Ordering
names_in d e = name_order (name_in d.place) (name_in e.place)

abbrev numbers_in : Diagnostic → Diagnostic → Ordering
numbers_in d e = nat_cmp (number_in d.place) (number_in e.place)

abbrev codes_of : Diagnostic → Diagnostic → Ordering
codes_of d e = nat_cmp (code_number d.code) (code_number e.code)

abbrev behind_names : Diagnostic → Diagnostic → Ordering
behind_names d e = ordering_then (numbers_in d e) (codes_of d e)

abbrev behind_kinds : Diagnostic → Diagnostic → Ordering
behind_kinds d e = ordering_then (names_in d e) (behind_names d e)

fault_lt : (d e : Diagnostic) → Before d e → fault_order d e ≡ Less
fault_lt d e (inl (inl h)) = at_first (kinds d e) (behind_kinds d e) Less (number_lt (place_order d.place) (place_order e.place) h) less_decides
fault_lt d e (inl (inr (k, inl h))) = at_later (kinds d e) (behind_kinds d e) Less (number_eq (place_order d.place) (place_order e.place) k) (at_first (names_in d e) (behind_names d e) Less h less_decides)
fault_lt d e (inl (inr (k, inr (n, h)))) =
    at_later (kinds d e) (behind_kinds d e) Less (number_eq (place_order d.place) (place_order e.place) k) (at_later (names_in d e) (behind_names d e) Less (name_eq (name_in d.place) (name_in e.place) n)
    (at_first (numbers_in d e) (codes_of d e) Less (number_lt (number_in d.place) (number_in e.place) h) less_decides))
fault_lt d e (inr (p, h)) =
    at_later (kinds d e) (behind_kinds d e) Less (number_eq (place_order d.place) (place_order e.place) (ap place_order p)) (at_later (names_in d e) (behind_names d e) Less (name_eq (name_in d.place) (name_in e.place) (ap name_in p))
    (at_later (numbers_in d e) (codes_of d e) Less (number_eq (number_in d.place) (number_in e.place) (ap number_in p)) (number_lt (code_number d.code) (code_number e.code) h)))

fault_gt : (d e : Diagnostic) → Before e d → fault_order d e ≡ Greater
fault_gt d e (inl (inl h)) = at_first (kinds d e) (behind_kinds d e) Greater (number_gt (place_order d.place) (place_order e.place) h) greater_decides
fault_gt d e (inl (inr (k, inl h))) =
    at_later (kinds d e) (behind_kinds d e) Greater (number_eq (place_order d.place) (place_order e.place) (sym k)) (at_first (names_in d e) (behind_names d e) Greater (name_gt (name_in d.place) (name_in e.place) h) greater_decides)
fault_gt d e (inl (inr (k, inr (n, h)))) =
    at_later (kinds d e) (behind_kinds d e) Greater (number_eq (place_order d.place) (place_order e.place) (sym k)) (at_later (names_in d e) (behind_names d e) Greater (name_eq (name_in d.place) (name_in e.place) (sym n))
    (at_first (numbers_in d e) (codes_of d e) Greater (number_gt (number_in d.place) (number_in e.place) h) greater_decides))
fault_gt d e (inr (p, h)) =
    at_later (kinds d e) (behind_kinds d e) Greater (number_eq (place_order d.place) (place_order e.place) (sym (ap place_order p))) (at_later (names_in d e) (behind_names d e) Greater (name_eq (name_in d.place) (name_in e.place) (sym (ap name_in p)))
    (at_later (numbers_in d e) (codes_of d e) Greater (number_eq (number_in d.place) (number_in e.place) (sym (ap number_in p))) (number_gt (code_number d.code) (code_number e.code) h)))

fault_eq : (d : Diagnostic) → fault_order d d ≡ Equal
fault_eq d =
    at_later (kinds d d) (behind_kinds d d) Equal (number_eq (place_order d.place) (place_order d.place) refl) (at_later (names_in d d) (behind_names d d) Equal (name_eq (name_in d.place) (name_in d.place) refl)
    (at_later (numbers_in d d) (codes_of d d) Equal (number_eq (number_in d.place) (number_in d.place) refl) (number_eq (code_number d.code) (code_number d.code) refl)))

pub faults_compare : Compares fault_order Before
faults_compare = from_trichotomy fault_order Before faults fault_lt fault_eq fault_gt
