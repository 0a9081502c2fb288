-- Items that are admitted each behind the last one are in ascending order, and the other way round.
use Rattle.std.proofs.Common.{◌≡◌, ℕ, Bool, true, List, [], ◌∷◌, ◌++◌, refl, sym, ap, subst, ◌∙◌}
use Rattle.std.specs.List.{AllByRecursion}
use Rattle.std.specs.Ordering.{is_lt, is_eq, ordering_reverse}
use Rattle.std.specs.declared.cmp.Ordering.{Ordering}
use Rattle.std.specs.declared.cmp.Ordering.TheVariants.{Less, Equal, Greater}
use Rattle.mj_answer.specs.declared.diagnostic.Diagnostic.{Diagnostic}
use Rattle.mj_answer.specs.contracts.diagnostic.DiagnosticOrd.TheImpl.{cmp-value}
use Rattle.mj_answer.specs.contracts.diagnostic.DiagnosticOrd.TheImpl.Laws.{total-law, matches_eq-law}
use Rattle.ordered_names.specs.Order.{IsAscendingBy, IsStrictTotalOrder}
use Rattle.mj_answer.specs.Order.{Before}
use Rattle.ordered_names.proofs.Orders.{names}
use Rattle.mj_answer.proofs.Orders.{faults}
use Rattle.mj_answer.proofs.Compared.{fault_less, fault_equal}
use Rattle.byte_readers.specs.Orders.{is_after}
use Rattle.byte_readers.specs.Lawful.{Lawful, Admitted}
use Rattle.byte_readers.specs.Reading.{Decoder, list_at}
use Rattle.byte_readers.specs.Spelling.{list}
use Rattle.byte_readers.specs.Laws.{lawful_list, lawful_where}
use Rattle.answer_bytes.specs.Storable.{ByName, OrderedFits}
use Rattle.answer_bytes.specs.Reading.{by_name, by_place}

-- ---- behind the last one

-- each item comes before the next one
abbrev Ascends : {A : Type 0} → (A → A → Bool) → List A → Type 0
Ascends precedes [] = Unit {0}
Ascends precedes (a ∷ []) = Unit {0}
Ascends precedes (a ∷ (b ∷ rest)) = (precedes a b ≡ true) × Ascends precedes (b ∷ rest)

is_after_push : {A : Type 0} (precedes : A → A → Bool) (front : List A) (a b : A)
    → is_after precedes (front ++ a ∷ []) b ≡ precedes a b
is_after_push precedes [] a b = refl
is_after_push precedes (x ∷ []) a b = refl
is_after_push precedes (x ∷ (y ∷ front)) a b = is_after_push precedes (y ∷ front) a b

ascends_from : {A : Type 0} (precedes : A → A → Bool) (front : List A) (a : A) (items : List A)
    → Admitted (is_after precedes) (front ++ a ∷ []) items → Ascends precedes (a ∷ items)
ascends_from precedes front a [] h = tt
ascends_from precedes front a (b ∷ items) h = (
  sym (is_after_push precedes front a b) ∙ h.0,
  ascends_from precedes (front ++ a ∷ []) b items h.1,
)

admitted_from : {A : Type 0} (precedes : A → A → Bool) (front : List A) (a : A) (items : List A)
    → Ascends precedes (a ∷ items) → Admitted (is_after precedes) (front ++ a ∷ []) items
admitted_from precedes front a [] h = tt
admitted_from precedes front a (b ∷ items) h =
    (is_after_push precedes front a b ∙ h.0, admitted_from precedes (front ++ a ∷ []) b items h.1)

ascends : {A : Type 0} (precedes : A → A → Bool) (items : List A)
    → Admitted (is_after precedes) [] items → Ascends precedes items
ascends precedes [] h = tt
ascends precedes (a ∷ items) h = ascends_from precedes [] a items h.1

admitted : {A : Type 0} (precedes : A → A → Bool) (items : List A) → Ascends precedes items
    → Admitted (is_after precedes) [] items
admitted precedes [] h = tt
admitted precedes (a ∷ items) h = (refl, admitted_from precedes [] a items h)

-- ---- before all that stand behind it

-- a test and the order that it tests
record Tests {A : Type 0} (precedes : A → A → Bool) (B : A → A → Type 0) : Type 0 where
  pub to : (a b : A) → precedes a b ≡ true → B a b
  pub from : (a b : A) → B a b → precedes a b ≡ true
  pub transitive : (a b c : A) → B a b → B b c → B a c

before_all : {A : Type 0} {precedes : A → A → Bool} {B : A → A → Type 0} (tests : Tests precedes B)
    (a b : A) → B a b → (items : List A) → AllByRecursion (B b) items → AllByRecursion (B a) items
before_all tests a b ab [] h = tt
before_all tests a b ab (c ∷ items) h =
    (tests.transitive a b c ab h.0, before_all tests a b ab items h.1)

in_order : {A : Type 0} {precedes : A → A → Bool} {B : A → A → Type 0} (tests : Tests precedes B)
    (items : List A) → Ascends precedes items → IsAscendingBy B items
in_order tests [] h = tt
in_order tests (a ∷ []) h = (tt, tt)
in_order {A} {precedes} {B} tests (a ∷ (b ∷ rest)) h =
    let r = in_order tests (b ∷ rest) h.1 in
    let ab = tests.to a b h.0 in
    ((ab, before_all tests a b ab rest r.0), r)

each_next : {A : Type 0} {precedes : A → A → Bool} {B : A → A → Type 0} (tests : Tests precedes B)
    (items : List A) → IsAscendingBy B items → Ascends precedes items
each_next tests [] h = tt
each_next tests (a ∷ []) h = tt
each_next tests (a ∷ (b ∷ rest)) h = (tests.from a b h.0.0, each_next tests (b ∷ rest) h.1)

lawful_ascending : {A : Type 0} {p : Decoder A} {sp : A → List ℕ} {P : A → Type 0}
    {precedes : A → A → Bool} {B : A → A → Type 0} → Tests precedes B → Lawful p sp P
    → Lawful (list_at p (is_after precedes)) (list sp) (OrderedFits P B)
lawful_ascending {A} {p} {sp} {P} {precedes} {B} tests law =
    lawful_where (lawful_list law (is_after precedes))
    (λ items h. record {
      few = h.few;
      each = h.fit;
      order = in_order tests items (ascends precedes items h.admitted);
    })
    (λ items h. record {
      few = h.few;
      fit = h.each;
      admitted = admitted precedes items (each_next tests items h.order);
    })

-- ---- by name and by place

less_is : (o : Ordering) → is_lt o ≡ true → o ≡ Less
less_is Less e = refl
less_is Equal e = absurd cc
less_is Greater e = absurd cc

by_name_tests : {A : Type 0} (name_of : A → List ℕ) → Tests (by_name name_of) (ByName name_of)
by_name_tests name_of = record {
  to = λ a b e. less_is _ e;
  from = λ a b e. ap is_lt e;
  transitive = λ a b c. names.transitive (name_of a) (name_of b) (name_of c);
}

pub lawful_by_name : {A : Type 0} {p : Decoder A} {sp : A → List ℕ} {P : A → Type 0} → Lawful p sp P
    → (name_of : A → List ℕ) → Lawful (list_at p (is_after (by_name name_of))) (list sp)
    (OrderedFits P (ByName name_of))
lawful_by_name law name_of = lawful_ascending (by_name_tests name_of) law

-- if the order is total, what comes before another is less than it
less_from : {A : Type 0} (cmp : A → A → Ordering) (B : A → A → Type 0) → IsStrictTotalOrder B
    → ((a b : A) → cmp a b ≡ Less → B a b) → ((a b : A) → cmp a b ≡ ordering_reverse (cmp b a))
    → ((a b : A) → cmp a b ≡ Equal → a ≡ b)
    → (a b : A) → B a b → (o : Ordering) → cmp a b ≡ o → o ≡ Less
less_from cmp B order less antisymm exact a b h Less e = refl
less_from {A} cmp B order less antisymm exact a b h Equal e =
    absurd (order.irreflexive b (subst (λ (x : A). B x b) (exact a b e) h))
less_from cmp B order less antisymm exact a b h Greater e =
    let back : cmp b a ≡ Less = antisymm b a ∙ ap ordering_reverse e in
    absurd (order.irreflexive a (order.transitive a b a h (less b a back)))

fault_antisymm : (a b : Diagnostic) → cmp-value.it a b ≡ ordering_reverse (cmp-value.it b a)
fault_antisymm a b = total-law.antisymm a b

fault_exact : (a b : Diagnostic) → cmp-value.it a b ≡ Equal → a ≡ b
fault_exact a b e = fault_equal a b (matches_eq-law a b ∙ ap is_eq e)

by_place_tests : Tests by_place Before
by_place_tests = record {
  to = λ a b e. fault_less a b (less_is _ e);
  from =
      λ a b h. ap is_lt (less_from cmp-value.it Before faults fault_less fault_antisymm fault_exact
      a b h (cmp-value.it a b) refl);
  transitive = λ a b c. faults.transitive a b c;
}

pub lawful_by_place : {p : Decoder Diagnostic} {sp : Diagnostic → List ℕ} {P : Diagnostic → Type 0}
    → Lawful p sp P → Lawful (list_at p (is_after by_place)) (list sp) (OrderedFits P Before)
lawful_by_place law = lawful_ascending by_place_tests law
