-- Records that are looked for, and sources that are named.
use Rattle.std.proofs.Common.{◌≡◌, inl, inr, ℕ, suc, zero, ◌+◌, ◌<◌, ◌≤◌, Bool, true, false, List, [], ◌∷◌, ◌++◌, take, length, get_or, refl, sym, ap, ◌∙◌, subst, arith}
use Rattle.std.specs.Prelude.{Contains, if◌then◌else◌, ◌↔◌}
use Rattle.std.specs.List.{AllByRecursion}
use Rattle.std.specs.Ordering.{is_eq}
use Rattle.std.proofs.lemmas.List.{take_more, take_all}
use Rattle.std.proofs.lemmas.List.Elements.{Contains-append_left, Contains-push, Contains-push_cases}
use Rattle.item_ids.specs.declared.key.Key.{Key}
use Rattle.item_ids.specs.declared.kind.Kind.TheVariants as kinds
use Rattle.item_ids.specs.Keys.{key_cmp, kind_of}
use Rattle.item_ids.proofs.Apart.{test_same, test_itself}
use Rattle.result_bytes.specs.declared.value.Value.{Value}
use Rattle.result_bytes.specs.declared.value.Value.TheVariants as values
use Rattle.result_bytes.specs.Values.{kind_of_value}
use Rattle.sessions.specs.Sessions.{Entry, RecordValue, SessionValue, entry_of, entries}
use Rattle.audit_graph.specs.Firsts.{IsFirstWithout}
use Rattle.audit_graph.specs.Sources.{IsAdmitted, IsNoStray}
use Rattle.audit_graph.proofs.Entries.{entry_there, one_more}

pub any_default : (xs : List RecordValue) (i : ℕ) (d e : RecordValue) → i < length xs → get_or xs i d ≡ get_or xs i e
any_default [] i d e lt = absurd (omega arith)
any_default (x ∷ xs) zero d e lt = refl
any_default (x ∷ xs) (suc i) d e lt = any_default xs i d e (omega arith)

-- a value of the kind of Files is one
pub is_files : (v : Value) → kind_of_value v ≡ kinds.Files → (names : List (List ℕ)) × (v ≡ values.Files names)
is_files (values.Files names) e = (names, refl)
is_files v e = absurd (cc)

-- ---- sources that are in a set

module _ (test : Key → Bool) (s : SessionValue) (n : ℕ) (x : RecordValue) (lt : n < length s.records) (is : x ≡ get_or s.records n x)
    (before : AllByRecursion (IsAdmitted test) (take n (entries s))) where
  pub unnamed_here : ((kind_of x.key ≡ kinds.Source → test x.key ≡ true) → ⊥) → IsFirstWithout (IsAdmitted test) (entries s) n
  unnamed_here other = record { item = entry_of s.records x; here = entry_there s n x lt is; before = before; lacks = other }

  pub named_more : (kind_of x.key ≡ kinds.Source → test x.key ≡ true) → AllByRecursion (IsAdmitted test) (take (n + 1) (entries s))
  named_more h = one_more (IsAdmitted test) (entries s) n (entry_of s.records x) (entry_there s n x lt is) before h

module _ (ks : List Key) (i : ℕ) (k : Key) (lt : i < length ks) (is : k ≡ get_or ks i k) (old new : Key → Bool)
    (so_far : (q : Key) → (old q ≡ true) ↔ Contains (take i ks) q) (adds : (q : Key) → new q ≡ (if is_eq (key_cmp k q) then true else old q)) where
  front : take (i + 1) ks ≡ take i ks ++ k ∷ []
  front = take_more ks i k lt ∙ ap (λ (x : Key). take i ks ++ x ∷ []) (sym is)

  to_list : (q : Key) → new q ≡ true → Contains (take i ks ++ k ∷ []) q
  to_list q passed =
      (elim (is_eq (key_cmp k q)) as (λ b. is_eq (key_cmp k q) ≡ b → (if b then true else old q) ≡ true → Contains (take i ks ++ k ∷ []) q) [
        | true ↦ λ same _. subst (Contains (take i ks ++ k ∷ [])) (test_same k q same) (Contains-push (take i ks) k)
        | false ↦ λ _ h. Contains-append_left (take i ks) (k ∷ []) q ((so_far q).0 h)
      ]) refl (sym (adds q) ∙ passed)

  either : (b c : Bool) → c ≡ true → (if b then true else c) ≡ true
  either true c e = refl
  either false c e = e

  from_list : (q : Key) → Contains (take i ks ++ k ∷ []) q → new q ≡ true
  from_list q c = elim (Contains-push_cases (take i ks) k q c) [
    | inl before ↦ adds q ∙ either (is_eq (key_cmp k q)) (old q) ((so_far q).1 before)
    | inr same ↦ adds q ∙ ap (λ b. if b then true else old q) (test_itself k q same)
  ]

  pub set_more : (q : Key) → (new q ≡ true) ↔ Contains (take (i + 1) ks) q
  set_more q = (
    (λ h. subst (λ (xs : List Key). Contains xs q) (sym front) (to_list q h)),
    (λ c. from_list q (subst (λ (xs : List Key). Contains xs q) front c)),
  )

pub set_all : (ks : List Key) (i : ℕ) (test : Key → Bool) → length ks ≤ i → ((q : Key) → (test q ≡ true) ↔ Contains (take i ks) q) → (q : Key) → (test q ≡ true) ↔ Contains ks q
set_all ks i test le h q = subst (λ (xs : List Key). (test q ≡ true) ↔ Contains xs q) (take_all i ks le) (h q)

pub named_alike : (test : Key → Bool) (ks : List Key) → ((q : Key) → (test q ≡ true) ↔ Contains ks q) → (x : Entry) → IsAdmitted test x ↔ IsNoStray ks x
named_alike test ks h x = ((λ a kind. (h x.key).0 (a kind)), (λ a kind. (h x.key).1 (a kind)))
