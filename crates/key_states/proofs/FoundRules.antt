-- Keys that are found, and how each is done.
use Rattle.std.proofs.Common.{◌≡◌, inl, inr, ℕ, ◌<◌, ◌≤◌, List, [], ◌∷◌, ◌++◌, map, length, get_or, refl, sym, ap, ◌∙◌, subst, arith}
use Rattle.std.specs.List.{AllByRecursion}
use Rattle.std.specs.Arc.{arc_value}
use Rattle.std.proofs.lemmas.Bool.{cases_lt}
use Rattle.std.proofs.lemmas.List.{get_or_append_left, get_or_push, length-append}
use Rattle.item_ids.specs.declared.key.Key.{Key}
use Rattle.graph_rules.specs.Steps.{Done, State}
use Rattle.key_states.specs.declared.reaching.Found.{Found}
use Rattle.key_states.specs.Reached.{EachAt, IsFoundAs, AreFound, key_in}
use Rattle.key_states.proofs.ReachRules.{key_stays}

-- one more element
pub each_push : {A : Type 0} (P : ℕ → A → Type 0) (xs : List A) (x : A) → EachAt P xs → P (length xs) x → EachAt P (xs ++ x ∷ [])
each_push P xs x h p i d lt =
    elim (cases_lt i (length xs)) [
      | inl below ↦ subst (P i) (sym (get_or_append_left xs (x ∷ []) d i below)) (h i d below)
      | inr above ↦ (
          let is : length xs ≡ i = omega (arith, above, lt, length-append xs (x ∷ [])) in
          subst (P i) (sym (get_or_push xs x d i is)) (subst (λ (k : ℕ). P k x) is p))
    ]

-- places among keys, to which others are added
pub places_stay : (ks all more : List Key) → all ≡ ks ++ more → (es : List ℕ) → AllByRecursion (λ e. e < length ks) es → map (key_in all) es ≡ map (key_in ks) es
places_stay ks all more is [] h = refl
places_stay ks all more is (e ∷ es) h = rw (ap (λ (xs : List Key). key_in xs e) is ∙ key_stays ks more e h.0, places_stay ks all more is es h.1) refl

pub inside_all : (m n : ℕ) → m ≤ n → (es : List ℕ) → AllByRecursion (λ e. e < m) es → AllByRecursion (λ e. e < n) es
inside_all m n le [] h = tt
inside_all m n le (e ∷ es) h = ((let l = h.0 in omega (arith, l, le)), inside_all m n le es h.1)

pub longer : (ks all more : List Key) → all ≡ ks ++ more → length ks ≤ length all
longer ks all more is = rw is (omega (arith, length-append ks more))

found_grows : (s : State) (ks all more : List Key) → all ≡ ks ++ more → (q : Key) (f : Found) → IsFoundAs s ks q f → IsFoundAs s all q f
found_grows s ks all more is q f h = record {
  done = h.done ∙ ap (λ (es : List Key). Done (arc_value f.sealed.now) es f.mark) (sym (places_stay ks all more is f.edges.items h.inside));
  inside = inside_all (length ks) (length all) (longer ks all more is) f.edges.items h.inside;
}

pub founds_more : (s : State) (ks all more : List Key) → all ≡ ks ++ more → (fs : List Found) (f : Found) (n : ℕ) → length fs ≡ n → n < length ks
    → AreFound s ks fs → IsFoundAs s all (key_in ks n) f → AreFound s all (fs ++ f ∷ [])
founds_more s ks all more is fs f n len lt h one =
    each_push (λ i g. IsFoundAs s all (key_in all i) g) fs f
    (λ i d below. let l : i < length ks = omega (arith, below, len, lt) in
    subst (λ (q : Key). IsFoundAs s all q (get_or fs i d)) (sym (there i l)) (found_grows s ks all more is (key_in ks i) (get_or fs i d) (h i d below)))
    (let l : length fs < length ks = omega (arith, len, lt) in
    subst (λ (q : Key). IsFoundAs s all q f) (sym (there (length fs) l)) (subst (λ (k : ℕ). IsFoundAs s all (key_in ks k) f) (sym len) one))
  where
    there : (i : ℕ) → i < length ks → key_in all i ≡ key_in ks i
    there i l = ap (λ (xs : List Key). key_in xs i) is ∙ key_stays ks more i l
