-- Keys of names that stand before themselves are asked already.
use Rattle.std.proofs.Common.{◌≡◌, ◌⊎◌, inl, inr, Bool, true, false, List, [], ◌∷◌, ◌++◌, map, refl, ap, subst, if◌then◌else◌}
use Rattle.std.proofs.lemmas.List.Elements.{Contains-push_cases}
use Rattle.item_ids.specs.declared.key.Key.{Key}
use Rattle.mj_tree.specs.Trees.{Name}
use Rattle.named_files.specs.Repeats.{is_in, repeats_behind, repeats}
use Rattle.named_files.proofs.RepeatLemmas.{Contains-is_in, is_in-Contains}
use Rattle.recorder.proofs.Seen.{unseen_last}
use Rattle.recorder.specs.Backed.{is_seen}
use Rattle.query_rules.specs.Reads.{first_keys}
use Rattle.member_queries.specs.FirstNames.{without_repeats, first_names}

seen_grows : (ks : List Key) (k x : Key) → is_seen ks x ≡ true → is_seen (ks ++ k ∷ []) x ≡ true
seen_grows ks k x h = by_test (is_seen (ks ++ k ∷ []) x) refl
  where
    by_test : (b : Bool) → is_seen (ks ++ k ∷ []) x ≡ b → is_seen (ks ++ k ∷ []) x ≡ true
    by_test true e = e
    by_test false e = let no = (unseen_last ks k x e).0 in absurd cc

seen_last : (ks : List Key) (k : Key) → is_seen (ks ++ k ∷ []) k ≡ true
seen_last ks k = by_test (is_seen (ks ++ k ∷ []) k) refl
  where
    by_test : (b : Bool) → is_seen (ks ++ k ∷ []) k ≡ b → is_seen (ks ++ k ∷ []) k ≡ true
    by_test true e = e
    by_test false e = absurd ((unseen_last ks k k e).1 refl)

last_or_before : (before : List Name) (n x : Name) → is_in (before ++ n ∷ []) x ≡ true → (is_in before x ≡ true) ⊎ (n ≡ x)
last_or_before before n x e = elim (Contains-push_cases before n x (Contains-is_in (before ++ n ∷ []) x e)) [
  | inl h ↦ inl (is_in-Contains before x h)
  | inr h ↦ inr h
]

module _ (key : Name → Key) where
  abbrev AreSeen : List Key → List Name → Type 0
  AreSeen seen before = (x : Name) → is_in before x ≡ true → is_seen seen (key x) ≡ true

  one_more : (seen : List Key) (before : List Name) (n : Name) → AreSeen seen before → is_seen seen (key n) ≡ true → AreSeen seen (before ++ n ∷ [])
  one_more seen before n h s x e = elim (last_or_before before n x e) [
    | inl i ↦ h x i
    | inr same ↦ subst (λ (y : Name). is_seen seen (key y) ≡ true) same s
  ]

  firsts_behind : (before ns : List Name) (seen : List Key) → AreSeen seen before → first_keys seen (map key (without_repeats ns (repeats_behind before ns))) ≡ first_keys seen (map key ns)
  firsts_behind before [] seen h = refl
  firsts_behind before (n ∷ ns) seen h = by_flag (λ seen h. firsts_behind (before ++ n ∷ []) ns seen h) (is_in before n) refl
    where
      others : List Name
      others = without_repeats ns (repeats_behind (before ++ n ∷ []) ns)

      Behind : Type 0
      Behind = (seen : List Key) → AreSeen seen (before ++ n ∷ []) → first_keys seen (map key others) ≡ first_keys seen (map key ns)

      by_seen : Behind → (b : Bool) → is_seen seen (key n) ≡ b → first_keys seen (key n ∷ map key others) ≡ first_keys seen (key n ∷ map key ns)
      by_seen behind true s = rw s (behind seen (one_more seen before n h s))
      by_seen behind false s =
          rw s (ap (λ ks. key n ∷ ks) (behind (seen ++ key n ∷ [])
          (one_more (seen ++ key n ∷ []) before n (λ x e. seen_grows seen (key n) (key x) (h x e)) (seen_last seen (key n)))))

      by_flag : Behind → (b : Bool) → is_in before n ≡ b → first_keys seen (map key (if b then others else n ∷ others)) ≡ first_keys seen (key n ∷ map key ns)
      by_flag behind true e = let s = h n e in rw s (behind seen (one_more seen before n h s))
      by_flag behind false e = by_seen behind (is_seen seen (key n)) refl

  -- the keys of the first names are the first keys
  pub firsts_once : (ns : List Name) (seen : List Key) → first_keys seen (map key (first_names ns)) ≡ first_keys seen (map key ns)
  unfolding first_names repeats
  firsts_once ns seen = firsts_behind [] ns seen (λ x e. absurd cc)
