-- The first of each name in a list, in the order of the names.
use Rattle.std.proofs.Common.{◌≡◌, Bool, true, false, cond, List, [], ◌∷◌, map, find, filter_map, Option, Some, None, Contains, refl, sym, ap, ◌∙◌, subst, inl, inr, true≢false}
use Rattle.std.specs.Prelude.{T}
use Rattle.std.specs.List.{AllByRecursion, cons_option}
use Rattle.std.specs.List.Sorted.{IsStrictlySortedBy}
use Rattle.std.specs.Map.{keys_of, values_of}
use Rattle.std.specs.Ordering.{nat_cmp}
use Rattle.std.specs.Cmp.Lexicographic.{slice_cmp}
use Rattle.std.specs.FinMap.Entries as entries
use Rattle.std.specs.Str.{bytes_eq}
use Rattle.std.proofs.lemmas.Option.{none-some}
use Rattle.std.proofs.lemmas.Slice.Eq.{bytes_eq-Decides}
use Rattle.std.proofs.lemmas.Map.Text.{is_eq-slice_cmp}
use Rattle.mj_tree.specs.Trees.{Name}
use Rattle.ordered_names.specs.Order.{NameBefore, IsAscendingBy, IsAscendingByName}
use Rattle.ordered_names.proofs.Alike.{Contains-cases, nowhere}
use Rattle.mj_tree.proofs.Positions.{bytes_eq_back}
use Rattle.mj_members.proofs.Tables.{by_bytes, under, firsts_are}
use Rattle.mj_members.proofs.Rows.{both_hold}
use Rattle.named_files.proofs.Listed.{place_of, contains_at, map_at}
use Rattle.mj_rules.specs.Answering.{set_of, name_order}
use Rattle.mj_rules.proofs.RowLemmas.{found_stands}
use Rattle.mj_rules.proofs.Sets.{names_compare, set_ascends, to_set}
use Rattle.mj_rules.proofs.TableLaws.{found_name}

-- ---- entries that ascend

below_entries : {A : Type 0} (n : Name) (es : List (Name × A)) → AllByRecursion (λ m. NameBefore n m) (keys_of es) → T (entries.below_all by_bytes n es)
below_entries n [] h = tt
below_entries n (e ∷ es) h = let less = h.0 in both_hold _ _ (rw less tt) (below_entries n es h.1)

pub sorted_entries : {A : Type 0} (es : List (Name × A)) → IsAscendingBy NameBefore (keys_of es) → T (entries.is_sorted by_bytes es)
sorted_entries [] h = tt
sorted_entries (e ∷ es) h = both_hold _ _ (below_entries e.0 es h.0) (sorted_entries es h.1)

pub ordered_entries : {A : Type 0} (es : List (Name × A)) → IsStrictlySortedBy (slice_cmp nat_cmp) (keys_of es) → IsAscendingBy NameBefore (keys_of es)
unfolding IsStrictlySortedBy
ordered_entries [] h = tt
ordered_entries (e ∷ es) h = (h.0, ordered_entries es h.1)

-- ---- the first of each name

module _ {X : Type 0} (name : X → Name) (xs : List X) where
  abbrev pub first : Name → Option X
  first n = find (λ x. bytes_eq (name x) n) xs

  abbrev pub firsts : List X
  firsts = filter_map first (set_of name_order (map name xs))

  first_named : (n : Name) (x : X) → first n ≡ Some x → name x ≡ n
  first_named n x e = found_name name n xs x e

  -- what is found among them is what is found first
  among : (n : Name) (o : Option X) → first n ≡ o → (names : List Name) → ((x : X) → o ≡ Some x → Contains names n) → find (λ x. bytes_eq (name x) n) (filter_map first names) ≡ o
  among n None e [] h = refl
  among n (Some x) e [] h = absurd (nowhere n (h x refl))
  among n o e (m ∷ names) h = by_first (first m) refl (among n o e names)
    where
      by_first : (f : Option X) → first m ≡ f → (((x : X) → o ≡ Some x → Contains names n) → find (λ x. bytes_eq (name x) n) (filter_map first names) ≡ o) → find (λ x. bytes_eq (name x) n) (cons_option f (filter_map first names)) ≡ o
      by_first None d behind = behind (λ x is. elim (Contains-cases m names n (h x is)) [
        | inl same ↦ absurd (none-some x (sym d ∙ (ap first same ∙ (e ∙ is))))
        | inr rest ↦ rest
      ])
      by_first (Some y) d behind = by_test (bytes_eq (name y) n) refl
        where
          by_test : (t : Bool) → bytes_eq (name y) n ≡ t → cond t (Some y) (find (λ x. bytes_eq (name x) n) (filter_map first names)) ≡ o
          by_test true t = sym d ∙ (ap first (sym (first_named m y d) ∙ (bytes_eq-Decides (name y) n).0 t) ∙ e)
          by_test false t = behind (λ x is. elim (Contains-cases m names n (h x is)) [
            | inl same ↦ absurd (true≢false (sym ((bytes_eq-Decides (name y) n).1 (first_named m y d ∙ same)) ∙ t))
            | inr rest ↦ rest
          ])

  stands : (n : Name) (x : X) → first n ≡ Some x → Contains (map name xs) n
  stands n x e =
      let at = place_of xs x (found_stands (λ y. bytes_eq (name y) n) xs x e).0 in
      subst (Contains (map name xs)) (first_named n x e) (contains_at (map name xs) at.0 (name x) (map_at name xs at.0 x at.1))

  pub found_first : (n : Name) → find (λ x. bytes_eq (name x) n) firsts ≡ first n
  found_first n = among n (first n) refl (set_of name_order (map name xs)) (λ x e. to_set name_order NameBefore names_compare (map name xs) n (stands n x e))

  -- they ascend
  all_after : (m : Name) (names : List Name) → AllByRecursion (NameBefore m) names → AllByRecursion (λ y. NameBefore m (name y)) (filter_map first names)
  all_after m [] h = tt
  all_after m (n ∷ names) h = by_first (first n) refl (all_after m names h.1)
    where
      by_first : (f : Option X) → first n ≡ f → AllByRecursion (λ y. NameBefore m (name y)) (filter_map first names) → AllByRecursion (λ y. NameBefore m (name y)) (cons_option f (filter_map first names))
      by_first None d behind = behind
      by_first (Some x) d behind = (subst (NameBefore m) (sym (first_named n x d)) h.0, behind)

  ascend : (names : List Name) → IsAscendingBy NameBefore names → IsAscendingByName name (filter_map first names)
  ascend [] h = tt
  ascend (n ∷ names) h = by_first (first n) refl (ascend names h.1)
    where
      by_first : (f : Option X) → first n ≡ f → IsAscendingByName name (filter_map first names) → IsAscendingByName name (cons_option f (filter_map first names))
      by_first None d behind = behind
      by_first (Some x) d behind = (subst (λ (m : Name). AllByRecursion (λ y. NameBefore m (name y)) (filter_map first names)) (sym (first_named n x d)) (all_after n names h.0), behind)

  pub firsts_ascend : IsAscendingByName name firsts
  firsts_ascend = ascend (set_of name_order (map name xs)) (set_ascends name_order NameBefore names_compare (map name xs))

  -- ---- as the values of entries

  abbrev entry : X → Name × X
  entry x = (name x, x)

  named_values : (ys : List X) → values_of (map entry ys) ≡ ys
  named_values [] = refl
  named_values (y ∷ ys) = ap (λ zs. y ∷ zs) (named_values ys)

  all_keys : (m : Name) (ys : List X) → AllByRecursion (λ y. NameBefore m (name y)) ys → AllByRecursion (NameBefore m) (keys_of (map entry ys))
  all_keys m [] h = tt
  all_keys m (y ∷ ys) h = (h.0, all_keys m ys h.1)

  named_ascend : (ys : List X) → IsAscendingByName name ys → IsAscendingBy NameBefore (keys_of (map entry ys))
  named_ascend [] h = tt
  named_ascend (y ∷ ys) h = (all_keys (name y) ys h.0, named_ascend ys h.1)

  named_under : (n : Name) (ys : List X) → under n (map entry ys) ≡ find (λ x. bytes_eq (name x) n) ys
  named_under n [] = refl
  named_under n (y ∷ ys) =
      ap (λ b. cond b (Some y) (under n (map entry ys))) (is_eq-slice_cmp n (name y) ∙ bytes_eq_back n (name y))
      ∙ ap (cond (bytes_eq (name y) n) (Some y)) (named_under n ys)

  -- entries that ascend and say under each name what is found first have these values
  pub values_are : (es : List (Name × X)) → IsAscendingBy NameBefore (keys_of es) → ((n : Name) → under n es ≡ first n) → values_of es ≡ firsts
  values_are es up says =
      firsts_are es es (sorted_entries es up) (λ n. refl)
      ∙ (sym (firsts_are (map entry firsts) es (sorted_entries (map entry firsts) (named_ascend firsts firsts_ascend)) (λ n. named_under n firsts ∙ (found_first n ∙ sym (says n))))
      ∙ named_values firsts)
