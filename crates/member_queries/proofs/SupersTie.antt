-- The chain of a class in a project.
use Rattle.std.proofs.Common.{◌≡◌, ℕ, zero, suc, ◌<◌, Bool, true, false, List, [], ◌∷◌, ◌++◌, length, map, Option, Some, None, is_some, option_map, option_and_then, refl, sym, ap, subst, ◌∙◌, arith, append_assoc}
use Rattle.std.specs.Prelude.{Contains}
use Rattle.item_ids.specs.declared.key.Key.{Key}
use Rattle.item_ids.specs.declared.key.Key.TheVariants as keys
use Rattle.item_ids.specs.Inputs.{rank}
use Rattle.mj_tree.specs.Trees.{Name}
use Rattle.mj_members.specs.Declarations.{ClassDecl}
use Rattle.mj_classes.specs.Declarations.{decl}
use Rattle.mj_classes.specs.Chains.{EndOf, Top, Undeclared, Repeated, Links, AreDistinct, IsChain, is_in, chain_of}
use Rattle.mj_classes.proofs.Climb.{links_declared, all_declared, chain_of_is, has_chain, has_none}
use Rattle.mj_classes.proofs.Distinct.{contains_in, fresh_behind, listed_is, not_in}
use Rattle.mj_rules.specs.Sentences.{classes_in}
use Rattle.result_bytes.specs.declared.files.IndexRow.{IndexRow}
use Rattle.result_bytes.specs.Payloads.{HeaderValue, ChainValue}
use Rattle.result_bytes.specs.declared.value.Value.TheVariants as values
use Rattle.profiles.specs.declared.profile.Profile.{Profile}
use Rattle.recorder.specs.Projects.{Project}
use Rattle.recorder.specs.Programs.{Prog, Ret, Fits}
use Rattle.query_rules.specs.Items.{class_at, index_of, end_value, chain_value}
use Rattle.query_rules.specs.Meaning.{mean}
use Rattle.query_rules.specs.Reads.{chain_headers, asked_keys, reads}
use Rattle.member_queries.specs.declared.supers.Climb.{Climb}
use Rattle.member_queries.specs.declared.supers.Climb.TheVariants.{At, Over}
use Rattle.result_bytes.specs.Parts.{header_in, index_in}
use Rattle.member_queries.specs.Supers.{is_listed, chain, climb_by, climb_on, chain_steps, listed_steps, supers_steps}
use Rattle.member_queries.specs.Laws.{SupersTies}
use Rattle.member_queries.proofs.Passes.{Passes, Stays, Reads, ties_by}
use Rattle.member_queries.proofs.Indexed.{listed, no_more}

module _ (profile : Profile) (p : Project) where
  abbrev cs : List ClassDecl
  cs = classes_in p

  -- the superclass in the header of a declared class
  superclass_told : (c : Name) (k : ClassDecl) (s : Option Name) → decl cs c ≡ Some k → k.superclass ≡ s → option_and_then (λ (h : HeaderValue). h.superclass) (header_in (mean profile p (keys.Header c))) ≡ s
  unfolding mean
  superclass_told c k s e f = rw e f

  -- a link, if the class extends this
  one_link : (more : ℕ) (names : List Name) (c : Name) (k : ChainValue → Prog) (ks : List Key) (q : Prog) (s : Option Name)
      → option_and_then (λ (h : HeaderValue). h.superclass) (header_in (mean profile p (keys.Header c))) ≡ s
      → Passes (mean profile p) (climb_on (chain_steps more (index_of p)) (names ++ c ∷ [], climb_by (index_of p) (names ++ c ∷ []) s) k) ks q
      → Passes (mean profile p) (chain_steps (suc more) (index_of p) names c k) (keys.Header c ∷ ks) q
  unfolding chain_steps
  one_link more names c k ks q s e w =
      Reads (keys.Header c) (λ v. climb_on (chain_steps more (index_of p)) (names ++ c ∷ [], climb_by (index_of p) (names ++ c ∷ []) (option_and_then (λ (h : HeaderValue). h.superclass) (header_in v))) k) ks q
      (subst (λ (s : Option Name). Passes (mean profile p) (climb_on (chain_steps more (index_of p)) (names ++ c ∷ [], climb_by (index_of p) (names ++ c ∷ []) s) k) ks q) (sym e) w)

  not_listed : (u : Name) → decl cs u ≡ None → is_listed (index_of p) u ≡ false
  not_listed u e = listed p u ∙ ap is_some e

  is_there : (u : Name) (k : ClassDecl) → decl cs u ≡ Some k → is_listed (index_of p) u ≡ true
  is_there u k e = listed p u ∙ ap is_some e

  climbs : (rest whole names : List Name) (c : Name) (end : EndOf) (more : ℕ) (k : ChainValue → Prog)
      → whole ≡ names ++ (c ∷ rest) → AreDistinct whole → ((x : Name) → Contains whole x → (j : ClassDecl) × (decl cs x ≡ Some j)) → Links cs whole (c ∷ rest) end → length rest < more
      → Passes (mean profile p) (chain_steps more (index_of p) names c k) (map keys.Header (c ∷ rest)) (k (chain whole (end_value end)))
  climbs rest whole names c end zero k is d all l lt = absurd (omega (arith, lt))
  climbs [] whole names c Top (suc more) k is d all l lt =
      one_link more names c k [] (k (chain whole (end_value Top))) None (superclass_told c l.0 None l.1 l.2) (rw is (Stays _))
  climbs [] whole names c (Undeclared u) (suc more) k is d all l lt =
      let n : is_in (names ++ c ∷ []) u ≡ false = not_in _ u (λ h. let j = all u (rw is h) in let e : Some j.0 ≡ None = sym j.1 ∙ l.1 in absurd cc) in
      let none = not_listed u l.1 in
      one_link more names c k [] (k (chain whole (end_value (Undeclared u)))) (Some u) (superclass_told c l.0.0 (Some u) l.0.1 l.0.2) (rw (n, none, is) (Stays _))
  climbs [] whole names c (Repeated u) (suc more) k is d all l lt =
      let y : is_in (names ++ c ∷ []) u ≡ true = listed_is _ u (rw (← is) l.1) in
      one_link more names c k [] (k (chain whole (end_value (Repeated u)))) (Some u) (superclass_told c l.0.0 (Some u) l.0.1 l.0.2) (rw (y, is) (Stays _))
  climbs (u ∷ rest) whole names c end (suc more) k is d all l lt =
      let j = links_declared cs whole u rest end l.1 in
      let split : whole ≡ (names ++ c ∷ []) ++ (u ∷ rest) = is ∙ sym (append_assoc names (c ∷ []) (u ∷ rest)) in
      let n : is_in (names ++ c ∷ []) u ≡ false = not_in _ u (fresh_behind _ u rest (rw split at d)) in
      let there = is_there u j.0 j.1 in
      one_link more names c k (map keys.Header (u ∷ rest)) (k (chain whole (end_value end))) (Some u) (superclass_told c l.0.0 (Some u) l.0.1 l.0.2)
      (rw (n, there) (climbs rest whole (names ++ c ∷ []) u end more k split d all l.1 (omega (arith, lt))))

  -- a chain of the rules
  whole_chain : (c : Name) (names : List Name) (end : EndOf) (k : ChainValue → Prog) → IsChain cs c names end → Passes (mean profile p) (chain_steps (length (index_of p)) (index_of p) [] c k) (map keys.Header names) (k (chain names (end_value end)))
  whole_chain c names end k is =
      let all : (x : Name) → Contains names x → (j : ClassDecl) × (decl cs x ≡ Some j) = λ x h. all_declared cs names names end is.links x (contains_in names x h) in
      let few = no_more p names is.distinct all in
      subst (λ (xs : List Name). Passes (mean profile p) (chain_steps (length (index_of p)) (index_of p) [] c k) (map keys.Header xs) (k (chain names (end_value end)))) (sym is.first)
      (climbs is.rest names [] c end (length (index_of p)) k is.first is.distinct all (subst (λ (xs : List Name). Links cs names xs end) is.first is.links) (omega (arith, few, ap length is.first)))

  by_class : (c : Name) (o : Option ClassDecl) → class_at p c ≡ o → Passes (mean profile p) (listed_steps (is_listed (index_of p) c) (index_of p) c Ret) (chain_headers p c) (Ret (values.Supers (option_map chain_value (chain_of cs c))))
  by_class c None e =
      let no = not_listed c e in
      let none = has_none cs c e in
      rw (no, none) (Stays _)
  by_class c (Some k) e =
      let yes = is_there c k e in
      let h = has_chain cs c k e in
      let same = chain_of_is cs c h.0 h.1 h.2 in
      rw (yes, same) (whole_chain c h.0 h.1 (λ x. Ret (values.Supers (Some x))) h.2)

  passes : (c : Name) → Passes (mean profile p) (supers_steps c Ret) (asked_keys profile p (keys.Supers c)) (Ret (mean profile p (keys.Supers c)))
  unfolding mean asked_keys
  passes c = Reads keys.Index (λ v. listed_steps (is_listed (index_in v) c) (index_in v) c Ret) (chain_headers p c) (Ret (mean profile p (keys.Supers c))) (by_class c (class_at p c) refl)

-- ---- ranks and kinds

module _ (q : Key) (above : 3 < rank q) where
  chain_fits : (more : ℕ) (rows : List IndexRow) (names : List Name) (c : Name) (k : ChainValue → Prog) → ((x : ChainValue) → Fits q (k x)) → Fits q (chain_steps more rows names c k)
  unfolding Fits chain_steps
  chain_fits zero rows names c k h = h (chain names _)
  chain_fits (suc more) rows names c k h = (omega (arith, above), λ v. on (λ u. chain_fits more rows (names ++ c ∷ []) u k h) (climb_by rows (names ++ c ∷ []) (option_and_then (λ (h : HeaderValue). h.superclass) (header_in v))))
    where
      on : ((u : Name) → Fits q (chain_steps more rows (names ++ c ∷ []) u k)) → (at : Climb) → Fits q (climb_on (chain_steps more rows) (names ++ c ∷ [], at) k)
      on behind (At u) = behind u
      on behind (Over end) = h (chain (names ++ c ∷ []) end)

fits : (c : Name) → Fits (keys.Supers c) (supers_steps c Ret)
unfolding Fits
fits c = (omega arith, λ v. by_test (is_listed (index_in v) c) (index_in v))
  where
    by_test : (b : Bool) (rows : List IndexRow) → Fits (keys.Supers c) (listed_steps b rows c Ret)
    by_test true rows = chain_fits (keys.Supers c) (omega arith) (length rows) rows [] c (λ x. Ret (values.Supers (Some x))) (λ x. refl)
    by_test false rows = refl

pub supers_ties : SupersTies
unfolding reads
supers_ties c profile = ties_by profile (keys.Supers c) (supers_steps c Ret) (λ p. asked_keys profile p (keys.Supers c)) (λ p. passes profile p c) (λ p. refl) (fits c)
