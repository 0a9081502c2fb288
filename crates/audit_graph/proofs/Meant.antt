-- Green and executed keys have the values and reads of the project whose files the session holds.
use Rattle.std.proofs.Common.{◌≡◌, ℕ, suc, zero, ◌<◌, Bool, true, false, List, [], ◌∷◌, take, length, refl, sym, ap, ◌∙◌, subst, Some, option_map, arith}
use Rattle.std.specs.Prelude.{Contains}
use Rattle.std.specs.List.{AllByRecursion}
use Rattle.std.proofs.lemmas.List.{take_all}
use Rattle.std.proofs.lemmas.Option.{same_Some}
use Rattle.item_ids.specs.declared.key.Key.{Key}
use Rattle.item_ids.specs.declared.key.Key.TheVariants.{Files, Source}
use Rattle.item_ids.specs.Keys.{kind_of}
use Rattle.result_bytes.specs.declared.value.Value.{Value}
use Rattle.fingerprint.specs.Prints.{print_of}
use Rattle.recorder.specs.Projects.{Project}
use Rattle.recorder.specs.Backed.{Meaning, ReadLists, ReadValue, RunnerLaws, keys, Alike, Gives, GivesEach}
use Rattle.sessions.specs.declared.mark.Mark.TheVariants.{Input, Green, Executed}
use Rattle.sessions.specs.Marks.{is_input_mark}
use Rattle.sessions.specs.Sessions.{Entry}
use Rattle.graph_rules.specs.Pasts.{Past, IsGraph, print_in}
use Rattle.graph_rules.specs.Settings.{Setting, kept}
use Rattle.graph_rules.specs.Next.{AreSources, IsKnownPast, StandsIn}
use Rattle.graph_rules.proofs.SettingRules.{kept_held}
use Rattle.graph_rules.proofs.NextRules.{all_at}
use Rattle.audit_graph.specs.Greens.{GreensStand}
use Rattle.audit_graph.specs.Replays.{IsHeld, FollowsFromEdges, AreReplayed, AreValuesApart, AreWithLower}
use Rattle.item_ids.specs.Inputs.{Origin, origin, rank, is_input}
use Rattle.item_ids.specs.Inputs.Origin.{files, source, computed}
use Rattle.item_ids.specs.KeyLists.{AreLower}
use Rattle.item_ids.proofs.Lists.{all_from}

-- a list of which one element more is the list itself
whole : (xs ys : List Key) → take (suc (length xs)) ys ≡ xs → ys ≡ xs
whole [] [] e = refl
whole [] (y ∷ ys) e = absurd (cc)
whole (x ∷ xs) [] e = e
whole (x ∷ xs) (y ∷ ys) e =
    let h : y ≡ x = cc in
    let t : take (suc (length xs)) ys ≡ xs = cc in
    ap (λ (z : Key). z ∷ ys) h ∙ ap (λ (zs : List Key). x ∷ zs) (whole xs ys t)

-- nothing is of lower rank than an input
none_lower : (q : Key) → rank q ≡ 0 → (ks : List Key) → AreLower q ks → ks ≡ []
none_lower q z [] a = refl
none_lower q z (k ∷ ks) a = absurd (let l = a.0 in omega arith)

-- a key that is no input is of a rank above 0
above_from : (q : Key) → Origin q → false ≡ is_input (kind_of q) → 0 < rank q
above_from _ files e = absurd (cc)
above_from _ (source file) e = absurd (cc)
above_from _ (computed q is) e = is.above

pub above : (q : Key) → false ≡ is_input (kind_of q) → 0 < rank q
above q e = above_from q (origin q) e

print_some : (past : Past) (e : Key) (x : Entry) → past e ≡ Some x → print_in past e ≡ Some (print_of x.value)
print_some past e x is = ap (option_map (λ r. print_of r.value)) is

module _ (mean : Meaning) (reads : ReadLists) (laws : RunnerLaws mean reads) (over : Setting) (now : Past) (p : Project) (known : IsKnownPast mean reads over)
    (graph : IsGraph now) (marks : (q : Key) (r : Entry) → now q ≡ Some r → is_input_mark r.mark ≡ is_input (kind_of q))
    (sources : AreSources now p) (greens : GreensStand over now) (apart : AreValuesApart over.held now)
    (front : Key → Bool) (lower : AreWithLower front) (replayed : AreReplayed mean reads now front) where
  abbrev Meant : Key → Type 0
  Meant q = (r : Entry) → now q ≡ Some r → (r.value ≡ mean p q) × (r.reads ≡ reads p q)

  -- ---- inputs

  same_entry : (q : Key) (r x : Entry) → now q ≡ Some r → now q ≡ Some x → r ≡ x
  same_entry q r x a b = same_Some r x (sym a ∙ b)

  no_reads : (q : Key) (r : Entry) → now q ≡ Some r → rank q ≡ 0 → r.reads ≡ reads p q
  no_reads q r has z = none_lower q z r.reads (graph.lower q r has) ∙ sym ((laws.inputs p sources.project).no_reads q z)

  input : (q : Key) → Origin q → (r : Entry) → now q ≡ Some r → true ≡ is_input (kind_of q) → (r.value ≡ mean p q) × (r.reads ≡ reads p q)
  input _ files r has e =
      let x = sources.files in
      (ap (λ (y : Entry). y.value) (same_entry Files r x.0 has x.1) ∙ (x.2 ∙ sym (laws.inputs p sources.project).files), no_reads Files r has refl)
  input _ (source file) r has e =
      let x = sources.each file (sources.others file r has) in
      (ap (λ (y : Entry). y.value) (same_entry (Source file) r x.0 has x.1) ∙ (x.2 ∙ sym ((laws.inputs p sources.project).source file)), no_reads (Source file) r has refl)
  input _ (computed q is) r has e = absurd (let t : true ≡ false = e ∙ is.kind in cc)

  -- ---- executed keys

  gives_each : (q : Key) → ((e : Key) → rank e < rank q → Meant e) → (told : List ReadValue) → AreLower q (keys told) → AllByRecursion (IsHeld now) told → GivesEach (mean p) told
  gives_each q ih [] low held = tt
  gives_each q ih (t ∷ ts) low held =
      let m = ih t.key low.0 held.0.0 held.0.1 in
      (sym m.0 ∙ held.0.2, gives_each q ih ts low.1 held.1)

  executed : (q : Key) (r : Entry) → now q ≡ Some r → ((e : Key) → rank e < rank q → Meant e) → FollowsFromEdges mean reads now r → (r.value ≡ mean p q) × (r.reads ≡ reads p q)
  executed q r has ih f =
      let low : AreLower q (keys f.told) = subst (AreLower q) (sym f.edges) (graph.lower q r has) in
      let g : Gives mean p f.told = record { project = sources.project; each = gives_each q ih f.told low f.held } in
      let key = graph.key q r has in
      (sym (f.backed.means p g) ∙ ap (mean p) key, sym f.edges ∙ (sym (f.backed.whole p g) ∙ ap (reads p) key))

  -- ---- green keys

  -- what the previous session's project gives the key by its own meaning
  abbrev old_value : Key → Value
  old_value q = known.past_mean known.project q

  abbrev old_reads : Key → List Key
  old_reads q = known.past_reads known.project q

  alike_at : (q : Key) (r had : Entry) → now q ≡ Some r → over.held q ≡ Some had → had.reads ≡ r.reads → ((e : Key) → rank e < rank q → Meant e)
      → (e : Key) → Contains r.reads e → print_in over.held e ≡ print_in now e → old_value e ≡ mean p e
  alike_at q r had has past_has edges ih e c print =
      let x = known.graph.closed q had e past_has (subst (λ ks. Contains ks e) (sym edges) c) in
      let y = graph.closed q r e has c in
      let same = same_Some _ _ (sym (print_some over.held e x.0 x.1) ∙ (print ∙ print_some now e y.0 y.1)) in
      let low : rank e < rank q = all_at (λ k. rank k < rank q) r.reads (graph.lower q r has) e c in
      sym (known.meant e x.0 x.1).0 ∙ (apart e e x.0 y.0 x.1 y.1 same ∙ (ih e low y.0 y.1).0)

  green : (q : Key) (r : Entry) → now q ≡ Some r → 0 < rank q → ((e : Key) → rank e < rank q → Meant e) → StandsIn over now r → (r.value ≡ mean p q) × (r.reads ≡ reads p q)
  green q r has is_above ih st =
      let kept_there : kept over q ≡ Some st.had = ap (kept over) (sym (graph.key q r has)) ∙ st.past_has in
      let past_has = kept_held over q st.had kept_there in
      let across = known.across q st.had kept_there in
      let m = known.meant q st.had past_has in
      let list : old_reads q ≡ r.reads = sym m.1 ∙ st.edges in
      let each : AllByRecursion (λ e. old_value e ≡ mean p e) r.reads = all_from (λ e. old_value e ≡ mean p e) r.reads (λ e c. alike_at q r st.had has past_has st.edges ih e c (st.same e c)) in
      let alike : Alike old_value (mean p) (old_reads q) = subst (Alike old_value (mean p)) (sym list) each in
      let n = length (old_reads q) in
      let some : Alike old_value (mean p) (take n (old_reads q)) = subst (Alike old_value (mean p)) (sym (take_all n (old_reads q) (omega arith))) alike in
      let next = across.next known.project p n known.is_project sources.project some in
      let same = whole (old_reads q) (reads p q) (sym next ∙ take_all (suc n) (old_reads q) (omega arith)) in
      let value = apart q q st.had r past_has has st.print in
      (sym value ∙ (m.0 ∙ across.same known.project p known.is_project sources.project is_above alike), sym list ∙ sym same)

  -- ---- all keys, by rank

  step : (q : Key) → front q ≡ true → ((e : Key) → rank e < rank q → Meant e) → Meant q
  step q inn ih r has =
      (elim r.mark as (λ m. r.mark ≡ m → (r.value ≡ mean p q) × (r.reads ≡ reads p q)) [
        | Input ↦ λ is. input q (origin q) r has (ap is_input_mark (sym is) ∙ marks q r has)
        | Executed ↦ λ is. executed q r has ih (replayed q r inn has is)
        | Green ↦ λ is. green q r has (above q (ap is_input_mark (sym is) ∙ marks q r has)) ih (greens q r has is)
      ]) refl

  below : (n : ℕ) (q : Key) → rank q < n → front q ≡ true → Meant q
  below zero q lt inn = absurd (omega arith)
  below (suc n) q lt inn = step q inn (λ e low. below n e (omega arith) (lower q e inn low))

  pub front_meant : (q : Key) (r : Entry) → front q ≡ true → now q ≡ Some r → (r.value ≡ mean p q) × (r.reads ≡ reads p q)
  front_meant q r inn has = below (suc (rank q)) q (omega arith) inn r has
