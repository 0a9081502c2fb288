-- Entries determine their records.
use Rattle.std.proofs.Common.{◌≡◌, ℕ, ◌<◌, List, [], ◌∷◌, map, length, Option, refl, sym, ap, ◌∙◌, inl, inr, arith, slice_index_or}
use Rattle.std.specs.List.{AllByRecursion}
use Rattle.std.proofs.lemmas.Bool.{cases_eq}
use Rattle.std.proofs.lemmas.List.{length-map}
use Rattle.item_ids.specs.declared.key.Key.{Key}
use Rattle.item_ids.specs.declared.key.Key.TheVariants.{Files}
use Rattle.item_ids.proofs.Lists.{all_from}
use Rattle.result_bytes.specs.declared.value.Value.{Value}
use Rattle.sessions.specs.declared.mark.Mark.{Mark}
use Rattle.sessions.specs.declared.terms.Terms.{Terms}
use Rattle.sessions.specs.Sessions.{RecordValue, SessionValue, IsSession, AreInside, Entry, entry_of, entries, key_at}
use Rattle.sessions.proofs.EntryRules.{edges_here, keys_differ}
use Rattle.recorder.specs.Projects.{Project}
use Rattle.recorder.specs.Backed.{Queries}
use Rattle.graph_rules.specs.Settings.{setting_of}
use Rattle.graph_rules.proofs.OneNext.{next_is_one}
use Rattle.graph_rules.specs.NextSessions.{IsNextSession}

keys_of : (rs xs : List RecordValue) → map (λ (e : Entry). e.key) (map (entry_of rs) xs) ≡ map (λ (r : RecordValue). r.key) xs
keys_of rs [] = refl
keys_of rs (x ∷ xs) = ap (λ (ks : List Key). x.key ∷ ks) (keys_of rs xs)

module _ (s : SessionValue) (session : IsSession s) where
  pub one_place : (i j : ℕ) → i < length s.records → j < length s.records → key_at s.records i ≡ key_at s.records j → i ≡ j
  one_place i j li lj same =
      elim (cases_eq i j) [
        | inl is ↦ is
        | inr other ↦ absurd (keys_differ s.records session.records i j li lj other same)
      ]

  pub all_inside : AllByRecursion (λ (r : RecordValue). AreInside s.records r.edges) s.records
  all_inside = all_from (λ (r : RecordValue). AreInside s.records r.edges) s.records (λ r c. edges_here s session c.0 r c.1 (sym c.2))

-- ---- two sessions with the same entries

module _ (a b : SessionValue) (a_is : IsSession a) (b_is : IsSession b) (same : entries a ≡ entries b) where
  same_keys : map (λ (r : RecordValue). r.key) a.records ≡ map (λ (r : RecordValue). r.key) b.records
  same_keys = sym (keys_of a.records a.records) ∙ (ap (map (λ (e : Entry). e.key)) same ∙ keys_of b.records b.records)

  same_at : (i : ℕ) → key_at a.records i ≡ key_at b.records i
  same_at i = ap (λ (ks : List Key). slice_index_or ks i Files) same_keys

  same_length : length a.records ≡ length b.records
  same_length = sym (length-map a.records (λ (r : RecordValue). r.key)) ∙ (ap length same_keys ∙ length-map b.records (λ (r : RecordValue). r.key))

  same_edges : (es ds : List ℕ) → map (key_at a.records) es ≡ map (key_at b.records) ds → AreInside a.records es → AreInside b.records ds → es ≡ ds
  same_edges [] [] h ia ib = refl
  same_edges [] (d ∷ ds) h ia ib = absurd (let t : [] ≡ (key_at b.records d ∷ map (key_at b.records) ds) = h in cc)
  same_edges (e ∷ es) [] h ia ib = absurd (let t : (key_at a.records e ∷ map (key_at a.records) es) ≡ [] = h in cc)
  same_edges (e ∷ es) (d ∷ ds) h ia ib =
      let t : (key_at a.records e ∷ map (key_at a.records) es) ≡ (key_at b.records d ∷ map (key_at b.records) ds) = h in
      let first : key_at a.records e ≡ key_at b.records d = cc in
      let rest : map (key_at a.records) es ≡ map (key_at b.records) ds = cc in
      let within : d < length a.records = let l = ib.0 in omega (arith, l, same_length) in
      let x : e ≡ d = one_place a a_is e d ia.0 within (first ∙ sym (same_at d)) in
      ap (λ n. n ∷ es) x ∙ ap (λ ns. d ∷ ns) (same_edges es ds rest ia.1 ib.1)

  abbrev made : Key → Mark → List ℕ → Value → RecordValue
  made k m es v = record { key = k; mark = m; edges = es; value = v }

  same_record : (x y : RecordValue) → entry_of a.records x ≡ entry_of b.records y → AreInside a.records x.edges → AreInside b.records y.edges → x ≡ y
  same_record x y h ia ib =
      let k : x.key ≡ y.key = ap (λ (e : Entry). e.key) h in
      let m : x.mark ≡ y.mark = ap (λ (e : Entry). e.mark) h in
      let v : x.value ≡ y.value = ap (λ (e : Entry). e.value) h in
      let es : x.edges ≡ y.edges = same_edges x.edges y.edges (ap (λ (e : Entry). e.reads) h) ia ib in
      ap (λ q. made q x.mark x.edges x.value) k ∙ (ap (λ n. made y.key n x.edges x.value) m
      ∙ (ap (λ ns. made y.key y.mark ns x.value) es ∙ ap (made y.key y.mark y.edges) v))

  same_records : (xs ys : List RecordValue) → map (entry_of a.records) xs ≡ map (entry_of b.records) ys
      → AllByRecursion (λ (r : RecordValue). AreInside a.records r.edges) xs → AllByRecursion (λ (r : RecordValue). AreInside b.records r.edges) ys → xs ≡ ys
  same_records [] [] h ia ib = refl
  same_records [] (y ∷ ys) h ia ib = absurd (let t : [] ≡ (entry_of b.records y ∷ map (entry_of b.records) ys) = h in cc)
  same_records (x ∷ xs) [] h ia ib = absurd (let t : (entry_of a.records x ∷ map (entry_of a.records) xs) ≡ [] = h in cc)
  same_records (x ∷ xs) (y ∷ ys) h ia ib =
      let t : (entry_of a.records x ∷ map (entry_of a.records) xs) ≡ (entry_of b.records y ∷ map (entry_of b.records) ys) = h in
      let first : entry_of a.records x ≡ entry_of b.records y = cc in
      let rest : map (entry_of a.records) xs ≡ map (entry_of b.records) ys = cc in
      ap (λ (z : RecordValue). z ∷ xs) (same_record x y first ia.0 ib.0) ∙ ap (λ (zs : List RecordValue). y ∷ zs) (same_records xs ys rest ia.1 ib.1)

  abbrev session_by : Terms → ℕ → List ℕ → List RecordValue → SessionValue
  session_by t n l rs = record { terms = t; number = n; link = l; records = rs }

  pub one_session : a.terms ≡ b.terms → a.number ≡ b.number → a.link ≡ b.link → a ≡ b
  one_session t n l =
      let rs : a.records ≡ b.records = same_records a.records b.records same (all_inside a a_is) (all_inside b b_is) in
      ap (λ x. session_by x a.number a.link a.records) t
      ∙ (ap (λ x. session_by b.terms x a.link a.records) n
      ∙ (ap (λ x. session_by b.terms b.number x a.records) l ∙ ap (session_by b.terms b.number b.link) rs))

pub one_next : (queries : Queries) (terms : Terms) (past : Option SessionValue) (p : Project) (a b : SessionValue) → IsNextSession queries terms past p a → IsNextSession queries terms past p b → a ≡ b
one_next queries terms past p a b h k =
    let over = setting_of queries.by_profile terms.profile past in
    let same = next_is_one (queries.mean terms.profile) (queries.reads terms.profile) over p (entries a) (entries b) h.told k.told in
    one_session a b h.session k.session same (h.terms_are ∙ sym k.terms_are) (h.number ∙ sym k.number) (h.link ∙ sym k.link)
