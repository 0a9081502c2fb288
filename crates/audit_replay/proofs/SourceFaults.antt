-- A session that holds the files of a project lacks none of them, and has no other source.
use Rattle.std.proofs.Common.{◌≡◌, inl, inr, ℕ, ◌<◌, true, false, List, [], ◌∷◌, length, Option, Some, refl, sym, ap, ◌∙◌, subst, arith}
use Rattle.std.specs.Prelude.{Contains}
use Rattle.std.proofs.lemmas.List.{get_or-map, length-map}
use Rattle.item_ids.specs.declared.key.Key.{Key}
use Rattle.item_ids.specs.declared.key.Key.TheVariants.{Source}
use Rattle.item_ids.specs.declared.kind.Kind.TheVariants as kinds
use Rattle.item_ids.specs.Keys.{kind_of}
use Rattle.result_bytes.specs.declared.value.Value.TheVariants as values
use Rattle.named_files.specs.Projects.{names_of}
use Rattle.recorder.specs.Projects.{Project}
use Rattle.sessions.specs.Sessions.{SessionValue, IsSession, Entry, entry_of, entries, entry_at}
use Rattle.sessions.proofs.EntryRules.{entry_of_place}
use Rattle.graph_rules.specs.Pasts.{Past}
use Rattle.graph_rules.specs.Next.{AreSources}
use Rattle.audit_graph.specs.Sources.{HasFiles, HasBytes, source_keys}
use Rattle.audit_graph.specs.Steps.{IsMissingSource, IsStray}
use Rattle.item_ids.specs.Inputs.{Origin, origin, is_input}
use Rattle.item_ids.specs.Inputs.Origin.{files, source, computed}
use Rattle.audit_graph.proofs.Entries.{item_at, nowhere, contains_first, contains_later, contains_cases, contains_there}
use Rattle.audit_graph.proofs.SourceRules.{source_there, one_names, names_held}
use Rattle.audit_replay.proofs.InputRules.{bytes_named}

-- ---- the files of a project

source_of : (names : List (List ℕ)) (q : Key) → Contains (source_keys names) q → (file : List ℕ) × Contains names file × (Source file ≡ q)
source_of [] q c = absurd (nowhere q c)
source_of (n ∷ ns) q c = elim (contains_cases (Source n) (source_keys ns) q c) [
  | inl same ↦ (n, contains_first n ns, same)
  | inr later ↦ (let h = source_of ns q later in (h.0, contains_later n ns h.0 h.1, h.2))
]

-- a key of the kind of sources is one
source_key : (k : Key) → Origin k → kind_of k ≡ kinds.Source → (file : List ℕ) × (k ≡ Source file)
source_key _ files e = absurd (cc)
source_key _ (source file) e = (file, refl)
source_key _ (computed k is) e = absurd (let t : true ≡ false = ap is_input (sym e) ∙ is.kind in cc)

module _ (now : Past) (p : Project) (sources : AreSources now p) where
  pub has_bytes : (q : Key) → Contains (source_keys (names_of p)) q → HasBytes now q
  has_bytes q c =
      let f = source_of (names_of p) q c in
      let x = sources.each f.0 f.1 in
      let b = bytes_named p f.0 f.1 in
      subst (HasBytes now) f.2 (record { entry = x.0; bytes = b.0; has = x.1; value = x.2 ∙ ap (λ (o : Option (List ℕ)). values.Source o) b.1 })

  pub held_names : (names : List (List ℕ)) → HasFiles now names → names ≡ names_of p
  held_names names held = one_names now names (names_of p) held (names_held now p sources)

-- ---- what a session says

-- an entry is what the session says about its key
pub told_of_entry : (s : SessionValue) → IsSession s → (r : Entry) → Contains (entries s) r → entry_at s r.key ≡ Some r
told_of_entry s session r c =
    let lt : c.0 < length s.records = let l = c.1 in omega (arith, l, length-map s.records (entry_of s.records)) in
    let x = item_at s.records c.0 lt in
    let e : entry_of s.records x.0 ≡ r = ap (entry_of s.records) (sym x.1) ∙ (sym (get_or-map (entry_of s.records) s.records c.0 x.0 r lt) ∙ c.2) in
    subst (λ (y : Entry). entry_at s y.key ≡ Some y) e (entry_of_place s session c.0 x.0 lt x.1)

module _ (s : SessionValue) (session : IsSession s) (p : Project) (sources : AreSources (entry_at s) p) where
  pub not_missing : (f : ℕ) → IsMissingSource s f → ⊥
  not_missing f m =
      let same = held_names (entry_at s) p sources m.names m.files in
      let c = contains_there (source_keys m.names) f m.first.item m.first.here in
      m.first.lacks (has_bytes (entry_at s) p sources m.first.item (subst (λ (ns : List (List ℕ)). Contains (source_keys ns) m.first.item) same c))

  pub not_stray : (n : ℕ) → IsStray s n → ⊥
  not_stray n m =
      let same = held_names (entry_at s) p sources m.names m.files in
      let c = contains_there (entries s) n m.first.item m.first.here in
      let has = told_of_entry s session m.first.item c in
      m.first.lacks (λ kind.
      let f = source_key m.first.item.key (origin m.first.item.key) kind in
      let inn = sources.others f.0 m.first.item (ap (entry_at s) (sym f.1) ∙ has) in
      subst (Contains (source_keys m.names)) (sym f.1) (source_there m.names f.0 (subst (λ (ns : List (List ℕ)). Contains ns f.0) (sym same) inn)))
