-- What a change at one place leaves of what a graph keeps.
use Rattle.std.proofs.Common.{◌≡◌, ◌≢◌, ◌⊎◌, inl, inr, ℕ, ◌<◌, false, List, [], ◌∷◌, Contains, refl, sym, ap₂, ◌∙◌, subst}
use Rattle.std.specs.List.{AllByRecursion}
use Rattle.std.proofs.lemmas.Bool.{cases_eq}
use Rattle.item_ids.specs.declared.key.Key.{Key}
use Rattle.item_ids.specs.Inputs.{rank}
use Rattle.result_bytes.specs.declared.value.Value.{Value}
use Rattle.recorder.specs.Projects.{Project}
use Rattle.recorder.specs.Backed.{ReadValue}
use Rattle.recorder.specs.Programs.{Prog}
use Rattle.recorder.proofs.Recorded.{all_at}
use Rattle.graph_rules.specs.Keys.{input_of}
use Rattle.keeping.specs.Follows.{Follows}
use Rattle.keeping.specs.Kept.{KeptBy}
use Rattle.keeping.specs.Readers.{told_at}
use Rattle.keeping.proofs.Readers.{reader_law}
use Rattle.resident_graph.specs.Places.{Places, IsEdge, IsSettled, IsLinked, IsNode, Holds}

-- t is s but for one place, which may be a new one. Queued places may be more, and so may readers but for the place. If its
-- value isn't the old one, all that read it are queued or kept by the change.
pub record Changes (prog_of : Key → Prog) (s t : Places) (at : ℕ) : Type 0 where
  pub within : (i : ℕ) → i < t.count → i ≢ at → i < s.count
  pub grown : (i : ℕ) → i < s.count → i < t.count
  pub key : (i : ℕ) → i < s.count → t.key i ≡ s.key i
  pub value : (i : ℕ) → i < s.count → i ≢ at → t.value i ≡ s.value i
  pub edges : (i : ℕ) → i < s.count → i ≢ at → t.edges i ≡ s.edges i
  pub readers : (j i : ℕ) → j < s.count → i ≢ at → Contains (s.readers j) i → Contains (t.readers j) i
  pub queued : (i : ℕ) → i < s.count → i ≢ at → t.queued i ≡ false → s.queued i ≡ false
  pub reading : (i : ℕ) → i < s.count → at < s.count → i ≢ at → t.queued i ≡ false → Contains (s.readers at) i
      → (t.value at ≡ s.value at) ⊎ KeptBy (prog_of (s.key i)) (s.key at) (s.value at) (t.value at) (s.value i)

module _ (prog_of : Key → Prog) (p r : Project) (s t : Places) (at : ℕ) (ch : Changes prog_of s t at)
    (apart : (i j : ℕ) → i < s.count → j < s.count → s.key i ≡ s.key j → i ≡ j)
    (inputs : (i : ℕ) → i < s.count → i ≢ at → rank (s.key i) ≡ 0 → t.queued i ≡ false → input_of r (s.key i) ≡ input_of p (s.key i)) where
  keys_same : (i : ℕ) (es : List ℕ) → AllByRecursion (IsEdge s i) es → told_at s.key t.value es ≡ told_at t.key t.value es
  keys_same i [] all = refl
  keys_same i (e ∷ es) all = ap₂ (λ (k : Key) (rs : List ReadValue). record { key = k; value = t.value e } ∷ rs) (sym (ch.key e all.0.inside)) (keys_same i es all.1)

  follows_on : (i : ℕ) → i < s.count → i ≢ at → t.queued i ≡ false → IsLinked s i → (es : List ℕ) → es ≡ s.edges i → AllByRecursion (IsEdge s i) es
      → Follows (prog_of (s.key i)) (told_at s.key s.value es) (s.value i) → Follows (prog_of (s.key i)) (told_at t.key t.value es) (s.value i)
  follows_on i lt ne rest linked es is all follows =
      subst (λ (ts : List ReadValue). Follows (prog_of (s.key i)) ts (s.value i)) (keys_same i es all)
      (reader_law (prog_of (s.key i)) s.key s.value t.value at es (s.value i)
      (λ e has other. ch.value e (all_at (IsEdge s i) es e has all).inside other)
      (λ has.
      let inside = (all_at (IsEdge s i) es at has all).inside in
      let known = (linked at (subst (λ (xs : List ℕ). Contains xs at) is has)).1 in
      choose (λ e here other same. other (apart e at (all_at (IsEdge s i) es e here all).inside inside same)) (ch.reading i lt inside ne rest known))
      follows)
    where
      choose : ((e : ℕ) → Contains es e → e ≢ at → s.key e ≢ s.key at)
          → (t.value at ≡ s.value at) ⊎ KeptBy (prog_of (s.key i)) (s.key at) (s.value at) (t.value at) (s.value i)
          → (t.value at ≡ s.value at) ⊎ (((e : ℕ) → Contains es e → e ≢ at → s.key e ≢ s.key at) × KeptBy (prog_of (s.key i)) (s.key at) (s.value at) (t.value at) (s.value i))
      choose others (inl same) = inl same
      choose others (inr kept) = inr (others, kept)

  edges_kept : (i : ℕ) → i < s.count → (es : List ℕ) → AllByRecursion (IsEdge s i) es → AllByRecursion (IsEdge t i) es
  edges_kept i lt [] all = tt
  edges_kept i lt (e ∷ es) all = (
    record {
      inside = ch.grown e all.0.inside;
      lower = rw (ch.key e all.0.inside, ch.key i lt) all.0.lower;
    },
    edges_kept i lt es all.1,
  )

  settled_kept : (i : ℕ) → i < s.count → i ≢ at → t.queued i ≡ false → IsLinked s i → IsSettled prog_of s i → IsSettled prog_of t i
  settled_kept i lt ne rest linked is = record {
    follows =
        subst (λ (q : Key). Follows (prog_of q) (told_at t.key t.value (t.edges i)) (t.value i)) (sym (ch.key i lt))
        (subst (λ (v : Value). Follows (prog_of (s.key i)) (told_at t.key t.value (t.edges i)) v) (sym (ch.value i lt ne))
        (subst (λ (es : List ℕ). Follows (prog_of (s.key i)) (told_at t.key t.value es) (s.value i)) (sym (ch.edges i lt ne))
        (follows_on i lt ne rest linked (s.edges i) refl is.edges is.follows)));
    edges = subst (AllByRecursion (IsEdge t i)) (sym (ch.edges i lt ne)) (edges_kept i lt (s.edges i) is.edges);
  }

  linked_kept : (i : ℕ) → i < s.count → i ≢ at → IsLinked s i → IsLinked t i
  linked_kept i lt ne linked e has =
      let was = linked e (subst (λ (xs : List ℕ). Contains xs e) (ch.edges i lt ne) has) in
      (ch.grown e was.0, ch.readers e i was.0 ne was.1)

  node_kept : (i : ℕ) → i < s.count → i ≢ at → IsNode prog_of p s i → IsNode prog_of r t i
  node_kept i lt ne is = record {
    kind = rw (ch.key i lt, ch.value i lt ne) is.kind;
    linked = linked_kept i lt ne is.linked;
    input = rw (ch.key i lt, ch.value i lt ne) (λ low rest. inputs i lt ne low rest ∙ is.input low (ch.queued i lt ne rest));
    settled = λ above rest. settled_kept i lt ne rest is.linked (is.settled (subst (λ (q : Key). 0 < rank q) (ch.key i lt) above) (ch.queued i lt ne rest));
  }

-- a change keeps what holds, also in a project with other inputs whose places are queued, if it holds of the place
pub holds_changed_in : (prog_of : Key → Prog) (p r : Project) (s t : Places) (at : ℕ) → Changes prog_of s t at
    → ((i : ℕ) → i < s.count → i ≢ at → rank (s.key i) ≡ 0 → t.queued i ≡ false → input_of r (s.key i) ≡ input_of p (s.key i))
    → Holds prog_of p s
    → ((i j : ℕ) → i < t.count → j < t.count → t.key i ≡ t.key j → i ≡ j)
    → (at < t.count → IsNode prog_of r t at)
    → Holds prog_of r t
holds_changed_in prog_of p r s t at ch inputs holds apart here = record {
  apart = apart;
  each = λ i lt. elim (cases_eq i at) [
    | inl same ↦ subst (IsNode prog_of r t) (sym same) (here (subst (λ (x : ℕ). x < t.count) same lt))
    | inr other ↦ node_kept prog_of p r s t at ch holds.apart inputs i (ch.within i lt other) other (holds.each i (ch.within i lt other))
  ];
}

pub holds_changed : (prog_of : Key → Prog) (p : Project) (s t : Places) (at : ℕ) → Changes prog_of s t at
    → Holds prog_of p s
    → ((i j : ℕ) → i < t.count → j < t.count → t.key i ≡ t.key j → i ≡ j)
    → (at < t.count → IsNode prog_of p t at)
    → Holds prog_of p t
holds_changed prog_of p s t at ch holds apart here = holds_changed_in prog_of p p s t at ch (λ i lt ne low rest. refl) holds apart here
