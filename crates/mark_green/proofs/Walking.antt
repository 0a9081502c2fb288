-- Walks over previous edges, while keys become done.
use Rattle.std.proofs.Common.{◌≡◌, ℕ, suc, ◌+◌, ◌<◌, List, [], ◌∷◌, ◌++◌, map, take, drop, length, get_or, refl, sym, ap, ◌∙◌, subst, Bool, true, false, Option, Some, None, arith}
use Rattle.std.specs.Prelude.{Ok, Err}
use Rattle.std.specs.declared.alloc.Global.{Global}
use Rattle.std.specs.declared.sync.Arc.{Arc}
use Rattle.std.specs.Arc.{arc_value}
use Rattle.std.proofs.lemmas.List.{take_more, take_all, take-append-drop, map-append}
use Rattle.std.proofs.Math.Seq.{drop-cons}
use Rattle.std.proofs.lemmas.Bool.{false≢true}
use Rattle.item_ids.specs.declared.key.Key.{Key}
use Rattle.item_ids.specs.Keys.{kind_of}
use Rattle.item_ids.specs.Inputs.{rank}
use Rattle.result_bytes.specs.declared.value.Value.{Value}
use Rattle.fingerprint.specs.Prints.{print_of}
use Rattle.sessions.specs.Sessions.{SessionValue, RecordValue, IsSession, key_at, entry_at, past_entry}
use Rattle.graph_rules.specs.Pasts.{Past}
use Rattle.graph_rules.specs.Settings.{has_kind}
use Rattle.graph_rules.specs.Steps.{State, Claimed, EdgeState, Open, Unchanged, Changed, edge_at, edge_of, Walk, AllUnchanged, OpenAt, ChangedAt, later, walk_on, walk, MayRun}
use Rattle.graph_rules.proofs.Keeping.{walk_keeps}
use Rattle.job_table.specs.Tables.{TableValue, past_of, state_of}
use Rattle.job_table.specs.Calls.{walk_in}
use Rattle.job_table.proofs.WalkRules.{edge_with, edge_same, edge_other}
use Rattle.graph_rules.proofs.SettingRules.{kept_none, kept_some}
use Rattle.job_table.proofs.CallRules.{walk_none, walk_some}
use Rattle.mark_green.specs.declared.fault.Fault.{Fault}
use Rattle.mark_green.specs.Leaves.{GoesOn, LeavesClaims, HasStatus}
use Rattle.mark_green.specs.Ensures.{EnsureGives, EdgeGives, WalkGives, walk_over, PastHasEdges}
use Rattle.mark_green.specs.Moves.{keeps_on}
use Rattle.mark_green.proofs.GoingOn.{leaves_none, leaves_then, leaves_gives_up, stands_on}
use Rattle.mark_green.proofs.Calling.{edge_gives_up}

-- ---- walks that end so far without a change

module _ (past : Past) (s : State) where
  pub walk_last : (xs : List Key) (e : Key) → walk past s xs ≡ AllUnchanged → edge_of past s e ≡ Unchanged → walk past s (xs ++ e ∷ []) ≡ AllUnchanged
  walk_last [] e all is = ap (λ (x : EdgeState). walk_on x AllUnchanged) is
  walk_last (x ∷ xs) e all is = more (edge_of past s x) (walk past s xs) (walk past s (xs ++ e ∷ [])) all (λ h. walk_last xs e h is)
    where
      more : (x : EdgeState) (a b : Walk) → walk_on x a ≡ AllUnchanged → (a ≡ AllUnchanged → b ≡ AllUnchanged) → walk_on x b ≡ AllUnchanged
      more Open a b h f = absurd (cc)
      more Changed a b h f = absurd (cc)
      more Unchanged AllUnchanged b h f = ap later (f refl)
      more Unchanged (OpenAt i) b h f = absurd (cc)
      more Unchanged (ChangedAt i) b h f = absurd (cc)

  pub walk_ends : (xs : List Key) (e : Key) (ys : List Key) → walk past s xs ≡ AllUnchanged → edge_of past s e ≡ Changed → MayRun (Some (walk past s (xs ++ e ∷ ys)))
  walk_ends [] e ys all is = subst (λ (x : EdgeState). MayRun (Some (walk_on x (walk past s ys)))) (sym is) tt
  walk_ends (x ∷ xs) e ys all is = more (edge_of past s x) (walk past s xs) (walk past s (xs ++ e ∷ ys)) all (λ h. walk_ends xs e ys h is)
    where
      more : (x : EdgeState) (a b : Walk) → walk_on x a ≡ AllUnchanged → (a ≡ AllUnchanged → MayRun (Some b)) → MayRun (Some (walk_on x b))
      more Open a b h f = absurd (cc)
      more Changed a b h f = absurd (cc)
      more Unchanged AllUnchanged b h f = later_may b (f refl)
        where
          later_may : (b : Walk) → MayRun (Some b) → MayRun (Some (later b))
          later_may AllUnchanged m = m
          later_may (OpenAt i) m = m
          later_may (ChangedAt i) m = tt
      more Unchanged (OpenAt i) b h f = absurd (cc)
      more Unchanged (ChangedAt i) b h f = absurd (cc)

pub walk_stays : (t u : TableValue) (es : List Key) → GoesOn t u → walk_over t es ≡ AllUnchanged → walk_over u es ≡ AllUnchanged
walk_stays t u es g all =
    ap (λ (o : Option SessionValue). walk (past_entry o) (state_of u) es) g.past
    ∙ (walk_keeps (past_entry t.past) (state_of t) (state_of u) (keeps_on t u g) es (rw all tt) ∙ all)

-- ---- the first edges

abbrev pub front_of : List RecordValue → ℕ → List ℕ → List Key
front_of records i edges = map (key_at records) (take i edges)

module _ (records : List RecordValue) (edges : List ℕ) (i : ℕ) (lt : i < length edges) where
  pub front_more : front_of records (i + 1) edges ≡ front_of records i edges ++ key_at records (get_or edges i 0) ∷ []
  front_more = ap (map (key_at records)) (take_more edges i 0 lt) ∙ map-append (key_at records) (take i edges) (get_or edges i 0 ∷ [])

  pub front_rest : map (key_at records) edges ≡ front_of records i edges ++ key_at records (get_or edges i 0) ∷ map (key_at records) (drop (suc i) edges)
  front_rest =
      ap (map (key_at records)) (sym (take-append-drop i edges) ∙ ap (λ xs. take i edges ++ xs) (drop-cons edges i 0 lt))
      ∙ map-append (key_at records) (take i edges) (get_or edges i 0 ∷ drop (suc i) edges)

-- the first i edges are evaluated and unchanged
abbrev pub Walked : List RecordValue → List ℕ → ℕ → TableValue → TableValue → Type 0
Walked records edges i t u = LeavesClaims t u × (walk_over u (front_of records i edges) ≡ AllUnchanged)

pub walked_none : (records : List RecordValue) (edges : List ℕ) (t : TableValue) → Walked records edges 0 t t
walked_none records edges t = (leaves_none t, refl)

module _ (records : List RecordValue) (edges : List ℕ) (i w : ℕ) (q : Key) where
  pub walked_more : i < length edges → (t u v : TableValue) → (HasStatus (Claimed w) w q t → Walked records edges i t u) → EdgeGives u w (key_at records (get_or edges i 0)) (Ok true) v → HasStatus (Claimed w) w q t → Walked records edges (i + 1) t v
  walked_more lt t u v so e st =
      let before = so st in (
        leaves_then t u v before.0 e.0,
        subst (λ (xs : List Key). walk_over v xs ≡ AllUnchanged) (sym (front_more records edges i lt))
            (walk_last (past_entry v.past) (state_of v) (front_of records i edges) (key_at records (get_or edges i 0)) (walk_stays u v (front_of records i edges) e.0.goes_on before.1) e.1),
      )

  pub walked_changed : i < length edges → (t u v : TableValue) → (HasStatus (Claimed w) w q t → Walked records edges i t u) → EdgeGives u w (key_at records (get_or edges i 0)) (Ok false) v → HasStatus (Claimed w) w q t → WalkGives t w (map (key_at records) edges) (Ok false) v
  walked_changed lt t u v so e st =
      let before = so st in (
        leaves_then t u v before.0 e.0,
        subst (λ (xs : List Key). MayRun (Some (walk_over v xs))) (sym (front_rest records edges i lt))
            (walk_ends (past_entry v.past) (state_of v) (front_of records i edges) (key_at records (get_or edges i 0)) (map (key_at records) (drop (suc i) edges)) (walk_stays u v (front_of records i edges) e.0.goes_on before.1) e.1),
      )

  pub walked_up : (f : Fault) (e : Key) → rank e < rank q → (t u v : TableValue) → (HasStatus (Claimed w) w q t → Walked records edges i t u) → EdgeGives u w e (Err f) v → HasStatus (Claimed w) w q t → WalkGives t w (map (key_at records) edges) (Err f) v
  walked_up f e lt t u v so g st =
      let before = so st in
      leaves_gives_up t u v w f before.0 (edge_gives_up (Claimed w) w q e f u v (stands_on (Claimed w) w q t u before.0 st) lt g)

  pub walked_all : i ≡ length edges → (t u : TableValue) → (HasStatus (Claimed w) w q t → Walked records edges i t u) → HasStatus (Claimed w) w q t → WalkGives t w (map (key_at records) edges) (Ok true) u
  walked_all end t u so st =
      let before = so st in
      let whole : take i edges ≡ edges = take_all i edges (omega arith) in
      (before.0, subst (λ (xs : List ℕ). walk_over u (map (key_at records) xs) ≡ AllUnchanged) whole before.1)

-- ---- one edge

module _ (s : SessionValue) (session : IsSession s) (at : ℕ) (r : RecordValue) (lt : at < length s.records) (is : r ≡ get_or s.records at r) (w : ℕ) (v : Arc Value Global) where
  edge_in : (u : TableValue) → u.past ≡ Some s → (x : EdgeState) → edge_at (Some (print_of r.value)) ((state_of u).at r.key) ≡ x → edge_of (past_entry u.past) (state_of u) (key_at s.records at) ≡ x
  edge_in u has x e =
      ap (λ (o : Option SessionValue). edge_of (past_entry o) (state_of u) (key_at s.records at)) has
      ∙ sym (edge_with s session at r lt is (state_of u).at x e)

  pub edge_gives : (b : Bool) → (b ≡ true → print_of r.value ≡ print_of (arc_value v)) → (print_of r.value ≡ print_of (arc_value v) → b ≡ true) → (t u : TableValue) → t.past ≡ Some s → EnsureGives t w r.key (Ok v) u → EdgeGives t w (key_at s.records at) (Ok b) u
  edge_gives true same other t u has e = (e.0, edge_in u (e.0.goes_on.past ∙ has) Unchanged (edge_same (print_of r.value) (arc_value v) ((state_of u).at r.key) e.1 (same refl)))
  edge_gives false same other t u has e = (e.0, edge_in u (e.0.goes_on.past ∙ has) Changed (edge_other (print_of r.value) (arc_value v) ((state_of u).at r.key) e.1 (λ p. false≢true (other p))))

-- ---- all edges of a key

module _ (s : SessionValue) (q : Key) (t : TableValue) (has : t.past ≡ Some s) where
  pub walk_absent : entry_at s q ≡ None → walk_in t q ≡ None
  walk_absent none = walk_none (past_of t) (state_of t) q (kept_none (past_of t) q (ap (λ (o : Option SessionValue). past_entry o q) has ∙ none))

  pub walk_found : has_kind t.crossing (kind_of q) ≡ false → (edges : List ℕ) → PastHasEdges s q edges → walk_in t q ≡ Some (walk_over t (map (key_at s.records) edges))
  walk_found no_crossing edges h =
      walk_some (past_of t) (state_of t) q h.0 (walk_over t h.0.reads) (kept_some (past_of t) q h.0 no_crossing (ap (λ (o : Option SessionValue). past_entry o q) has ∙ h.1)) refl
      ∙ ap (λ (es : List Key). Some (walk_over t es)) h.2
