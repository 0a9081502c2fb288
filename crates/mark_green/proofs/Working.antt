-- The effect of walks over previous edges, and of what follows them.
use Rattle.std.proofs.Common.{◌≡◌, ℕ, zero, suc, refl, arith, ◌+◌, ◌<◌, List, [], ◌∷◌, map, length, get_or, sym, ap, ◌∙◌, subst, Bool, true, false, Option, Some, None}
use Rattle.std.specs.Prelude.{Result, Ok, Err}
use Rattle.std.specs.List.{AllByRecursion}
use Rattle.std.specs.declared.alloc.Global.{Global}
use Rattle.std.specs.declared.sync.Arc.{Arc}
use Rattle.std.specs.Arc.{arc_value}
use Rattle.item_ids.specs.declared.kind.Kind.{Kind}
use Rattle.item_ids.specs.declared.key.Key.{Key}
use Rattle.item_ids.specs.Keys.{kind_of}
use Rattle.item_ids.specs.KeyLists.{AreLower}
use Rattle.result_bytes.specs.declared.value.Value.{Value}
use Rattle.fingerprint.specs.Prints.{print_of}
use Rattle.sessions.specs.Sessions.{SessionValue, RecordValue, IsSession, AreInside, key_at, entry_at, past_entry, session_in}
use Rattle.sessions.proofs.EntryRules.{key_of_place}
use Rattle.graph_rules.specs.Steps.{Claimed, AllUnchanged, MayRun}
use Rattle.graph_rules.specs.Settings.{has_kind}
use Rattle.job_table.specs.Tables.{TableValue, past_of, state_of}
use Rattle.graph_rules.proofs.SettingRules.{kept_none}
use Rattle.job_table.proofs.CallRules.{walk_none}
use Rattle.job_table.specs.Calls.{AskGives, walk_in}
use Rattle.job_table.specs.declared.fault.Asked.{Asked}
use Rattle.job_table.specs.declared.fault.Asked.TheVariants as asked
use Rattle.job_table.specs.declared.fault.TableFault.{TableFault}
use Rattle.mark_green.specs.declared.fault.Fault.{Fault}
use Rattle.mark_green.specs.declared.fault.Fault.TheVariants as fault
use Rattle.mark_green.specs.declared.steps.Tried.{Tried}
use Rattle.mark_green.specs.declared.steps.Tried.TheVariants as tried
use Rattle.mark_green.specs.Leaves.{Knows, KnowsChange, GoesOn, WorkerGivesUp, HasStatus}
use Rattle.mark_green.specs.Ensures.{EnsureGives, WorkGives, EdgeGives, WalkGives, TryGives, walk_over, PastHasEdges, IsRecordUnder, IsWorkFault}
use Rattle.mark_green.proofs.GoingOn.{leaves_work, stands_on, change_map, change_then, change_here, change_with}
use Rattle.mark_green.proofs.Calling.{work_memory, ask_work, ask_done, ask_stopped, ask_busy, ask_refused}
use Rattle.mark_green.proofs.Turning.{Works, Starts}
use Rattle.mark_green.proofs.Walking.{Walked, walked_none, walked_more, walked_changed, walked_up, walked_all, edge_gives, walk_absent, walk_found}

-- ---- the edges that a session has

pub are_under : (s : SessionValue) (q : Key) (edges : List ℕ) → AreInside s.records edges → AreLower q (map (key_at s.records) edges) → AllByRecursion (IsRecordUnder s.records q) edges
are_under s q [] inside below = tt
are_under s q (e ∷ es) inside below = ((inside.0, below.0), are_under s q es inside.1 below.1)

under_at : (records : List RecordValue) (q : Key) (edges : List ℕ) (i : ℕ) → i < length edges → AllByRecursion (IsRecordUnder records q) edges → IsRecordUnder records q (get_or edges i 0)
under_at records q [] i lt all = absurd (omega arith)
under_at records q (e ∷ es) zero lt all = all.0
under_at records q (e ∷ es) (suc i) lt all = under_at records q es i (omega arith) all.1

-- ---- one edge

abbrev pub Ensured : ℕ → Key → Result (Arc Value Global) Fault → Option TableValue → Option TableValue → Type 0
Ensured w q r a b = KnowsChange (λ t u. EnsureGives t w q r u) a b

abbrev pub Edges : SessionValue → ℕ → Key → Result Bool Fault → Option TableValue → Option TableValue → Type 0
Edges s w e r a b = KnowsChange (λ t u. t.past ≡ Some s → EdgeGives t w e r u) a b

module _ (s : SessionValue) (session : IsSession s) (at : ℕ) (r : RecordValue) (lt : at < length s.records) (is : r ≡ get_or s.records at r) (w : ℕ) (a b : Option TableValue) where
  pub edge_ok : (v : Arc Value Global) (same : Bool) → (same ≡ true → print_of r.value ≡ print_of (arc_value v)) → (print_of r.value ≡ print_of (arc_value v) → same ≡ true) → Ensured w r.key (Ok v) a b → Edges s w (key_at s.records at) (Ok same) a b
  edge_ok v same to from h = change_map _ _ (λ t u e has. edge_gives s session at r lt is w v same to from t u has e) a b h

  pub edge_up : (f : Fault) → Ensured w r.key (Err f) a b → Edges s w (key_at s.records at) (Err f) a b
  edge_up f h = change_map _ _ (λ t u e has. subst (λ (k : Key). EnsureGives t w k (Err f) u) (sym (key_of_place s at r lt (sym is))) e) a b h

-- ---- edges, one after the other

abbrev pub Walks : SessionValue → ℕ → Key → List ℕ → Result Bool Fault → Option TableValue → Option TableValue → Type 0
Walks s w q edges r a b = KnowsChange (λ t u. t.past ≡ Some s → HasStatus (Claimed w) w q t → WalkGives t w (map (key_at s.records) edges) r u) a b

-- so far the first i edges are unchanged
abbrev pub SoFar : SessionValue → ℕ → Key → List ℕ → ℕ → Option TableValue → Option TableValue → Type 0
SoFar s w q edges i a b = KnowsChange (λ t u. t.past ≡ Some s → HasStatus (Claimed w) w q t → Walked s.records edges i t u) a b

module _ (s : SessionValue) (w : ℕ) (q : Key) (edges : List ℕ) where
  pub far_none : (a : Option TableValue) → SoFar s w q edges 0 a a
  far_none a = change_here _ (λ t has st. walked_none s.records edges t) a

  module _ (i : ℕ) (a b : Option TableValue) (so : SoFar s w q edges i a b) where
    pub far_all : i ≡ length edges → Walks s w q edges (Ok true) a b
    far_all end = change_map _ _ (λ t u h has st. walked_all s.records edges i w q end t u (h has) st) a b so

    module _ (lt : i < length edges) (c : Option TableValue) where
      pub far_more : Edges s w (key_at s.records (get_or edges i 0)) (Ok true) b c → SoFar s w q edges (i + 1) a c
      far_more e = change_then _ _ _ (λ t u v h f has st. walked_more s.records edges i w q lt t u v (h has) (f ((h has st).0.goes_on.past ∙ has)) st) a b c so e

      pub far_changed : Edges s w (key_at s.records (get_or edges i 0)) (Ok false) b c → Walks s w q edges (Ok false) a c
      far_changed e = change_then _ _ _ (λ t u v h f has st. walked_changed s.records edges i w q lt t u v (h has) (f ((h has st).0.goes_on.past ∙ has)) st) a b c so e

      pub far_up : (f : Fault) → AllByRecursion (IsRecordUnder s.records q) edges → Edges s w (key_at s.records (get_or edges i 0)) (Err f) b c → Walks s w q edges (Err f) a c
      far_up f all e = let under = under_at s.records q edges i lt all in change_then _ _ _ (λ t u v h g has st. walked_up s.records edges i w q f (key_at s.records (get_or edges i 0)) under.1 t u v (h has) (g ((h has st).0.goes_on.past ∙ has)) st) a b c so e

-- ---- a key over its previous session

abbrev pub Overs : Option SessionValue → ℕ → Key → Result (Arc Value Global) Fault → Option TableValue → Option TableValue → Type 0
Overs past w q r a b = KnowsChange (λ t u. past ≡ t.past → HasStatus (Claimed w) w q t → WorkGives t w q r u) a b

-- the same of one that may be taken over
abbrev pub OverEdges : Option SessionValue → ℕ → Key → Result (Arc Value Global) Fault → Option TableValue → Option TableValue → Type 0
OverEdges past w q r a b = KnowsChange (λ t u. past ≡ t.past → has_kind t.crossing (kind_of q) ≡ false → HasStatus (Claimed w) w q t → WorkGives t w q r u) a b

first_walk : (t : TableValue) (q : Key) → t.past ≡ None → walk_in t q ≡ None
first_walk t q none = walk_none (past_of t) (state_of t) q (kept_none (past_of t) q (ap (λ (o : Option SessionValue). past_entry o q) none))

module _ (w : ℕ) (q : Key) (r : Result (Arc Value Global) Fault) where
  pub over_none : (a b : Option TableValue) → Starts w q r a b → OverEdges None w q r a b
  over_none a b h = change_map _ _ (λ t u go has stays st. go st (subst MayRun (sym (first_walk t q (sym has))) tt)) a b h

  module _ (s : SessionValue) where
    pub over_absent : entry_at s q ≡ None → (a b : Option TableValue) → Starts w q r a b → OverEdges (Some s) w q r a b
    over_absent none a b h = change_map _ _ (λ t u go has stays st. go st (subst MayRun (sym (walk_absent s q t (sym has) none)) tt)) a b h

    module _ (edges : List ℕ) (found : PastHasEdges s q edges) (a b c : Option TableValue) where
      walk_is : (t u : TableValue) → Some s ≡ t.past → has_kind t.crossing (kind_of q) ≡ false → GoesOn t u → walk_in u q ≡ Some (walk_over u (map (key_at s.records) edges))
      walk_is t u has stays g = walk_found s q u (g.past ∙ sym has) (ap (λ (ks : List Kind). has_kind ks (kind_of q)) g.crossing ∙ stays) edges found

      pub over_marked : Walks s w q edges (Ok true) a b → KnowsChange (λ t u. HasStatus (Claimed w) w q t → walk_in t q ≡ Some AllUnchanged → WorkGives t w q r u) b c → OverEdges (Some s) w q r a c
      over_marked walks marks = change_then _ _ _ (λ t u v h m has stays st. (
          let l = h (sym has) st in
          leaves_work t u v w q r l.0 (m (stands_on (Claimed w) w q t u l.0 st) (walk_is t u has stays l.0.goes_on ∙ ap Some l.1))
          )) a b c walks marks

      pub over_run : Walks s w q edges (Ok false) a b → Starts w q r b c → OverEdges (Some s) w q r a c
      over_run walks starts = change_then _ _ _ (λ t u v h m has stays st. (
          let l = h (sym has) st in
          leaves_work t u v w q r l.0 (m (stands_on (Claimed w) w q t u l.0 st) (subst MayRun (sym (walk_is t u has stays l.0.goes_on)) l.1))
          )) a b c walks starts

-- the same, of the previous session as a table hands it out
module _ (w : ℕ) (q : Key) (r : Result (Arc Value Global) Fault) (past : Option (Arc SessionValue Global)) (p : Arc SessionValue Global) (is : past ≡ Some p) where
  module _ (s z : SessionValue) (s_is : s ≡ arc_value p) (z_is : z ≡ arc_value p) (edges : List ℕ) (found : PastHasEdges s q edges) (x : Result Bool Fault) (a b c : Option TableValue) (walks : Walks z w q edges x a b) where
    there : PastHasEdges z q edges
    there = subst (λ (y : SessionValue). PastHasEdges y q edges) (s_is ∙ sym z_is) found

    of_past : OverEdges (Some z) w q r a c → OverEdges (session_in past) w q r a c
    of_past h = subst (λ (o : Option SessionValue). OverEdges o w q r a c) (ap Some z_is ∙ sym (ap session_in is)) h

    pub over_marked_at : x ≡ Ok true → KnowsChange (λ t u. HasStatus (Claimed w) w q t → walk_in t q ≡ Some AllUnchanged → WorkGives t w q r u) b c → OverEdges (session_in past) w q r a c
    over_marked_at x_is marks = of_past (over_marked w q r z edges there a b c (subst (λ (y : Result Bool Fault). Walks z w q edges y a b) x_is walks) marks)

    pub over_run_at : x ≡ Ok false → Starts w q r b c → OverEdges (session_in past) w q r a c
    over_run_at x_is starts = of_past (over_run w q r z edges there a b c (subst (λ (y : Result Bool Fault). Walks z w q edges y a b) x_is walks) starts)

pub over_up : (w : ℕ) (q : Key) (s : SessionValue) (edges : List ℕ) (f : Fault) (a b : Option TableValue) → Walks s w q edges (Err f) a b → OverEdges (Some s) w q (Err f) a b
over_up w q s edges f a b h = change_map _ _ (λ t u go has stays st. (let e = go (sym has) st in (e.0, λ k a n is. e.1 k a is))) a b h

pub over_up_at : (w : ℕ) (q : Key) (past : Option (Arc SessionValue Global)) (p : Arc SessionValue Global) → past ≡ Some p → (z : SessionValue) → z ≡ arc_value p → (edges : List ℕ) (x : Result Bool Fault) (f : Fault) → x ≡ Err f → (a b : Option TableValue) → Walks z w q edges x a b → OverEdges (session_in past) w q (Err f) a b
over_up_at w q past p is z z_is edges x f x_is a b walks =
    subst (λ (o : Option SessionValue). OverEdges o w q (Err f) a b) (ap Some z_is ∙ sym (ap session_in is))
    (over_up w q z edges f a b (subst (λ (y : Result Bool Fault). Walks z w q edges y a b) x_is walks))

-- ---- a key that may be marked at once

abbrev pub Tries : ℕ → Key → Option SessionValue → Result Tried Fault → Option TableValue → Option TableValue → Type 0
Tries w q past r a b = KnowsChange (λ t u. past ≡ t.past → HasStatus (Claimed w) w q t → TryGives t w q r u) a b

module _ (w : ℕ) (q : Key) (past : Option SessionValue) where
  -- nothing is changed, and nothing may be taken over from no previous session
  pub tries_none : past ≡ None → (a : Option TableValue) → Tries w q past (Ok tried.Runs) a a
  tries_none none a = change_here _ (λ t has st. (refl, first_walk t q (sym has ∙ none))) a

  pub over_once : (v : Arc Value Global) (a b : Option TableValue) → Tries w q past (Ok (tried.Marked v)) a b → Overs past w q (Ok v) a b
  over_once v a b h = change_map _ _ (λ t u go has st. go has st) a b h

  pub over_once_up : (f : Fault) (a b : Option TableValue) → Tries w q past (Err f) a b → Overs past w q (Err f) a b
  over_once_up f a b h = change_map _ _ (λ t u go has st. go has st) a b h

  later : (r : Result (Arc Value Global) Fault) (t u v : TableValue) → (u ≡ t) × (has_kind t.crossing (kind_of q) ≡ false)
      → (past ≡ u.past → has_kind u.crossing (kind_of q) ≡ false → HasStatus (Claimed w) w q u → WorkGives u w q r v) → past ≡ t.past → HasStatus (Claimed w) w q t → WorkGives t w q r v
  later r t u v h go has st =
      subst (λ (y : TableValue). past ≡ y.past → has_kind y.crossing (kind_of q) ≡ false → HasStatus (Claimed w) w q y → WorkGives y w q r v) h.0 go has h.1 st

  pub over_later : (r : Result (Arc Value Global) Fault) (a b c : Option TableValue) → Tries w q past (Ok tried.ByEdges) a b → OverEdges past w q r b c → Overs past w q r a c
  over_later r a b c h o = change_then _ _ _ (λ t u v same go has st. later r t u v (same has st) go has st) a b c h o

  runs : (r : Result (Arc Value Global) Fault) (t u v : TableValue) → (u ≡ t) × (walk_in t q ≡ None) → (HasStatus (Claimed w) w q u → MayRun (walk_in u q) → WorkGives u w q r v) → HasStatus (Claimed w) w q t → WorkGives t w q r v
  runs r t u v h go st =
      subst (λ (y : TableValue). HasStatus (Claimed w) w q y → MayRun (walk_in y q) → WorkGives y w q r v) h.0 go st (subst MayRun (sym h.1) tt)

  pub over_runs : (r : Result (Arc Value Global) Fault) (a b c : Option TableValue) → Tries w q past (Ok tried.Runs) a b → Starts w q r b c → Overs past w q r a c
  over_runs r a b c h o = change_then _ _ _ (λ t u v same go has st. runs r t u v (same has st) go st) a b c h o

-- ---- a claimed key

pub work_over_past : (w : ℕ) (q : Key) (r : Result (Arc Value Global) Fault) (past : Option SessionValue) (a b : Option TableValue) → Knows (λ t. past ≡ t.past) a → Overs past w q r a b → Works w q r a b
work_over_past w q r past a b has h = change_with _ _ _ (λ t u is go st. go is st) a b has h

pub work_lost_past : (w : ℕ) (q : Key) (g : Fault) → g ≡ fault.OutOfMemory → (a b : Option TableValue) → KnowsChange WorkerGivesUp a b → Works w q (Err g) a b
work_lost_past w q g is a b s = change_map _ _ (work_memory w q g is) a b s

-- ---- any key

abbrev pub Asks : ℕ → Key → Result Asked TableFault → Option TableValue → Option TableValue → Type 0
Asks w q r a b = KnowsChange (λ t u. AskGives t w q r u) a b

module _ (w : ℕ) (q : Key) (a b : Option TableValue) where
  pub ensured_done : (v : Arc Value Global) → KnowsChange (λ t u. AskGives t w q (Ok (asked.Done v)) u) a b → Ensured w q (Ok v) a b
  ensured_done v h = change_map _ _ (ask_done w q v) a b h

  pub ensured_busy : KnowsChange (λ t u. AskGives t w q (Ok asked.Busy) u) a b → Ensured w q (Err fault.Busy) a b
  ensured_busy h = change_map _ _ (ask_busy w q) a b h

  pub ensured_stopped : KnowsChange (λ t u. AskGives t w q (Ok asked.Stopped) u) a b → Ensured w q (Err fault.Stopped) a b
  ensured_stopped h = change_map _ _ (ask_stopped w q) a b h

  pub ensured_work : (c : Option TableValue) (r : Result (Arc Value Global) Fault) → KnowsChange (λ t u. AskGives t w q (Ok asked.Yours) u) a b → Works w q r b c → Ensured w q r a c
  ensured_work c r h works = change_then _ _ _ (ask_work w q r) a b c h works

  pub ensured_refused : (c : Option TableValue) (f : TableFault) (g : Fault) → IsWorkFault f g → KnowsChange (λ t u. AskGives t w q (Err f) u) a b → KnowsChange WorkerGivesUp b c → Ensured w q (Err g) a c
  ensured_refused c f g is h s = change_then _ _ _ (ask_refused w q f g is) a b c h s
