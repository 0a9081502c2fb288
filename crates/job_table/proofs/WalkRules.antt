-- Walks over previous edges, from a place on.
use Rattle.std.proofs.Common.{◌≡◌, ◌≢◌, ◌↔◌, ℕ, Bool, suc, ◌+◌, ◌<◌, List, ◌∷◌, map, drop, length, get_or, refl, sym, ap, ◌∙◌, true, false, Option, Some, bytes_eq, arith}
use Rattle.std.specs.Prelude.{if◌then◌else◌, IsTrue}
use Rattle.std.proofs.Math.Seq.{drop-cons}
use Rattle.std.proofs.lemmas.Slice.Eq.{bytes_eq-Decides}
use Rattle.profiles.specs.declared.profile.Profile.{Profile}
use Rattle.profiles.specs.declared.profile.Profile.TheVariants.{One, Two}
use Rattle.profiles.specs.Profiles.{same_profile}
use Rattle.item_ids.specs.declared.kind.Kind.{Kind}
use Rattle.item_ids.specs.declared.key.Key.{Key}
use Rattle.result_bytes.specs.declared.value.Value.{Value}
use Rattle.fingerprint.specs.Prints.{print_of}
use Rattle.sessions.specs.Sessions.{SessionValue, RecordValue, IsSession, key_at, past_entry}
use Rattle.sessions.proofs.EntryRules.{key_of_place}
use Rattle.graph_rules.specs.Pasts.{Past, print_in}
use Rattle.graph_rules.specs.Settings.{has_kind, crossing_kinds}
use Rattle.graph_rules.proofs.SettingRules.{crosses_is}
use Rattle.graph_rules.proofs.SessionRules.{print_of_place}
use Rattle.graph_rules.specs.Steps.{Status, Unknown, Claimed, Running, Done, State, IsDoneWith, IsNotDone, EdgeState, Open, Unchanged, Changed, edge_at, edge_of, Walk, AllUnchanged, OpenAt, ChangedAt, later, walk_on, walk}

-- a walk behind so many unchanged edges
abbrev pub behind : ℕ → Walk → Walk
behind i AllUnchanged = AllUnchanged
behind i (OpenAt j) = OpenAt (i + j)
behind i (ChangedAt j) = ChangedAt (i + j)

pub behind_none : (w : Walk) → behind 0 w ≡ w
behind_none AllUnchanged = refl
behind_none (OpenAt j) = let e : 0 + j ≡ j = omega arith in ap OpenAt e
behind_none (ChangedAt j) = let e : 0 + j ≡ j = omega arith in ap ChangedAt e

pub behind_later : (i : ℕ) (w : Walk) → behind i (later w) ≡ behind (i + 1) w
behind_later i AllUnchanged = refl
behind_later i (OpenAt j) = let e : i + (j + 1) ≡ i + 1 + j = omega arith in ap OpenAt e
behind_later i (ChangedAt j) = let e : i + (j + 1) ≡ i + 1 + j = omega arith in ap ChangedAt e

-- ---- one edge

pub edge_open : (print : Option (List ℕ)) (x : Status) → IsNotDone x → edge_at print x ≡ Open
edge_open print Unknown nd = refl
edge_open print (Claimed w) nd = refl
edge_open print (Running w) nd = refl
edge_open print (Done v es m) nd = absurd nd

pub edge_same : (print : List ℕ) (v : Value) (x : Status) → IsDoneWith v x → print ≡ print_of v → edge_at (Some print) x ≡ Unchanged
edge_same print v Unknown d e = absurd d
edge_same print v (Claimed w) d e = absurd d
edge_same print v (Running w) d e = absurd d
edge_same print v (Done u es m) d e =
    let same : print ≡ print_of u = e ∙ ap print_of (sym d) in
    ap (λ b. if b then Unchanged else Changed) ((bytes_eq-Decides print (print_of u)).1 same)

pub edge_other : (print : List ℕ) (v : Value) (x : Status) → IsDoneWith v x → print ≢ print_of v → edge_at (Some print) x ≡ Changed
edge_other print v Unknown d n = absurd d
edge_other print v (Claimed w) d n = absurd d
edge_other print v (Running w) d n = absurd d
edge_other print v (Done u es m) d n =
    (elim (bytes_eq print (print_of u)) as (λ b. bytes_eq print (print_of u) ≡ b → (if b then Unchanged else Changed) ≡ Changed) [
      | true ↦ λ is. absurd (n ((bytes_eq-Decides print (print_of u)).0 is ∙ ap print_of d))
      | false ↦ λ is. refl
    ]) refl

-- an edge that leads to a record, by what this record is
pub edge_with : (s : SessionValue) → IsSession s → (at : ℕ) (r : RecordValue) → at < length s.records → r ≡ get_or s.records at r → (status : Key → Status) (x : EdgeState)
    → edge_at (Some (print_of r.value)) (status r.key) ≡ x
    → x ≡ edge_at (print_in (past_entry (Some s)) (key_at s.records at)) (status (key_at s.records at))
edge_with s session at r lt is status x h =
    sym (
    ap (λ (print : Option (List ℕ)). edge_at print (status (key_at s.records at))) (print_of_place s session at r lt (sym is))
    ∙ (ap (λ (k : Key). edge_at (Some (print_of r.value)) (status k)) (key_of_place s at r lt (sym is)) ∙ h)
    )

-- ---- the walk over the edges from a place on

module _ (past : Past) (s : State) (key : ℕ → Key) (es : List ℕ) (i : ℕ) (lt : i < length es) (so_far : walk past s (map key es) ≡ behind i (walk past s (map key (drop i es)))) where
  here : drop i es ≡ get_or es i 0 ∷ drop (suc i) es
  here = drop-cons es i 0 lt

  at_place : (x : EdgeState) → edge_of past s (key (get_or es i 0)) ≡ x → walk past s (map key es) ≡ behind i (walk_on x (walk past s (map key (drop (suc i) es))))
  at_place x is = so_far ∙ (ap (λ xs. behind i (walk past s (map key xs))) here ∙ ap (λ y. behind i (walk_on y (walk past s (map key (drop (suc i) es))))) is)

  pub walk_opens : edge_of past s (key (get_or es i 0)) ≡ Open → walk past s (map key es) ≡ OpenAt i
  walk_opens is = let e : i + 0 ≡ i = omega arith in at_place Open is ∙ ap OpenAt e

  pub walk_changes : edge_of past s (key (get_or es i 0)) ≡ Changed → walk past s (map key es) ≡ ChangedAt i
  walk_changes is = let e : i + 0 ≡ i = omega arith in at_place Changed is ∙ ap ChangedAt e

  pub walk_goes_on : edge_of past s (key (get_or es i 0)) ≡ Unchanged → walk past s (map key es) ≡ behind (i + 1) (walk past s (map key (drop (i + 1) es)))
  walk_goes_on is =
      let e : suc i ≡ i + 1 = omega arith in
      at_place Unchanged is ∙ (behind_later i (walk past s (map key (drop (suc i) es))) ∙ ap (λ n. behind (i + 1) (walk past s (map key (drop n es)))) e)
