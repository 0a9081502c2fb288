-- Logs that grow.
use Rattle.std.proofs.Common.{◌≡◌, ◌⊎◌, inl, inr, ℕ, ◌+◌, Result, Ok, Err, List, [], ◌∷◌, ◌++◌, map, take, drop, slice_get, Some, refl, sym, ap, ◌∙◌, subst, append_assoc, append-nil}
use Rattle.std.proofs.lemmas.List.{map-append, take-append-drop}
use Rattle.std.proofs.lemmas.Grind.{flat_map-append}
use Rattle.item_ids.specs.declared.key.Key.{Key}
use Rattle.recorder.specs.Runs.{Logs}
use Rattle.sessions.specs.Sessions.{SessionValue}
use Rattle.audit_replay.specs.Logs.{executed_keys, all_executed_keys, GrowsWithin}
use Rattle.audit_replay.proofs.Lists.{take_there}

-- one more key
pub log_more : (key : ℕ → Key) (plan : List ℕ) (j n : ℕ) (old now new : List Key) → slice_get plan j ≡ Some n → now ≡ old ++ map key (take j plan) → new ≡ now ++ key n ∷ []
    → new ≡ old ++ map key (take (j + 1) plan)
log_more key plan j n old now new here so_far grown =
    grown ∙ (ap (λ ks. ks ++ key n ∷ []) so_far
    ∙ (append_assoc old (map key (take j plan)) (key n ∷ [])
    ∙ ap (λ ks. old ++ ks) (sym (map-append key (take j plan) (n ∷ [])) ∙ ap (map key) (sym (take_there plan j n here)))))

-- a beginning of the keys
pub log_within : (key : ℕ → Key) (plan : List ℕ) (j : ℕ) (old new : List Key) → new ≡ old ++ map key (take j plan) → GrowsWithin (map key plan) old new
log_within key plan j old new so_far = record {
  front = map key (take j plan);
  grown = so_far;
  begins = (map key (drop j plan), sym (map-append key (take j plan) (drop j plan)) ∙ ap (map key) (take-append-drop j plan));
}

pub log_none : (all old new : List Key) → new ≡ old → GrowsWithin all old new
log_none all old new same = record { front = []; grown = same ∙ sym (append-nil old); begins = (all, refl) }

-- the keys of one more session
pub executed_more : (ss : List SessionValue) (s : SessionValue) → all_executed_keys (ss ++ s ∷ []) ≡ all_executed_keys ss ++ executed_keys s
executed_more ss s = flat_map-append executed_keys ss (s ∷ []) ∙ ap (λ ks. all_executed_keys ss ++ ks) (append-nil (executed_keys s))

-- ---- a run's log

pub logs_either : (X Y : Type 0) (key k : Key) (old new : List Key) → k ≡ key → Logs k old new ⊎ (X × (new ≡ old) × Y) → Logs key old new ⊎ (new ≡ old)
logs_either X Y key k old new e (inl l) = inl (subst (λ q. Logs q old new) e l)
logs_either X Y key k old new e (inr r) = inr r.1

pub logs_ok : {A E : Type 0} (Y : Type 0) (o : A) (f : E) (r : Result A E) → r ≡ Ok o → (key k : Key) (old new : List Key) → k ≡ key → Logs k old new ⊎ ((r ≡ Err f) × (new ≡ old) × Y) → Logs key old new
logs_ok Y o f r is key k old new e (inl l) = subst (λ q. Logs q old new) e l
logs_ok Y o f r is key k old new e (inr x) = absurd (let h : Ok o ≡ Err f = sym is ∙ x.0 in cc)

-- a run of one more of the plan, or not
pub log_refused : (key : ℕ → Key) (all plan : List ℕ) → plan ≡ all → (j n : ℕ) (old now new : List Key) → slice_get plan j ≡ Some n → now ≡ old ++ map key (take j plan)
    → Logs (key n) now new ⊎ (new ≡ now) → GrowsWithin (map key all) old new
log_refused key all plan is j n old now new here so_far (inl l) =
    subst (λ (ns : List ℕ). GrowsWithin (map key ns) old new) is (log_within key plan (j + 1) old new (log_more key plan j n old now new here so_far l))
log_refused key all plan is j n old now new here so_far (inr e) =
    subst (λ (ns : List ℕ). GrowsWithin (map key ns) old new) is (log_within key plan j old new (e ∙ so_far))
