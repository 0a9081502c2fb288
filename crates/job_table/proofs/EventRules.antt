-- Stored events.
use Rattle.std.proofs.Common.{◌≡◌, List, [], ◌∷◌, ◌++◌, map, refl, ap}
use Rattle.graph_rules.specs.Steps.{Event}
use Rattle.job_table.specs.declared.event.Event.{Event as StoredEvent}
use Rattle.job_table.specs.Kept.{event_of}

pub events_last : {R : Type 0} (xs : List (StoredEvent R)) (x : StoredEvent R) → map event_of (xs ++ x ∷ []) ≡ map event_of xs ++ event_of x ∷ []
events_last [] x = refl
events_last (y ∷ xs) x = ap (λ (zs : List Event). event_of y ∷ zs) (events_last xs x)
