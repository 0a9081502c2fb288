-- In a project the diagnostics that stand in no class have their places in four bytes.
use Rattle.std.proofs.Common.{◌≡◌, List, [], ◌∷◌, refl, ap, ap₂, subst}
use Rattle.mj_tree.specs.declared.place.Place.{Place}
use Rattle.mj_tree.specs.declared.place.Place.TheVariants.{File, ClassOf, Class, Field, Method, Inside}
use Rattle.mj_tree.specs.declared.place.Place.TheVariants as places
use Rattle.mj_answer.specs.declared.diagnostic.Diagnostic.{Diagnostic}
use Rattle.mj_rules.specs.FaultLists.{fault}
use Rattle.answer_bytes.specs.Storable.{IsProjectPlace, AreProjectFaults}
use Rattle.body_query.specs.Bounds.{bounded_place, bounded_faults}
use Rattle.body_query.proofs.Bounds.{same_number}
use Rattle.answer_queries.specs.Laws.{ProjectBounds}
use Rattle.answer_queries.proofs.ProjectFaults.{faults_same}
use Rattle.answer_queries.proofs.FileTrees.{read_files}
use Rattle.answer_queries.proofs.ProjectPlaces.{all_placed}

place_kept : (p : Place) → IsProjectPlace p → bounded_place p ≡ p
place_kept places.Project h = refl
place_kept (File f) h = refl
place_kept (ClassOf f n) h = ap (λ i. ClassOf f i) (same_number n h)
place_kept Class h = absurd h
place_kept (Field n) h = absurd h
place_kept (Method n) h = absurd h
place_kept (Inside m n) h = absurd h

faults_kept : (faults : List Diagnostic) → AreProjectFaults faults → bounded_faults faults ≡ faults
faults_kept [] h = refl
faults_kept (d ∷ ds) h = ap₂ (λ (p : Place) es. fault p d.code ∷ es) (place_kept d.place h.0) (faults_kept ds h.1)

pub project_bounds : ProjectBounds
project_bounds p project = subst (λ (faults : List Diagnostic). bounded_faults faults ≡ faults) (faults_same p) (faults_kept _ (all_placed (read_files p)))
