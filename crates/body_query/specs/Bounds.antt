-- Numbers of places in four bytes: greater ones saturate.
use Rattle.std.specs.Prelude.{◌≡◌, ℕ, ◌-◌, ◌^◌, min, List, map}
use Rattle.mj_tree.specs.Trees.{Name}
use Rattle.mj_tree.specs.declared.place.Place.{Place}
use Rattle.mj_tree.specs.declared.place.Place.TheVariants.{File, ClassOf, Class, Field, Method, Inside}
use Rattle.mj_tree.specs.declared.place.Place.TheVariants as places
use Rattle.mj_answer.specs.declared.diagnostic.Diagnostic.{Diagnostic}
use Rattle.named_files.specs.Projects.{IsProject}
use Rattle.mj_rules.specs.Sentences.{classes_in}
use Rattle.mj_rules.specs.Worlds.{world_of}
use Rattle.mj_rules.specs.FaultLists.{inside}
use Rattle.recorder.specs.Projects.{Project}
use Rattle.query_rules.specs.Items.{body_at, mistakes_in}

abbrev pub bound : ℕ → ℕ
bound n = min n (2 ^ 32 - 1)

abbrev pub bounded_place : Place → Place
bounded_place (ClassOf file number) = ClassOf file (bound number)
bounded_place (Field number) = Field (bound number)
bounded_place (Method number) = Method (bound number)
bounded_place (Inside method token) = Inside method (bound token)
bounded_place places.Project = places.Project
bounded_place (File file) = File file
bounded_place Class = Class

abbrev pub bounded_fault : Diagnostic → Diagnostic
bounded_fault fault = record { place = bounded_place fault.place; code = fault.code }

abbrev pub bounded_faults : List Diagnostic → List Diagnostic
bounded_faults faults = map bounded_fault faults

-- the diagnostics in a body of a project
abbrev pub faults_at : Project → Name → Name → List Diagnostic
faults_at p c m = inside m (mistakes_in (world_of (classes_in p)) c (body_at p c m))

-- In a project the places of all of them fit into four bytes, and are left as they are.
abbrev pub BoundsLaw : Type 0
BoundsLaw =
    (p : Project) → IsProject p → (c m : Name)
    → bounded_faults (faults_at p c m) ≡ faults_at p c m
