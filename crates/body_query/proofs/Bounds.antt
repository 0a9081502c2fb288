-- Numbers of places that have four bytes are left as they are, and those of a project have.
use Rattle.std.proofs.Common.{◌≡◌, ℕ, ◌<◌, ◌^◌, List, [], ◌∷◌, refl, ap₂, arith}
use Rattle.mj_tree.specs.Trees.{Name}
use Rattle.mj_tree.specs.declared.place.Place.TheVariants.{Inside}
use Rattle.mj_phrases.specs.declared.verdict.Mistake.{Mistake}
use Rattle.mj_rules.specs.Sentences.{classes_in}
use Rattle.mj_rules.specs.Worlds.{world_of}
use Rattle.mj_rules.specs.FaultLists.{fault, inside}
use Rattle.query_rules.specs.Items.{body_at, mistakes_in}
use Rattle.body_query.specs.Bounds.{bound, bounded_faults, BoundsLaw}
use Rattle.body_query.proofs.Few.{Small, small_mistakes}

pub small : (n : ℕ) → bound n < 2 ^ 32
small n = omega arith

pub same_number : (n : ℕ) → n < 2 ^ 32 → bound n ≡ n
same_number n h = omega (arith, h)

-- a mistake in a body whose mark has four bytes
inside_same : (m : Name) (ms : List Mistake) → Small ms → bounded_faults (inside m ms) ≡ inside m ms
inside_same m [] h = refl
inside_same m (x ∷ xs) h = ap₂ (λ (n : ℕ) ds. fault (Inside m n) x.code ∷ ds) (same_number x.mark h.0) (inside_same m xs h.1)

pub bounds_law : BoundsLaw
bounds_law p project c m = inside_same m (mistakes_in (world_of (classes_in p)) c (body_at p c m)) (small_mistakes (world_of (classes_in p)) p c m)
