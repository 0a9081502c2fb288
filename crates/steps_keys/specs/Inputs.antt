-- Which keys are inputs: Files and the sources. They are the keys of rank 0; every other key has a rank above 0.
use Rattle.std.specs.Prelude.{◌≡◌, ℕ, ◌<◌, Bool, true, false, List}
use Rattle.std.proofs.Common.{refl, arith}
use Rattle.steps_keys.specs.declared.kind.Kind.{Kind}
use Rattle.steps_keys.specs.declared.kind.Kind.TheVariants as kinds
use Rattle.steps_keys.specs.declared.key.Key.{Key}
use Rattle.steps_keys.specs.declared.key.Key.TheVariants.{Files, Source}
use Rattle.steps_keys.specs.Kinds.{rank_of}
use Rattle.steps_keys.specs.Keys.{kind_of}

abbrev pub rank : Key → ℕ
rank key = rank_of (kind_of key)

-- whether keys of the kind are inputs, which no query computes
abbrev pub is_input : Kind → Bool
is_input kinds.Files = true
is_input kinds.Source = true
is_input _ = false

-- what goes by inputs: one thing for Files, one for each source, and one for every other key
abbrev pub by_input : {X : Type 0} → X → (List ℕ → X) → X → Key → X
by_input of_files of_source other Files = of_files
by_input of_files of_source other (Source file) = of_source file
by_input of_files of_source other _ = other

-- a key that is no input: a query computes its result
pub record IsComputed (key : Key) : Type 0 where
  pub kind : is_input (kind_of key) ≡ false
  pub above : 0 < rank key

-- what a key can be
pub data Origin : Key → Type 0 where
  files : Origin Files
  source : (file : List ℕ) → Origin (Source file)
  computed : (key : Key) → IsComputed key → Origin key

pub origin : (key : Key) → Origin key
origin Files = files
origin (Source file) = source file
origin key = computed key (record { kind = refl; above = omega arith })

pub by_computed : {X : Type 0} (of_files : X) (of_source : List ℕ → X) (other : X) (key : Key) → IsComputed key
    → by_input of_files of_source other key ≡ other
by_computed a f b Files is = absurd (let kind = is.kind in cc)
by_computed a f b (Source file) is = absurd (let kind = is.kind in cc)
by_computed a f b _ is = refl
