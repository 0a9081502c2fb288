-- The queries of MiniJava: which kinds go by the profile, and what keys mean and read in each.
use Rattle.std.specs.Prelude.{Bool, true, false}
use Rattle.item_ids.specs.declared.kind.Kind.{Kind}
use Rattle.item_ids.specs.declared.kind.Kind.TheVariants.{CheckClass}
use Rattle.recorder.specs.Backed.{Queries}
use Rattle.query_rules.specs.Meaning.{mean}
use Rattle.query_rules.specs.Reads.{reads}

-- the check of a class's declarations alone goes by the profile
abbrev pub is_by_profile : Kind → Bool
is_by_profile CheckClass = true
is_by_profile _ = false

abbrev pub queries : Queries
queries = record { by_profile = is_by_profile; mean = mean; reads = reads }
