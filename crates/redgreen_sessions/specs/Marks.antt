-- What a mark names of the previous session.
use Rattle.std.specs.Prelude.{ℕ, Option, Some}
use Rattle.redgreen_sessions.specs.declared.record.Mark.{Mark}
use Rattle.redgreen_sessions.specs.declared.record.Mark.TheVariants.{Input, Green, Executed}

abbrev pub previous_of : Mark → Option ℕ
previous_of (Input previous) = previous
previous_of (Green place) = Some place
previous_of (Executed previous) = previous
