-- What the programs are tied to: in every profile and project the program of a kind gives the value
-- of the query and asks what it reads.
use Rattle.std.specs.Prelude.{List, ℕ}
use Rattle.item_ids.specs.declared.key.Key.TheVariants as keys
use Rattle.recorder.specs.Programs.{Ret}
use Rattle.query_rules.specs.Ties.{Ties}
use Rattle.member_queries.specs.Supers.{supers_steps}
use Rattle.member_queries.specs.Members.{members_steps}
use Rattle.member_queries.specs.Diags.{diags_steps}

abbrev pub SupersTies : Type 0
SupersTies = (c : List ℕ) → Ties (keys.Supers c) (supers_steps c Ret)

abbrev pub MembersTies : Type 0
MembersTies = (c : List ℕ) → Ties (keys.Members c) (members_steps c Ret)

abbrev pub DiagsTies : Type 0
DiagsTies = (c : List ℕ) → Ties (keys.Diags c) (diags_steps c Ret)
