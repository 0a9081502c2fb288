-- The fields and the methods along a chain while their tables are built.
use Rattle.std.specs.Prelude.{◌≡◌, List, map, Option}
use denote.Ref.{Bor}
use Rattle.mj_tree.specs.Trees.{Name}
use Rattle.mj_answer.specs.AnswerValues.{MethodRowValue}
use Rattle.mj_members.specs.Rows.{rows_by}
use Rattle.result_bytes.specs.Payloads.{SignatureValue}
use Rattle.member_queries.specs.declared.members.MemberName.{MemberName}
use Rattle.member_queries.specs.Members.{with_types}

-- the owner and the name
abbrev pub member_name_view : MemberName → Name × Name
member_name_view m = (m.owner.now, m.name.now)

abbrev pub member_names_view : List MemberName → List (Name × Name)
member_names_view ms = map member_name_view ms

-- entries of a map by names
abbrev pub name_rows : List (Bor Name × MemberName) → List (Name × (Name × Name))
name_rows es = rows_by member_name_view es

-- the types of a method were added, if there are any
abbrev pub AddsTypes : Name × Name → List MethodRowValue → List MethodRowValue → Type 0
AddsTypes found old new = (s : Option SignatureValue) × (new ≡ with_types found old s)
