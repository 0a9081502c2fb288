use Rattle.std.proofs.Common.{[], ◌++◌, map, drop}
use Rattle.ordered_names.specs.Order.{NameBefore, IsAscendingBy}
use Rattle.recorder.specs.Programs.{LoopAt}
use Rattle.member_queries.specs.Members.{types_step}
use Rattle.member_queries.specs.MemberTables.{member_name_view}
use Rattle.member_queries.proofs.members.ask_all_types.Given as goal

-- the names of the rows and those of the methods that are left ascend
abbrev pub invariant-loop-method : goal.invariant-loop-method
invariant-loop-method g l = record {
  at : LoopAt (λ m. types_step (member_name_view m)) l.methods [] l.initial.recorder l.method-index l.rows.items l.recorder;
  order : IsAscendingBy NameBefore (map (λ row. row.name) l.rows.items ++ map (λ m. m.name.now) (drop l.method-index l.methods));
  follows : g.D.Reader.follows l.initial.recorder.inner l.recorder.inner;
}
