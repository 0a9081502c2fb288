use Rattle.std.proofs.Common.{◌≡◌, [], map, take}
use Rattle.std.specs.List.{AllByRecursion}
use Rattle.answer_bytes.specs.Storable.{IsClassStorable}
use Rattle.recorder.specs.Programs.{LoopAt}
use Rattle.answer_queries.specs.Answer.{class_step}
use Rattle.answer_queries.proofs.classes.ask_all_classes.Given as goal

abbrev pub invariant-loop-row : goal.invariant-loop-row
invariant-loop-row g l = record {
  at : LoopAt class_step l.rows [] l.initial.recorder l.row-index l.classes.items l.recorder;
  named : map (λ class. class.name) l.classes.items ≡ map (λ row. row.class) (take l.row-index l.rows);
  storable : AllByRecursion IsClassStorable l.classes.items;
  follows : g.D.Reader.follows l.initial.recorder.inner l.recorder.inner;
}
