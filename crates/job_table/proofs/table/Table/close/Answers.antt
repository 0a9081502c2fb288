use Rattle.std.proofs.Common.{false, refl}
use Rattle.std.specs.Prelude.{IsTrue}
use Rattle.std.specs.Arc.{arc_value}
use Rattle.job_table.proofs.CloseRules.{gives_running, gives_no_answer, gives_memory, gives_session, held_in_order, done_of}
use Rattle.job_table.proofs.table.Table.close.Goals as goal

not_true : IsTrue false → ⊥
not_true e = cc

pub returns-then-not-is_quiet : goal.returns-then-not-is_quiet
returns-then-not-is_quiet g c = gives_running _ _ c.self.view_is _ _ c.self.invariant.0 c.if-self.false (λ all. not_true (c.if-not-is_quiet.ensures.1 all))

pub returns-in_default : goal.returns-in_default
returns-in_default g c = gives_no_answer _ _ c.self.view_is _ _ c.self.invariant.0 c.if-self.false (c.if-not-is_quiet.ensures.0 refl) c.in_default.ensures.none

pub session_of-requires-clause-order : goal.session_of-requires-clause-order
session_of-requires-clause-order g c = held_in_order (g.R.Runner.queries.mean c.self.inside.terms.profile) (g.R.Runner.queries.reads c.self.inside.terms.profile) _ _ _ _ false _ c.self.invariant.0 c.self.invariant.1 c.check_past.ensures

pub session_of-requires-clause-answer : goal.session_of-requires-clause-answer
session_of-requires-clause-answer g c = done_of _ _ c.in-Some.ensures.some

pub returns-in-Err : goal.returns-in-Err
returns-in-Err g c = gives_memory _ _ c.self.view_is _ _ c.self.invariant.0 c.if-self.false (c.if-not-is_quiet.ensures.0 refl) (arc_value c.in-Some.field-0.now) c.in-Some.ensures.some

pub returns-in-Ok : goal.returns-in-Ok
returns-in-Ok g c = gives_session _ _ c.self.view_is _ _ c.self.invariant.0 c.if-self.false (c.if-not-is_quiet.ensures.0 refl) (arc_value c.in-Some.field-0.now) c.in-Some.ensures.some false _ c.in-Ok.ensures

pub result_of-requires : goal.result_of-requires
result_of-requires g c = c.self.invariant.0.inner

pub session_of-requires-clause-inputs : goal.session_of-requires-clause-inputs
session_of-requires-clause-inputs g c = c.self.invariant.0.inner
