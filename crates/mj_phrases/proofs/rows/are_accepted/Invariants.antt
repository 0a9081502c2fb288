use Rattle.std.proofs.Common.{drop}
use Rattle.mj_phrases.specs.Inquiries.{and_then}
use Rattle.mj_phrases.specs.Table.{are_accepted}
use Rattle.mj_phrases.proofs.Asked.{Comes}
use Rattle.mj_phrases.proofs.rows.are_accepted.Given as goal

abbrev pub invariant-loop-n : goal.invariant-loop-n
invariant-loop-n g l = record {
  comes : Comes g.A.Asking.stands (and_then (are_accepted l.types l.formals)) (and_then (are_accepted (drop l.n l.types) (drop l.n l.formals))) l.initial.asking l.asking;
  follows : g.A.Asking.follows l.initial.asking l.asking;
}
