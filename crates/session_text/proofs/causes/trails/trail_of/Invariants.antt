use Rattle.std.specs.Prelude.{IfSome}
use Rattle.std.specs.List.{AllByRecursion}
use Rattle.std.specs.Option.{option_copied}
use Rattle.session_text.specs.Causes.{IsOfEither, IsRightWhy}
use Rattle.session_text.proofs.TrailRules.{LeadsTo, ranks_left}
use Rattle.session_text.proofs.causes.trails.trail_of.Given as goal

abbrev pub invariant-loop-next : goal.invariant-loop-next
invariant-loop-next l = record {
  right : AllByRecursion (IsRightWhy (option_copied l.past) l.session l.crossing) l.whys.items;
  leads : LeadsTo l.fn.key l.whys.items (option_copied l.next);
  there : IfSome (option_copied l.next) (IsOfEither (option_copied l.past) l.session);
}

abbrev pub decreases-loop-next : goal.decreases-loop-next
decreases-loop-next l = ranks_left (option_copied l.next)
