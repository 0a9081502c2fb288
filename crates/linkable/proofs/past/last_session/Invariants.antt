use Rattle.std.proofs.Common.{map, take}
use Rattle.linkable.specs.Past.{EndWith}
use Rattle.linkable.proofs.past.last_session.Given as goal

abbrev pub invariant-loop-number : goal.invariant-loop-number
invariant-loop-number l = EndWith (take l.number (map (λ f. f.now) l.files)) l.past
