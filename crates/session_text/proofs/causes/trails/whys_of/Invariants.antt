use Rattle.std.proofs.Common.{map, take}
use Rattle.std.specs.Option.{option_copied}
use Rattle.session_text.proofs.Telling.{IsTelling}
use Rattle.session_text.proofs.causes.trails.whys_of.Given as goal

abbrev pub invariant-loop-key : goal.invariant-loop-key
invariant-loop-key l = IsTelling (option_copied l.past) l.session l.crossing (map (λ key. key.now) (take l.key-index l.keys)) l.whys.items
