use Rattle.std.proofs.Common.{◌≡◌, map, take}
use Rattle.named_files.specs.Repeats.{repeats}
use Rattle.named_files.proofs.RepeatLemmas.{HasNames}
use Rattle.named_files.proofs.repetition.repeats.Given as goal

abbrev pub invariant-loop-name : goal.invariant-loop-name
invariant-loop-name l = record {
  seen : HasNames l.seen (map (λ n. n.now) (take l.name-index l.names));
  flags : l.flags.items ≡ repeats (map (λ n. n.now) (take l.name-index l.names));
}
