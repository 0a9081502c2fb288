use Rattle.std.proofs.Common.{◌≡◌, take}
use Rattle.named_files.proofs.RepeatLemmas.{HasNames}
use Rattle.member_queries.specs.FirstNames.{first_names}
use Rattle.member_queries.proofs.diags.first_names.Given as goal

abbrev pub invariant-loop-name : goal.invariant-loop-name
invariant-loop-name l = record {
  met : HasNames l.met (take l.name-index l.names);
  firsts : l.firsts.items ≡ first_names (take l.name-index l.names);
}
