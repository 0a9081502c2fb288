use Rattle.std.proofs.Common.{◌≡◌, All, map, take}
use Rattle.mj_classes.specs.Index.{declared_in}
use Rattle.mj_rules.specs.Rules.{IsAnswerFor}
use Rattle.mj_rules.proofs.checker.class_answers.Given as goal

abbrev pub invariant-loop-name : goal.invariant-loop-name
invariant-loop-name l = record {
  named : map (λ a. a.name) l.answers.items ≡ take l.name-index l.name-items;
  each : All (IsAnswerFor l.profile (declared_in l.tables)) l.answers.items;
}
