use Rattle.std.proofs.Common.{◌≡◌, List, ◌++◌, take, drop}
use Rattle.mj_tree.specs.declared.tree.Variable.{Variable}
use Rattle.mj_phrases.specs.Variables.{add_repeated_each}
use Rattle.mj_phrases.specs.Seen.{Covers}
use Rattle.mj_phrases.proofs.scope.declare_all.Given as goal

abbrev pub invariant-loop-variable : goal.invariant-loop-variable
invariant-loop-variable l = record {
  types : (before : List Variable) → Covers l.initial.types before → Covers l.types (before ++ take l.variable-index l.variables);
  repeated : (before : List Variable) → Covers l.initial.types before → add_repeated_each l.mistakes.items (before ++ take l.variable-index l.variables) (drop l.variable-index l.variables) ≡ add_repeated_each l.initial.mistakes.items before l.variables;
}
