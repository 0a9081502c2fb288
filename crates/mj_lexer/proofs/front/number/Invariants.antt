use Rattle.std.proofs.Common.{◌≡◌, ◌≤◌, min, drop}
use Rattle.mj_lexer.specs.Bytes.{decimal, literal_value}
use Rattle.mj_lexer.proofs.front.number.Given as goal

abbrev pub invariant-loop-d : goal.invariant-loop-d
invariant-loop-d l = record {
  same : min (decimal l.value (drop l.d-index l.digits)) 2147483648 ≡ literal_value l.digits;
  small : l.value ≤ 2147483648;
}
