use Rattle.std.specs.Str.{bytes_eq}
use Rattle.session_text.specs.SessionText.{key_words}
use Rattle.session_text.proofs.First.{NoneBefore}
use Rattle.session_text.proofs.names.record_named.Given as goal

abbrev pub invariant-loop-i : goal.invariant-loop-i
invariant-loop-i l = NoneBefore (λ r. bytes_eq (key_words r.key) l.words) l.records l.i
