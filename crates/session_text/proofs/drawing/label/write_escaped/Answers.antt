use Rattle.std.proofs.Common.{◌≡◌, ◌∙◌, ℕ, List, ◌++◌, encode_utf8_all, flat_map, string_bytes, chars, sym, ap, map-id}
use Rattle.std.proofs.lemmas.Iterator.{YieldsList-from_chars}
use Rattle.std.proofs.lemmas.Iterator.Consumers.{YieldsList-end}
use Rattle.session_text.specs.SessionGraph.{escaped_char}
use Rattle.session_text.proofs.Escapes.{escape_more}
use Rattle.session_text.proofs.drawing.label.write_escaped.Goals as goal

pub loop-c-preserved : goal.loop-c-preserved
loop-c-preserved c =
    escape_more (string_bytes c.args.text.now) (string_bytes c.loop-c.text) _ c.loop-c.yielded c.in-Some.c c.loop-c.invariant c.in_ok-write_char.ensures

pub returns : goal.returns
returns c =
    let done = YieldsList-end (YieldsList-from_chars c.args.words.now c.utf8.words cc) c.loop-c.yielded _ c.loop-c.yielded_by _ _ c.in-None.is c.next.ensures.steps in
    let all : c.loop-c.yielded ≡ chars c.args.words.now = sym (map-id c.loop-c.yielded) ∙ done.0 in
    c.loop-c.invariant ∙ ap (λ (cs : List ℕ). string_bytes c.args.text.now ++ encode_utf8_all (flat_map escaped_char cs)) all
