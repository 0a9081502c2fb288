use Rattle.std.proofs.Common.{◌∙◌, ◌++◌, ap, codes, map, string_bytes}
use Rattle.std.specs.Prelude.{flat_map}
use Rattle.std.proofs.lemmas.List.{take_all}
use Rattle.code_words.specs.Explained.{codes_line}
use Rattle.code_words.proofs.Lines.{line_ended}
use Rattle.code_words.proofs.asking.write_line.Goals as goal

pub returns : goal.returns
unfolding codes_line
returns c =
    let words = flat_map (λ code. codes " " ++ code) (map (λ code. code.now) c.args.group.now) in
    let all = take_all c.loop-code.code-index c.args.group.now c.loop-code-test.false in
    let written = rw all at c.loop-code.invariant in
    line_ended c.push_str-2.result _ _ (string_bytes c.args.text.now) (codes " ") words (codes "\n") (written ∙ ap (λ front. front ++ words) c.in_ok-push_str.ensures.bytes) c.push_str-2.ensures.bytes
