use Rattle.std.proofs.Common.{◌≡◌, ◌∷◌, [], ◌++◌, ◌∙◌, map}
use Rattle.std.specs.List.{concat}
use Rattle.redgreen_words.proofs.Putting.{slices_then, slices_break, line_then}
use Rattle.redgreen_words.proofs.writing.deliver.Goals as goal

pub returns-in-Ok-clause-delivered : goal.returns-in-Ok-clause-delivered
returns-in-Ok-clause-delivered g c =
    let strings = concat (map (λ x. x.now) c.args.strings.now) in
    let line = c.as_slice-in_default.result.now in
    let ends : line ≡ c.args.line.items ++ 10 ∷ [] = c.as_slice-in_default.ensures.value ∙ c.in_ok-push.ensures.items in
    slices_then (g.W.Sink.holds c.args.sink.now) (g.W.Sink.holds c.put_slices-in_default.new.sink) (g.W.Sink.holds c.put_slices-in-Ok.new.sink)
    (line ++ []) strings (c.args.line.items ++ 10 ∷ strings) c.put_slices-in-Ok.result (line_then c.args.line.items line strings ends)
    c.in-Ok.ensures.delivered c.put_slices-in-Ok.ensures.delivered

pub returns-clause-delivered : goal.returns-clause-delivered
returns-clause-delivered g c =
    let strings = concat (map (λ x. x.now) c.args.strings.now) in
    let line = c.as_slice-in_default.result.now in
    let ends : line ≡ c.args.line.items ++ 10 ∷ [] = c.as_slice-in_default.ensures.value ∙ c.in_ok-push.ensures.items in
    slices_break (Unit {0}) (g.W.Sink.holds c.args.sink.now) (g.W.Sink.holds c.put_slices-in_default.new.sink)
    (line ++ []) strings (c.args.line.items ++ 10 ∷ strings) c.in-Err.fault (line_then c.args.line.items line strings ends)
    c.in-Err.ensures.delivered
