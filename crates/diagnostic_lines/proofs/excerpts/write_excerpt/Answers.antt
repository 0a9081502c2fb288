use Rattle.std.proofs.Common.{◌≡◌, ◌∙◌, ◌++◌, ℕ, List, ap, subst, take, string_bytes}
use Rattle.std.specs.Prelude.{OnOk}
use Rattle.diagnostic_lines.specs.Excerpts.{in_front, from_on, marked_sides, excerpt}
use Rattle.diagnostic_lines.proofs.Near.{near_sides}
use Rattle.diagnostic_lines.proofs.excerpts.write_excerpt.Goals as goal

pub returns : goal.returns
unfolding excerpt
returns c =
    let front : marked_sides c.in_front.result.now c.from_on.result.now ≡ marked_sides (in_front c.args.place.now) (take 201 (from_on c.args.place.now)) =
    ap (λ (ys : List ℕ). marked_sides ys c.from_on.result.now) c.in_front.ensures ∙ ap (marked_sides (in_front c.args.place.now)) c.from_on.ensures in
    let sides : marked_sides c.in_front.result.now c.from_on.result.now ≡ marked_sides (in_front c.args.place.now) (from_on c.args.place.now) = front ∙ near_sides (in_front c.args.place.now) (from_on c.args.place.now) in
    subst (λ (ys : List ℕ). OnOk c.write_marked.result (string_bytes c.write_marked.new.text ≡ string_bytes c.args.text.now ++ ys)) sides c.write_marked.ensures
