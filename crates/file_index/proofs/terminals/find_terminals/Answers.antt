use Rattle.std.proofs.Common.{◌≡◌, ◌∙◌, ℕ, cond, List, [], ◌∷◌, ◌++◌, sym, ap}
use Rattle.std.proofs.lemmas.List.{append-nil}
use Rattle.mj_expressions.specs.Tokens.{has}
use Rattle.mj_parser.specs.Locations.{all_of}
use Rattle.file_index.proofs.Positions.{one_place_more}
use Rattle.file_index.proofs.terminals.find_terminals.Goals as goal
use Rattle.file_index.proofs.terminals.find_terminals.Goals.{then-has+in_ok-push, else-has}

pub loop-at-preserved : goal.loop-at-preserved
loop-at-preserved c =
    let so_far : c.loop-at.places.items ≡ all_of c.args.tokens.now c.args.terminal 0 c.loop-at.at = c.loop-at.invariant in
    let more = one_place_more (λ at. has c.args.tokens.now at c.args.terminal) c.loop-at.at in
    elim c.if-has.branch [
      | then-has+in_ok-push w ↦
          let here = sym c.has.ensures.value ∙ w.if-has.true in
          rw w.places-is (w.in_ok-push.ensures.items ∙ (ap (λ (l : List ℕ). l ++ c.loop-at.at ∷ []) so_far ∙ sym (more ∙ ap (λ b. all_of c.args.tokens.now c.args.terminal 0 c.loop-at.at ++ cond b (c.loop-at.at ∷ []) []) here)))
      | else-has w ↦
          let other = sym c.has.ensures.value ∙ w.if-has.false in
          rw w.places-is (so_far ∙ sym (more ∙ (ap (λ b. all_of c.args.tokens.now c.args.terminal 0 c.loop-at.at ++ cond b (c.loop-at.at ∷ []) []) other ∙ append-nil (all_of c.args.tokens.now c.args.terminal 0 c.loop-at.at))))
    ]
