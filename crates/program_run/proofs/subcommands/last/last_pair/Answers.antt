use Rattle.std.proofs.Common.{◌≡◌, List, Some, ◌∷◌, [], ◌++◌, length, map, sym, ap, subst, ◌∙◌, arith, append_assoc}
use Rattle.std.specs.Vec.Iter.{into_iter_items}
use Rattle.std.proofs.lemmas.List.{map-append, nil_from_length}
use Rattle.program_run.specs.Failures.{AreUnshown, IsUnshown}
use Rattle.program_run.specs.Shows.{IsLastPair, last_session}
use Rattle.program_run.proofs.Failures.{told_as}
use Rattle.program_run.proofs.Shown.{next_pair, pair_last, shown_fails}
use Rattle.program_run.proofs.Taking.{all_of}
use Rattle.program_run.proofs.subcommands.last.last_pair.Goals as goal

pub loop-file-preserved : goal.loop-file-preserved
loop-file-preserved c =
    let at = c.loop-file in
    let file = c.in-Some.file in
    let steps : into_iter_items at.file-iterator ≡ file ∷ into_iter_items c.next.new.self = c.in-Some.ensures.steps.0 in
    let pair = c.in_ok-next_pair.field-0 in
    record {
      last = subst (λ (fs : List _). IsLastPair fs (Some pair)) (sym (map-append (λ it. it.1.items) at.yielded (file ∷ [])))
          (subst (λ (bytes : List _). IsLastPair (map (λ it. it.1.items) at.yielded ++ bytes ∷ []) (Some pair)) c.deref.ensures.value
          (next_pair (map (λ it. it.1.items) at.yielded) at.last _ pair at.invariant.last c.in_ok-next_pair.ensures.pair));
      left = append_assoc at.yielded (file ∷ []) (into_iter_items c.next.new.self) ∙ (ap (λ rest. at.yielded ++ rest) (sym steps) ∙ at.invariant.left);
      count =
          let was_count = at.invariant.count in
          let gone = c.in-Some.ensures.steps.1 in
          let short = ap length steps in
          omega arith;
    }

pub returns-in_err-next_pair-clause-failed : goal.returns-in_err-next_pair-clause-failed
returns-in_err-next_pair-clause-failed c =
    let at = c.loop-file in
    let file = c.in-Some.file in
    let steps : into_iter_items at.file-iterator ≡ file ∷ into_iter_items c.next.new.self = c.in-Some.ensures.steps.0 in
    let left = ap (λ rest. at.yielded ++ rest) (sym steps) ∙ at.invariant.left in
    let parts = ap (map (λ it. it.1.items)) (sym left) ∙ map-append (λ it. it.1.items) at.yielded (file ∷ into_iter_items c.next.new.self) in
    told_as c.from_residual.result c.in_err-next_pair.field-0.0 (AreUnshown _) c.from_residual.ensures.1
    (shown_fails _ (map (λ it. it.1.items) at.yielded) file.1.items (map (λ it. it.1.items) (into_iter_items c.next.new.self)) (last_session at.last) c.in_err-next_pair.field-0.0
    parts (pair_last (map (λ it. it.1.items) at.yielded) at.last at.invariant.last)
    (subst (λ (bytes : List _). IsUnshown (last_session at.last) bytes c.in_err-next_pair.field-0.0) c.deref.ensures.value c.in_err-next_pair.ensures.failed))

pub returns-clause-last : goal.returns-clause-last
returns-clause-last c =
    let at = c.loop-file in
    let none = c.in-None.ensures.steps in
    let empty : into_iter_items at.file-iterator ≡ [] = nil_from_length _ (sym at.invariant.count ∙ none.0) in
    subst (λ (files : List _). IsLastPair (map (λ it. it.1.items) files) at.last) (all_of at.yielded (into_iter_items at.file-iterator) c.args.files.items empty at.invariant.left) at.invariant.last
