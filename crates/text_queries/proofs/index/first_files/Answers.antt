use Rattle.std.proofs.Common.{◌≡◌, ◌∷◌, [], length, sym, ap, ◌∙◌, arith}
use Rattle.std.specs.Option.{option_or}
use Rattle.std.specs.BTreeMap.{get}
use Rattle.std.specs.Ordering.{nat_cmp}
use Rattle.std.specs.Cmp.Lexicographic.{slice_cmp}
use Rattle.std.specs.Vec.Iter.{into_iter_items}
use Rattle.std.proofs.lemmas.List.{nil_from_length}
use Rattle.mj_tree.proofs.Positions.{or_nothing}
use Rattle.text_queries.specs.Index.{first_file}
use Rattle.text_queries.proofs.FirstRows.{row_more}
use Rattle.text_queries.proofs.index.first_files.Goals as goal

pub loop-row-preserved : goal.loop-row-preserved
loop-row-preserved c =
    let at = c.loop-row in
    let row = c.in-Some.row in
    let steps : into_iter_items at.row-iterator ≡ row ∷ into_iter_items c.next.new.self = c.in-Some.ensures.steps.0 in
    record {
      said = λ class.
          row_more (get (slice_cmp nat_cmp) at.files class) (get (slice_cmp nat_cmp) c.keep_first.new.files class) row (into_iter_items c.next.new.self) class (c.in_ok-keep_first.ensures class)
          ∙ (ap (λ rows. option_or (get (slice_cmp nat_cmp) at.files class) (first_file rows class)) (sym steps) ∙ at.invariant.said class);
      count =
          let was = at.invariant.count in
          let gone = c.in-Some.ensures.steps.1 in
          let short = ap length steps in
          omega arith;
    }

pub returns : goal.returns
returns c =
    let at = c.loop-row in
    let none = c.in-None.ensures.steps in
    let empty : into_iter_items at.row-iterator ≡ [] = nil_from_length _ (sym at.invariant.count ∙ none.0) in
    λ class.
    or_nothing (get (slice_cmp nat_cmp) at.files class)
    ∙ (ap (λ rows. option_or (get (slice_cmp nat_cmp) at.files class) (first_file rows class)) (sym empty) ∙ at.invariant.said class)
