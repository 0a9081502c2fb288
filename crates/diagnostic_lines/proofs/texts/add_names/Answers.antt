use Rattle.std.proofs.Common.{◌≡◌, ◌∙◌, ℕ, List, sym, ap, cond, Some}
use Rattle.std.specs.Prelude.{is_some}
use Rattle.std.specs.BTreeMap.{get}
use Rattle.std.specs.Ordering.{nat_cmp, is_eq}
use Rattle.std.specs.Cmp.Lexicographic.{slice_cmp}
use Rattle.diagnostic_lines.proofs.Names.{index_kept, index_added, good_name}
use Rattle.diagnostic_lines.proofs.texts.add_names.Goals as goal
use Rattle.diagnostic_lines.proofs.texts.add_names.Goals.{then-not-contains_key+in_ok-insert, else-not-contains_key}

pub new-requires-clause-some : goal.new-requires-clause-some
new-requires-clause-some c = rw c.name.ensures (good_name c.args.texts.now c.loop-number.number c.index-texts-number.result c.requires.names c.loop-number-test.true c.index-texts-number.is).0

pub new-requires-clause-short : goal.new-requires-clause-short
new-requires-clause-short c = rw c.name.ensures (good_name c.args.texts.now c.loop-number.number c.index-texts-number.result c.requires.names c.loop-number-test.true c.index-texts-number.is).1

pub loop-number-preserved : goal.loop-number-preserved
loop-number-preserved c =
    let name : c.in_ok-name.name ≡ c.index-texts-number.result.name = c.in_ok-name.ensures ∙ c.name.ensures in
    let met : c.contains_key.result ≡ is_some (get (slice_cmp nat_cmp) c.loop-number.numbers c.in_ok-name.name) = c.contains_key.ensures in
    elim c.if-not-contains_key.branch [
      | then-not-contains_key+in_ok-insert w ↦
          let new = ap (λ (n : List ℕ). is_some (get (slice_cmp nat_cmp) c.loop-number.numbers n)) (sym name) ∙ (sym met ∙ w.if-not-contains_key.true) in
          let puts = w.in_ok-insert.ensures.updates.0 in
          rw w.numbers-is
          (index_added c.args.texts.now c.loop-number.number c.index-texts-number.result (get (slice_cmp nat_cmp) c.loop-number.numbers) (get (slice_cmp nat_cmp) w.insert.new.self)
          c.loop-number-test.true c.index-texts-number.is c.loop-number.invariant new
          (λ q. puts q ∙ ap (λ (n : List ℕ). cond (is_eq (slice_cmp nat_cmp n q)) (Some c.loop-number.number) (get (slice_cmp nat_cmp) c.loop-number.numbers q)) name))
      | else-not-contains_key w ↦
          let old = ap (λ (n : List ℕ). is_some (get (slice_cmp nat_cmp) c.loop-number.numbers n)) (sym name) ∙ (sym met ∙ w.if-not-contains_key.false) in
          rw w.numbers-is
          (index_kept c.args.texts.now c.loop-number.number c.index-texts-number.result (get (slice_cmp nat_cmp) c.loop-number.numbers) c.loop-number-test.true c.index-texts-number.is c.loop-number.invariant old)
    ]
