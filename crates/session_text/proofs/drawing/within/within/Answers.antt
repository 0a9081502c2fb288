use Rattle.std.proofs.Common.{◌≡◌, ◌∙◌, ℕ, ◌<◌, ◌+◌, ◌-◌, Bool, true, false, List, length, set, sym, subst, ap, arith}
use Rattle.std.specs.List.{AllByRecursion}
use Rattle.std.proofs.lemmas.List.{get_or_read}
use Rattle.session_text.specs.Flags.{with_flags}
use Rattle.session_text.proofs.Walk.{IsWalked, all_less, walk_begins, walk_step, walk_ends, edges_are, edges_less}
use Rattle.session_text.proofs.drawing.within.within.Goals as goal

pub loop-at-init : goal.loop-at-init
loop-at-init c =
    subst (λ (flags : List Bool). IsWalked c.args.records.now c.args.root (c.args.root + 1) (set flags c.args.root true)) (sym c.in_ok-flags.ensures)
    (walk_begins c.args.records.now c.args.root c.requires.inside)

pub flag_all-requires : goal.flag_all-requires
flag_all-requires c =
    let records = c.args.records.now in
    let at = c.loop-at.at - 1 in
    let lt : at < length records = omega (arith, c.loop-at.auto.at, c.requires.inside, c.loop-at-test.true) in
    let less = edges_less records at c.index-records-at.result c.requires.records lt c.index-records-at.is in
    let same : length c.deref_mut.result.now ≡ length c.loop-at.flags.items = ap length c.deref_mut.ensures.value in
    subst (AllByRecursion (λ e. e < length c.deref_mut.result.now)) (sym c.edges.ensures)
    (all_less c.index-records-at.result.edges at (length c.deref_mut.result.now) (omega (arith, lt, same, c.loop-at.invariant.each)) less)

pub loop-at-preserved-then-index : goal.loop-at-preserved-then-index
loop-at-preserved-then-index c =
    let records = c.args.records.now in
    let flags = c.loop-at.flags.items in
    let at = c.loop-at.at - 1 in
    let lt : at < length records = omega (arith, c.loop-at.auto.at, c.requires.inside, c.loop-at-test.true) in
    let next : c.loop-at.at ≡ at + 1 = omega (arith, c.loop-at-test.true) in
    let less = edges_less records at c.index-records-at.result c.requires.records lt c.index-records-at.is in
    let flagged = sym (get_or_read flags at c.index.result.now (omega (arith, lt, c.loop-at.invariant.each)) c.index.ensures false) ∙ c.if-index.true in
    walk_step records c.args.root at flags c.flag_all.new.flags c.edges.result.now c.loop-at.flags.len
    (subst (λ (k : ℕ). IsWalked records c.args.root k flags) next c.loop-at.invariant) lt
    (c.edges.ensures ∙ sym (edges_are records at c.index-records-at.result lt c.index-records-at.is))
    (subst (AllByRecursion (λ e. e < at)) (sym c.edges.ensures) less) flagged
    (c.flag_all.ensures ∙ ap (λ (old : List Bool). with_flags old c.edges.result.now) c.deref_mut.ensures.value)
    (omega (arith, c.deref_mut.ensures.len, c.flag_all.auto.flags))

pub returns : goal.returns
returns c =
    let done : c.loop-at.at ≡ 0 = omega (arith, c.loop-at-test.false) in
    walk_ends c.args.records.now c.args.root c.loop-at.flags.items (subst (λ (k : ℕ). IsWalked c.args.records.now c.args.root k c.loop-at.flags.items) done c.loop-at.invariant)
