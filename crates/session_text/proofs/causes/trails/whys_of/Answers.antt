use denote.Bor.{Bor}
use Rattle.std.proofs.Common.{◌∙◌, ◌<◌, ◌+◌, List, [], length, map, take, ap, sym, subst, arith}
use Rattle.std.specs.Option.{option_copied}
use Rattle.item_ids.specs.declared.key.Key.{Key}
use Rattle.session_text.specs.declared.causes.cause.Why.{Why}
use Rattle.session_text.specs.Causes.{IsOfEither}
use Rattle.session_text.proofs.Telling.{IsTelling, each_at, telling_ends, telling_next}
use Rattle.session_text.proofs.Telling.IsTelling.{none}
use Rattle.session_text.proofs.causes.trails.whys_of.Goals as goal

pub loop-key-init : goal.loop-key-init
loop-key-init c = subst (λ (ws : List Why). IsTelling (option_copied c.args.past) c.args.session.now c.args.crossing.now [] ws) (sym c.new-whys.ensures.items) none

pub why_of-requires : goal.why_of-requires
why_of-requires c =
    let keys = c.args.keys.now in
    let lt : c.loop-key.key-index < length keys = omega (arith, c.loop-key-test.true) in
    let either = IsOfEither (option_copied c.args.past) c.args.session.now in
    subst (λ (b : Bor Key). either b.now) (sym c.key-item.is) (each_at either (λ (b : Bor Key). b.now) keys c.loop-key.key-index c.key-item.result lt c.requires.each)

pub loop-key-preserved : goal.loop-key-preserved
loop-key-preserved c =
    let was = option_copied c.args.past in
    let keys = c.args.keys.now in
    let i = c.loop-key.key-index in
    let lt : i < length keys = omega (arith, c.loop-key-test.true) in
    let is = c.why_of.ensures.key ∙ ap (λ (b : Bor Key). b.now) c.key-item.is in
    subst (λ (ws : List Why). IsTelling was c.args.session.now c.args.crossing.now (map (λ (b : Bor Key). b.now) (take (i + 1) keys)) ws) (sym c.in_ok-tell.ensures)
    (telling_next was c.args.session.now c.args.crossing.now (λ (b : Bor Key). b.now) keys i c.key-item.result lt c.records-records.ensures.session c.loop-key.whys.items c.why_of.result is c.why_of.ensures.right
    c.loop-key.invariant)

pub returns : goal.returns
returns c =
    telling_ends (option_copied c.args.past) c.args.session.now c.args.crossing.now (λ (b : Bor Key). b.now) c.args.keys.now c.loop-key.key-index c.loop-key.whys.items c.loop-key-test.false c.requires
    c.loop-key.invariant
