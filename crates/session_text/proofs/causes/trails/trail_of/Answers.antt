use Rattle.std.proofs.Common.{◌∙◌, ◌<◌, ◌+◌, ◌≡◌, ℕ, List, ◌++◌, Some, ap, sym, subst}
use Rattle.std.specs.List.{AllByRecursion}
use Rattle.std.specs.Option.{option_copied}
use Rattle.item_ids.specs.Inputs.{rank}
use Rattle.item_ids.proofs.Lists.{all_push}
use Rattle.session_text.specs.declared.causes.cause.Why.{Why}
use Rattle.session_text.specs.Causes.{IsRightWhy, IsTrail}
use Rattle.session_text.proofs.TrailRules.{LeadsTo, leads_more, next_lower, next_there, ranks_left, trail_ends}
use Rattle.session_text.proofs.causes.trails.trail_of.Goals as goal

pub loop-next-smaller : goal.loop-next-smaller
loop-next-smaller c =
    let why = c.why_of-why.result in
    let next = option_copied c.red_key-next.result in
    let lower : ranks_left next < rank why.key.now + 1
    = next_lower (option_copied c.args.past) c.is_session.ensures c.args.session.now c.args.crossing.now why c.why_of-why.ensures.right next c.red_key-next.ensures in
    let same : ranks_left (option_copied c.loop-next.next) ≡ rank why.key.now + 1
    = ap (λ o. ranks_left (option_copied o)) c.in-Some.is ∙ ap (λ q. rank q + 1) (sym c.why_of-why.ensures.key) in
    subst (λ (n : ℕ). ranks_left next < n) (sym same) lower

pub loop-next-preserved : goal.loop-next-preserved
loop-next-preserved c =
    let was = option_copied c.args.past in
    let why = c.why_of-why.result in
    let whys = c.loop-next.whys.items in
    let right = IsRightWhy was c.args.session.now c.args.crossing.now in
    let leads = subst (λ o. LeadsTo c.args.key.now whys (option_copied o)) c.in-Some.is c.loop-next.invariant.leads in
    record {
      right = subst (AllByRecursion right) (sym c.in_ok-push.ensures.items) (all_push right whys why c.loop-next.invariant.right c.why_of-why.ensures.right);
      leads = λ rest t.
          subst (λ (ws : List Why). IsTrail (Some c.args.key.now) (ws ++ rest)) (sym c.in_ok-push.ensures.items)
          (leads_more c.args.key.now whys c.in-Some.key.now why leads c.why_of-why.ensures.key rest (subst (λ o. IsTrail o rest) c.red_key-next.ensures t));
      there = next_there was c.is_session.ensures c.args.session.now c.args.crossing.now why c.why_of-why.ensures.right (option_copied c.red_key-next.result) c.red_key-next.ensures;
    }

pub returns-clause-trail : goal.returns-clause-trail
returns-clause-trail c =
    trail_ends c.args.key.now c.loop-next.whys.items (subst (λ o. LeadsTo c.args.key.now c.loop-next.whys.items (option_copied o)) c.in_default.is c.loop-next.invariant.leads)
