use Rattle.std.proofs.Common.{◌≡◌, ◌∙◌, ℕ, ◌≤◌, List, slice_get, Some, false, ap, sym, arith, refl}
use Rattle.std.specs.Prelude.{IsTrue}
use Rattle.item_ids.specs.Kinds.{rank_of}
use Rattle.item_ids.specs.Inputs.{rank}
use Rattle.graph_rules.specs.Steps.{IsHeldBy}
use Rattle.key_states.specs.Nodes.{Node, status_of}
use Rattle.key_states.specs.PendingNodes.{IsAboveAt}
use Rattle.key_states.proofs.PendingRules.{above_unheld, above_held_at}
use Rattle.key_states.proofs.node_map.is_above_at.Goals as goal

not_true : IsTrue false → ⊥
not_true e = cc

pub returns-then-not-is_held_by : goal.returns-then-not-is_held_by
returns-then-not-is_held_by c = (
  (λ _. above_unheld c.args.nodes.now.entries c.args.w c.args.wanted c.args.at (c.in-Some.key.now, c.in-Some.standing.now) (sym c.in-Some.ensures.entry) (λ held. not_true (c.if-not-is_held_by.ensures.1 held))),
  (λ _. refl),
)

-- the worker holds the key that stands there
module _ (nodes : List Node) (at w wanted : ℕ) (n : Node) (is : slice_get nodes at ≡ Some n) (held : IsHeldBy w (status_of n.1)) (r : ℕ) (ranked : r ≡ rank n.0) where
  not_above : r ≤ wanted → IsAboveAt w wanted nodes at → ⊥
  not_above low above = let l = (above_held_at nodes w wanted at n is held).0 above in omega (arith, l, low, ranked)

  is_above : (r ≤ wanted → ⊥) → IsAboveAt w wanted nodes at
  is_above high = (above_held_at nodes w wanted at n is held).1 (omega (arith, high, ranked))

pub returns-then-rank-wanted : goal.returns-then-rank-wanted
returns-then-rank-wanted c = (
  (λ t. absurd (not_true t)),
  (λ above. absurd (not_above c.args.nodes.now.entries c.args.at c.args.w c.args.wanted (c.in-Some.key.now, c.in-Some.standing.now) (sym c.in-Some.ensures.entry) (c.if-not-is_held_by.ensures.0 refl) c.rank.result (c.rank.ensures ∙ ap rank_of c.kind.ensures) (omega (arith, c.if-rank-wanted.true)) above)),
)

pub returns : goal.returns
returns c = (
  (λ _. is_above c.args.nodes.now.entries c.args.at c.args.w c.args.wanted (c.in-Some.key.now, c.in-Some.standing.now) (sym c.in-Some.ensures.entry) (c.if-not-is_held_by.ensures.0 refl) c.rank.result (c.rank.ensures ∙ ap rank_of c.kind.ensures) (λ low. omega (arith, low, c.if-rank-wanted.false))),
  (λ _. refl),
)
