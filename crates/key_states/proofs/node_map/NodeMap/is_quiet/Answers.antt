use Rattle.std.proofs.Common.{sym, ◌∙◌, arith}
use Rattle.std.specs.Prelude.{vec_len}
use Rattle.std.proofs.lemmas.Map.Views.{exact_unsigned_eq}
use Rattle.std.proofs.lemmas.Bool.{eq-eqb}
use Rattle.key_states.proofs.PendingRules.{quiet_by_places}
use Rattle.key_states.proofs.node_map.NodeMap.is_quiet.Goals as goal

pub returns : goal.returns
returns c =
    let p = c.self.inside.pending in
    let long = p.ok in
    let all = quiet_by_places c.self.inside.nodes.entries p.items c.self.invariant.1 in
    rw (← c.self.view_is) (
      (λ t. all.0 (let e = exact_unsigned_eq (vec_len p) 0 (sym c.is_empty.ensures ∙ t) in omega (arith, e, long))),
      (λ a. c.is_empty.ensures ∙ eq-eqb (vec_len p) 0 (let e = all.1 a in omega (arith, e, long))),
    )
