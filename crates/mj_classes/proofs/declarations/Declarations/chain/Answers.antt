use Rattle.std.proofs.Common.{sym, ap}
use Rattle.std.specs.Prelude.{option_map}
use Rattle.mj_classes.specs.Chains.{Chain}
use Rattle.mj_members.specs.Classes.{classes_view}
use Rattle.mj_classes.proofs.Climb.{has_none}
use Rattle.mj_classes.proofs.Places.{place_none}
use Rattle.mj_classes.proofs.declarations.Declarations.chain.Goals as goal

pub chain_at-requires : goal.chain_at-requires
chain_at-requires c = (c.args.name.now, sym c.in-Some.ensures)

pub returns-in_ok-chain_at-in-Some-clause-end : goal.returns-in_ok-chain_at-in-Some-clause-end
returns-in_ok-chain_at-in-Some-clause-end c = sym (c.in_ok-chain_at-in-Some.ensures c.args.name.now (sym c.in-Some.ensures)).0

pub returns-in_ok-chain_at-in-Some-clause-classes : goal.returns-in_ok-chain_at-in-Some-clause-classes
returns-in_ok-chain_at-in-Some-clause-classes c = (c.in_ok-chain_at-in-Some.ensures c.args.name.now (sym c.in-Some.ensures)).1

pub returns-in-None-clause-end : goal.returns-in-None-clause-end
returns-in-None-clause-end c =
    let cs = classes_view c.args.self.now.classes.items in
    sym (ap (option_map (λ (p : Chain). p.1)) (has_none cs c.args.name.now (place_none cs c.args.name.now (sym c.in-None.ensures))))

pub returns-in-None-clause-classes : goal.returns-in-None-clause-classes
returns-in-None-clause-classes c = place_none (classes_view c.args.self.now.classes.items) c.args.name.now (sym c.in-None.ensures)
