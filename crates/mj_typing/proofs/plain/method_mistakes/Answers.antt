use Rattle.std.proofs.Common.{◌≡◌, ap}
use Rattle.mj_tree.specs.Views.{method_view}
use Rattle.mj_phrases.proofs.Walks.{if_ok}
use Rattle.mj_typing.specs.Bodies.{method_faults}
use Rattle.mj_typing.proofs.Checks.{method_plainly, handed_on}
use Rattle.mj_typing.proofs.plain.method_mistakes.Goals as goal

pub returns : goal.returns
returns g c =
    handed_on (λ ms. ms.items ≡ method_faults (g.D.Environment.world c.args.declarations.now) c.args.class.now (method_view c.args.method.now)) c.check_method.result c.mistakes_of.result c.mistakes_of.ensures
    (if_ok c.check_method.result
    (λ ms h. method_plainly (λ s. g.D.Environment.world s.declarations.now) (record { declarations = c.args.declarations }) c.check_method.new.asking ms.items c.args.class.now (method_view c.args.method.now) h (ap g.D.Environment.world c.check_method.ensures.follows))
    c.check_method.ensures.ok)
