use Rattle.std.proofs.Common.{◌≡◌, ap}
use Rattle.mj_tree.specs.Views.{main_view}
use Rattle.mj_phrases.proofs.Walks.{if_ok}
use Rattle.mj_typing.specs.Bodies.{main_faults}
use Rattle.mj_typing.proofs.Checks.{main_plainly, handed_on}
use Rattle.mj_typing.proofs.plain.main_mistakes.Goals as goal

pub returns : goal.returns
returns g c =
    handed_on (λ ms. ms.items ≡ main_faults (g.D.Environment.world c.args.declarations.now) (main_view c.args.main.now)) c.check_main.result c.mistakes_of.result c.mistakes_of.ensures
    (if_ok c.check_main.result
    (λ ms h. main_plainly (λ s. g.D.Environment.world s.declarations.now) (record { declarations = c.args.declarations }) c.check_main.new.asking ms.items (main_view c.args.main.now) h (ap g.D.Environment.world c.check_main.ensures.follows))
    c.check_main.ensures.ok)
