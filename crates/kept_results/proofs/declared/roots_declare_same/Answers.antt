use Rattle.std.proofs.Common.{◌∙◌}
use Rattle.kept_results.proofs.Naming.{declared_alike}
use Rattle.kept_results.proofs.declared.roots_declare_same.Goals as goal

pub returns : goal.returns
returns c = c.have_same_classes.ensures ∙ declared_alike c.args.old.now.main c.args.new.now.main c.args.old.now.classes.items c.args.new.now.classes.items
