use Rattle.std.proofs.Common.{List, ℕ, ap, inl, inr}
use Rattle.mj_members.specs.Classes.{class_ref_view}
use Rattle.mj_classes.specs.Chains.{Repeated}
use Rattle.mj_classes.proofs.declarations.Declarations.end_at.Goals as goal

pub returns-in-Some : goal.returns-in-Some
returns-in-Some c = (class_ref_view c.class_at-class.result, c.class_at-class.ensures, inr (c.in-Some.field-0, c.in-Some.ensures, ap (λ (n : List ℕ). Repeated n) c.name.ensures))

pub returns-in-None : goal.returns-in-None
returns-in-None c = (class_ref_view c.class_at-class.result, c.class_at-class.ensures, inl (c.in-None.ensures, c.straight_end.ensures))
