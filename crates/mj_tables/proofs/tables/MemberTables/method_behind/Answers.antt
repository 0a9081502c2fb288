use Rattle.std.proofs.Common.{◌≡◌, ◌∙◌, refl, sym}
use Rattle.std.proofs.lemmas.Bool.{false≢true}
use Rattle.std.proofs.lemmas.Option.{none-some}
use Rattle.std.proofs.lemmas.Slice.Eq.{bytes_eq-Decides}
use Rattle.mj_members.specs.Classes.{class_ref_view, method_member_view}
use Rattle.mj_classes.specs.Chains.{ancestry}
use Rattle.mj_classes.specs.Index.{declared_in}
use Rattle.mj_classes.specs.Members.{own_method}
use Rattle.mj_tables.proofs.Behind.{behind, behind_none}
use Rattle.mj_tables.proofs.Finding.{none_behind, itself_behind, other_behind}
use Rattle.mj_tables.proofs.tables.MemberTables.method_behind.Goals as goal

pub returns-in_err-superclass : goal.returns-in_err-superclass
returns-in_err-superclass c =
    let cs = declared_in c.args.self.now in
    let k = class_ref_view c.args.class.now in
    let nothing = behind_none cs k c.requires (λ u e. absurd (none-some u (c.in_err-superclass.ensures ∙ e))) in
    rw c.from_residual.ensures (sym (none_behind (own_method c.args.name.now) cs k _ nothing refl))

pub returns-in_err-method : goal.returns-in_err-method
returns-in_err-method c =
    let cs = declared_in c.args.self.now in
    let k = class_ref_view c.args.class.now in
    let u = c.in_ok-superclass.field-0.now in
    rw c.from_residual-in_err-method.ensures (sym (none_behind (own_method c.args.name.now) cs k (ancestry cs u) (behind cs k c.requires u (sym c.in_ok-superclass.ensures)) (sym c.in_err-method.ensures)))

pub returns-then-eq : goal.returns-then-eq
returns-then-eq c =
    let cs = declared_in c.args.self.now in
    let k = class_ref_view c.args.class.now in
    let u = c.in_ok-superclass.field-0.now in
    let found = method_member_view c.in_ok-method.method in
    let same : found.0 ≡ k.name = (bytes_eq-Decides found.0 c.name.result.now).0 (sym c.if-eq.ensures) ∙ c.name.ensures in
    sym (itself_behind (own_method c.args.name.now) cs k (ancestry cs u) (behind cs k c.requires u (sym c.in_ok-superclass.ensures)) found.0 found.1 (sym c.in_ok-method.ensures) same)

pub returns : goal.returns
returns c =
    let cs = declared_in c.args.self.now in
    let k = class_ref_view c.args.class.now in
    let u = c.in_ok-superclass.field-0.now in
    let found = method_member_view c.in_ok-method.method in
    sym (other_behind (own_method c.args.name.now) cs k (ancestry cs u) (behind cs k c.requires u (sym c.in_ok-superclass.ensures)) found.0 found.1 (sym c.in_ok-method.ensures)
    (λ same. false≢true (c.if-eq.ensures ∙ (bytes_eq-Decides found.0 c.name.result.now).1 (same ∙ sym c.name.ensures))))
