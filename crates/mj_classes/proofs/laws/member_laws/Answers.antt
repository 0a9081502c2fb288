use Rattle.mj_classes.specs.Members.{own_field, own_method, FieldOf, MethodOf}
use Rattle.mj_classes.specs.Chains.{ancestry}
use Rattle.mj_members.specs.Tables.{fields_along, methods_along}
use Rattle.mj_classes.proofs.Nearest.{nearest_from_is, is_from_nearest}
use Rattle.mj_classes.proofs.Tables.{is_table}
use Rattle.mj_classes.proofs.laws.member_laws.Goals as goal

pub returns : goal.returns
unfolding fields_along methods_along
returns c = record {
  field = λ cs c x owner f. (λ h. nearest_from_is (own_field x) cs c owner f h, λ h. is_from_nearest (own_field x) cs c owner f h);
  method = λ cs c m owner f. (λ h. nearest_from_is (own_method m) cs c owner f h, λ h. is_from_nearest (own_method m) cs c owner f h);
  fields = λ cs c. is_table (λ f. f.name) (λ k. k.fields) (ancestry cs c) (λ owner f. FieldOf cs c f.name owner f)
      (λ owner f h. is_from_nearest (own_field f.name) cs c owner f h) (λ owner f h. nearest_from_is (own_field f.name) cs c owner f h);
  methods = λ cs c. is_table (λ m. m.name) (λ k. k.methods) (ancestry cs c) (λ owner m. MethodOf cs c m.name owner m)
      (λ owner m h. is_from_nearest (own_method m.name) cs c owner m h) (λ owner m h. nearest_from_is (own_method m.name) cs c owner m h);
}
