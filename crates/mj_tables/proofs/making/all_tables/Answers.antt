use Rattle.std.proofs.Common.{◌≡◌, ◌+◌, ◌<◌, ◌∙◌, Some, length, sym, ap, subst, arith}
use Rattle.std.specs.Prelude.{slice_get}
use Rattle.std.proofs.lemmas.List.{length-map}
use Rattle.mj_tree.proofs.Positions.{view_at}
use Rattle.mj_members.specs.Classes.{class_ref_view}
use Rattle.mj_classes.specs.Declarations.{place}
use Rattle.mj_classes.specs.Index.{declared_in}
use Rattle.mj_classes.proofs.Ancestors.{first_within}
use Rattle.mj_classes.proofs.Keeping.{other_places}
use Rattle.mj_tables.specs.Tables.{AreTables}
use Rattle.mj_tables.proofs.TableSteps.{HaveTablesTo, one_further, place_itself}
use Rattle.mj_tables.proofs.making.all_tables.Goals as goal
use Rattle.mj_tables.proofs.making.all_tables.Goals.{then-eq+in_ok-add_tables, else-eq}

pub loop-at-preserved : goal.loop-at-preserved
loop-at-preserved c =
    let cs = declared_in c.args.declarations.now in
    let at = c.loop-at.at in
    let k = class_ref_view c.index-classes-at.result in
    let within : at < length cs = omega (arith, ap length c.classes-classes.ensures, length-map c.classes-classes.result.now class_ref_view) in
    let here : slice_get cs at ≡ Some k =
    subst (λ ks. slice_get ks at ≡ Some k) c.classes-classes.ensures (view_at class_ref_view c.classes-classes.result.now at c.index-classes-at.result (omega (arith, within, ap length c.classes-classes.ensures)) c.index-classes-at.is) in
    elim c.if-eq.branch [
      | then-eq+in_ok-add_tables w ↦ record {
        right = subst (λ v. AreTables cs v.items) (sym w.tables-is) w.in_ok-add_tables.ensures.right;
        so_far = subst (λ v. HaveTablesTo cs (at + 1) v.items) (sym w.tables-is) (one_further cs at c.loop-at.tables.items w.add_tables.new.tables.items c.loop-at.invariant.so_far w.in_ok-add_tables.ensures.grow (λ d e. w.in_ok-add_tables.ensures.here));
      }
      | else-eq w ↦ record {
        right = subst (λ v. AreTables cs v.items) (sym w.tables-is) c.loop-at.invariant.right;
        so_far = subst (λ v. HaveTablesTo cs (at + 1) v.items) (sym w.tables-is) (one_further cs at c.loop-at.tables.items c.loop-at.tables.items c.loop-at.invariant.so_far (λ i has. has)
            (λ d e. absurd (other_places c.place.result (Some at) (sym c.eq.ensures ∙ w.if-eq.false) (c.place.ensures ∙ (ap (place cs) c.name.ensures ∙ place_itself cs at k d e here)))));
      }
    ]

pub returns-clause-complete : goal.returns-clause-complete
returns-clause-complete c = λ d at e.
    let cs = declared_in c.args.declarations.now in
    let lt = first_within cs at (d, e) in
    c.loop-at.invariant.so_far d at (omega (arith, lt, ap length c.classes-classes.ensures, length-map c.classes-classes.result.now class_ref_view)) e
