use Rattle.std.proofs.Common.{subst, sym}
use Rattle.std.specs.Arc.{arc_value}
use Rattle.result_bytes.specs.Values.{IsOfKind}
use Rattle.job_table.specs.Tables.{state_of}
use Rattle.mark_green.proofs.KindRules.{done_kind}
use Rattle.shared_table.proofs.memo.Memo.add.Goals as goal

pub add-requires : goal.add-requires
add-requires g c =
    let known = c.requires.1 in
    let kind : IsOfKind c.args.key.now (arc_value c.args.sealed.now) = done_kind (state_of known.table) c.args.key.now (arc_value c.args.sealed.now) known.of_session.order known.done in
    subst (λ v. IsOfKind c.in_ok-key.key v) (sym c.in_ok-try_clone.ensures) (subst (λ k. IsOfKind k (arc_value c.args.sealed.now)) (sym c.in_ok-key.ensures) kind)
