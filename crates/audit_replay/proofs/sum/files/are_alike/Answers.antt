use Rattle.std.proofs.Common.{◌≡◌, ◌<◌, ◌∙◌, true, false, length, map, sym, refl, arith}
use Rattle.std.specs.Arc.{arc_value}
use Rattle.std.proofs.lemmas.List.{length-map}
use Rattle.named_files.specs.Projects.{sources_view}
use Rattle.audit_replay.proofs.AgainstRules.{viewed_length}
use Rattle.audit_replay.proofs.InputRules.{alike_long, alike_there, next_alike}
use Rattle.audit_replay.proofs.sum.files.are_alike.Goals as goal

pub returns-then-names-files : goal.returns-then-names-files
returns-then-names-files c = (
  (λ h. absurd (let e : false ≡ true = h in cc)),
  (λ a. absurd (c.if-names-files.true ((alike_long c.args.names.now (map arc_value c.args.texts.now) (sources_view c.args.files.now) a).0 ∙ viewed_length c.args.files.now))),
)

pub returns-then-texts-files : goal.returns-then-texts-files
returns-then-texts-files c = (
  (λ h. absurd (let e : false ≡ true = h in cc)),
  (λ a. absurd (c.if-texts-files.true (sym (length-map c.args.texts.now arc_value) ∙ ((alike_long c.args.names.now (map arc_value c.args.texts.now) (sources_view c.args.files.now) a).1 ∙ viewed_length c.args.files.now)))),
)

pub returns-then-not-is_alike : goal.returns-then-not-is_alike
returns-then-not-is_alike c =
    let lt : c.loop-i.i < length c.args.names.now = omega arith in (
      (λ h. absurd (let e : false ≡ true = h in cc)),
      (λ a. absurd (
          let h = c.if-not-is_alike.ensures.1 (alike_there c.args.names.now c.args.texts.now c.args.files.now c.loop-i.i c.index-names-i.result c.index-texts-i.result c.index-files-i.result lt
          c.loop-i.invariant.as_long c.loop-i.invariant.as_many c.index-names-i.is c.index-texts-i.is c.index-files-i.is c.deref.result.now c.deref.ensures
          c.as_str.result.now c.deref-in-loop-i.result.now c.as_str.ensures.value c.deref-in-loop-i.ensures.value a) in
          let e : false ≡ true = h in
          cc)),
    )

pub loop-i-preserved : goal.loop-i-preserved
loop-i-preserved c =
    let lt : c.loop-i.i < length c.args.names.now = omega arith in
    record {
      as_long = c.loop-i.invariant.as_long;
      as_many = c.loop-i.invariant.as_many;
      so_far = next_alike c.args.names.now c.args.texts.now c.args.files.now c.loop-i.i c.index-names-i.result c.index-texts-i.result c.index-files-i.result lt
          c.loop-i.invariant.as_long c.loop-i.invariant.as_many c.index-names-i.is c.index-texts-i.is c.index-files-i.is c.deref.result.now c.deref.ensures
          c.as_str.result.now c.deref-in-loop-i.result.now c.as_str.ensures.value c.deref-in-loop-i.ensures.value c.loop-i.invariant.so_far (c.if-not-is_alike.ensures.0 refl);
    }
