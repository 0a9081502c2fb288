use Rattle.std.proofs.Common.{◌≡◌, ◌↔◌, ℕ, Contains, ◌∙◌, ◌++◌, ◌∷◌, [], ◌<◌, ◌≤◌, List, All, length, map, take, refl, sym, ap, subst, arith, take_all}
use Rattle.std.specs.Prelude.{slice_get}
use Rattle.std.proofs.lemmas.Option.{none-some}
use Rattle.std.proofs.lemmas.List.{take_more, map-append}
use Rattle.std.proofs.lemmas.List.Elements.{All-push}
use Rattle.mj_tree.specs.Trees.{Name}
use Rattle.mj_tree.proofs.Positions.{read_at}
use Rattle.mj_answer.specs.AnswerValues.{ClassAnswerValue}
use Rattle.mj_classes.specs.Declarations.{decl, place}
use Rattle.mj_members.specs.Classes.{class_ref_view}
use Rattle.mj_classes.specs.Index.{declared_in}
use Rattle.mj_classes.proofs.Ancestors.{first_within}
use Rattle.mj_classes.proofs.Places.{place_none}
use Rattle.mj_tables.proofs.TableSteps.{named_at, first_declared, place_itself}
use Rattle.mj_rules.specs.FaultLists.{class_names}
use Rattle.mj_rules.specs.Rules.{IsAnswerFor}
use Rattle.named_files.proofs.Listed.{contains_at}
use Rattle.mj_rules.proofs.Answering.{is_named}
use Rattle.mj_rules.proofs.Composing.{class_answers}
use Rattle.mj_rules.proofs.checker.class_answers.Goals as goal

pub unreachable-requires : goal.unreachable-requires
unreachable-requires c =
    let cs = declared_in c.args.tables.now in
    let within : c.loop-name.name-index < length c.deref-name-items.result.now = omega arith in
    let stands = contains_at c.deref-name-items.result.now c.loop-name.name-index c.name-item.result (read_at c.deref-name-items.result.now c.loop-name.name-index c.name-item.result within c.name-item.is) in
    let same = c.declarations-declarations.ensures in
    let listed : (n : List ℕ) → Contains c.in_ok-names.names.items n ↔ Contains (class_names cs) n = subst (λ d. (n : List ℕ) → Contains c.in_ok-names.names.items n ↔ Contains (class_names (declared_in d)) n) same c.in_ok-names.ensures.same in
    let named = (listed c.name-item.result).0 (rw c.deref-name-items.ensures.value at stands) in
    let k = is_named cs c.name-item.result (decl cs c.name-item.result) refl named in
    let none = place_none (declared_in c.declarations-declarations.result.now) c.name-item.result (sym c.in_default.ensures) in
    none-some k.0 (sym none ∙ (ap (λ d. decl (declared_in d) c.name-item.result) same ∙ k.1))

pub class_at-class-requires : goal.class_at-class-requires
class_at-class-requires c = first_within (declared_in c.declarations-declarations.result.now) c.in-Some.at (c.name-item.result, sym c.in-Some.ensures)

pub class_answer-requires-clause-first : goal.class_answer-requires-clause-first
class_answer-requires-clause-first c =
    let same = c.declarations-declarations.ensures in
    let placed = ap (λ d. place (declared_in d) c.name-item.result) (sym same) ∙ sym c.in-Some.ensures in
    let here = ap (λ d. slice_get (declared_in d) c.in-Some.at) (sym same) ∙ c.class_at-class.ensures in
    first_declared (declared_in c.args.tables.now) c.in-Some.at (class_ref_view c.class_at-class.result) (c.name-item.result, placed) here

pub class_answer-requires-clause-at : goal.class_answer-requires-clause-at
class_answer-requires-clause-at c =
    let same = c.declarations-declarations.ensures in
    let placed = ap (λ d. place (declared_in d) c.name-item.result) (sym same) ∙ sym c.in-Some.ensures in
    let here = ap (λ d. slice_get (declared_in d) c.in-Some.at) (sym same) ∙ c.class_at-class.ensures in
    place_itself (declared_in c.args.tables.now) c.in-Some.at (class_ref_view c.class_at-class.result) c.name-item.result placed here

pub loop-name-preserved : goal.loop-name-preserved
loop-name-preserved c =
    let cs = declared_in c.args.tables.now in
    let within : c.loop-name.name-index < length c.deref-name-items.result.now = omega arith in
    let same = c.declarations-declarations.ensures in
    let placed = ap (λ d. place (declared_in d) c.name-item.result) (sym same) ∙ sym c.in-Some.ensures in
    let here = ap (λ d. slice_get (declared_in d) c.in-Some.at) (sym same) ∙ c.class_at-class.ensures in
    let named = named_at cs c.in-Some.at (class_ref_view c.class_at-class.result) c.name-item.result placed here in
    let name : c.in_ok-class_answer.field-0.name ≡ c.name-item.result = c.in_ok-class_answer.ensures.name ∙ named.0 in
    let more = take_more c.deref-name-items.result.now c.loop-name.name-index c.name-item.result within ∙ ap (λ (n : Name). take c.loop-name.name-index c.deref-name-items.result.now ++ n ∷ []) (sym c.name-item.is) in
    record {
      named =
          ap (map (λ (a : ClassAnswerValue). a.name)) c.in_ok-push.ensures.items
          ∙ (map-append (λ (a : ClassAnswerValue). a.name) c.loop-name.answers.items (c.in_ok-class_answer.field-0 ∷ [])
          ∙ (ap (λ (ns : List Name). ns ++ c.in_ok-class_answer.field-0.name ∷ []) c.loop-name.invariant.named
          ∙ (ap (λ (n : Name). take c.loop-name.name-index c.deref-name-items.result.now ++ n ∷ []) name ∙ sym more)));
      each = subst (All (IsAnswerFor c.args.profile cs)) (sym c.in_ok-push.ensures.items) (All-push (IsAnswerFor c.args.profile cs) c.loop-name.answers.items c.in_ok-class_answer.field-0 c.loop-name.invariant.each c.in_ok-class_answer.ensures.rules);
    }

pub returns : goal.returns
returns c =
    let end : length c.deref-name-items.result.now ≤ c.loop-name.name-index = omega arith in
    let cs = declared_in c.args.tables.now in
    let listed : (n : List ℕ) → Contains c.in_ok-names.names.items n ↔ Contains (class_names cs) n = subst (λ d. (n : List ℕ) → Contains c.in_ok-names.names.items n ↔ Contains (class_names (declared_in d)) n) c.declarations-declarations.ensures c.in_ok-names.ensures.same in
    class_answers c.args.profile cs c.loop-name.answers.items c.in_ok-names.names.items c.in_ok-names.ensures.ascending listed
    (c.loop-name.invariant.named ∙ (take_all c.loop-name.name-index c.deref-name-items.result.now end ∙ c.deref-name-items.ensures.value)) c.loop-name.invariant.each
