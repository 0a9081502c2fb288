-- Diagnostics in places of a class, as sets.
use Rattle.std.proofs.Common.{◌≡◌, List, [], ◌∷◌}
use Rattle.mj_tree.specs.Trees.{Name}
use Rattle.mj_answer.specs.declared.diagnostic.Diagnostic.{Diagnostic}
use Rattle.mj_answer.specs.Order.{Before, IsAscending}
use Rattle.ordered_names.proofs.Alike.{one_list_by}
use Rattle.mj_answer.proofs.Orders.{faults}
use Rattle.mj_rules.specs.Answering.{set_of, fault_order}
use Rattle.mj_rules.proofs.Composing.{SameFaults}
use Rattle.mj_rules.proofs.Sets.{faults_compare, set_ascends, from_set, to_set}
use Rattle.mj_phrases.specs.declared.verdict.Mistake.{Mistake}
use Rattle.item_ids.proofs.Lists.{all_from}
use Rattle.answer_bytes.specs.Storable.{AreClassFaults, IsClassPlace}
use Rattle.recorder.proofs.Recorded.{all_at}
use Rattle.query_rules.specs.Items.{fault_set}
use Rattle.body_query.specs.Body.{faults_of_mistakes}
use Rattle.body_query.proofs.Bounds.{small}

pub in_class : (m : Name) (ms : List Mistake) → AreClassFaults (faults_of_mistakes m ms)
in_class m [] = tt
in_class m (x ∷ ms) = (small x.mark, in_class m ms)

pub same_places : (xs ys : List Diagnostic) → SameFaults ys xs → AreClassFaults xs → AreClassFaults ys
same_places xs ys same h = all_from (λ d. IsClassPlace d.place) ys (λ d c. all_at (λ d. IsClassPlace d.place) xs d ((same d).0 c) h)

pub same_set : (xs ys : List Diagnostic) → IsAscending ys → SameFaults ys xs → ys ≡ fault_set xs
unfolding fault_set
same_set xs ys up same =
    one_list_by Diagnostic Diagnostic (λ d. d) Before faults ys (set_of fault_order xs) up (set_ascends fault_order Before faults_compare xs)
    (λ d. (λ c. to_set fault_order Before faults_compare xs d ((same d).0 c), λ c. (same d).1 (from_set fault_order Before faults_compare xs d c)))
