-- Lists of diagnostics with the same elements are one set.
use Rattle.std.proofs.Common.{◌≡◌, List, [], ◌∷◌, ◌++◌, sym, ◌∙◌, inl, inr, append_assoc, append-nil}
use Rattle.std.specs.Prelude.{flat_map}
use Rattle.std.proofs.lemmas.List.Elements.{Contains-append_left, Contains-append_right, Contains-append_cases}
use Rattle.mj_answer.specs.declared.diagnostic.Diagnostic.{Diagnostic}
use Rattle.mj_answer.specs.Order.{Before, IsAscending}
use Rattle.mj_rules.specs.Answering.{fault_order}
use Rattle.mj_rules.proofs.Sets.{faults_compare, set_ascends, from_set, to_set}
use Rattle.recorder.proofs.Rules.{fold_of}
use Rattle.query_rules.specs.Items.{fault_set}
use Rattle.mj_rules.proofs.Composing.{SameFaults}
use Rattle.body_query.proofs.Sets.{same_set}

pub same_itself : (xs : List Diagnostic) → SameFaults xs xs
same_itself xs d = (λ h. h, λ h. h)

pub same_append : (xs ys zs ws : List Diagnostic) → SameFaults xs ys → SameFaults zs ws → SameFaults (xs ++ zs) (ys ++ ws)
same_append xs ys zs ws a b d = (
  λ h. elim (Contains-append_cases xs zs d h) [ inl i ↦ Contains-append_left ys ws d ((a d).0 i) | inr i ↦ Contains-append_right ys ws d ((b d).0 i) ],
  λ h. elim (Contains-append_cases ys ws d h) [ inl i ↦ Contains-append_left xs zs d ((a d).1 i) | inr i ↦ Contains-append_right xs zs d ((b d).1 i) ],
)

pub same_flat : {A : Type 0} (f g : A → List Diagnostic) → ((a : A) → SameFaults (f a) (g a)) → (items : List A) → SameFaults (flat_map f items) (flat_map g items)
same_flat f g h [] = same_itself []
same_flat f g h (a ∷ rest) = same_append (f a) (g a) (flat_map f rest) (flat_map g rest) (h a) (same_flat f g h rest)

pub set_same : (xs : List Diagnostic) → SameFaults (fault_set xs) xs
unfolding fault_set
set_same xs d = (from_set fault_order Before faults_compare xs d, to_set fault_order Before faults_compare xs d)

set_up : (xs : List Diagnostic) → IsAscending (fault_set xs)
unfolding fault_set
set_up xs = set_ascends fault_order Before faults_compare xs

pub one_set : (xs ys : List Diagnostic) → SameFaults xs ys → fault_set xs ≡ fault_set ys
one_set xs ys same =
    same_set ys (fault_set xs) (set_up xs) (λ d. (λ h. (same d).0 ((set_same xs d).0 h), λ h. (set_same xs d).1 ((same d).1 h)))

pub fold_append : {A B : Type 0} (f : A → List B) (items : List A) (start : List B) → fold_of (λ a list. list ++ f a) items start ≡ start ++ flat_map f items
unfolding fold_of
fold_append f [] start = sym (append-nil start)
fold_append f (a ∷ rest) start = fold_append f rest (start ++ f a) ∙ append_assoc start (f a) (flat_map f rest)
