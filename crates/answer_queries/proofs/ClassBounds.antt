-- In a project the diagnostics of a class's declarations have their places in four bytes.
use Rattle.std.proofs.Common.{◌≡◌, ℕ, ◌+◌, ◌<◌, ◌≤◌, ◌^◌, Bool, true, false, not, is_none, List, [], ◌∷◌, ◌++◌, length, Option, Some, None, refl, ap, ap₂, ◌∙◌, arith}
use Rattle.std.proofs.lemmas.List.{map-append}
use Rattle.mj_lexer.specs.Lexes.{limit}
use Rattle.mj_tree.specs.Trees.{Name, Method}
use Rattle.mj_tree.specs.declared.tree.Field.{Field}
use Rattle.mj_tree.specs.declared.place.Place.{Place}
use Rattle.mj_tree.specs.declared.place.Place.TheVariants as places
use Rattle.mj_answer.specs.declared.code.Code.{Code}
use Rattle.mj_answer.specs.declared.code.Code.TheVariants.{E201, E202, E203, E204, E205, E206}
use Rattle.mj_answer.specs.declared.diagnostic.Diagnostic.{Diagnostic}
use Rattle.mj_members.specs.Declarations.{ClassDecl}
use Rattle.mj_classes.specs.Declarations.{decl}
use Rattle.mj_classes.specs.Chains.{Chain, chain_of}
use Rattle.mj_phrases.specs.Inquiries.{Sig}
use Rattle.named_files.specs.Repeats.{repeats}
use Rattle.profiles.specs.declared.profile.Profile.{Profile}
use Rattle.mj_rules.specs.Sentences.{classes_in}
use Rattle.mj_rules.specs.FaultLists.{fault, when_fault, each_numbered, superclass_faults, is_cycle, chain_faults, is_undeclared, field_faults, may_override, override_faults, rest_of, nearest_sig, method_faults_of, field_names, method_names, declaration_faults}
use Rattle.body_query.specs.Bounds.{bounded_place, bounded_fault, bounded_faults}
use Rattle.body_query.proofs.Bounds.{same_number}
use Rattle.answer_queries.specs.Laws.{ClassBounds}
use Rattle.answer_queries.proofs.Counts.{class_few}

abbrev IsKept : List Diagnostic → Type 0
IsKept faults = bounded_faults faults ≡ faults

both_kept : (xs ys : List Diagnostic) → IsKept xs → IsKept ys → IsKept (xs ++ ys)
both_kept xs ys h g = map-append bounded_fault xs ys ∙ ap₂ (λ (us vs : List Diagnostic). us ++ vs) h g

when_kept : (b : Bool) (place : Place) (code : Code) → bounded_place place ≡ place → IsKept (when_fault b place code)
when_kept true place code same = ap (λ p. fault p code ∷ []) same
when_kept false place code same = refl

numbered_kept : {A : Type 0} (faults : ℕ → Bool → A → List Diagnostic) → ((n : ℕ) → n < 2 ^ 32 → (b : Bool) (x : A) → IsKept (faults n b x))
    → (n : ℕ) (xs : List A) (flags : List Bool) → n + length xs ≤ limit → IsKept (each_numbered faults n xs flags)
numbered_kept faults kept n [] flags few = refl
numbered_kept faults kept n (x ∷ xs) [] few = refl
numbered_kept faults kept n (x ∷ xs) (b ∷ flags) few =
    both_kept (faults n b x) (each_numbered faults (n + 1) xs flags) (kept n (omega (arith, few)) b x) (numbered_kept faults kept (n + 1) xs flags (omega (arith, few)))

module _ (profile : Profile) (cs : List ClassDecl) where
  superclass_kept : (o : Option Name) → IsKept (superclass_faults cs o)
  superclass_kept None = refl
  superclass_kept (Some u) = when_kept (is_none (decl cs u)) places.Class E201 refl

  chain_kept : (o : Option Chain) → IsKept (chain_faults o)
  chain_kept None = refl
  chain_kept (Some chain) = when_kept (is_cycle chain.1) places.Class E202 refl

  field_kept : (n : ℕ) → n < 2 ^ 32 → (b : Bool) (f : Field) → IsKept (field_faults cs n b f)
  field_kept n h b f =
      let same : bounded_place (places.Field n) ≡ places.Field n = ap (λ i. places.Field i) (same_number n h) in
      both_kept (when_fault b (places.Field n) E203) (when_fault (is_undeclared cs f.ty) (places.Field n) E206) (when_kept b (places.Field n) E203 same) (when_kept (is_undeclared cs f.ty) (places.Field n) E206 same)

  method_kept : (overridden : Name → Option Sig) (n : ℕ) → n < 2 ^ 32 → (b : Bool) (m : Method) → IsKept (method_faults_of profile cs overridden n b m)
  method_kept overridden n h true m = ap (λ i. fault (places.Method i) E204 ∷ []) (same_number n h)
  method_kept overridden n h false m = by_sig (overridden m.name)
    where
      by_sig : (o : Option Sig) → IsKept (override_faults profile cs n m o)
      by_sig None = refl
      by_sig (Some sig) = when_kept (not (may_override profile cs m sig)) (places.Method n) E205 (ap (λ i. places.Method i) (same_number n h))

  declared_kept : (k : ClassDecl) → length k.fields ≤ limit → length k.methods ≤ limit → IsKept (declaration_faults profile cs k)
  unfolding declaration_faults
  declared_kept k few_fields few_methods =
      let overridden = nearest_sig (rest_of cs k.name) in
      let fields = each_numbered (field_faults cs) 0 k.fields (repeats (field_names k)) in
      let methods = each_numbered (method_faults_of profile cs overridden) 0 k.methods (repeats (method_names k)) in
      both_kept (superclass_faults cs k.superclass) (chain_faults (chain_of cs k.name) ++ (fields ++ methods)) (superclass_kept k.superclass)
      (both_kept (chain_faults (chain_of cs k.name)) (fields ++ methods) (chain_kept (chain_of cs k.name))
      (both_kept fields methods (numbered_kept (field_faults cs) field_kept 0 k.fields (repeats (field_names k)) (omega (arith, few_fields)))
      (numbered_kept (method_faults_of profile cs overridden) (method_kept overridden) 0 k.methods (repeats (method_names k)) (omega (arith, few_methods)))))

pub class_bounds : ClassBounds
class_bounds profile p project c k e = let few = class_few p c k e in declared_kept profile (classes_in p) k few.fields few.methods
