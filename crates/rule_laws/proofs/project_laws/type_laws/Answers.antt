use Rattle.std.proofs.Common.{◌≡◌, ℕ, Some, subst}
use Rattle.std.specs.Prelude.{◌↔◌, List}
use Rattle.mj_tree.specs.Trees.{Name, Expression, Statement}
use Rattle.mj_tree.specs.declared.tree.Ty.{Ty}
use Rattle.mj_phrases.specs.Phrases.{type_of, Well}
use Rattle.mj_phrases.specs.Table.{Scope, phrase_of, own_phrase, return_phrase}
use Rattle.mj_phrases.specs.Cases.{HasTypeByCases}
use Rattle.mj_phrases.proofs.Agree.{typed, has, one_type}
use Rattle.mj_phrases.proofs.ByCases.{by_cases, from_cases}
use Rattle.named_files.specs.Projects.{SourceFile}
use Rattle.rule_laws.specs.Demands.{BodyPhrase, OfExpression, OfStatement, OfReturn}
use Rattle.rule_laws.specs.Faults.{IsWell}
use Rattle.rule_laws.specs.Typing.{world_in, IsScopeIn, HasTypeIn, IsWellIn}
use Rattle.rule_laws.proofs.Wells.{expression_law, statement_law, return_law}
use Rattle.rule_laws.proofs.Scopes.{one_scope}
use Rattle.rule_laws.proofs.project_laws.type_laws.Goals as goal

module _ (files : List SourceFile) (c m : Name) where
  computed : (s : Scope) → IsScopeIn files c m s → (e : Expression) (t : Ty) → (type_of (world_in files) (phrase_of s e) ≡ Some t) ↔ HasTypeIn files c m e t
  computed s is e t =
      let w = world_in files in (
        λ h. (s, is, by_cases w s e t (typed w (phrase_of s e) t h)),
        λ h. has w (phrase_of s e) t (from_cases w s e t (subst (λ (r : Scope). HasTypeByCases w r e t) (one_scope files c m h.0 s h.1 is) h.2)),
      )

  unique : (e : Expression) (t u : Ty) → HasTypeIn files c m e t → HasTypeIn files c m e u → t ≡ u
  unique e t u h k =
      let w = world_in files in
      let s = k.0 in
      let first = subst (λ (r : Scope). HasTypeByCases w r e t) (one_scope files c m h.0 s h.1 k.1) h.2 in
      one_type w (phrase_of s e) t u (from_cases w s e t first) (from_cases w s e u k.2)

  in_scope : (s : Scope) → IsScopeIn files c m s → (p : BodyPhrase) → IsWell (world_in files) s p ↔ IsWellIn files c m p
  in_scope s is p = (λ h. (s, is, h), λ h. subst (λ (r : Scope). IsWell (world_in files) r p) (one_scope files c m h.0 s h.1 is) h.2)

  statement : (s : Scope) → IsScopeIn files c m s → (a : Statement) → Well (world_in files) (own_phrase s a) ↔ IsWellIn files c m (OfStatement a)
  statement s is a =
      let same = in_scope s is (OfStatement a) in
      let law = statement_law (world_in files) s a in (λ h. same.0 (law.0 h), λ h. law.1 (same.1 h))

  return_value : (s : Scope) → IsScopeIn files c m s → (mark : ℕ) (wanted : Ty) (e : Expression) → Well (world_in files) (return_phrase s mark wanted e) ↔ IsWellIn files c m (OfReturn mark wanted e)
  return_value s is mark wanted e =
      let same = in_scope s is (OfReturn mark wanted e) in
      let law = return_law (world_in files) s mark wanted e in (λ h. same.0 (law.0 h), λ h. law.1 (same.1 h))

  expression : (e : Expression) → ((t : Ty) × HasTypeIn files c m e t) ↔ IsWellIn files c m (OfExpression e)
  expression e =
      let w = world_in files in (
        λ h. (h.1.0, h.1.1, (expression_law w h.1.0 e).0 (h.0, h.1.2)),
        λ h. let t = (expression_law w h.0 e).1 h.2 in (t.0, (h.0, h.1, t.1)),
      )

pub returns : goal.returns
returns c = record { computed = computed; unique = unique; expression = expression; statement = statement; return_value = return_value }
