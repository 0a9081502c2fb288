-- What the declarations say is what chains and members are.
use Rattle.std.proofs.Common.{◌≡◌, true, List, Option, Some, None, option_map, is_some, Contains, refl, sym, ap, ◌∙◌, true≢false, ◌↔◌}
use Rattle.std.proofs.lemmas.Option.{none-some, same_Some}
use Rattle.mj_tree.specs.Trees.{Name, Method}
use Rattle.mj_tree.specs.declared.tree.Ty.{Ty}
use Rattle.mj_tree.specs.declared.tree.Field.{Field}
use Rattle.mj_members.specs.Declarations.{ClassDecl}
use Rattle.mj_classes.specs.Declarations.{decl}
use Rattle.mj_classes.specs.Chains.{EndOf, Chain, IsChain, chain_of, chain_names, is_in}
use Rattle.mj_classes.specs.Members.{FieldOf, MethodOf, field_of, method_of}
use Rattle.mj_phrases.specs.Inquiries.{Sig}
use Rattle.mj_rules.specs.Worlds.{sig_of, world_of}
use Rattle.mj_rules.specs.Laws.{WorldLaw}
use Rattle.named_files.proofs.RepeatLemmas.{Contains-is_in, is_in-Contains}
use Rattle.mj_rules.proofs.LowerLaws.{chain_laws, member_laws}
use Rattle.mj_rules.proofs.Acceptance.{acceptance}

module _ (cs : List ClassDecl) where
  descends_from : (c d : Name) (o : Option Chain) → chain_of cs c ≡ o → is_in (chain_names o) d ≡ true → (chain : List Name) × (end : EndOf) × IsChain cs c chain end × Contains chain d
  descends_from c d None e h = absurd (true≢false (sym h))
  descends_from c d (Some chain) e h = (chain.0, chain.1, (chain_laws.given cs c chain.0 chain.1).1 e, Contains-is_in chain.0 d h)

  descends_to : (c d : Name) (chain : List Name) (end : EndOf) → IsChain cs c chain end → Contains chain d → is_in (chain_names (chain_of cs c)) d ≡ true
  descends_to c d chain end is h = ap (λ (o : Option Chain). is_in (chain_names o) d) ((chain_laws.given cs c chain end).0 is) ∙ is_in-Contains chain d h

  descends_law : (c d : Name) → ((world_of cs).descends c d ≡ true) ↔ ((chain : List Name) × (end : EndOf) × IsChain cs c chain end × Contains chain d)
  descends_law c d = (descends_from c d (chain_of cs c) refl, λ h. descends_to c d h.0 h.1 h.2 h.3)

  field_from : (c x : Name) (t : Ty) (o : Option (Name × Field)) → field_of cs c x ≡ o → option_map (λ (f : Name × Field). f.1.ty) o ≡ Some t → (owner : Name) × (f : Field) × FieldOf cs c x owner f × (f.ty ≡ t)
  field_from c x t None e h = absurd (none-some t h)
  field_from c x t (Some f) e h = (f.0, f.1, (member_laws.field cs c x f.0 f.1).1 e, same_Some f.1.ty t h)

  field_to : (c x : Name) (t : Ty) (owner : Name) (f : Field) → FieldOf cs c x owner f → f.ty ≡ t → option_map (λ (f : Name × Field). f.1.ty) (field_of cs c x) ≡ Some t
  field_to c x t owner f is e = ap (option_map (λ (g : Name × Field). g.1.ty)) ((member_laws.field cs c x owner f).0 is) ∙ ap Some e

  method_from : (c m : Name) (sig : Sig) (o : Option (Name × Method)) → method_of cs c m ≡ o → option_map (λ (f : Name × Method). sig_of f.1) o ≡ Some sig → (owner : Name) × (f : Method) × MethodOf cs c m owner f × (sig_of f ≡ sig)
  method_from c m sig None e h = absurd (none-some sig h)
  method_from c m sig (Some f) e h = (f.0, f.1, (member_laws.method cs c m f.0 f.1).1 e, same_Some (sig_of f.1) sig h)

  method_to : (c m : Name) (sig : Sig) (owner : Name) (f : Method) → MethodOf cs c m owner f → sig_of f ≡ sig → option_map (λ (f : Name × Method). sig_of f.1) (method_of cs c m) ≡ Some sig
  method_to c m sig owner f is e = ap (option_map (λ (g : Name × Method). sig_of g.1)) ((member_laws.method cs c m owner f).0 is) ∙ ap Some e

  declared_from : (c : Name) (o : Option ClassDecl) → decl cs c ≡ o → is_some o ≡ true → (k : ClassDecl) × (decl cs c ≡ Some k)
  declared_from c None e h = absurd (true≢false (sym h))
  declared_from c (Some k) e h = (k, e)

pub world_law : WorldLaw
world_law = λ cs. record {
  descends = descends_law cs;
  accepted = acceptance cs (world_of cs) (descends_law cs);
  field = λ c x t. (field_from cs c x t (field_of cs c x) refl, λ h. field_to cs c x t h.0 h.1 h.2 h.3);
  method = λ c m sig. (method_from cs c m sig (method_of cs c m) refl, λ h. method_to cs c m sig h.0 h.1 h.2 h.3);
  is_declared = λ c. (declared_from cs c (decl cs c) refl, λ h. ap (λ (o : Option ClassDecl). is_some o) h.1);
}
