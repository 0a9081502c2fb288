-- The test of a method that overrides another passes exactly if it may.
use Rattle.std.proofs.Common.{◌≡◌, true, List, map, ap, sym, ◌∙◌, ◌↔◌}
use Rattle.std.proofs.lemmas.Bool.{and_parts, and_from}
use Rattle.mj_tree.specs.Trees.{Method}
use Rattle.mj_tree.specs.declared.tree.Ty.{Ty}
use Rattle.mj_tree.specs.declared.tree.Variable.{Variable}
use Rattle.mj_members.specs.Declarations.{ClassDecl}
use Rattle.mj_classes.specs.Chains.{IsAcceptedBy}
use Rattle.mj_phrases.proofs.ByCases.{accepted_from, from_accepted}
use Rattle.profiles.specs.declared.profile.Profile.{Profile}
use Rattle.profiles.specs.declared.profile.Profile.TheVariants.{One, Two}
use Rattle.mj_rules.specs.Worlds.{sig_of, world_of}
use Rattle.mj_rules.specs.ClassFaults.{MayOverride}
use Rattle.mj_rules.specs.FaultLists.{same_types, accepts, may_override}
use Rattle.mj_rules.proofs.Signatures.{types_from, types_itself, signature_from, signature_to}
use Rattle.mj_rules.proofs.WorldLaws.{world_law}

-- the test of acceptance is that of the check of a body, which is what the chains say
pub accepted : (cs : List ClassDecl) (t u : Ty) → (accepts cs t u ≡ true) ↔ IsAcceptedBy cs t u
accepted cs t u =
    let says = (world_law cs).accepted t u in
    (λ e. says.0 (accepted_from (world_of cs) t u e), λ h. from_accepted (world_of cs) t u (says.1 h))

pub may_from : (profile : Profile) (cs : List ClassDecl) (m found : Method) → may_override profile cs m (sig_of found) ≡ true → MayOverride profile cs m found
may_from One cs m found e = signature_from m (sig_of found) e
may_from Two cs m found e =
    let formals = map (λ (v : Variable). v.ty) found.formals in
    let w = and_parts (same_types m.formals formals) (accepts cs m.returns found.returns) e in
    (sym (types_from m.formals formals w.0), (accepted cs m.returns found.returns).0 w.1)

pub may_to : (profile : Profile) (cs : List ClassDecl) (m found : Method) → MayOverride profile cs m found → may_override profile cs m (sig_of found) ≡ true
may_to One cs m found same = signature_to m (sig_of found) same
may_to Two cs m found may = and_from _ _ (ap (same_types m.formals) may.0 ∙ types_itself m.formals) ((accepted cs m.returns found.returns).1 may.1)
