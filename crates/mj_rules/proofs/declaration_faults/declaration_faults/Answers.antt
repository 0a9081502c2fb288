use Rattle.std.proofs.Common.{◌≡◌, ◌∙◌, ◌++◌, List, map, ap, subst}
use Rattle.mj_tree.specs.Trees.{Method}
use Rattle.mj_tree.specs.declared.tree.Field.{Field}
use Rattle.mj_members.specs.Declarations.{ClassDecl}
use Rattle.mj_classes.specs.Chains.{chain_of}
use Rattle.mj_classes.specs.Declarations.{place}
use Rattle.mj_members.specs.Classes.{class_ref_view}
use Rattle.mj_classes.specs.Index.{declared_in}
use Rattle.named_files.specs.Repeats.{repeats}
use Rattle.mj_rules.specs.FaultLists.{superclass_faults, chain_faults, field_faults, method_faults_of, nearest_sig, rest_of, each_numbered, field_names, method_names, declaration_faults}
use Rattle.mj_rules.proofs.Steps.{four_parts}
use Rattle.mj_rules.proofs.declaration_faults.declaration_faults.Goals as goal

pub add_chain_fault-requires : goal.add_chain_fault-requires
add_chain_fault-requires c =
    let k = class_ref_view c.args.class.now in
    (k.name, ap (λ d. place (declared_in d) k.name) c.declarations-declarations.ensures ∙ c.requires.at)

pub returns : goal.returns
unfolding declaration_faults
returns c =
    let cs = declared_in c.args.tables.now in
    let k = class_ref_view c.args.class.now in
    let same : declared_in c.declarations-declarations.result.now ≡ cs = ap (λ d. declared_in d) c.declarations-declarations.ensures in
    let superclass = subst (λ (ks : List ClassDecl). c.add_superclass_fault.new.faults.items ≡ c.new-faults.result.items ++ superclass_faults ks k.superclass) same c.in_ok-add_superclass_fault.ensures in
    let chain = subst (λ (ks : List ClassDecl). c.add_chain_fault.new.faults.items ≡ c.add_superclass_fault.new.faults.items ++ chain_faults (chain_of ks k.name)) same (c.in_ok-add_chain_fault.ensures k.name (ap (λ (ks : List ClassDecl). place ks k.name) same ∙ c.requires.at)) in
    let listed = subst (λ (ks : List ClassDecl). c.add_fields.new.faults.items ≡ c.add_chain_fault.new.faults.items ++ each_numbered (field_faults ks) 0 c.fields.result.now (repeats (map (λ (f : Field). f.name) c.fields.result.now))) same c.in_ok-add_fields.ensures in
    let fields = listed ∙ ap (λ (fs : List Field). c.add_chain_fault.new.faults.items ++ each_numbered (field_faults cs) 0 fs (repeats (map (λ (f : Field). f.name) fs))) c.fields.ensures in
    let methods = c.in_ok-add_methods.ensures
    ∙ ap (λ (ms : List Method). c.add_fields.new.faults.items ++ each_numbered (method_faults_of c.args.profile cs (nearest_sig (rest_of cs k.name))) 0 ms (repeats (map (λ (m : Method). m.name) ms))) c.methods.ensures in
    four_parts (superclass_faults cs k.superclass) (chain_faults (chain_of cs k.name)) (each_numbered (field_faults cs) 0 k.fields (repeats (field_names k)))
    (each_numbered (method_faults_of c.args.profile cs (nearest_sig (rest_of cs k.name))) 0 k.methods (repeats (method_names k)))
    c.new-faults.result.items c.add_superclass_fault.new.faults.items c.add_chain_fault.new.faults.items c.add_fields.new.faults.items c.add_methods.new.faults.items
    c.new-faults.ensures.items superclass chain fields methods
