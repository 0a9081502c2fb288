use Rattle.std.proofs.Common.{◌≡◌, ◌∙◌, ◌++◌, List, ℕ, Result, Ok, Err, OnOk, map, ap, append_assoc}
use Rattle.mj_tree.specs.Trees.{Method}
use Rattle.mj_answer.specs.declared.diagnostic.Diagnostic.{Diagnostic}
use Rattle.mj_members.specs.Classes.{class_ref_view}
use Rattle.mj_classes.specs.Index.{declared_in}
use Rattle.named_files.specs.Repeats.{repeats}
use Rattle.mj_rules.specs.FaultLists.{each_numbered, body_faults_of, main_method_faults, method_names, body_faults}
use Rattle.mj_rules.proofs.body_faults.add_body_faults.Goals as goal

follows : {T E : Type 0} (P Q : Type 0) (r : Result T E) → (P → Q) → OnOk r P → OnOk r Q
follows P Q (Ok x) f h = f h
follows P Q (Err e) f h = tt

pub returns : goal.returns
unfolding body_faults
returns c =
    let cs = declared_in c.args.tables.now in
    let k = class_ref_view c.args.class.now in
    let bodies = each_numbered (body_faults_of cs k.name) 0 k.methods (repeats (method_names k)) in
    let listed : c.add_bodies.new.faults.items ≡ c.args.faults.now.items ++ bodies =
    c.in_ok-add_bodies.ensures
    ∙ (ap (λ (ms : List Method). c.args.faults.now.items ++ each_numbered (body_faults_of cs c.name.result.now) 0 ms (repeats (map (λ (m : Method). m.name) ms))) c.methods.ensures
    ∙ ap (λ (n : List ℕ). c.args.faults.now.items ++ each_numbered (body_faults_of cs n) 0 k.methods (repeats (method_names k))) c.name.ensures) in
    follows _ _ c.add_main.result
    (λ e. e ∙ (ap (λ (ds : List Diagnostic). ds ++ main_method_faults cs k k.main) listed ∙ append_assoc c.args.faults.now.items bodies (main_method_faults cs k k.main)))
    c.add_main.ensures
