use Rattle.std.proofs.Common.{◌≡◌, ◌∙◌, length, sym, arith}
use Rattle.std.proofs.lemmas.Bool.Decides.{nat_tests}
use Rattle.std.proofs.lemmas.List.{length-map}
use Rattle.tree_bytes.specs.declared.stored.StoredClass.{StoredClass}
use Rattle.kept_results.proofs.Naming.{names_of, differ_long}
use Rattle.kept_results.proofs.declared.have_same_names.Goals as goal

pub returns-then-old-new : goal.returns-then-old-new
returns-then-old-new c =
    differ_long (names_of c.args.old.now) (names_of c.args.new.now) (λ e.
    let same : length c.args.old.now ≡ length c.args.new.now = sym (length-map c.args.old.now (λ (k : StoredClass). k.name)) ∙ e ∙ length-map c.args.new.now (λ (k : StoredClass). k.name) in
    grind (arith, nat_tests))
