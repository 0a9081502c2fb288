use Rattle.std.proofs.Common.{rules, ◌≡◌, true, false, sym}
use Rattle.std.specs.Prelude.{nat_eq}
use Rattle.std.specs.Cmp.Lexicographic.{pointwise}
use Rattle.steps_keys.specs.Keys.{class_text, number}
use Rattle.steps_keys.proofs.Equal.{other_class, same_class}
use Rattle.steps_keys.proofs.key.KeyPartialEq.eq.Goals as goal

pub returns-then-ne : goal.returns-then-ne
returns-then-ne c =
    let same : number c.args.self.now ≡ number c.args.other.now = search rules in
    let apart : pointwise nat_eq (class_text c.args.self.now) (class_text c.args.other.now) ≡ false = search rules in
    sym (other_class c.args.self.now c.args.other.now same apart)

pub returns : goal.returns
returns c =
    let same : number c.args.self.now ≡ number c.args.other.now = search rules in
    let tied : pointwise nat_eq (class_text c.args.self.now) (class_text c.args.other.now) ≡ true = search rules in
    rw (same_class c.args.self.now c.args.other.now same tied) (search rules)
