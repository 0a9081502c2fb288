use Rattle.std.proofs.Common.{◌≡◌, ◌∷◌, ◌⊎◌, inl, inr, List, ℕ, length, ◌-◌, take, Bor, drop, get_or, Some, None, sym, ap, subst, ◌∙◌}
use Rattle.redgreen_rules.specs.Programs.{Ret, Ask, Value, Prog}
use Rattle.redgreen_audit.specs.Answering.{told_first, Tells}
use Rattle.redgreen_audit.specs.Right.{FirstReads}
use Rattle.redgreen_example.specs.Echoes.{echo_of}
use Rattle.redgreen_example.proofs.EchoRuns.{echoed, wanted, emptied, head_tail, if_some, if_none}
use Rattle.redgreen_example.proofs.echo.EchoClient.run.Goals as goal

pub returns-in-Ok-clause-gave : goal.returns-in-Ok-clause-gave
returns-in-Ok-clause-gave c = λ none.
    let a = c.args.answers.now in
    emptied c.args.key.now c.in-Ok.none (told_first a.records.now a.reads.now a.count) c.in_default.len_below (ap (told_first a.records.now a.reads.now) c.requires.none) c.in-Ok.ensures

pub returns-in-Ok-before-clause-gave : goal.returns-in-Ok-before-clause-gave
returns-in-Ok-before-clause-gave c = λ none.
    let key = c.args.key.now in
    let a = c.args.answers.now in
    let b = c.read.new.self in
    let told = told_first b.records.now b.reads.now b.count in
    let rest = take (length key - 1) (drop 1 key) in
    let is : key ≡ get_or key 0 0 ∷ rest = head_tail key c.in-len1-up.len_at_least in
    subst (λ (k : List ℕ). FirstReads (echo_of k) told (Ret c.in-Ok-before.bytes)) (sym is)
    (subst (λ (v : List ℕ). FirstReads (echo_of (get_or key 0 0 ∷ rest)) told (Ret v)) (sym c.in-Ok-before.ensures)
    (echoed (get_or key 0 0) rest c.in-Ok-Some.value.now (told_first a.records.now a.reads.now a.count) told (ap (told_first a.records.now a.reads.now) c.requires.none) (if_some (λ (v : Bor (List ℕ)). Tells (told_first a.records.now a.reads.now a.count) rest v.now told) c.in-Ok-Some.field-0 c.in-Ok-Some.value c.in-Ok-Some.field-0-is c.in-Ok-Some.ensures.told)))

pub returns-in-Ok-None-clause-wanted : goal.returns-in-Ok-None-clause-wanted
returns-in-Ok-None-clause-wanted c = λ k e.
    let key = c.args.key.now in
    let b = c.read.new.self in
    let told = told_first b.records.now b.reads.now b.count in
    let rest = take (length key - 1) (drop 1 key) in
    let is : key ≡ get_or key 0 0 ∷ rest = head_tail key c.in-len1-up.len_at_least in
    let refused = if_none c.in-Ok-None.field-0 c.in-Ok-None.field-0-is c.in-Ok-None.ensures.refused in
    let none = ap (told_first b.records.now b.reads.now) (refused.0 ∙ c.requires.none) in
    let other : (b.other ≡ None) ⊎ (b.other ≡ Some rest) = elim refused.1 [ inl o ↦ inl (o ∙ c.requires.other) | inr o ↦ inr o ] in
    subst (λ (q : List ℕ). (f : Value → Prog) × FirstReads (echo_of q) told (Ask k f)) (sym is) (wanted (get_or key 0 0) rest k told b.other none e other)
