use Rattle.std.proofs.Common.{map, take, string_bytes, subst, List, sym, ◌++◌, ◌∷◌, [], ℕ}
use Rattle.std.proofs.lemmas.List.{take_all}
use Rattle.std.specs.declared.alloc.Global.{Global}
use Rattle.std.specs.declared.string.String.{String}
use Rattle.session_cache.specs.Names.{AreNumbers}
use Rattle.session_cache.proofs.NameRules.{more_numbers, numbers_sorted}
use Rattle.session_cache.proofs.names.numbers_in.Goals as goal

pub loop-name-preserved : goal.loop-name-preserved
loop-name-preserved c =
    let name : List ℕ = string_bytes c.name-item.result in
    let before : List (List ℕ) = map string_bytes (take c.loop-name.name-index c.args.names.now) in
    let numbers : List ℕ = c.add_number.new.numbers.items in
    more_numbers _ string_bytes c.args.what numbers c.args.names.now c.loop-name.name-index c.name-item.result c.loop-name-test.true (sym c.name-item.is)
    (subst (λ (n : List ℕ). AreNumbers c.args.what (before ++ n ∷ []) numbers) {y = name} c.as_bytes.ensures.value (c.in_ok-add_number.ensures before c.loop-name.invariant))

pub returns-clause-numbers : goal.returns-clause-numbers
returns-clause-numbers c =
    let all = subst (λ (l : List (String Global)). AreNumbers c.args.what (map string_bytes l) c.loop-name.numbers.items) (take_all c.loop-name.name-index c.args.names.now c.loop-name-test.false) c.loop-name.invariant in
    numbers_sorted c.args.what _ c.loop-name.numbers.items c.sort_unstable.new.self.items all c.sort_unstable.ensures.permutation

pub returns-clause-few : goal.returns-clause-few
returns-clause-few c = λ k d lt.
    let all = numbers_sorted c.args.what _ c.loop-name.numbers.items c.sort_unstable.new.self.items c.loop-name.invariant c.sort_unstable.ensures.permutation in
    (all.named k d lt).0
