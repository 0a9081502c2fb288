use Rattle.std.proofs.Common.{map, take, string_bytes, subst, List, sym, ◌++◌, ◌∷◌, [], ℕ}
use Rattle.std.proofs.lemmas.List.{take_all}
use Rattle.std.specs.declared.alloc.Global.{Global}
use Rattle.std.specs.declared.string.String.{String}
use Rattle.session_cache.specs.Names.{IsHighest}
use Rattle.session_cache.proofs.NameRules.{more_names}
use Rattle.session_cache.proofs.names.highest.Goals as goal

pub loop-name-preserved : goal.loop-name-preserved
loop-name-preserved c =
    let name : List ℕ = string_bytes c.name-item.result in
    let before : List (List ℕ) = map string_bytes (take c.loop-name.name-index c.args.names.now) in
    more_names _ string_bytes c.args.what c.higher-highest.result c.args.names.now c.loop-name.name-index c.name-item.result c.loop-name-test.true (sym c.name-item.is)
    (subst (λ (n : List ℕ). IsHighest c.args.what (before ++ n ∷ []) c.higher-highest.result) {y = name} c.as_bytes.ensures.value (c.higher-highest.ensures before c.loop-name.invariant))

pub returns : goal.returns
returns c = subst (λ (l : List (String Global)). IsHighest c.args.what (map string_bytes l) c.loop-name.highest) (take_all c.loop-name.name-index c.args.names.now c.loop-name-test.false) c.loop-name.invariant
