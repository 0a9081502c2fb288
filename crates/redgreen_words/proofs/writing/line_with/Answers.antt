use Rattle.std.proofs.Common.{◌≡◌, ◌++◌, rules, flat_map}
use Rattle.redgreen_words.specs.Words.{spell, AreSmall}
use Rattle.redgreen_words.proofs.Numbers.{line_built, line_small}
use Rattle.redgreen_words.proofs.Spelled.{spaced}
use Rattle.redgreen_words.proofs.writing.line_with.Goals as goal

pub returns-clause-line : goal.returns-clause-line
returns-clause-line c =
    let first : c.in_ok-line.line.items ≡ spell c.args.word = search rules in
    let second : c.put_numbers.new.out.items ≡ c.in_ok-line.line.items ++ flat_map spaced c.args.numbers.now = search rules in
    let third : c.put_numbers-2.new.out.items ≡ c.put_numbers.new.out.items ++ flat_map spaced c.in_ok-lengths.lengths.items = search rules in
    line_built (λ s. s.now) c.args.word c.args.numbers.now c.in_ok-lengths.lengths.items c.args.strings.now c.in_ok-line.line.items c.put_numbers.new.out.items c.put_numbers-2.new.out.items c.in_ok-lengths.ensures first second third

pub returns-clause-small : goal.returns-clause-small
returns-clause-small c =
    let second : AreSmall c.args.numbers.now = search rules in
    let third : AreSmall c.in_ok-lengths.lengths.items = search rules in
    line_small (λ s. s.now) c.args.numbers.now c.in_ok-lengths.lengths.items c.args.strings.now c.in_ok-lengths.ensures second third
