use Rattle.std.proofs.Common.{◌≡◌, ◌∙◌, length, nat_le, ap}
use Rattle.std.specs.List.{filter}
use Rattle.mj_expressions.specs.Tokens.{has}
use Rattle.mj_parser.specs.Locations.{all_of}
use Rattle.file_index.proofs.Positions.{places_ascend, places_below, places_from, within_is}
use Rattle.file_index.proofs.terminals.TerminalPlaces.within.Goals as goal

pub before-requires : goal.before-requires
before-requires c =
    let all : c.deref.result.now ≡ all_of c.self.inside.tokens.now c.self.inside.terminal 0 (length c.self.inside.tokens.now) = c.deref.ensures.value ∙ c.self.invariant in
    rw all (places_ascend (λ at. has c.self.inside.tokens.now at c.self.inside.terminal) 0 (length c.self.inside.tokens.now))

pub returns-clause-places : goal.returns-clause-places
returns-clause-places c =
    let all : c.deref.result.now ≡ all_of c.self.inside.tokens.now c.self.inside.terminal 0 (length c.self.inside.tokens.now) = c.deref.ensures.value ∙ c.self.invariant in
    let end = rw (← c.self.view_is) at c.requires.end in
    let is = c.from.ensures ∙ (ap (filter (λ x. nat_le c.args.low x)) c.before-2.ensures.places ∙ within_is (λ at. has c.self.inside.tokens.now at c.self.inside.terminal) c.args.low c.args.high (length c.self.inside.tokens.now) c.deref.result.now c.requires.order end all) in
    rw (← c.self.view_is) is

pub returns-clause-first : goal.returns-clause-first
returns-clause-first c =
    let all : c.deref.result.now ≡ all_of c.self.inside.tokens.now c.self.inside.terminal 0 (length c.self.inside.tokens.now) = c.deref.ensures.value ∙ c.self.invariant in
    let end = rw (← c.self.view_is) at c.requires.end in
    let is = c.from.ensures ∙ (ap (filter (λ x. nat_le c.args.low x)) c.before-2.ensures.places ∙ within_is (λ at. has c.self.inside.tokens.now at c.self.inside.terminal) c.args.low c.args.high (length c.self.inside.tokens.now) c.deref.result.now c.requires.order end all) in
    rw is (places_from (λ at. has c.self.inside.tokens.now at c.self.inside.terminal) c.args.low c.args.high)

pub returns-clause-last : goal.returns-clause-last
returns-clause-last c =
    let all : c.deref.result.now ≡ all_of c.self.inside.tokens.now c.self.inside.terminal 0 (length c.self.inside.tokens.now) = c.deref.ensures.value ∙ c.self.invariant in
    let end = rw (← c.self.view_is) at c.requires.end in
    let is = c.from.ensures ∙ (ap (filter (λ x. nat_le c.args.low x)) c.before-2.ensures.places ∙ within_is (λ at. has c.self.inside.tokens.now at c.self.inside.terminal) c.args.low c.args.high (length c.self.inside.tokens.now) c.deref.result.now c.requires.order end all) in
    rw (is, ← c.self.view_is) (places_below (λ at. has c.self.inside.tokens.now at c.self.inside.terminal) c.args.low c.args.high (length c.self.inside.tokens.now) c.requires.order end)
