use Rattle.std.proofs.Common.{◌≡◌, ◌∙◌, ◌<◌, Some, true, false, length, get_or, sym, ap, arith}
use Rattle.sessions.specs.Sessions.{key_at}
use Rattle.session_text.specs.Causes.{is_red}
use Rattle.session_text.proofs.Found.{found_at, none_next}
use Rattle.session_text.proofs.causes.reds.first_red.Goals as goal

pub returns-then-is_red : goal.returns-then-is_red
returns-then-is_red c =
    let test = is_red (Some c.args.past.now) c.args.session.now in
    let key = key_at c.args.past.now.records in
    let edges = c.args.edges.now in
    let n = c.loop-edge.edge-index in
    let lt : n < length edges = omega (arith, c.loop-edge-test.true) in
    let is : test (key (get_or edges n 0)) ≡ true = sym (c.is_red.ensures ∙ ap test c.key_of-key.ensures) ∙ c.if-is_red.true in
    ap (λ q. Some q) c.key_of-key.ensures ∙ sym (found_at test key edges n lt c.loop-edge.invariant is)

pub loop-edge-preserved : goal.loop-edge-preserved
loop-edge-preserved c =
    let test = is_red (Some c.args.past.now) c.args.session.now in
    let key = key_at c.args.past.now.records in
    let edges = c.args.edges.now in
    let n = c.loop-edge.edge-index in
    let lt : n < length edges = omega (arith, c.loop-edge-test.true) in
    let is : test (key (get_or edges n 0)) ≡ false = sym (c.is_red.ensures ∙ ap test c.key_of-key.ensures) ∙ c.if-is_red.false in
    none_next test key edges n lt c.loop-edge.invariant is
