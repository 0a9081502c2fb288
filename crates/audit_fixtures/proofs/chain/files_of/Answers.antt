use Rattle.std.proofs.Common.{◌<◌, ◌≤◌, ℕ, List, [], None, length, map, subst, arith}
use Rattle.std.proofs.lemmas.List.{take_all}
use Rattle.sessions.specs.Sessions.{session_in}
use Rattle.devices.specs.declared.memory.MemorySink.{MemorySink}
use Rattle.table_fixtures.specs.declared.changes.Change.{Change}
use Rattle.table_fixtures.specs.Told.{InTurn}
use Rattle.table_fixtures.proofs.Turns.{one_further}
use Rattle.audit_fixtures.specs.Chains.{IsFiled}
use Rattle.audit_fixtures.proofs.Filing.{filed_behind}
use Rattle.audit_fixtures.proofs.chain.files_of.Goals as goal

pub loop-change-preserved : goal.loop-change-preserved
loop-change-preserved c =
    let chain = c.args.chain.now in
    let at = c.loop-change.change-index in
    let l : at < length chain = omega arith in
    let old : List (List ℕ) = map (λ (f : MemorySink). f.bytes.items) c.loop-change.files.items in
    let new : List (List ℕ) = map (λ (f : MemorySink). f.bytes.items) c.add.new.files.items in
    let before = session_in c.loop-change.last in
    let after = session_in c.in_ok-last.last in
    one_further IsFiled chain at _ (None, []) (before, old) (after, new) l c.loop-change.invariant
    (filed_behind _ before after old new c.in_ok-add.ensures.0 c.in_ok-last.ensures c.in_ok-add.ensures.1 c.in_ok-add.ensures.2)

pub returns : goal.returns
returns c =
    let chain = c.args.chain.now in
    let le : length chain ≤ c.loop-change.change-index = omega arith in
    let files : List (List ℕ) = map (λ (f : MemorySink). f.bytes.items) c.loop-change.files.items in
    let last = session_in c.loop-change.last in
    record {
      last = last;
      filed = subst (λ (cs : List Change). InTurn IsFiled cs (None, []) (last, files)) (take_all c.loop-change.change-index chain le) c.loop-change.invariant;
    }
