use denote.Bor.{Bor}
use Rattle.std.proofs.Common.{List, map, subst, arith}
use Rattle.std.specs.Option.{option_copied}
use Rattle.item_ids.specs.declared.key.Key.{Key}
use Rattle.sessions.specs.Sessions.{RecordValue}
use Rattle.session_text.specs.Parts.{records_in}
use Rattle.session_text.proofs.KeyRules.{keys_in, keys_of_either}
use Rattle.session_text.proofs.Merging.{IsMerge, keys_more, merge_ends, no_step, step_more}
use Rattle.session_text.proofs.causes.keys.keys_of_either.Goals as goal

pub loop-step-init : goal.loop-step-init
loop-step-init c = record { before_left = omega arith; records_left = omega arith; merges = λ rest m. rw c.in_ok-keys.ensures.items m }

pub loop-step-preserved : goal.loop-step-preserved
loop-step-preserved c =
    let ks = keys_in c.records_of-before.result.now in
    let js = keys_in c.records-records.result.now in
    let fits = c.in-Some.ensures.fits in
    record {
      before_left = fits.past;
      records_left = fits.now;
      merges = λ rest m.
          rw c.in_ok-push.ensures.items
          (keys_more (λ (key : Bor Key). key.now) ks js c.loop-step.i c.loop-step.j c.loop-step.keys.items c.in-Some.step.key c.in-Some.step.past c.in-Some.step.now c.loop-step.invariant.merges
          (λ zs n. step_more ks js c.loop-step.i c.loop-step.j zs c.in-Some.step c.in-Some.ensures.step n) rest m);
    }

pub returns : goal.returns
returns c =
    let ks = keys_in c.records_of-before.result.now in
    let js = keys_in c.records-records.result.now in
    let keys = map (λ (key : Bor Key). key.now) c.loop-step.keys.items in
    let m : IsMerge ks js keys =
    merge_ends (λ (key : Bor Key). key.now) ks js c.loop-step.i c.loop-step.j c.loop-step.keys.items c.loop-step.invariant.merges (no_step ks js c.loop-step.i c.loop-step.j c.in_default.ensures.step) in
    keys_of_either (option_copied c.args.past) c.records_of-before.ensures.session c.args.session.now c.records-records.ensures.session keys
    (subst (λ (rs : List RecordValue). IsMerge (keys_in (records_in (option_copied c.args.past))) (keys_in rs) keys) c.records-records.ensures.value
    (subst (λ (rs : List RecordValue). IsMerge (keys_in rs) js keys) c.records_of-before.ensures.value m))
