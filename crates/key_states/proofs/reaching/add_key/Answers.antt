use Rattle.std.proofs.Common.{sym, ◌∙◌}
use Rattle.item_ids.proofs.Apart.{test_same}
use Rattle.key_states.proofs.ReachRules.{adds_inserted}
use Rattle.key_states.proofs.SetRules.{key_at}
use Rattle.key_states.proofs.reaching.add_key.Goals as goal

pub returns-clause-adds : goal.returns-clause-adds
returns-clause-adds c = rw (c.in_ok-at.ensures.keys, c.in_ok-copy.ensures) (adds_inserted c.args.keys.now.keys c.args.key.now)

pub returns-clause-same : goal.returns-clause-same
returns-clause-same c =
    let stored = c.in_ok-at.ensures.stored in
    key_at c.insert_full.new.self.keys c.in_ok-at.at stored.0 stored.1 ∙ (sym (test_same _ stored.0 stored.2) ∙ c.in_ok-copy.ensures)
