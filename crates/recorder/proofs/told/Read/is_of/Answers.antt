use Rattle.std.proofs.Common.{rules}
use Rattle.item_ids.proofs.Apart.{key_tests}
use Rattle.recorder.proofs.told.Read.is_of.Goals as goal

pub returns : goal.returns
returns c =
    let h = key_tests c.self.inside.key c.args.key.now in
    search rules
