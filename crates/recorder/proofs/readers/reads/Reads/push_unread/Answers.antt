use Rattle.recorder.proofs.FirstReads.{unread_place}
use Rattle.recorder.proofs.readers.reads.Reads.push_unread.Goals as goal

pub push_first-requires-clause-unread : goal.push_first-requires-clause-unread
push_first-requires-clause-unread c = rw c.self.view_is (unread_place c.args.self.now c.args.read.key c.requires)
