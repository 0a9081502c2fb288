use Rattle.std.proofs.Common.{◌<◌, ◌∙◌, length, sym, arith}
use Rattle.resident_graph.proofs.Lists.{items_at}
use Rattle.resident_graph.proofs.Keep.{keeps_more, unlinked, taken, announced_at}
use Rattle.resident_graph.proofs.graph.put.Goals as goal

pub returns-in_err-announce : goal.returns-in_err-announce
returns-in_err-announce g c = keeps_more _ _ _ _ _ _ _ _ c.requires.keeps _ _ c.announce.ensures.len c.announce.ensures.more c.announce.ensures.queue

pub relink-requires-clause-linked : goal.relink-requires-clause-linked
relink-requires-clause-linked g c = λ e lt has. (((c.requires.keeps.holds).each c.args.at c.requires.within).linked e has).1

pub returns-in_err-relink : goal.returns-in_err-relink
returns-in_err-relink g c =
    unlinked _ _ _ _ _ _ _ _ c.requires.keeps c.args.at c.requires.within _ _ _ _ c.relink.ensures.edges c.relink.ensures.others c.relink.ensures.len c.relink.ensures.readers
    c.announce.ensures.len c.announce.ensures.more c.announce.ensures.queue
    (c.announce.ensures.more c.args.at c.requires.queued) c.in_err-relink.ensures.err

pub returns : goal.returns
returns g c =
    let keeps = c.requires.keeps in
    let in_readers : c.args.at < length c.args.graph.now.readers.items = let e = keeps.aligned.readers in let l = c.requires.within in omega arith in
    taken _ _ _ _ _ _ _ _ keeps c.args.at c.requires.within _ _ _ _ c.relink.ensures.edges c.relink.ensures.others c.relink.ensures.len c.relink.ensures.readers
    c.announce.ensures.len c.announce.ensures.more c.announce.ensures.queue
    c.args.sealed c.args.edges c.in_ok-relink.ensures.ok.0 c.in_ok-relink.ensures.ok.1 c.requires.value
    (announced_at (g.R.Keeping.programs c.args.profile) g.R.Keeping.kept (g.met.R.Keeping.keeping.keeps c.args.profile) _ _ _ _ _ _ _ _ _
    (c.as_slice-2.ensures.value ∙ sym (items_at _ _ _ in_readers c.index.ensures)) c.as_slice.ensures.value keeps.aligned.queued c.in_ok-announce.ensures.ok)
