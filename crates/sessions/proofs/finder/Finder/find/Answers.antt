use Rattle.std.proofs.Common.{ap, ◌∙◌}
use Rattle.sessions.specs.Sessions.{RecordValue}
use Rattle.sessions.proofs.EntryRules.{entry_here, edges_here, no_entry}
use Rattle.sessions.proofs.finder.Finder.find.Goals as goal

pub returns : goal.returns
returns c =
    let value = c.records.ensures.value in
    let session = c.records.ensures.session in
    let r = c.index-records-at.result in
    let is = rw value at c.index-records-at.is in
    let lt = c.in-Some.ensures.within in
    record {
      found = entry_here c.args.session.now session c.args.key.now c.in-Some.at r lt is (ap (λ (x : RecordValue). x.key) is ∙ c.in-Some.ensures.found r);
      edges = edges_here c.args.session.now session c.in-Some.at r lt is;
      within = lt;
      there = is;
    }

pub returns-in_default-clause-found : goal.returns-in_default-clause-found
returns-in_default-clause-found c = no_entry c.args.session.now c.args.key.now c.in_default.ensures.none
