use Rattle.std.proofs.Common.{ap, ◌∙◌}
use Rattle.sessions.specs.Sessions.{RecordValue}
use Rattle.sessions.proofs.EntryRules.{entry_here, edges_here, no_entry}
use Rattle.sessions.proofs.session.Session.find.Goals as goal

pub returns-in-Some : goal.returns-in-Some
returns-in-Some c =
    let value = c.records-records.ensures.value in
    let session = c.records-records.ensures.session in
    let r = c.index-records-at.result in
    let is = rw value at c.index-records-at.is in
    let lt = rw value at c.in-Some.ensures.within in
    let here = rw value at c.in-Some.ensures.found in
    record {
      found = entry_here c.args.self.now session c.args.key.now c.in-Some.at r lt is (ap (λ (x : RecordValue). x.key) is ∙ here r);
      edges = edges_here c.args.self.now session c.in-Some.at r lt is;
    }

pub returns-in-None : goal.returns-in-None
returns-in-None c = record {
  found = no_entry c.args.self.now c.args.key.now (rw c.records-records.ensures.value at c.in-None.ensures.none);
  edges = tt;
}
