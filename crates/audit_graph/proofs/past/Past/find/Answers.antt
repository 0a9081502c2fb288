use Rattle.std.proofs.Common.{subst}
use Rattle.sessions.specs.Sessions.{SessionValue, IsSession}
use Rattle.audit_graph.specs.PastKeys.{AreKeysOf}
use Rattle.audit_graph.proofs.KeyPlaces.{finds}
use Rattle.audit_graph.proofs.past.Past.find.Goals as goal

pub returns-clause-found : goal.returns-clause-found
returns-clause-found c =
    let keys = c.self.inside.keys.keys in
    let same = subst (λ (s : SessionValue). AreKeysOf keys s.records) c.self.view_is c.self.invariant.1 in
    finds c.args.self.now (subst IsSession c.self.view_is c.records-records.ensures.session) c.args.key.now keys same c.get_index_of.result c.get_index_of.ensures.index c.get_index_of.ensures.found c.get_index_of.ensures.within
