use Rattle.std.specs.BTreeSet.{contains}
use Rattle.item_ids.specs.Keys.{key_cmp}
use Rattle.sessions.specs.Sessions.{entries}
use Rattle.audit_graph.specs.Sources.{IsAdmitted, IsNoStray}
use Rattle.audit_graph.proofs.Entries.{first_alike}
use Rattle.audit_graph.proofs.PlaceRules.{named_alike}
use Rattle.audit_graph.proofs.sources.first_stray.Goals as goal

pub returns : goal.returns
returns c =
    let test = contains key_cmp c.in_ok-named.named in
    first_alike (IsAdmitted test) (IsNoStray c.args.sources.now) (named_alike test c.args.sources.now c.in_ok-named.ensures) (entries c.args.session.now)
    c.first_unnamed.result c.first_unnamed.ensures
