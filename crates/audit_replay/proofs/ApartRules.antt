-- Results of sessions in which no two different ones share a fingerprint.
use Rattle.std.proofs.Common.{◌≡◌, List, take, subst}
use Rattle.std.specs.List.{AllByRecursion}
use Rattle.item_ids.specs.declared.key.Key.{Key}
use Rattle.result_bytes.specs.declared.value.Value.{Value}
use Rattle.result_bytes.specs.Values.{IsValue}
use Rattle.result_bytes.proofs.ValueLaws.{one_value}
use Rattle.fingerprint.specs.Prints.{print_of}
use Rattle.std.specs.Prelude.{Some}
use Rattle.sessions.specs.Sessions.{SessionValue, IsSession, FitsBehind, Entry, entry_at}
use Rattle.graph_rules.proofs.NextRules.{all_at}
use Rattle.audit_graph.proofs.Entries.{told_by}
use Rattle.audit_replay.specs.Audits.{IsRecorded, AreApart}

-- what a session holds is a value
value_fits : (s : SessionValue) → IsSession s → (q : Key) (r : Entry) → entry_at s q ≡ Some r → IsValue r.value
value_fits s session q r has =
    let t = told_by s q r has in
    let fits = subst (FitsBehind (take t.0 s.records)) t.3 (session.records t.0 t.1 t.2) in
    subst (λ (y : Entry). IsValue y.value) t.4 fits.kept.value

recorded_fits : (ss : List SessionValue) → AllByRecursion IsSession ss → (v : Value) → IsRecorded ss v → IsValue v
recorded_fits ss each v r = subst IsValue r.value (value_fits r.session (all_at IsSession ss each r.session r.there) r.key r.entry r.has)

-- results of the sessions that share a fingerprint are one
abbrev pub AreOneByPrint : List SessionValue → Type 0
AreOneByPrint ss = (v w : Value) → IsRecorded ss v → IsRecorded ss w → print_of v ≡ print_of w → v ≡ w

pub one_by_print : (ss : List SessionValue) → AllByRecursion IsSession ss → AreApart ss → AreOneByPrint ss
one_by_print ss each apart v w a b same = one_value v w (recorded_fits ss each v a) (recorded_fits ss each w b) (apart v w a b same)
