use Rattle.std.proofs.lemmas.Result.{IfErr-weaker}
use Rattle.mini_java.proofs.TakenRules.{takes_file, refuses_behind}
use Rattle.mini_java.proofs.auditor.ChainAuditor.take.Goals as goal

pub returns-clause-taken : goal.returns-clause-taken
returns-clause-taken g c = takes_file _ _ _ _ c.take.result c.take.ensures.taken

pub returns-clause-refused : goal.returns-clause-refused
returns-clause-refused g c = IfErr-weaker c.take.result _ _
    (λ fault known files bytes t held. refuses_behind files bytes _ _ _ t fault (known t.sessions bytes t.sums held))
    c.take.ensures.refused

pub returns-clause-counted : goal.returns-clause-counted
returns-clause-counted g c = λ files t. c.take.ensures.counted t.sessions t.sums
