use Rattle.std.proofs.Common.{◌++◌, ◌∙◌, ap, codes, decimal, string_bytes}
use Rattle.std.proofs.lemmas.Result.{on_ok_weaker}
use Rattle.session_text.proofs.Added.{four, pushed}
use Rattle.session_text.proofs.faults.write_fault.Goals as goal

pub returns-in-BadEdge-clause-written : goal.returns-in-BadEdge-clause-written
returns-in-BadEdge-clause-written c =
    let n = c.in-BadEdge.n in
    let i = c.in-BadEdge.i in
    rw c.in-BadEdge.is (on_ok_weaker c.write-in-BadEdge.result
    (λ e. e ∙ ap (λ words. string_bytes c.args.text.now ++ (codes "11.6 BadEdge(" ++ words)) (four (decimal n) (codes ", ") (decimal i) (codes ")")))
    c.write-in-BadEdge.ensures.bytes)

pub returns-in-Result-clause-written : goal.returns-in-Result-clause-written
returns-in-Result-clause-written c = rw c.in-Result.is c.write-in-Result.ensures.bytes

pub returns-in-InputKind-clause-written : goal.returns-in-InputKind-clause-written
returns-in-InputKind-clause-written c = rw c.in-InputKind.is c.write-in-InputKind.ensures.bytes

pub returns-in-Device-clause-written : goal.returns-in-Device-clause-written
returns-in-Device-clause-written c = rw c.in-Device.is (pushed c.push_str-in-Device.result _ (string_bytes c.args.text.now) _ c.push_str-in-Device.ensures.bytes)

pub returns-in-BadKey-clause-written : goal.returns-in-BadKey-clause-written
returns-in-BadKey-clause-written c = rw c.in-BadKey.is c.write-in-BadKey.ensures.bytes

pub returns-in-Number-clause-written : goal.returns-in-Number-clause-written
returns-in-Number-clause-written c = rw c.in-Number.is (pushed c.push_str-in-Number.result _ (string_bytes c.args.text.now) _ c.push_str-in-Number.ensures.bytes)
