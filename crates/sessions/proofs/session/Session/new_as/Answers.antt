use Rattle.std.proofs.Common.{◌≤◌, arith}
use Rattle.sessions.proofs.RecordLaws.{refused_of}
use Rattle.sessions.proofs.session.Session.new_as.Goals as goal

pub returns-in-Err-clause-refused : goal.returns-in-Err-clause-refused
returns-in-Err-clause-refused c =
    let le : c.args.number ≤ 9999 = omega arith in
    refused_of c.args.number c.args.records.items c.in-Err.fault le (rw c.deref.ensures.value at c.in-Err.ensures.refused)
