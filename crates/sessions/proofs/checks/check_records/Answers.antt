use Rattle.std.proofs.Common.{◌<◌, length, arith}
use Rattle.sessions.proofs.RecordLaws.{fits_more}
use Rattle.sessions.proofs.checks.check_records.Goals as goal

pub loop-i-preserved : goal.loop-i-preserved
loop-i-preserved c =
    let lt : c.loop-i.i < length c.args.records.now = omega arith in
    record {
      length = omega (arith, c.in-Ok.ensures.length, c.in_ok-check_record.ensures.length, c.loop-i.invariant.length);
      unseen = c.in-Ok.ensures.unseen;
      fit = fits_more c.args.records.now c.loop-i.i c.index-records-i.result lt c.index-records-i.is c.loop-i.invariant.fit c.in_ok-check_record.ensures.fits;
    }
