use Rattle.devices.proofs.PutLaws.{handed_on}
use Rattle.std.proofs.Common.{◌++◌, ◌∙◌}
use Rattle.sha2.specs.Sha256.{sha256}
use Rattle.redgreen_files.specs.Spelling.{file_value, body_of}
use Rattle.redgreen_files.proofs.FileLaws.{body_hashed, file_fits, file_found, end_halts, body_halts, file_digest}
use Rattle.redgreen_files.proofs.reading.files.read_whole.Goals as goal

pub returns-in_err-session-clause-whole : goal.returns-in_err-session-clause-whole
returns-in_err-session-clause-whole g c = rw (handed_on c.from_residual.result _ c.from_residual.ensures.1) (body_halts _ c.in_err-session.field-0.0 c.in_err-session.ensures.value)

pub returns-in_err-read_end-clause-whole : goal.returns-in_err-read_end-clause-whole
returns-in_err-read_end-clause-whole g c =
    let s = file_value c.in_ok-session.session in
    let p = c.in_ok-session.ensures.value in
    let end = c.close-end.ensures.end (body_of s) (body_hashed s p c.new-hash.ensures) in
    rw (handed_on c.from_residual-in_err-read_end.result _ c.from_residual-in_err-read_end.ensures.1) (end_halts s p c.in_err-read_end.field-0.0 (rw end at c.in_err-read_end.ensures.ends))

pub returns-clause-whole : goal.returns-clause-whole
returns-clause-whole g c =
    let s = file_value c.in_ok-session.session in
    let p = c.in_ok-session.ensures.value in
    let body = body_hashed s p c.new-hash.ensures in
    let end = c.close-end.ensures.end (body_of s) body in
    record {
      fits = file_fits s p;
      found = file_found s p (rw end at c.in_ok-read_end.ensures.ends);
      digest = c.digest.ensures (body_of s ++ sha256 (body_of s)) (c.close-end.ensures.holds (body_of s) body) ∙ file_digest s;
    }
