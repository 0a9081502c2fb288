use Rattle.std.proofs.Common.{◌++◌, ◌∙◌}
use Rattle.sha2.specs.Sha256.{sha256}
use Rattle.sessions.specs.Spelling.{body_bytes}
use Rattle.session_file.proofs.PartLaws.{digest_is}
use Rattle.session_file.proofs.writing.hashed_file.Goals as goal

pub returns : goal.returns
returns c =
    let body = body_bytes c.args.session.now in
    c.digest.ensures (body ++ sha256 body) (c.close-end.ensures.holds body c.hashed_body-hash.ensures) ∙ digest_is c.args.session.now
