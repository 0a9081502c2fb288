use Rattle.std.proofs.Common.{◌++◌, ◌∙◌}
use Rattle.sha2.specs.Sha256.{sha256}
use Rattle.sessions.specs.Spelling.{body_bytes}
use Rattle.session_file.proofs.PartLaws.{digest_is}
use Rattle.session_file.proofs.reading.files.with_end.Goals as goal

pub with_digest-requires : goal.with_digest-requires
with_digest-requires c =
    let body = body_bytes c.args.session in
    c.digest.ensures (body ++ sha256 body) (c.close.ensures.holds body c.requires) ∙ digest_is c.args.session
