use Rattle.std.specs.Arc.{arc_value}
use Rattle.std.proofs.Common.{inl}
use Rattle.linkable.proofs.auditing.audit_files.Goals as goal

pub returns-in_ok-accepted_texts-in-Ok : goal.returns-in_ok-accepted_texts-in-Ok
returns-in_ok-accepted_texts-in-Ok c =
    let audited = c.in-Ok.audited in
    inl (record {
      profile = audited.profile;
      v = arc_value audited.answer;
      sessions = audited.sessions;
      runs = audited.runs;
      accepted = c.in-Ok.ensures.accepted;
      headline = c.in-Ok.ensures.headline;
      texts = c.in_ok-accepted_texts-in-Ok.field-0;
      tells = c.in_ok-accepted_texts-in-Ok.ensures;
      told_is = c.on_chain.ensures;
    })
