use Rattle.std.specs.Arc.{arc_value}
use Rattle.std.proofs.Common.{inr, refl}
use Rattle.program_run.specs.Audits.{told_of, file_names}
use Rattle.program_run.proofs.Sources.{accepted_answer}
use Rattle.program_run.proofs.subcommands.auditing.audit.Goals as goal

pub accepted_texts-requires : goal.accepted_texts-requires
accepted_texts-requires g c =
    let all = c.in_ok-auditor.ensures.taken in
    let audited = c.in-Ok.audited in
    accepted_answer c.in_ok-project.project all.front.files audited.profile (arc_value audited.answer) audited.sessions audited.runs
    (c.in-Ok.ensures.accepted all.front.files all.front.taken)

pub returns-in-Ok-clause-reports : goal.returns-in-Ok-clause-reports
returns-in-Ok-clause-reports g c =
    let all = c.in_ok-auditor.ensures.taken in
    let audited = c.in-Ok.audited in (
      told_of c.args.asked.progress (file_names c.args.asked) all.front.taken.sessions,
      all.front.told,
      record {
        files = all.front.files;
        many = all.many;
        read = all.front.read;
        each = all.front.taken.sessions;
        spelled = all.front.taken.passed.spelled;
        sessions_are = all.front.taken.passed.each;
        told_is = refl;
        profile = audited.profile;
        v = arc_value audited.answer;
        sessions = audited.sessions;
        runs = audited.runs;
        project = c.in_ok-project.project;
        named = c.in_ok-project.ensures.named;
        accepted = c.in-Ok.ensures.accepted all.front.files all.front.taken;
        written = record {
          texts = c.in_ok-accepted_texts-in-Ok.field-0;
          tells = c.in_ok-accepted_texts-in-Ok.ensures;
          report_is = c.on_chain.ensures;
        };
      },
    )

pub returns-clause-failed : goal.returns-clause-failed
returns-clause-failed g c =
    let all = c.in_ok-auditor.ensures.taken in
    inr (record {
      auditor = c.in_ok-auditor.auditor;
      took = all;
      project = c.in_ok-project.project;
      named = c.in_ok-project.ensures.named;
      refused = c.in-Err.ensures.refused all.front.files all.front.taken;
    })
