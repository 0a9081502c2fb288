use Rattle.mini_java.proofs.TakenRules.{against_accepted, against_each, against_headline, against_memory, against_profile, against_refused}
use Rattle.mini_java.proofs.auditor.ChainAuditor.end_against.Goals as goal

pub returns-clause-accepted : goal.returns-clause-accepted
returns-clause-accepted c =
    against_accepted c.args.self.runner.log.items c.args.self.auditor.state c.args.project.now c.end_against.result c.end_against.ensures.gives

pub returns-clause-headline : goal.returns-clause-headline
returns-clause-headline c = against_headline c.args.self.runner.log.items c.args.self.auditor.state c.args.project.now c.answer_laws.ensures
    c.end_against.result c.end_against.ensures.gives

pub returns-clause-refused : goal.returns-clause-refused
returns-clause-refused c =
    against_refused c.args.self.runner.log.items c.args.self.auditor.state c.args.project.now c.end_against.result c.end_against.ensures.gives

pub returns-clause-profile : goal.returns-clause-profile
returns-clause-profile c =
    against_profile c.args.self.runner.log.items c.args.self.auditor.state c.args.project.now c.end_against.result c.end_against.ensures.gives

pub returns-clause-right : goal.returns-clause-right
returns-clause-right c =
    against_each c.args.self.runner.log.items c.args.self.auditor.state c.args.project.now c.end_against.result c.end_against.ensures.gives

pub returns-clause-memory : goal.returns-clause-memory
returns-clause-memory c =
    against_memory c.args.self.runner.log.items c.args.self.auditor.state c.args.project.now c.end_against.result c.end_against.ensures.gives
