use Rattle.mini_java.proofs.TakenRules.{end_accepted, end_last, end_right, end_headline, end_memory, end_refused}
use Rattle.mini_java.proofs.auditor.ChainAuditor.end.Goals as goal

pub returns-clause-accepted : goal.returns-clause-accepted
returns-clause-accepted c = end_accepted c.args.self.runner.log.items c.args.self.auditor.state c.end.result c.end.ensures.gives

pub returns-clause-profile : goal.returns-clause-profile
returns-clause-profile c = end_last c.args.self.runner.log.items c.args.self.auditor.state c.end.result c.end.ensures.gives

pub returns-clause-right : goal.returns-clause-right
returns-clause-right c = end_right c.args.self.runner.log.items c.args.self.auditor.state c.end.result c.end.ensures.gives

pub returns-clause-headline : goal.returns-clause-headline
returns-clause-headline c = end_headline c.args.self.runner.log.items c.args.self.auditor.state c.answer_laws.ensures c.end.result c.end.ensures.gives

pub returns-clause-refused : goal.returns-clause-refused
returns-clause-refused c = end_refused c.args.self.runner.log.items c.args.self.auditor.state c.end.result c.end.ensures.gives

pub returns-clause-memory : goal.returns-clause-memory
returns-clause-memory c = end_memory c.args.self.runner.log.items c.args.self.auditor.state c.end.result c.end.ensures.gives
