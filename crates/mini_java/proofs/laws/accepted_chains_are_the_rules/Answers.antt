use Rattle.mini_java.proofs.Headline.{audit_accepts_chain, chain_rules}
use Rattle.mini_java.proofs.laws.accepted_chains_are_the_rules.Goals as goal

pub returns-clause-accepted : goal.returns-clause-accepted
returns-clause-accepted c = audit_accepts_chain

pub returns-clause-headline : goal.returns-clause-headline
returns-clause-headline c = λ files profile answer count runs chain. chain_rules files profile answer count runs chain c.answer_laws.ensures
