use Rattle.mj_lexer.proofs.Lexings.{gives_tokens, gives_fault, only_tokens, only_fault}
use Rattle.mj_lexer.proofs.lexer.lex_over.Goals as goal

pub returns-clause-only : goal.returns-clause-only
returns-clause-only c = only_tokens _ c.tokens.result c.tokens.ensures.found c.tokens.ensures.fault

pub returns-clause-fault_only : goal.returns-clause-fault_only
returns-clause-fault_only c = only_fault _ c.tokens.result c.tokens.ensures.found c.tokens.ensures.fault

pub returns-clause-tokens : goal.returns-clause-tokens
returns-clause-tokens c = gives_tokens _ c.tokens.result c.tokens.ensures.found

pub returns-clause-refusal : goal.returns-clause-refusal
returns-clause-refusal c = gives_fault _ c.tokens.result c.tokens.ensures.fault
