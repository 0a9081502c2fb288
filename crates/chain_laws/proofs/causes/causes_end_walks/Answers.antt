use Rattle.std.proofs.Common.{subst}
use Rattle.chain_laws.proofs.Made.{named_ends, stays_in}
use Rattle.chain_laws.proofs.causes.causes_end_walks.Goals as goal

pub returns : goal.returns
returns c = λ queries laws terms past p history s project past_is session events apart q e stays why.
    named_ends queries terms past p history s session events laws project past_is apart q e.now why.1.0 why.1.1
    (stays_in queries terms past p history s session events q stays) why.0 why.1.2
