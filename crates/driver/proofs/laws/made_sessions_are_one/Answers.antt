use Rattle.std.proofs.Common.{ap, sym}
use Rattle.sessions.specs.Spelling.{file_of}
use Rattle.driver.proofs.NextRules.{is_next, is_the_next}
use Rattle.driver.proofs.laws.made_sessions_are_one.Goals as goal

pub returns : goal.returns
returns c = λ queries laws terms past p project past_is v w a b r t a_is b_is h k apart.
    let next = is_next queries laws terms past p h.history a project past_is a_is h.events apart in
    let same = sym (is_the_next queries laws terms past p k.history b project past_is b_is k.events a next apart) in
    (same, ap file_of same)
