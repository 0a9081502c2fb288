use Rattle.session_cache.proofs.NameRules.{number_added, number_passed}
use Rattle.session_cache.proofs.names.add_number.Goals as goal

pub returns-in_ok-push-in-Some : goal.returns-in_ok-push-in-Some
returns-in_ok-push-in-Some c = λ front h. rw c.in_ok-push-in-Some.ensures.items (number_added c.args.what c.args.name.now c.in-Some.number c.in-Some.ensures front c.args.numbers.now.items h)

pub returns-in-None : goal.returns-in-None
returns-in-None c = λ front h. number_passed c.args.what c.args.name.now c.in-None.ensures front c.args.numbers.now.items h
