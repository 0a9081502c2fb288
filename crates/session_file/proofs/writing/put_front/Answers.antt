use Rattle.std.proofs.Common.{rules, List, ℕ, subst}
use Rattle.devices.specs.Devices.{Puts}
use Rattle.session_file.proofs.PartLaws.{front_is}
use Rattle.session_file.proofs.writing.put_front.Goals as goal

pub returns-clause-holds : goal.returns-clause-holds
returns-clause-holds g c =
    let whole = front_is c.args.item.now c.as_slice.result.now c.as_slice-2.result.now c.text-class.result.now c.as_slice-3.result.now c.text-member.result.now c.as_slice-4.result.now c.as_slice-5.result.now (search rules) (search rules) (search rules) (search rules) (search rules) (search rules) (search rules) in
    subst (λ (bytes : List ℕ). Puts (g.W.Sink.holds c.args.sink.now) (g.W.Sink.holds c.put_parts.new.sink) bytes c.put_parts.result) whole c.put_parts.ensures.holds
