use Rattle.std.proofs.Common.{◌∙◌, inr, subst}
use Rattle.session_cache.specs.Starts.{IsUnreadable}
use Rattle.session_cache.proofs.folders.bytes_at.Goals as goal

pub returns-clause-unread : goal.returns-clause-unread
returns-clause-unread g c =
    inr (c.args.place, c.requires, subst (λ p. IsUnreadable p c.unreadable.result) (c.as_str-in-Err.ensures.value ∙ c.in_ok-path.ensures) c.unreadable.ensures)
