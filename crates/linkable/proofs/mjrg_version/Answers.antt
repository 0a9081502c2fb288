use Rattle.linkable.proofs.mjrg_version.Goals as goal

pub returns : goal.returns
returns c = rw c.version_text.ensures at c.hand_over_text.ensures
