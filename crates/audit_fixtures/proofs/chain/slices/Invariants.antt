use Rattle.std.proofs.Common.{◌≡◌, take, map}
use Rattle.audit_fixtures.proofs.chain.slices.Given as goal

abbrev pub invariant-loop-file : goal.invariant-loop-file
invariant-loop-file l = map (λ f. f.now) l.all.items ≡ map (λ f. f.bytes.items) (take l.file-index l.files)
