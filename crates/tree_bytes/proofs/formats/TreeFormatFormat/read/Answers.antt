use Rattle.std.proofs.Common.{arith}
use Rattle.tree_spelling.specs.FileLaws.{lawful_file}
use Rattle.tree_bytes.proofs.formats.TreeFormatFormat.read.Goals as goal

pub of_stored-requires : goal.of_stored-requires
of_stored-requires c = (lawful_file.takes c.args.bytes.now _ _ (λ i. omega (arith, c.type_inv.bytes i)) c.in_ok-root.ensures).1

pub returns : goal.returns
returns c = rw c.in_ok-tree.ensures c.in_ok-root.ensures
