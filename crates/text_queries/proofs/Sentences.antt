-- The tree of a sentence can be stored.
use Rattle.std.proofs.Common.{◌≡◌, ℕ, List, Some, sym}
use Rattle.mj_tree.specs.Trees.{File}
use Rattle.mj_rules.specs.Sentences.{file_of}
use Rattle.mj_rules.proofs.LowerLaws.{sentence_law}
use Rattle.tree_spelling.specs.Storable.{FileFits}
use Rattle.storable_trees.proofs.Storing.{storable}

pub sentence_fits : (bytes : List ℕ) (tree : File) → Some tree ≡ file_of bytes → FileFits tree
sentence_fits bytes tree e =
    let s = (sentence_law bytes tree).1 (sym e) in
    storable bytes s.tokens tree s.lexed s.derived
