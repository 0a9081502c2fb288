-- The program of a file's tree in a project.
use Rattle.std.proofs.Common.{refl, arith}
use Rattle.mj_tree.specs.Trees.{Name}
use Rattle.item_ids.specs.declared.key.Key.TheVariants as keys
use Rattle.recorder.specs.Programs.{Ret, runs, asks, Fits}
use Rattle.query_rules.specs.Meaning.{mean}
use Rattle.query_rules.specs.Reads.{reads, asked_keys}
use Rattle.text_queries.specs.Tree.{tree_steps}
use Rattle.text_queries.specs.Laws.{TreeTies}

fits : (f : Name) → Fits (keys.Tree f) (tree_steps f Ret)
unfolding Fits
fits f = (omega arith, λ v. refl)

pub tree_ties : TreeTies
unfolding mean runs asks reads asked_keys
tree_ties f profile = record {
  means = λ p h. refl;
  asked = λ p h. refl;
  fits = fits f;
}
