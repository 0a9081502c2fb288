-- The program of a method's types in a project.
use Rattle.std.proofs.Common.{refl, arith}
use Rattle.mj_tree.specs.Trees.{Name}
use Rattle.item_ids.specs.declared.key.Key.TheVariants as keys
use Rattle.recorder.specs.Programs.{Ret, runs, asks, Fits}
use Rattle.query_rules.specs.Meaning.{mean}
use Rattle.query_rules.specs.Reads.{reads, asked_keys}
use Rattle.text_queries.specs.Sig.{sig_steps}
use Rattle.text_queries.specs.Laws.{SigTies}

fits : (c m : Name) → Fits (keys.Sig c m) (sig_steps c m Ret)
unfolding Fits
fits c m = (omega arith, λ v. refl)

pub sig_ties : SigTies
unfolding mean runs asks reads asked_keys
sig_ties c m profile = record {
  means = λ p h. refl;
  asked = λ p h. refl;
  fits = fits c m;
}
