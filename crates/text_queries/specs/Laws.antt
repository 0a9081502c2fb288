-- What the queries' programs are tied to: in every profile and project each gives the value of its
-- query and asks what it reads.
use Rattle.item_ids.specs.declared.key.Key.TheVariants as keys
use Rattle.mj_tree.specs.Trees.{Name}
use Rattle.recorder.specs.Programs.{Ret}
use Rattle.query_rules.specs.Ties.{Ties}
use Rattle.text_queries.specs.Tree.{tree_steps}
use Rattle.text_queries.specs.Index.{index_steps}
use Rattle.text_queries.specs.Sig.{sig_steps}
use Rattle.text_queries.specs.Header.{header_steps}
use Rattle.text_queries.specs.Method.{method_steps}

abbrev pub TreeTies : Type 0
TreeTies = (f : Name) → Ties (keys.Tree f) (tree_steps f Ret)

abbrev pub IndexTies : Type 0
IndexTies = Ties keys.Index (index_steps Ret)

abbrev pub SigTies : Type 0
SigTies = (c m : Name) → Ties (keys.Sig c m) (sig_steps c m Ret)

abbrev pub HeaderTies : Type 0
HeaderTies = (c : Name) → Ties (keys.Header c) (header_steps c Ret)

abbrev pub MethodTies : Type 0
MethodTies = (c m : Name) → Ties (keys.Method c m) (method_steps c m Ret)
