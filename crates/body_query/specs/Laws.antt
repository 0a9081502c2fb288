-- What the query's program is tied to.
use Rattle.std.specs.Prelude.{List, ℕ}
use Rattle.item_ids.specs.declared.key.Key.TheVariants as keys
use Rattle.query_rules.specs.Ties.{Ties}
use Rattle.body_query.specs.Body.{body_prog}

-- In every profile and project the program gives the value of the query and asks what it reads.
abbrev pub BodyTies : Type 0
BodyTies = (c m : List ℕ) → Ties (keys.CheckBody c m) (body_prog (keys.CheckBody c m))
