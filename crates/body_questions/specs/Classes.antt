-- What results say about a class: whether it is declared, and what stands in its chain.
use Rattle.std.specs.Prelude.{Bool, List, [], Option, Some, None, is_some}
use Rattle.std.specs.Str.{bytes_eq}
use Rattle.std.specs.List.{list_any}
use Rattle.mj_tree.specs.Trees.{Name}
use Rattle.result_bytes.specs.Payloads.{ChainValue}
use Rattle.result_bytes.specs.Parts.{header_in, supers_in}
use Rattle.result_bytes.specs.declared.value.Value.{Value}

-- a header says that its class is declared
abbrev pub is_declared_in : Value → Bool
is_declared_in v = is_some (header_in v)

-- the classes of a chain
abbrev pub chain_classes : Option ChainValue → List Name
chain_classes None = []
chain_classes (Some chain) = chain.classes

-- a class stands in the chain
abbrev pub descends_in : Value → Name → Bool
descends_in v d = list_any (λ c. bytes_eq c d) (chain_classes (supers_in v))
