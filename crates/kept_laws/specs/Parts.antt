-- The parts of trees and of the index that queries take.
use Rattle.std.specs.Prelude.{◌≡◌, Bool, List, Option, Some, None, is_some}
use Rattle.std.specs.List.{AllByRecursion}
use Rattle.mj_tree.specs.Trees.{Name, File}
use Rattle.mj_classes.specs.Declarations.{classes_of}
use Rattle.mj_rules.specs.FaultLists.{class_names}
use Rattle.result_bytes.specs.declared.value.Value.{Value}
use Rattle.result_bytes.specs.declared.parts.ChainEnd.{ChainEnd}
use Rattle.result_bytes.specs.declared.parts.ChainEnd.TheVariants.{Top, Undeclared, Repeated}
use Rattle.result_bytes.specs.Payloads.{ChainValue}
use Rattle.result_bytes.specs.Parts.{index_in, tree_in}
use Rattle.text_queries.specs.Index.{first_file}
use Rattle.member_queries.specs.Supers.{is_listed}

-- ---- of a tree

-- whether a file has a main class, and the names of its classes, in order
pub record Declared : Type 0 where
  pub has_main : Bool
  pub names : List Name

-- what a file declares, if it is a sentence
abbrev pub declared_in : Option File → Option Declared
declared_in None = None
declared_in (Some f) =
    Some (record { has_main = is_some f.main; names = class_names (classes_of 0 f) })

-- neither tree is that of a sentence, or both are, which declare the same
abbrev pub DeclareSame : Value → Value → Type 0
DeclareSame a b = declared_in (tree_in a) ≡ declared_in (tree_in b)

-- ---- of the index

-- both indexes have the same file for the class, or none has one
abbrev pub HaveSameRow : Name → Value → Value → Type 0
HaveSameRow c a b = first_file (index_in a) c ≡ first_file (index_in b) c

-- both have the class, or none has it
abbrev pub ListSame : Value → Value → Name → Type 0
ListSame a b c = is_listed (index_in a) c ≡ is_listed (index_in b) c

abbrev pub ListSameEnd : Value → Value → ChainEnd → Type 0
ListSameEnd a b (Undeclared u) = ListSame a b u
ListSameEnd a b Top = Unit {0}
ListSameEnd a b (Repeated u) = Unit {0}

-- so it is for each class of a chain, and for the undeclared name at its end
abbrev pub ListSameChain : Value → Value → Option ChainValue → Type 0
ListSameChain a b None = Unit {0}
ListSameChain a b (Some chain) =
    AllByRecursion (ListSame a b) chain.classes × ListSameEnd a b chain.end
