-- Chains of classes, and which types are accepted by which.
use Rattle.std.specs.Prelude.{◌≡◌, ℕ, zero, suc, Bool, List, [], ◌∷◌, ◌++◌, length, Option, Some, None, Contains, ◌⊎◌, if◌then◌else◌, option_and_then}
use Rattle.std.specs.Str.{bytes_eq}
use Rattle.std.specs.List.{list_any, filter_map}
use Rattle.mj_tree.specs.Trees.{Name}
use Rattle.mj_tree.specs.declared.tree.Ty.{Ty}
use Rattle.mj_tree.specs.declared.tree.Ty.TheVariants.{Class}
use Rattle.mj_members.specs.Declarations.{ClassDecl}
use Rattle.mj_classes.specs.Declarations.{decl}

-- How a chain ends: its last class extends nothing, a name that is not declared, or a class of the
-- chain.
pub data EndOf : Type 0 where
  Top : EndOf
  Undeclared : (name : Name) → EndOf
  Repeated : (name : Name) → EndOf

-- the declared class of a name extends this
abbrev pub Extends : List ClassDecl → Name → Option Name → Type 0
Extends cs c superclass = (k : ClassDecl) × (decl cs c ≡ Some k) × (k.superclass ≡ superclass)

abbrev pub Ends : List ClassDecl → List Name → Name → EndOf → Type 0
Ends cs chain last Top = Extends cs last None
Ends cs chain last (Undeclared u) = Extends cs last (Some u) × (decl cs u ≡ None)
Ends cs chain last (Repeated u) = Extends cs last (Some u) × Contains chain u

-- each next class is the one that the former extends, and the last ends the whole chain
abbrev pub Links : List ClassDecl → List Name → List Name → EndOf → Type 0
Links cs chain [] end = ⊥
Links cs chain (c ∷ []) end = Ends cs chain c end
Links cs chain (c ∷ d ∷ rest) end = Extends cs c (Some d) × Links cs chain (d ∷ rest) end

abbrev pub AreDistinct : List Name → Type 0
AreDistinct [] = Unit {0}
AreDistinct (c ∷ cs) = (Contains cs c → ⊥) × AreDistinct cs

-- The chain of a declared class begins with it. Each next class is the one that the former extends,
-- all are declared and distinct, and it is as long as it can be.
pub record IsChain (cs : List ClassDecl) (c : Name) (chain : List Name) (end : EndOf) : Type 0 where
  pub rest : List Name
  pub first : chain ≡ c ∷ rest
  pub links : Links cs chain chain end
  pub distinct : AreDistinct chain

-- A type is accepted by another: they are equal, or classes of which the second stands in the chain
-- of the first.
abbrev pub IsAcceptedBy : List ClassDecl → Ty → Ty → Type 0
IsAcceptedBy cs (Class t) (Class u) =
    (t ≡ u) ⊎ ((chain : List Name) × (end : EndOf) × IsChain cs t chain end × Contains chain u)
IsAcceptedBy cs t u = t ≡ u

-- ---- the same as functions

abbrev pub Chain : Type 0
Chain = List Name × EndOf

abbrev pub is_in : List Name → Name → Bool
is_in names u = list_any (λ n. bytes_eq n u) names

abbrev pub on_from : (List Name → ClassDecl → Chain) → List Name → Name → Option ClassDecl → Chain
on_from on names u None = (names, Undeclared u)
on_from on names u (Some k) = on names k

-- how a chain continues after these names, the last of which extends this
abbrev pub on_by : List ClassDecl → (List Name → ClassDecl → Chain) → List Name → Option Name
    → Chain
on_by cs on names None = (names, Top)
on_by cs on names (Some u) =
    if is_in names u then (names, Repeated u) else on_from on names u (decl cs u)

-- the chain that continues these names with this class
unfoldable pub chain_from : List ClassDecl → ℕ → List Name → ClassDecl → Chain
chain_from cs zero names k = (names, Top)
chain_from cs (suc gas) names k = on_by cs (chain_from cs gas) (names ++ k.name ∷ []) k.superclass

-- the chain of a declared class with its end
unfoldable pub chain_of : List ClassDecl → Name → Option Chain
chain_of cs c = option_and_then (λ k. Some (chain_from cs (length cs) [] k)) (decl cs c)

-- the names of a chain, none for a class that is not declared
abbrev pub chain_names : Option Chain → List Name
chain_names None = []
chain_names (Some chain) = chain.0

-- the classes of the chain of a class, none for one that is not declared
unfoldable pub ancestry : List ClassDecl → Name → List ClassDecl
ancestry cs c = filter_map (decl cs) (chain_names (chain_of cs c))
