-- What a chain leads to stays in it.
use Rattle.std.proofs.Common.{◌≡◌, List, [], ◌∷◌, Option, Some, None, refl, sym, ap, ◌∙◌, subst, inl, inr}
use Rattle.std.specs.Prelude.{Contains}
use Rattle.mj_tree.specs.Trees.{Name}
use Rattle.mj_members.specs.Declarations.{ClassDecl}
use Rattle.mj_classes.specs.Declarations.{decl}
use Rattle.mj_classes.specs.Chains.{EndOf, Top, Undeclared, Repeated, Extends, Links, IsChain}
use Rattle.mj_classes.proofs.Distinct.{In, contains_in, in_contains}
use Rattle.mj_classes.proofs.Climb.{links_declared}

extended : (cs : List ClassDecl) (x : Name) (a b : Option Name) → Extends cs x a → Extends cs x b → a ≡ b
extended cs x a b e f = let k : e.0 ≡ f.0 = cc in sym e.2 ∙ (ap (λ (j : ClassDecl). j.superclass) k ∙ f.2)

pub closed : (cs : List ClassDecl) (whole xs : List Name) (end : EndOf) → Links cs whole xs end → ((z : Name) → In z xs → In z whole) → (x y : Name) (k : ClassDecl) → In x xs → Extends cs x (Some y) → decl cs y ≡ Some k → In y whole
closed cs whole [] end l within x y k h e d = absurd h
closed cs whole (c ∷ []) Top l within x y k (inl s) e d = let n : Some y ≡ None = extended cs x (Some y) None e (rw (← s) l) in absurd cc
closed cs whole (c ∷ []) (Undeclared u) l within x y k (inl s) e d =
    let n : Some y ≡ Some u = extended cs x (Some y) (Some u) e (rw (← s) l.0) in
    let none = l.1 in
    let same : y ≡ u = cc in
    let no : Some k ≡ None = sym d ∙ (ap (decl cs) same ∙ none) in
    absurd cc
closed cs whole (c ∷ []) (Repeated u) l within x y k (inl s) e d =
    let n : Some y ≡ Some u = extended cs x (Some y) (Some u) e (rw (← s) l.0) in
    let same : u ≡ y = cc in
    subst (λ (z : Name). In z whole) same (contains_in whole u l.1)
closed cs whole (c ∷ []) end l within x y k (inr h) e d = absurd h
closed cs whole (c ∷ v ∷ rest) end l within x y k (inl s) e d =
    let n : Some y ≡ Some v = extended cs x (Some y) (Some v) e (rw (← s) l.0) in
    let same : v ≡ y = cc in
    subst (λ (z : Name). In z whole) same (within v (inr (inl refl)))
closed cs whole (c ∷ v ∷ rest) end l within x y k (inr h) e d = closed cs whole (v ∷ rest) end l.1 (λ z i. within z (inr i)) x y k h e d

all_in : (cs : List ClassDecl) (set : List Name) → ((x y : Name) (k : ClassDecl) → In x set → Extends cs x (Some y) → decl cs y ≡ Some k → In y set)
    → (whole xs : List Name) (end : EndOf) (x : Name) (rest : List Name) → xs ≡ x ∷ rest → Links cs whole xs end → In x set → (z : Name) → In z xs → In z set
all_in cs set up whole [] end x rest e l h z i = absurd i
all_in cs set up whole (c ∷ []) end x rest e l h z (inl s) = let first : x ≡ c = cc in subst (λ (v : Name). In v set) (first ∙ s) h
all_in cs set up whole (c ∷ []) end x rest e l h z (inr i) = absurd i
all_in cs set up whole (c ∷ d ∷ more) end x rest e l h z (inl s) = let first : x ≡ c = cc in subst (λ (v : Name). In v set) (first ∙ s) h
all_in cs set up whole (c ∷ d ∷ more) end x rest e l h z (inr i) =
    let first : x ≡ c = cc in
    let j = links_declared cs whole d more end l.1 in
    let next : In d set = up c d j.0 (subst (λ (v : Name). In v set) first h) l.0 j.1 in
    all_in cs set up whole (d ∷ more) end d more refl l.1 next z i

-- a chain holds the chain of each of its classes
pub chain_holds : (cs : List ClassDecl) (c d : Name) (chain other : List Name) (end last : EndOf) → IsChain cs c chain end → Contains chain d → IsChain cs d other last → (z : Name) → Contains other z → Contains chain z
chain_holds cs c d chain other end last is h at z i =
    in_contains chain z (all_in cs chain (closed cs chain chain end is.links (λ v w. w)) other other last d at.rest at.first at.links (contains_in chain d h) z (contains_in other z i))
