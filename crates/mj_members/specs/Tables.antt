-- The members of one kind that classes declare, each name once, ascending by name.
use Rattle.std.specs.Prelude.{List, [], ◌∷◌, ◌++◌, map}
use Rattle.std.specs.Ordering.{nat_cmp}
use Rattle.std.specs.Cmp.Lexicographic.{slice_cmp}
use Rattle.std.specs.FinMap as names
use Rattle.mj_tree.specs.Trees.{Name, Method}
use Rattle.mj_tree.specs.declared.tree.Field.{Field}
use Rattle.mj_members.specs.Declarations.{ClassDecl}

-- what an owner declares, each with its name
abbrev pub own_rows : {A : Type 0} → (A → Name) → Name → List A → List (Name × (Name × A))
own_rows name owner own = map (λ a. (name a, (owner, a))) own

-- all that these classes declare, in order
abbrev pub all_along : {A : Type 0} → (A → Name) → (ClassDecl → List A) → List ClassDecl
    → List (Name × (Name × A))
all_along name own [] = []
all_along name own (k ∷ ks) = own_rows name k.name (own k) ++ all_along name own ks

-- rows, an owner with what it declares, each with its name
abbrev pub named_rows : {A : Type 0} → (A → Name) → List (Name × A) → List (Name × (Name × A))
named_rows name rows = map (λ r. (name r.1, r)) rows

-- the first of each name, ascending by name
abbrev pub firsts : {A : Type 0} → List (Name × A) → List A
firsts entries = names.values (names.from_entries {R = slice_cmp nat_cmp} entries)

-- the fields of these classes, of which the first are the nearest
unfoldable pub fields_along : List ClassDecl → List (Name × Field)
fields_along ks = firsts (all_along (λ f. f.name) (λ k. k.fields) ks)

unfoldable pub methods_along : List ClassDecl → List (Name × Method)
methods_along ks = firsts (all_along (λ m. m.name) (λ k. k.methods) ks)

-- the fields of a class behind which these stand: of each name its own, or else that of the row
unfoldable pub fields_over : ClassDecl → List (Name × Field) → List (Name × Field)
fields_over k rows =
    firsts (own_rows (λ f. f.name) k.name k.fields ++ named_rows (λ f. f.name) rows)

unfoldable pub methods_over : ClassDecl → List (Name × Method) → List (Name × Method)
methods_over k rows =
    firsts (own_rows (λ m. m.name) k.name k.methods ++ named_rows (λ m. m.name) rows)
