-- Of the classes of a chain those count that declare members.
use Rattle.std.proofs.Common.{◌≡◌, Bool, true, false, not, cond, ◌&&◌, ◌==◌, List, [], ◌∷◌, ◌++◌, length, filter, refl, sym, ap, ◌∙◌, true≢false}
use Rattle.std.proofs.lemmas.Bool.Decides.{Decides-eqb}
use Rattle.std.proofs.lemmas.List.{nil_from_length}
use Rattle.mj_tree.specs.Trees.{Name, Method}
use Rattle.mj_tree.specs.declared.tree.Field.{Field}
use Rattle.mj_members.specs.Declarations.{ClassDecl, has_members}
use Rattle.mj_members.specs.Tables.{own_rows, all_along, firsts, fields_along, methods_along}

-- ---- classes that declare nothing

neither : (a b : Bool) → not (a && b) ≡ false → (a ≡ true) × (b ≡ true)
neither true true e = (refl, refl)
neither true false e = absurd (true≢false e)
neither false b e = absurd (true≢false e)

no_fields : (k : ClassDecl) → has_members k ≡ false → k.fields ≡ []
no_fields k e = nil_from_length k.fields ((Decides-eqb (length k.fields) 0).0 (neither (length k.fields == 0) (length k.methods == 0) e).0)

no_methods : (k : ClassDecl) → has_members k ≡ false → k.methods ≡ []
no_methods k e = nil_from_length k.methods ((Decides-eqb (length k.methods) 0).0 (neither (length k.fields == 0) (length k.methods == 0) e).1)

-- ---- tables

along_declaring : {A : Type 0} (name : A → Name) (own : ClassDecl → List A) → ((k : ClassDecl) → has_members k ≡ false → own k ≡ []) → (ks : List ClassDecl) → all_along name own (filter has_members ks) ≡ all_along name own ks
along_declaring name own none [] = refl
along_declaring {A} name own none (k ∷ ks) = by (has_members k) refl (along_declaring name own none ks)
  where
    by : (b : Bool) → has_members k ≡ b → all_along name own (filter has_members ks) ≡ all_along name own ks
        → all_along name own (cond b (k ∷ filter has_members ks) (filter has_members ks)) ≡ own_rows name k.name (own k) ++ all_along name own ks
    by true e rest = ap (λ es. own_rows name k.name (own k) ++ es) rest
    by false e rest = rest ∙ ap (λ (xs : List A). own_rows name k.name xs ++ all_along name own ks) (sym (none k e))

pub fields_declaring : (ks : List ClassDecl) → fields_along (filter has_members ks) ≡ fields_along ks
unfolding fields_along
fields_declaring ks = ap firsts (along_declaring (λ (f : Field). f.name) (λ (k : ClassDecl). k.fields) no_fields ks)

pub methods_declaring : (ks : List ClassDecl) → methods_along (filter has_members ks) ≡ methods_along ks
unfolding methods_along
methods_declaring ks = ap firsts (along_declaring (λ (m : Method). m.name) (λ (k : ClassDecl). k.methods) no_methods ks)
