-- A method of a class has one scope.
use Rattle.std.proofs.Common.{◌≡◌, ℕ, List, [], Some, refl, sym, ap, ◌∙◌, subst, inl, inr}
use Rattle.std.specs.Prelude.{slice_get}
use Rattle.std.proofs.lemmas.Bool.{cases_order}
use Rattle.std.proofs.lemmas.Option.{same_Some}
use Rattle.mj_tree.specs.Trees.{Name, Statement, Method}
use Rattle.ordered_names.proofs.Alike.{nowhere}
use Rattle.mj_members.specs.Declarations.{ClassDecl}
use Rattle.named_files.specs.Projects.{SourceFile}
use Rattle.named_files.proofs.Listed.{contains_at}
use Rattle.mj_phrases.specs.Table.{Scope, method_scope}
use Rattle.mj_rules.specs.ClassFaults.{IsFirstMethod}
use Rattle.mj_rules.proofs.Declared.{orderly_class}
use Rattle.rule_laws.specs.Typing.{IsMethodIn, IsMainIn, IsScopeIn, OfMethod, OfMain}

-- the first method of a name is one
pub one_first : (k : ClassDecl) (i j : ℕ) (a b : Method) → IsFirstMethod k i a → IsFirstMethod k j b → a.name ≡ b.name → a ≡ b
one_first k i j a b f g same =
    elim (cases_order i j) [
      | inl e ↦ same_Some a b (sym f.here ∙ ap (λ n. slice_get k.methods n) e ∙ g.here)
      | inr (inl l) ↦ absurd (g.first i a l f.here same)
      | inr (inr l) ↦ absurd (f.first j b l g.here (sym same))
    ]

-- no list of methods that is empty has one
pub no_method : (k : ClassDecl) (n : ℕ) (m : Method) → k.methods ≡ [] → slice_get k.methods n ≡ Some m → ⊥
no_method k n m e h = nowhere m (contains_at [] n m (subst (λ (ms : List Method). slice_get ms n ≡ Some m) e h))

pub one_method : (files : List SourceFile) (c : Name) (a b : Method) → IsMethodIn files c a → IsMethodIn files c b → a.name ≡ b.name → a ≡ b
one_method files c a b here there same =
    let k = same_Some there.declaration here.declaration (sym there.first_class ∙ here.first_class) in
    one_first here.declaration here.number there.number a b here.first_method (subst (λ (d : ClassDecl). IsFirstMethod d there.number b) k there.first_method) same

pub one_main : (files : List SourceFile) (c : Name) (a b : Statement) → IsMainIn files c a → IsMainIn files c b → a ≡ b
one_main files c a b here there =
    let k = same_Some there.declaration here.declaration (sym there.first_class ∙ here.first_class) in
    same_Some a b (sym here.main ∙ subst (λ (d : ClassDecl). d.main ≡ Some b) k there.main)

-- no class has methods beside its main
pub not_both : (files : List SourceFile) (c : Name) (a : Method) (statement : Statement) → IsMethodIn files c a → IsMainIn files c statement → ⊥
not_both files c a statement here main =
    let k = same_Some here.declaration main.declaration (sym here.first_class ∙ main.first_class) in
    no_method main.declaration here.number a ((orderly_class files c main.declaration main.first_class).main_alone statement main.main)
    (subst (λ (d : ClassDecl). slice_get d.methods here.number ≡ Some a) k here.first_method.here)

pub one_scope : (files : List SourceFile) (c m : Name) (s r : Scope) → IsScopeIn files c m s → IsScopeIn files c m r → s ≡ r
one_scope files c m s r (OfMethod a here e) (OfMethod b there f) = ap (method_scope c) (one_method files c a b here there (e ∙ sym f))
one_scope files c m s r (OfMethod a here e) (OfMain statement main f) = absurd (not_both files c a statement here main)
one_scope files c m s r (OfMain statement main e) (OfMethod a here f) = absurd (not_both files c a statement here main)
one_scope files c m s r (OfMain a here e) (OfMain b there f) = refl
