-- The bodies that the rules give are those that queries mean.
use Rattle.std.proofs.Common.{◌≡◌, ◌↔◌, ℕ, Bool, true, false, List, map, slice_get, Option, Some, None, option_map, refl, sym, ap, subst, ◌∙◌, bytes_eq, if◌then◌else◌}
use Rattle.std.specs.Prelude.{option_and_then}
use Rattle.std.proofs.lemmas.Option.{none-some, same_Some}
use Rattle.std.proofs.lemmas.Slice.Eq.{bytes_eq-Decides}
use Rattle.mj_tree.specs.Trees.{Name, Statement, Method}
use Rattle.mj_tree.specs.declared.tree.Ty.{Ty}
use Rattle.mj_members.specs.Declarations.{ClassDecl}
use Rattle.mj_classes.specs.Members.{own_method}
use Rattle.mj_rules.specs.ClassFaults.{main_word}
use Rattle.mj_rules.proofs.Declared.{orderly_class}
use Rattle.rule_laws.specs.Typing.{IsMethodIn, IsMainIn}
use Rattle.rule_laws.proofs.Scopes.{no_method}
use Rattle.tree_bytes.specs.Bodies.{BodyValue}
use Rattle.tree_bytes.specs.Bodies as bodies
use Rattle.result_bytes.specs.Payloads.{SignatureValue}
use Rattle.recorder.specs.Projects.{Project}
use Rattle.query_rules.specs.Items.{class_at, body_by, own_body, body_at, signature_of}
use Rattle.query_laws.specs.Given.{IsFirstDeclaration, IsBodyOf, OfMethod, OfMain, IsSignatureOf}
use Rattle.query_laws.proofs.Found.{own_of, own_is}
use Rattle.named_files.proofs.Listed.{from_map}

same_method : {a b : Method} → bodies.OfMethod a ≡ bodies.OfMethod b → a ≡ b
same_method e = cc

same_main : {s t : Statement} → bodies.OfMain s ≡ bodies.OfMain t → s ≡ t
same_main e = cc

module _ (p : Project) (c m : Name) where
  -- a class with methods has no main
  no_main : (k : ClassDecl) (e : IsFirstDeclaration p c k) (n : ℕ) (a : Method) → slice_get k.methods n ≡ Some a → k.main ≡ None
  no_main k e n a here = by_main k.main refl
    where
      by_main : (o : Option Statement) → k.main ≡ o → o ≡ None
      by_main None is = refl
      by_main (Some s) is = absurd (no_method k n a ((orderly_class p c k e).main_alone s is) here)

  pub method_body : (a : Method) → IsMethodIn p c a → a.name ≡ m → body_at p c m ≡ Some (bodies.OfMethod a)
  method_body a is named =
      let k = is.declaration in
      ap (option_and_then (own_body m)) is.first_class
      ∙ (ap (λ o. body_by o m k) (no_main k is.first_class is.number a is.first_method.here) ∙ ap (option_map bodies.OfMethod) (own_of k m is.number a is.first_method named))

  pub main_body : (s : Statement) → IsMainIn p c s → main_word ≡ m → body_at p c m ≡ Some (bodies.OfMain s)
  main_body s is named =
      let k = is.declaration in
      ap (option_and_then (own_body m)) is.first_class
      ∙ (ap (λ o. body_by o m k) is.main ∙ ap (λ (b : Bool). if b then Some (bodies.OfMain s) else None) ((bytes_eq-Decides m main_word).1 (sym named)))

  body_to : (b : BodyValue) → IsBodyOf p c m b → body_at p c m ≡ Some b
  body_to _ (OfMethod a is named) = method_body a is named
  body_to _ (OfMain s is named) = main_body s is named

  module _ (b : BodyValue) where
    by_main : (k : ClassDecl) → IsFirstDeclaration p c k → (o : Option Statement) → k.main ≡ o → body_by o m k ≡ Some b → IsBodyOf p c m b
    by_main k e (Some s) is h = by_test (bytes_eq m main_word) refl h
      where
        by_test : (t : Bool) → bytes_eq m main_word ≡ t → (if t then Some (bodies.OfMain s) else None) ≡ Some b → IsBodyOf p c m b
        by_test true t g = subst (IsBodyOf p c m) (same_Some (bodies.OfMain s) b g) (OfMain s (record { declaration = k; first_class = e; main = is }) (sym ((bytes_eq-Decides m main_word).0 t)))
        by_test false t g = absurd (none-some b g)
    by_main k e None is h =
        let a = from_map bodies.OfMethod (own_method m k) b h in
        let f = own_is k m a.0 a.1 in
        subst (IsBodyOf p c m) a.2 (OfMethod a.0 (record { declaration = k; first_class = e; number = f.0; first_method = f.1 }) f.2)

    by_class : (o : Option ClassDecl) → class_at p c ≡ o → option_and_then (own_body m) o ≡ Some b → IsBodyOf p c m b
    by_class None e h = absurd (none-some b h)
    by_class (Some k) e h = by_main k e k.main refl h

    body_from : body_at p c m ≡ Some b → IsBodyOf p c m b
    body_from h = by_class (class_at p c) refl h

    pub body_given : IsBodyOf p c m b ↔ (body_at p c m ≡ Some b)
    body_given = (body_to b, body_from)

  -- ---- a method, or the main

  of_method : (b : BodyValue) → IsBodyOf p c m b → (a : Method) → b ≡ bodies.OfMethod a → IsMethodIn p c a × (a.name ≡ m)
  of_method _ (OfMethod x is named) a e = subst (λ (y : Method). IsMethodIn p c y × (y.name ≡ m)) (same_method e) (is, named)
  of_method _ (OfMain s is named) a e = absurd cc

  of_main : (b : BodyValue) → IsBodyOf p c m b → (s : Statement) → b ≡ bodies.OfMain s → IsMainIn p c s × (main_word ≡ m)
  of_main _ (OfMethod x is named) s e = absurd cc
  of_main _ (OfMain t is named) s e = subst (λ (y : Statement). IsMainIn p c y × (main_word ≡ m)) (same_main e) (is, named)

  pub is_method : (a : Method) → body_at p c m ≡ Some (bodies.OfMethod a) → IsMethodIn p c a × (a.name ≡ m)
  is_method a e = of_method (bodies.OfMethod a) (body_from (bodies.OfMethod a) e) a refl

  pub is_main : (s : Statement) → body_at p c m ≡ Some (bodies.OfMain s) → IsMainIn p c s × (main_word ≡ m)
  is_main s e = of_main (bodies.OfMain s) (body_from (bodies.OfMain s) e) s refl

  -- ---- signatures

  module _ (x : SignatureValue) where
    signature_to : IsSignatureOf p c m x → option_and_then signature_of (body_at p c m) ≡ Some x
    signature_to is =
        let build : List Ty → Ty → SignatureValue = λ ts t. record { formals = ts; returns = t } in
        ap (option_and_then signature_of) (method_body is.method is.first is.named)
        ∙ (ap (λ (ts : List Ty). Some (build ts is.method.returns)) (sym is.formals) ∙ ap (λ (t : Ty). Some (build x.formals t)) (sym is.returns))

    by_body : (o : Option BodyValue) → body_at p c m ≡ o → option_and_then signature_of o ≡ Some x → IsSignatureOf p c m x
    by_body None e h = absurd (none-some x h)
    by_body (Some (bodies.OfMain s)) e h = absurd (none-some x h)
    by_body (Some (bodies.OfMethod a)) e h =
        let is = is_method a e in
        subst (IsSignatureOf p c m) (same_Some (record { formals = map (λ v. v.ty) a.formals; returns = a.returns }) x h) (record { method = a; first = is.0; named = is.1; formals = refl; returns = refl })

    pub signature_given : IsSignatureOf p c m x ↔ (option_and_then signature_of (body_at p c m) ≡ Some x)
    signature_given = (signature_to, by_body (body_at p c m) refl)
