-- The spots of a name, file by file.
use Rattle.std.proofs.Common.{◌≡◌, ℕ, suc, ◌+◌, Bool, true, false, ◌||◌, cond, List, [], ◌∷◌, ◌++◌, map, length, Option, Some, None, refl, sym, ap, ◌∙◌, append_assoc, arith}
use Rattle.std.specs.List.{filter, list_any}
use Rattle.std.specs.Str.{bytes_eq}
use Rattle.std.proofs.lemmas.List.{append-nil, map-append}
use Rattle.std.proofs.lemmas.List.Elements.{filter-append}
use Rattle.mj_tree.specs.Trees.{Name, Main, Class, File}
use Rattle.mj_members.specs.Declarations.{ClassDecl, class_decl}
use Rattle.mj_classes.specs.Declarations.{number_classes, main_first, classes_of, declarations, declared_from}
use Rattle.declaration_laws.specs.Spots.{spot_of, spots, declares}
use Rattle.declaration_laws.specs.Laws.{EditLaw}

spots_both : (xs ys : List ClassDecl) (c : Name) → spots (xs ++ ys) c ≡ spots xs c ++ spots ys c
spots_both xs ys c =
    ap (map spot_of) (filter-append (λ (k : ClassDecl). bytes_eq k.name c) xs ys)
    ∙ map-append spot_of (filter (λ (k : ClassDecl). bytes_eq k.name c) xs) (filter (λ (k : ClassDecl). bytes_eq k.name c) ys)

-- ---- file by file

later : (first : ℕ) (fs gs : List (Option File)) → declared_from first (fs ++ gs) ≡ declared_from first fs ++ declared_from (length fs + first) gs
later first [] gs = ap (λ n. declared_from n gs) plain
  where
    plain : first ≡ length {A = Option File} [] + first
    plain = omega arith
later first (None ∷ fs) gs = later (suc first) fs gs ∙ ap (λ n. declared_from (suc first) fs ++ declared_from n gs) (moved (length fs))
  where
    moved : (n : ℕ) → n + suc first ≡ suc n + first
    moved n = omega arith
later first (Some f ∷ fs) gs =
    ap (λ ks. classes_of first f ++ ks) (later (suc first) fs gs ∙ ap (λ n. declared_from (suc first) fs ++ declared_from n gs) (moved (length fs)))
    ∙ sym (append_assoc (classes_of first f) (declared_from (suc first) fs) (declared_from (suc (length fs) + first) gs))
  where
    moved : (n : ℕ) → n + suc first ≡ suc n + first
    moved n = omega arith

one_more : (n : ℕ) (f : Option File) (fs : List (Option File)) → declared_from n (f ∷ fs) ≡ declared_from n (f ∷ []) ++ declared_from (suc n) fs
one_more n None fs = refl
one_more n (Some f) fs = ap (λ ks. ks ++ declared_from (suc n) fs) (sym (append-nil (classes_of n f)))

in_parts : (before after : List (Option File)) (c : Name) (f : Option File)
    → spots (declarations (before ++ f ∷ after)) c ≡ spots (declarations before) c ++ (spots (declared_from (length before) (f ∷ [])) c ++ spots (declared_from (suc (length before)) after) c)
in_parts before after c f =
    ap (λ ks. spots ks c) (later 0 before (f ∷ after) ∙ ap (λ n. declared_from 0 before ++ declared_from n (f ∷ after)) plain ∙ ap (λ ks. declared_from 0 before ++ ks) (one_more (length before) f after))
    ∙ spots_both (declared_from 0 before) (declared_from (length before) (f ∷ []) ++ declared_from (suc (length before)) after) c
    ∙ ap (λ ss. spots (declared_from 0 before) c ++ ss) (spots_both (declared_from (length before) (f ∷ [])) (declared_from (suc (length before)) after) c)
  where
    plain : length before + 0 ≡ length before
    plain = omega arith

-- ---- a file that doesn't declare a name

abbrev named : Name → ClassDecl → Bool
named c k = bytes_eq k.name c

none_if : (b : Bool) (rest : Bool) (x : ClassDecl) (xs : List ClassDecl) → (b || rest) ≡ false → (rest ≡ false → xs ≡ []) → cond b (x ∷ xs) xs ≡ []
none_if true rest x xs e h = absurd cc
none_if false rest x xs e h = h e

none_numbered : (c : Name) (file n m : ℕ) (cs : List Class) → list_any (named c) (number_classes 0 m cs) ≡ false → filter (named c) (number_classes file n cs) ≡ []
none_numbered c file n m [] e = refl
none_numbered c file n m (k ∷ cs) e =
    none_if (bytes_eq k.name c) (list_any (named c) (number_classes 0 (suc m) cs)) (class_decl file n k) (filter (named c) (number_classes file (suc n) cs)) e (none_numbered c file (suc n) (suc m) cs)

none_first : (c : Name) (file : ℕ) (o : Option Main) (cs : List Class) → list_any (named c) (main_first 0 o cs) ≡ false → filter (named c) (main_first file o cs) ≡ []
none_first c file None cs e = none_numbered c file 0 0 cs e
none_first c file (Some m) cs e = none_if (bytes_eq m.name c) (list_any (named c) (number_classes 0 1 cs)) _ (filter (named c) (number_classes file 1 cs)) e (none_numbered c file 1 1 cs)

none_in : (n : ℕ) (f : Option File) (c : Name) → declares f c ≡ false → spots (declared_from n (f ∷ [])) c ≡ []
none_in n None c e = refl
none_in n (Some f) c e =
    ap (λ ks. spots ks c) (append-nil (classes_of n f)) ∙ ap (map spot_of) (none_first c n f.main f.classes e)

pub edit_law : EditLaw
edit_law before after c = record {
  parts = in_parts before after c;
  others = λ old new e g.
      in_parts before after c new
      ∙ ap (λ ss. spots (declarations before) c ++ (ss ++ spots (declared_from (suc (length before)) after) c)) (none_in (length before) new c g ∙ sym (none_in (length before) old c e))
      ∙ sym (in_parts before after c old);
}
