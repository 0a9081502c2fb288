-- The class of a name that counts is the first that is declared.
use Rattle.std.proofs.Common.{◌≡◌, ℕ, zero, suc, ◌+◌, ◌<◌, List, [], ◌∷◌, ◌++◌, slice_get, Option, Some, None, Contains, refl, sym, ap, subst, ◌∙◌, ◌⊎◌, inl, inr, arith}
use Rattle.std.specs.Option.{option_or}
use Rattle.std.specs.Str.{bytes_eq}
use Rattle.std.proofs.lemmas.Option.{none-some, same_Some}
use Rattle.std.proofs.lemmas.List.Folds.{find-append}
use Rattle.mj_tree.specs.Trees.{Name, Main, Class, File}
use Rattle.ordered_names.proofs.Alike.{Contains-cases, nowhere}
use Rattle.mj_members.specs.Declarations.{ClassDecl, main_decl, class_decl}
use Rattle.mj_classes.specs.Declarations.{number_classes, main_first, classes_of, declared_from, decl}
use Rattle.named_files.specs.Projects.{SourceFile}
use Rattle.mj_rules.specs.Sentences.{file_of, trees_of, classes_in}
use Rattle.mj_rules.proofs.OneAnswer.{decl_stands}
use Rattle.mj_rules.proofs.LowerLaws.{sentence_law}
use Rattle.recorder.specs.Projects.{Project}
use Rattle.query_laws.specs.Given.{IsDeclaration}
use Rattle.query_laws.specs.Laws.{DeclarationLaw}
use Rattle.query_laws.proofs.Ones.{given}

-- ---- classes of a file have its number

numbered_file : (file n : ℕ) (cs : List Class) (k : ClassDecl) → Contains (number_classes file n cs) k → k.file ≡ file
numbered_file file n [] k h = absurd (nowhere k h)
numbered_file file n (c ∷ cs) k h =
    elim (Contains-cases (class_decl file n c) (number_classes file (suc n) cs) k h) [
      | inl e ↦ ap (λ (x : ClassDecl). x.file) (sym e)
      | inr l ↦ numbered_file file (suc n) cs k l
    ]

main_file : (file : ℕ) (o : Option Main) (cs : List Class) (k : ClassDecl) → Contains (main_first file o cs) k → k.file ≡ file
main_file file None cs k h = numbered_file file 0 cs k h
main_file file (Some m) cs k h =
    elim (Contains-cases (main_decl file m) (number_classes file 1 cs) k h) [
      | inl e ↦ ap (λ (x : ClassDecl). x.file) (sym e)
      | inr l ↦ numbered_file file 1 cs k l
    ]

found_file : (file : ℕ) (tree : File) (c : Name) (k : ClassDecl) → decl (classes_of file tree) c ≡ Some k → k.file ≡ file
found_file file tree c k e = main_file file tree.main tree.classes k (decl_stands (classes_of file tree) c k e)

append_decl : (as' bs : List ClassDecl) (c : Name) → decl (as' ++ bs) c ≡ option_or (decl as' c) (decl bs c)
unfolding decl
append_decl as' bs c = find-append (λ (j : ClassDecl). bytes_eq j.name c) as' bs

-- ---- the first file that declares a class

-- The same as a declaration, among files that are numbered from here on.
record DeclaredFrom (start : ℕ) (fs : List SourceFile) (c : Name) (k : ClassDecl) : Type 0 where
  at : ℕ
  number : k.file ≡ start + at
  source : SourceFile
  here : slice_get fs at ≡ Some source
  tree : File
  reads : file_of source.bytes ≡ Some tree
  found : decl (classes_of (start + at) tree) c ≡ Some k
  none_before : (i : ℕ) (f : SourceFile) (t : File) → i < at → slice_get fs i ≡ Some f → file_of f.bytes ≡ Some t → decl (classes_of (start + i) t) c ≡ None

over : (n i : ℕ) → suc n + i ≡ n + suc i
over n i = omega arith

more : (n : ℕ) → n ≡ n + 0
more n = omega arith

module _ (start : ℕ) (f : SourceFile) (fs : List SourceFile) (c : Name) (k : ClassDecl) where
  -- the first of the files declares the class, or it doesn't declare the name
  abbrev IsHead : Type 0
  IsHead = (tree : File) × (file_of f.bytes ≡ Some tree) × (decl (classes_of start tree) c ≡ Some k)

  abbrev IsNoHead : Type 0
  IsNoHead = (t : File) → file_of f.bytes ≡ Some t → decl (classes_of start t) c ≡ None

  at_head : IsHead → DeclaredFrom start (f ∷ fs) c k
  at_head h = record {
    at = 0;
    number = found_file start h.0 c k h.2 ∙ more start;
    source = f;
    here = refl;
    tree = h.0;
    reads = h.1;
    found = subst (λ n. decl (classes_of n h.0) c ≡ Some k) (more start) h.2;
    none_before = λ i g t l. absurd (omega arith);
  }

  behind : IsNoHead → DeclaredFrom (suc start) fs c k → DeclaredFrom start (f ∷ fs) c k
  behind none s = record {
    at = suc s.at;
    number = s.number ∙ over start s.at;
    source = s.source;
    here = s.here;
    tree = s.tree;
    reads = s.reads;
    found = subst (λ n. decl (classes_of n s.tree) c ≡ Some k) (over start s.at) s.found;
    none_before = before;
  }
    where
      before : (i : ℕ) (g : SourceFile) (t : File) → i < suc s.at → slice_get (f ∷ fs) i ≡ Some g → file_of g.bytes ≡ Some t → decl (classes_of (start + i) t) c ≡ None
      before zero g t l e r = subst (λ n. decl (classes_of n t) c ≡ None) (more start) (none t (ap (λ (x : SourceFile). file_of x.bytes) (same_Some f g e) ∙ r))
      before (suc i) g t l e r = subst (λ n. decl (classes_of n t) c ≡ None) (over start i) (s.none_before i g t (omega arith) e r)

  by_place : (at : ℕ) → k.file ≡ start + at → (source : SourceFile) → slice_get (f ∷ fs) at ≡ Some source → (tree : File) → file_of source.bytes ≡ Some tree → decl (classes_of (start + at) tree) c ≡ Some k
      → ((i : ℕ) (g : SourceFile) (t : File) → i < at → slice_get (f ∷ fs) i ≡ Some g → file_of g.bytes ≡ Some t → decl (classes_of (start + i) t) c ≡ None)
      → IsHead ⊎ (IsNoHead × DeclaredFrom (suc start) fs c k)
  by_place zero number source here tree reads found before =
      inl (tree, ap (λ (x : SourceFile). file_of x.bytes) (same_Some f source here) ∙ reads, subst (λ n. decl (classes_of n tree) c ≡ Some k) (sym (more start)) found)
  by_place (suc at) number source here tree reads found before = inr (
    λ t r. subst (λ n. decl (classes_of n t) c ≡ None) (sym (more start)) (before 0 f t (omega arith) refl r),
    record {
      at = at;
      number = number ∙ sym (over start at);
      source = source;
      here = here;
      tree = tree;
      reads = reads;
      found = subst (λ n. decl (classes_of n tree) c ≡ Some k) (sym (over start at)) found;
      none_before = λ i g t l e r. subst (λ n. decl (classes_of n t) c ≡ None) (sym (over start i)) (before (suc i) g t (omega arith) e r);
    },
  )

  split : DeclaredFrom start (f ∷ fs) c k → IsHead ⊎ (IsNoHead × DeclaredFrom (suc start) fs c k)
  split s = by_place s.at s.number s.source s.here s.tree s.reads s.found s.none_before

declared_from_decl : (start : ℕ) (fs : List SourceFile) (c : Name) (k : ClassDecl) → decl (declared_from start (trees_of fs)) c ≡ Some k → DeclaredFrom start fs c k
unfolding decl
declared_from_decl start [] c k e = absurd (none-some k e)
declared_from_decl start (f ∷ fs) c k e = by_tree (file_of f.bytes) refl (declared_from_decl (suc start) fs c k) e
  where
    by_tree : (o : Option File) → file_of f.bytes ≡ o → (decl (declared_from (suc start) (trees_of fs)) c ≡ Some k → DeclaredFrom (suc start) fs c k) → decl (declared_from start (o ∷ trees_of fs)) c ≡ Some k → DeclaredFrom start (f ∷ fs) c k
    by_tree None r rest h = behind start f fs c k (λ t s. absurd (none-some t (sym r ∙ s))) (rest h)
    by_tree (Some tree) r rest h = by_class (decl (classes_of start tree) c) refl (sym (append_decl (classes_of start tree) (declared_from (suc start) (trees_of fs)) c) ∙ h)
      where
        by_class : (o : Option ClassDecl) → decl (classes_of start tree) c ≡ o → option_or o (decl (declared_from (suc start) (trees_of fs)) c) ≡ Some k → DeclaredFrom start (f ∷ fs) c k
        by_class None d g = behind start f fs c k (λ t s. subst (λ (x : File). decl (classes_of start x) c ≡ None) (same_Some tree t (sym r ∙ s)) d) (rest g)
        by_class (Some j) d g = at_head start f fs c k (tree, r, d ∙ g)

decl_from_declared : (start : ℕ) (fs : List SourceFile) (c : Name) (k : ClassDecl) → DeclaredFrom start fs c k → decl (declared_from start (trees_of fs)) c ≡ Some k
decl_from_declared start [] c k s = absurd (none-some s.source s.here)
decl_from_declared start (f ∷ fs) c k s = by_tree (file_of f.bytes) refl (decl_from_declared (suc start) fs c k)
  where
    by_tree : (o : Option File) → file_of f.bytes ≡ o → (DeclaredFrom (suc start) fs c k → decl (declared_from (suc start) (trees_of fs)) c ≡ Some k) → decl (declared_from start (o ∷ trees_of fs)) c ≡ Some k
    by_tree None r rest = elim (split start f fs c k s) [ inl h ↦ absurd (none-some h.0 (sym r ∙ h.1)) | inr h ↦ rest h.1 ]
    by_tree (Some tree) r rest =
        append_decl (classes_of start tree) (declared_from (suc start) (trees_of fs)) c
        ∙ elim (split start f fs c k s) [
          | inl h ↦ ap (λ (o : Option ClassDecl). option_or o (decl (declared_from (suc start) (trees_of fs)) c)) (subst (λ (t : File). decl (classes_of start t) c ≡ Some k) (same_Some h.0 tree (sym h.1 ∙ r)) h.2)
          | inr h ↦ ap (λ (o : Option ClassDecl). option_or o (decl (declared_from (suc start) (trees_of fs)) c)) (h.0 tree r) ∙ rest h.1
        ]

-- ---- the law

module _ (p : Project) (c : Name) (k : ClassDecl) where
  pub is_declared : decl (classes_in p) c ≡ Some k → IsDeclaration p c k
  is_declared e =
      let s = declared_from_decl 0 p c k e in
      let zero_more : (i : ℕ) → 0 + i ≡ i = λ i. omega arith in
      let file : k.file ≡ s.at = s.number ∙ zero_more s.at in
      record {
        source = s.source;
        here = ap (slice_get p) file ∙ s.here;
        tree = s.tree;
        sentence = (sentence_law s.source.bytes s.tree).1 s.reads;
        first = subst (λ n. decl (classes_of n s.tree) c ≡ Some k) (sym s.number) s.found;
        none_before = λ i f t l e is.
            subst (λ n. decl (classes_of n t) c ≡ None) (zero_more i) (s.none_before i f t (omega (arith, file)) e ((sentence_law f.bytes t).0 is));
      }

  from_declared : IsDeclaration p c k → decl (classes_in p) c ≡ Some k
  from_declared is =
      let zero_more : (i : ℕ) → i ≡ 0 + i = λ i. omega arith in
      decl_from_declared 0 p c k (record {
        at = k.file;
        number = zero_more k.file;
        source = is.source;
        here = is.here;
        tree = is.tree;
        reads = (sentence_law is.source.bytes is.tree).0 is.sentence;
        found = subst (λ n. decl (classes_of n is.tree) c ≡ Some k) (zero_more k.file) is.first;
        none_before = λ i f t l e r. subst (λ n. decl (classes_of n t) c ≡ None) (zero_more i) (is.none_before i f t l e ((sentence_law f.bytes t).1 r));
      })

pub declaration_law : DeclarationLaw
declaration_law p c o = given (IsDeclaration p c) (decl (classes_in p) c) (λ k. (from_declared p c k, is_declared p c k)) o
