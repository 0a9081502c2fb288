-- Projects some of whose files have other bytes.
use Rattle.std.proofs.Common.{◌≡◌, ◌≢◌, ℕ, zero, suc, ◌<◌, Bool, true, false, cond, List, [], ◌∷◌, map, length, take, find, slice_get, option_map, Option, Some, None, is_some, Contains, refl, sym, ap, ap₂, ◌∙◌, subst, bytes_eq, if◌then◌else◌}
use Rattle.std.specs.Prelude.{All, ◌≤◌}
use Rattle.std.specs.List.{AllByRecursion}
use Rattle.std.specs.Arc.{arc_value}
use Rattle.std.specs.Map.{lookup}
use Rattle.std.specs.declared.alloc.Global.{Global}
use Rattle.std.specs.declared.sync.Arc.{Arc}
use Rattle.std.proofs.lemmas.Option.{none-some, same_Some}
use Rattle.std.proofs.lemmas.Slice.Eq.{bytes_eq-Decides}
use Rattle.indexmap.specs.IndexMap.{insert_entry}
use Rattle.result_bytes.specs.declared.value.Value.{Value}
use Rattle.result_bytes.specs.declared.value.Value.TheVariants as values
use Rattle.item_ids.specs.declared.key.Key.{Key}
use Rattle.item_ids.specs.declared.key.Key.TheVariants.{Files, Source}
use Rattle.item_ids.specs.Inputs.{Origin, files, source, computed, origin, by_computed}
use Rattle.named_files.specs.Projects.{SourceFile, names_of, IsProject, IsFileName, IsRepeated, most_files}
use Rattle.recorder.specs.Projects.{Project, bytes_at}
use Rattle.graph_rules.specs.Keys.{input_of}
use Rattle.graph_rules.proofs.KeyRules.{no_input}
use Rattle.project_inputs.specs.Inputs.{Sealed, bytes_in, IsSource}
use Rattle.edited_inputs.specs.Edits.{file_with, with_bytes, file_by, edited, source_of, IsSourceIn, is_file, holds_source}

-- ---- the bytes of a file

first_bytes : (f : SourceFile) (fs : Project) (m : List ℕ) (t : Bool) → bytes_eq f.name m ≡ t → bytes_at (f ∷ fs) m ≡ cond t (Some f.bytes) (bytes_at fs m)
first_bytes f fs m true is = ap (λ (t : Bool). option_map (λ (g : SourceFile). g.bytes) (cond t (Some f) (find (λ (g : SourceFile). bytes_eq g.name m) fs))) is
first_bytes f fs m false is = ap (λ (t : Bool). option_map (λ (g : SourceFile). g.bytes) (cond t (Some f) (find (λ (g : SourceFile). bytes_eq g.name m) fs))) is

-- ---- with the bytes of sources

name_by : (f : SourceFile) (o : Option (Arc Value Global)) → (file_by f o).name ≡ f.name
name_by f None = refl
name_by f (Some a) = refl

pub names_edited : (p : Project) (es : List Sealed) → names_of (edited p es) ≡ names_of p
names_edited [] es = refl
names_edited (f ∷ fs) es = ap₂ (λ (n : List ℕ) (ns : List (List ℕ)). n ∷ ns) (name_by f (lookup (bytes_eq f.name) es)) (names_edited fs es)

length_edited : (p : Project) (es : List Sealed) → length (edited p es) ≡ length p
length_edited [] es = refl
length_edited (f ∷ fs) es = ap suc (length_edited fs es)

pub project_edited : (p : Project) (es : List Sealed) → IsProject p → IsProject (edited p es)
project_edited p es is = record {
  size = subst (λ (m : ℕ). (0 < m) × (m ≤ most_files)) (sym (length_edited p es)) is.size;
  names = subst (λ (ns : List (List ℕ)). All IsFileName ns) (sym (names_edited p es)) is.names;
  distinct = λ k name e h. is.distinct k name (ap (λ (ns : List (List ℕ)). slice_get ns k) (sym (names_edited p es)) ∙ e) (subst (λ (ns : List (List ℕ)). IsRepeated ns k name) (names_edited p es) h);
}

-- the bytes, or those of a source
abbrev bytes_by : Option (Arc Value Global) → List ℕ → List ℕ
bytes_by None bytes = bytes
bytes_by (Some a) bytes = bytes_in (arc_value a)

by_bytes : (f : SourceFile) (o : Option (Arc Value Global)) → (file_by f o).bytes ≡ bytes_by o f.bytes
by_bytes f None = refl
by_bytes f (Some a) = refl

bytes_edited : (p : Project) (es : List Sealed) (n : List ℕ) → bytes_at (edited p es) n ≡ option_map (bytes_by (lookup (bytes_eq n) es)) (bytes_at p n)
bytes_edited [] es n = refl
bytes_edited (f ∷ fs) es n = go (bytes_edited fs es n) (bytes_eq f.name n) refl
  where
    named : (t : Bool) → bytes_eq f.name n ≡ t → bytes_eq (file_by f (lookup (bytes_eq f.name) es)).name n ≡ t
    named t is = ap (λ (m : List ℕ). bytes_eq m n) (name_by f (lookup (bytes_eq f.name) es)) ∙ is

    go : bytes_at (edited fs es) n ≡ option_map (bytes_by (lookup (bytes_eq n) es)) (bytes_at fs n) → (t : Bool) → bytes_eq f.name n ≡ t
        → bytes_at (edited (f ∷ fs) es) n ≡ option_map (bytes_by (lookup (bytes_eq n) es)) (bytes_at (f ∷ fs) n)
    go ih true is =
        first_bytes (file_by f (lookup (bytes_eq f.name) es)) (edited fs es) n true (named true is)
        ∙ ap (λ (b : List ℕ). Some b) (by_bytes f (lookup (bytes_eq f.name) es) ∙ ap (λ (m : List ℕ). bytes_by (lookup (bytes_eq m) es) f.bytes) ((bytes_eq-Decides f.name n).0 is))
        ∙ sym (ap (option_map (bytes_by (lookup (bytes_eq n) es))) (first_bytes f fs n true is))
    go ih false is =
        first_bytes (file_by f (lookup (bytes_eq f.name) es)) (edited fs es) n false (named false is)
        ∙ ih
        ∙ sym (ap (option_map (bytes_by (lookup (bytes_eq n) es))) (first_bytes f fs n false is))

there_after : (g : List ℕ → List ℕ) (o : Option (List ℕ)) → is_some (option_map g o) ≡ is_some o
there_after g None = refl
there_after g (Some b) = refl

-- the same files are there
pub there_edited : (p : Project) (es : List Sealed) (n : List ℕ) → is_some (bytes_at (edited p es) n) ≡ is_some (bytes_at p n)
there_edited p es n = ap is_some (bytes_edited p es n) ∙ there_after (bytes_by (lookup (bytes_eq n) es)) (bytes_at p n)

-- ---- inputs

some_after : (a : Arc Value Global) (o : Option (List ℕ)) → is_some o ≡ true → option_map (bytes_by (Some a)) o ≡ Some (bytes_in (arc_value a))
some_after a None is = absurd cc
some_after a (Some b) is = refl

none_after : (o : Option (List ℕ)) → option_map (bytes_by None) o ≡ o
none_after None = refl
none_after (Some b) = refl

found_in : (p : Project) (es : List Sealed) → AllByRecursion (IsSourceIn p) es → (n : List ℕ) (a : Arc Value Global) → lookup (bytes_eq n) es ≡ Some a → IsSourceIn p (n, a)
found_in p [] all n a is = absurd (none-some a is)
found_in p (e ∷ es) all n a is = go (found_in p es all.1 n a) (bytes_eq n e.0) refl is
  where
    go : (lookup (bytes_eq n) es ≡ Some a → IsSourceIn p (n, a)) → (t : Bool) → bytes_eq n e.0 ≡ t → cond t (Some e.1) (lookup (bytes_eq n) es) ≡ Some a → IsSourceIn p (n, a)
    go ih true same e_is = subst (λ (m : List ℕ). IsSourceIn p (m, a)) (sym ((bytes_eq-Decides n e.0).0 same)) (subst (λ (b : Arc Value Global). IsSourceIn p (e.0, b)) (same_Some e.1 a e_is) all.0)
    go ih false other rest = ih rest

-- what the source of its own says of a key
abbrev Says : Project → List Sealed → Key → Option (Arc Value Global) → Type 0
Says p es q None = input_of (edited p es) q ≡ input_of p q
Says p es q (Some a) = input_of (edited p es) q ≡ Some (arc_value a)

says_source : (p : Project) (es : List Sealed) → AllByRecursion (IsSourceIn p) es → (n : List ℕ) (o : Option (Arc Value Global)) → lookup (bytes_eq n) es ≡ o → Says p es (Source n) o
unfolding input_of
says_source p es all n None is =
    ap (λ (b : Option (List ℕ)). Some (values.Source b)) (bytes_edited p es n ∙ ap (λ (o : Option (Arc Value Global)). option_map (bytes_by o) (bytes_at p n)) is ∙ none_after (bytes_at p n))
says_source p es all n (Some a) is =
    let in_es = found_in p es all n a is in
    ap (λ (b : Option (List ℕ)). Some (values.Source b)) (bytes_edited p es n ∙ ap (λ (o : Option (Arc Value Global)). option_map (bytes_by o) (bytes_at p n)) is ∙ some_after a (bytes_at p n) in_es.1)
    ∙ ap (λ (v : Value). Some v) (sym in_es.0)

says_by : (p : Project) (es : List Sealed) → AllByRecursion (IsSourceIn p) es → {q : Key} → Origin q → (o : Option (Arc Value Global)) → source_of es q ≡ o → Says p es q o
unfolding input_of
says_by p es all files None is = ap (λ (ns : List (List ℕ)). Some (values.Files ns)) (names_edited p es)
says_by p es all files (Some a) is = absurd (none-some a is)
says_by p es all (source n) o is = says_source p es all n o is
says_by p es all (computed q c) None is = no_input (edited p es) q c.above ∙ sym (no_input p q c.above)
says_by p es all (computed q c) (Some a) is = absurd (none-some a (sym (by_computed None (λ name. lookup (bytes_eq name) es) None q c) ∙ is))

pub input_same : (p : Project) (es : List Sealed) → AllByRecursion (IsSourceIn p) es → (q : Key) → source_of es q ≡ None → input_of (edited p es) q ≡ input_of p q
input_same p es all q is = says_by p es all (origin q) None is

pub input_own : (p : Project) (es : List Sealed) → AllByRecursion (IsSourceIn p) es → (q : Key) (a : Arc Value Global) → source_of es q ≡ Some a → input_of (edited p es) q ≡ Some (arc_value a)
input_own p es all q a is = says_by p es all (origin q) (Some a) is

-- ---- one more source

pub sources_set : (p : Project) (es : List Sealed) (n : List ℕ) (a : Arc Value Global) → AllByRecursion (IsSourceIn p) es → IsSourceIn p (n, a) → AllByRecursion (IsSourceIn p) (insert_entry bytes_eq es n a)
sources_set p [] n a all is = (is, tt)
sources_set p (e ∷ es) n a all is = go (sources_set p es n a all.1 is) (bytes_eq n e.0) refl
  where
    go : AllByRecursion (IsSourceIn p) (insert_entry bytes_eq es n a) → (t : Bool) → bytes_eq n e.0 ≡ t
        → AllByRecursion (IsSourceIn p) (if t then (e.0, a) ∷ es else e ∷ insert_entry bytes_eq es n a)
    go ih true same = ((is.0, all.0.1), all.1)
    go ih false other = (all.0, ih)

pub edited_more : (p : Project) (es new : List Sealed) (n : List ℕ) (a : Arc Value Global)
    → ((m : List ℕ) → lookup (bytes_eq m) new ≡ cond (bytes_eq n m) (Some a) (lookup (bytes_eq m) es))
    → edited p new ≡ with_bytes (edited p es) n (bytes_in (arc_value a))
edited_more [] es new n a updates = refl
edited_more (f ∷ fs) es new n a updates = ap₂ (λ (g : SourceFile) (gs : Project). g ∷ gs) (one (bytes_eq n f.name) refl) (edited_more fs es new n a updates)
  where
    turned : (t : Bool) → bytes_eq n f.name ≡ t → bytes_eq f.name n ≡ t
    turned true is = (bytes_eq-Decides f.name n).1 (sym ((bytes_eq-Decides n f.name).0 is))
    turned false is = elim (bytes_eq f.name n) as (λ t. bytes_eq f.name n ≡ t → bytes_eq f.name n ≡ false) [
      | true ↦ λ same. absurd (let bad : true ≡ false = sym ((bytes_eq-Decides n f.name).1 (sym ((bytes_eq-Decides f.name n).0 same))) ∙ is in cc)
      | false ↦ λ other. other
    ] refl

    written : (t : Bool) → bytes_eq n f.name ≡ t → (o : Option (Arc Value Global)) → file_with n (bytes_in (arc_value a)) (file_by f o) ≡ (if t then record { name = f.name; bytes = bytes_in (arc_value a) } else file_by f o)
    written t is None = ap (λ (c : Bool). if c then record { name = f.name; bytes = bytes_in (arc_value a) } else f) (turned t is)
    written t is (Some x) = ap (λ (c : Bool). if c then record { name = f.name; bytes = bytes_in (arc_value a) } else file_by f (Some x)) (turned t is)

    one : (t : Bool) → bytes_eq n f.name ≡ t
        → file_by f (lookup (bytes_eq f.name) new) ≡ file_with n (bytes_in (arc_value a)) (file_by f (lookup (bytes_eq f.name) es))
    one true is =
        ap (file_by f) (updates f.name ∙ ap (λ (t : Bool). cond t (Some a) (lookup (bytes_eq f.name) es)) is)
        ∙ sym (written true is (lookup (bytes_eq f.name) es))
    one false is =
        ap (file_by f) (updates f.name ∙ ap (λ (t : Bool). cond t (Some a) (lookup (bytes_eq f.name) es)) is)
        ∙ sym (written false is (lookup (bytes_eq f.name) es))

-- ---- whether there is a file

of_bytes : (bytes : Option (List ℕ)) → holds_source (values.Source bytes) ≡ is_some bytes
of_bytes None = refl
of_bytes (Some b) = refl

has_by : (p : Project) {q : Key} → Origin q → (v : Value) → input_of p q ≡ Some v → holds_source v ≡ is_file p q
unfolding input_of
has_by p files v is = ap holds_source (sym (same_Some _ v is))
has_by p (source n) v is = ap holds_source (sym (same_Some _ v is)) ∙ of_bytes (bytes_at p n)
has_by p (computed q c) v is = absurd (none-some v (sym (no_input p q c.above) ∙ is))

file_same_by : (p : Project) (es : List Sealed) {q : Key} → Origin q → is_file p q ≡ is_file (edited p es) q
file_same_by p es files = refl
file_same_by p es (source n) = sym (there_edited p es n)
file_same_by p es (computed q c) = by_computed false (λ name. is_some (bytes_at p name)) false q c ∙ sym (by_computed false (λ name. is_some (bytes_at (edited p es) name)) false q c)

pub file_there : (p : Project) (es : List Sealed) (q : Key) (v : Value) → input_of p q ≡ Some v → holds_source v ≡ is_file (edited p es) q
file_there p es q v is = has_by p (origin q) v is ∙ file_same_by p es (origin q)

no_file_by : (p : Project) {q : Key} → Origin q → input_of p q ≡ None → false ≡ is_file p q
unfolding input_of
no_file_by p files is = absurd (none-some _ (sym is))
no_file_by p (source n) is = absurd (none-some _ (sym is))
no_file_by p (computed q c) is = sym (by_computed false (λ name. is_some (bytes_at p name)) false q c)

pub file_nowhere : (p : Project) (es : List Sealed) (q : Key) → input_of p q ≡ None → false ≡ is_file (edited p es) q
file_nowhere p es q is = no_file_by p (origin q) is ∙ file_same_by p es (origin q)

-- ---- a project after an edit, for those that keep its inputs

bytes_else : (p : Project) (n b m : List ℕ) → m ≢ n → bytes_at (with_bytes p n b) m ≡ bytes_at p m
bytes_else [] n b m ne = refl
bytes_else (f ∷ fs) n b m ne = go (bytes_else fs n b m ne) (bytes_eq f.name n) refl
  where
    apart : bytes_eq f.name n ≡ true → (t : Bool) → bytes_eq f.name m ≡ t → bytes_eq f.name m ≡ false
    apart e true h = absurd (ne (sym ((bytes_eq-Decides f.name m).0 h) ∙ (bytes_eq-Decides f.name n).0 e))
    apart e false h = h

    kept : bytes_at (with_bytes fs n b) m ≡ bytes_at fs m → (t : Bool) → bytes_eq f.name m ≡ t → bytes_at (f ∷ with_bytes fs n b) m ≡ bytes_at (f ∷ fs) m
    kept ih t h = first_bytes f (with_bytes fs n b) m t h ∙ ap (λ (o : Option (List ℕ)). cond t (Some f.bytes) o) ih ∙ sym (first_bytes f fs m t h)

    head : (t : Bool) → bytes_eq f.name n ≡ t → with_bytes (f ∷ fs) n b ≡ (if t then record { name = f.name; bytes = b } else f) ∷ with_bytes fs n b
    head t e = ap (λ (c : Bool). (if c then record { name = f.name; bytes = b } else f) ∷ with_bytes fs n b) e

    go : bytes_at (with_bytes fs n b) m ≡ bytes_at fs m → (t : Bool) → bytes_eq f.name n ≡ t → bytes_at (with_bytes (f ∷ fs) n b) m ≡ bytes_at (f ∷ fs) m
    go ih true e =
        let other = apart e (bytes_eq f.name m) refl in
        ap (λ (q : Project). bytes_at q m) (head true e)
        ∙ first_bytes (record { name = f.name; bytes = b }) (with_bytes fs n b) m false other
        ∙ ih
        ∙ sym (first_bytes f fs m false other)
    go ih false e = ap (λ (q : Project). bytes_at q m) (head false e) ∙ kept ih (bytes_eq f.name m) refl

names_with : (p : Project) (n b : List ℕ) → names_of (with_bytes p n b) ≡ names_of p
names_with [] n b = refl
names_with (f ∷ fs) n b = ap₂ (λ (m : List ℕ) (ms : List (List ℕ)). m ∷ ms) (named (bytes_eq f.name n) refl) (names_with fs n b)
  where
    named : (t : Bool) → bytes_eq f.name n ≡ t → (file_with n b f).name ≡ f.name
    named true e = ap (λ (c : Bool). (if c then record { name = f.name; bytes = b } else f).name) e
    named false e = ap (λ (c : Bool). (if c then record { name = f.name; bytes = b } else f).name) e

else_by : (p : Project) (n b : List ℕ) {q : Key} → Origin q → q ≢ Source n → input_of (with_bytes p n b) q ≡ input_of p q
unfolding input_of
else_by p n b files ne = ap (λ (ns : List (List ℕ)). Some (values.Files ns)) (names_with p n b)
else_by p n b (source m) ne = ap (λ (o : Option (List ℕ)). Some (values.Source o)) (bytes_else p n b m (λ e. ne (ap Source e)))
else_by p n b (computed q c) ne = no_input (with_bytes p n b) q c.above ∙ sym (no_input p q c.above)

-- every other input is as it was
pub input_else : (p : Project) (n b : List ℕ) (q : Key) → q ≢ Source n → input_of (with_bytes p n b) q ≡ input_of p q
input_else p n b q ne = else_by p n b (origin q) ne

-- ---- without sources

pub edited_none : (p : Project) → edited p [] ≡ p
edited_none [] = refl
edited_none (f ∷ fs) = ap (λ (gs : Project). f ∷ gs) (edited_none fs)
