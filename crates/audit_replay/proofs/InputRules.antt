-- The inputs of a session that holds the files of a project, beside another project.
use Rattle.std.proofs.Common.{◌≡◌, ℕ, suc, zero, ◌<◌, ◌+◌, true, false, cond, find, List, [], ◌∷◌, ◌++◌, map, take, length, get_or, Option, Some, None, Bool, IsTrue, option_map, inl, inr, refl, sym, ap, ◌∙◌, subst, arith}
use Rattle.std.specs.Prelude.{Contains, bytes_eq, string_bytes, String, Vec, ◌↔◌}
use Rattle.std.specs.Arc.{arc_value}
use Rattle.std.specs.List.{AllByRecursion}
use Rattle.std.specs.declared.sync.Arc.{Arc}
use Rattle.std.specs.declared.alloc.Global.{Global}
use Rattle.std.proofs.lemmas.List.{length-map, get_or-map}
use Rattle.std.proofs.lemmas.Option.{none-some, same_Some}
use Rattle.std.proofs.lemmas.Slice.Eq.{bytes_eq-Decides}
use Rattle.item_ids.specs.declared.key.Key.{Key}
use Rattle.item_ids.specs.declared.key.Key.TheVariants.{Files, Source}
use Rattle.result_bytes.specs.declared.value.Value.{Value}
use Rattle.result_bytes.specs.declared.value.Value.TheVariants as values
use Rattle.named_files.specs.Projects.{SourceFile, source_view, sources_view, names_of, IsProject}
use Rattle.recorder.specs.Projects.{Project, bytes_at}
use Rattle.sessions.specs.Sessions.{Entry}
use Rattle.graph_rules.specs.Pasts.{Past}
use Rattle.graph_rules.specs.Next.{AreSources}
use Rattle.audit_graph.proofs.Entries.{nowhere, contains_cases, contains_first, contains_later}
use Rattle.audit_graph.proofs.SourceRules.{one_names, names_held}
use Rattle.audit_graph.specs.Sources.{HasFiles, HasBytes, HasSources, source_keys}
use Rattle.audit_replay.specs.Audits.{HasValue}
use Rattle.audit_replay.specs.Projects.{HoldsFiles, IsFileAlike, AreFilesAlike, HasFilesAlike}
use Rattle.audit_replay.specs.Sums.{AreTexts, AreTextsIn}
use Rattle.audit_replay.proofs.AgainstRules.{same_names, are_sources, are_files}

-- ---- a walk over names and files

pub alike_long : (names : List (List ℕ)) (texts : List Value) (fs : List SourceFile) → AreFilesAlike names texts fs → (length names ≡ length fs) × (length texts ≡ length fs)
alike_long [] [] [] a = (refl, refl)
alike_long [] [] (f ∷ fs) a = absurd a
alike_long [] (t ∷ ts) fs a = absurd a
alike_long (n ∷ ns) [] fs a = absurd a
alike_long (n ∷ ns) (t ∷ ts) [] a = absurd a
alike_long (n ∷ ns) (t ∷ ts) (f ∷ fs) a = let l = alike_long ns ts fs a.1 in (omega (arith, l.0), omega (arith, l.1))

alike_more : (names : List (List ℕ)) (texts : List Value) (fs : List SourceFile) (i : ℕ) (d : List ℕ) (v : Value) (e : SourceFile) → i < length names → i < length texts → i < length fs
    → AreFilesAlike (take i names) (take i texts) (take i fs) → IsFileAlike (get_or names i d) (get_or texts i v) (get_or fs i e) → AreFilesAlike (take (i + 1) names) (take (i + 1) texts) (take (i + 1) fs)
alike_more names texts fs i d v e l m o a h =
    let n : suc i ≡ i + 1 = omega arith in
    subst (λ k. AreFilesAlike (take k names) (take k texts) (take k fs)) n (more names texts fs i l m o a h)
  where
    more : (names : List (List ℕ)) (texts : List Value) (fs : List SourceFile) (i : ℕ) → i < length names → i < length texts → i < length fs
        → AreFilesAlike (take i names) (take i texts) (take i fs) → IsFileAlike (get_or names i d) (get_or texts i v) (get_or fs i e) → AreFilesAlike (take (suc i) names) (take (suc i) texts) (take (suc i) fs)
    more [] ts fs i l m o a h = absurd (omega arith)
    more (n ∷ ns) [] fs i l m o a h = absurd (omega arith)
    more (n ∷ ns) (t ∷ ts) [] i l m o a h = absurd (omega arith)
    more (n ∷ ns) (t ∷ ts) (f ∷ fs) zero l m o a h = (h, tt)
    more (n ∷ ns) (t ∷ ts) (f ∷ fs) (suc i) l m o a h = (a.0, more ns ts fs i (omega arith) (omega arith) (omega arith) a.1 h)

alike_at : (names : List (List ℕ)) (texts : List Value) (fs : List SourceFile) (i : ℕ) (d : List ℕ) (v : Value) (e : SourceFile) → i < length names → AreFilesAlike names texts fs → IsFileAlike (get_or names i d) (get_or texts i v) (get_or fs i e)
alike_at [] ts fs i d v e l a = absurd (omega arith)
alike_at (n ∷ ns) [] fs i d v e l a = absurd a
alike_at (n ∷ ns) (t ∷ ts) [] i d v e l a = absurd a
alike_at (n ∷ ns) (t ∷ ts) (f ∷ fs) zero d v e l a = a.0
alike_at (n ∷ ns) (t ∷ ts) (f ∷ fs) (suc i) d v e l a = alike_at ns ts fs i d v e (omega arith) a.1

-- the same, by what a name, its text and a file are read as
module _ (names : List (List ℕ)) (texts : List (Arc Value Global)) (files : List (String Global × Vec ℕ Global)) (i : ℕ) (n : List ℕ) (t : Arc Value Global) (f : String Global × Vec ℕ Global) (lt : i < length names)
    (same : length names ≡ length files) (many : length texts ≡ length files) (n_is : n ≡ get_or names i n) (t_is : t ≡ get_or texts i t) (f_is : f ≡ get_or files i f)
    (told : Value) (told_is : told ≡ arc_value t) (name bytes : List ℕ) (called : name ≡ string_bytes f.0) (read : bytes ≡ f.1.items) where
  abbrev made : List ℕ → List ℕ → SourceFile
  made x y = record { name = x; bytes = y }

  inside : i < length files
  inside = omega (arith, lt, same)

  viewed : i < length (sources_view files)
  viewed = omega (arith, lt, same, length-map files source_view)

  valued : i < length (map (λ (a : Arc Value Global). arc_value a) texts)
  valued = omega (arith, lt, same, many, length-map texts (λ (a : Arc Value Global). arc_value a))

  file_is : made name bytes ≡ get_or (sources_view files) i (source_view f)
  file_is =
      ap (λ (x : List ℕ). made x bytes) called ∙ (ap (λ (x : List ℕ). made (string_bytes f.0) x) read
      ∙ (ap source_view f_is ∙ sym (get_or-map source_view files i f (source_view f) inside)))

  text_is : told ≡ get_or (map (λ (a : Arc Value Global). arc_value a) texts) i (arc_value t)
  text_is =
      let l : i < length texts = omega (arith, lt, same, many) in
      told_is ∙ (ap (λ (a : Arc Value Global). arc_value a) t_is ∙ sym (get_or-map (λ (a : Arc Value Global). arc_value a) texts i t (arc_value t) l))

  pub next_alike : AreFilesAlike (take i names) (take i (map (λ (a : Arc Value Global). arc_value a) texts)) (take i (sources_view files)) → IsFileAlike n told (made name bytes)
      → AreFilesAlike (take (i + 1) names) (take (i + 1) (map (λ (a : Arc Value Global). arc_value a) texts)) (take (i + 1) (sources_view files))
  next_alike a h = alike_more names (map (λ (x : Arc Value Global). arc_value x) texts) (sources_view files) i n (arc_value t) (source_view f) lt valued viewed a
      (subst (λ (x : List ℕ). IsFileAlike x (get_or (map (λ (x : Arc Value Global). arc_value x) texts) i (arc_value t)) (get_or (sources_view files) i (source_view f))) n_is
      (subst (λ (v : Value). IsFileAlike n v (get_or (sources_view files) i (source_view f))) text_is (subst (IsFileAlike n told) file_is h)))

  pub alike_there : AreFilesAlike names (map (λ (a : Arc Value Global). arc_value a) texts) (sources_view files) → IsFileAlike n told (made name bytes)
  alike_there a =
      let h = alike_at names (map (λ (x : Arc Value Global). arc_value x) texts) (sources_view files) i n (arc_value t) (source_view f) lt a in
      subst (IsFileAlike n told) (sym file_is)
      (subst (λ (v : Value). IsFileAlike n v (get_or (sources_view files) i (source_view f))) (sym text_is)
      (subst (λ (x : List ℕ). IsFileAlike x (get_or (map (λ (x : Arc Value Global). arc_value x) texts) i (arc_value t)) (get_or (sources_view files) i (source_view f))) (sym n_is) h))

-- ---- inputs that a session holds beside a project

value_once : (now : Past) (q : Key) (v w : Value) → HasValue now q v → HasValue now q w → v ≡ w
value_once now q v w a b = sym a.value ∙ (ap (λ (e : Entry). e.value) (same_Some _ _ (sym a.has ∙ b.has)) ∙ b.value)

held_alike : (now : Past) (names : List (List ℕ)) (texts : List Value) (fs : List SourceFile) → AreTexts now names texts → AreFilesAlike names texts fs → HoldsFiles now names fs
held_alike now [] [] [] e a = tt
held_alike now [] [] (f ∷ fs) e a = absurd a
held_alike now [] (t ∷ ts) fs e a = absurd e
held_alike now (n ∷ ns) [] fs e a = absurd e
held_alike now (n ∷ ns) (t ∷ ts) [] e a = absurd a
held_alike now (n ∷ ns) (t ∷ ts) (f ∷ fs) e a =
    (record { called = a.0.called; held = subst (HasValue now (Source n)) a.0.told e.0 }, held_alike now ns ts fs e.1 a.1)

alike_held : (now : Past) (names : List (List ℕ)) (texts : List Value) (fs : List SourceFile) → AreTexts now names texts → HoldsFiles now names fs → AreFilesAlike names texts fs
alike_held now [] [] [] e a = tt
alike_held now [] [] (f ∷ fs) e a = absurd a
alike_held now [] (t ∷ ts) fs e a = absurd e
alike_held now (n ∷ ns) [] fs e a = absurd e
alike_held now (n ∷ ns) (t ∷ ts) [] e a = absurd a
alike_held now (n ∷ ns) (t ∷ ts) (f ∷ fs) e a =
    (record { called = a.0.called; told = value_once now (Source n) t (values.Source (Some f.bytes)) e.0 a.0.held }, alike_held now ns ts fs e.1 a.1)

pub texts_alike : (now : Past) (texts : List Value) → AreTextsIn now texts → HasSources now → (p : Project) → IsProject p → HasFilesAlike now texts p ↔ AreSources now p
texts_alike now texts held old p is = (
  (λ h. are_sources now h.names h.held old.0 p old.1 is (held_alike now h.names texts p (held h.names h.held) h.alike)),
  (λ s.
      let names = names_held now p s in
      record {
        names = names_of p;
        held = names;
        alike = alike_held now (names_of p) texts p (held (names_of p) names) (are_files now (names_of p) names p s);
      }),
)

-- ---- by the names that a session holds

module _ (now : Past) (names : List (List ℕ)) (held : HasFiles now names) (texts : List Value) where
  pub all_texts : AreTexts now names texts → AreTextsIn now texts
  all_texts a files h = subst (λ (ns : List (List ℕ)). AreTexts now ns texts) (one_names now names files held h) a

  pub files_alike : (p : Project) (b : Bool) → IsTrue b ↔ AreFilesAlike names texts p → IsTrue b ↔ HasFilesAlike now texts p
  files_alike p b h = (
    (λ yes_. record { names = names; held = held; alike = h.0 yes_ }),
    (λ x. h.1 (subst (λ (ns : List (List ℕ)). AreFilesAlike ns texts p) (one_names now x.names names x.held held) x.alike)),
  )

-- without names there is no file
pub no_names : (now : Past) (names : List (List ℕ)) → now Files ≡ None → HasFiles now names → ⊥
no_names now names none h = none-some h.entry (sym none ∙ h.has)

-- ---- the inputs of a session that holds the files of a project

pub bytes_named : (fs : List SourceFile) (file : List ℕ) → Contains (names_of fs) file → (b : List ℕ) × (bytes_at fs file ≡ Some b)
bytes_named [] file c = absurd (nowhere file c)
bytes_named (f ∷ fs) file c =
    (elim (bytes_eq f.name file) as (λ b. bytes_eq f.name file ≡ b → (t : List ℕ) × (option_map (λ (g : SourceFile). g.bytes) (cond b (Some f) (find (λ (g : SourceFile). bytes_eq g.name file) fs)) ≡ Some t)) [
      | true ↦ λ same. (f.bytes, refl)
      | false ↦ λ other. bytes_named fs file (elim (contains_cases f.name (names_of fs) file c) [
        | inl same ↦ absurd (let t : true ≡ false = sym ((bytes_eq-Decides f.name file).1 same) ∙ other in cc)
        | inr later ↦ later
      ])
    ]) refl

bytes_each : (now : Past) (names : List (List ℕ)) → ((file : List ℕ) → Contains names file → HasBytes now (Source file)) → AllByRecursion (HasBytes now) (source_keys names)
bytes_each now [] h = tt
bytes_each now (n ∷ ns) h = (h n (contains_first n ns), bytes_each now ns (λ file c. h file (contains_later n ns file c)))

-- each of the names has its bytes
pub named_bytes : (now : Past) (names : List (List ℕ)) → HasFiles now names → HasSources now → AllByRecursion (HasBytes now) (source_keys names)
named_bytes now names held old =
    let same = same_names now names held old.0 old.1 in
    bytes_each now names (λ file c.
    let inside = subst (λ (ns : List (List ℕ)). Contains ns file) same c in
    let x = old.1.each file inside in
    let b = bytes_named old.0 file inside in
    record { entry = x.0; bytes = b.0; has = x.1; value = x.2 ∙ ap (λ (o : Option (List ℕ)). values.Source o) b.1 })

-- one more name with its text
pub texts_more : (now : Past) (names : List (List ℕ)) (texts : List Value) (i : ℕ) (n : List ℕ) (v : Value) → i < length names → n ≡ get_or names i n → AreTexts now (take i names) texts → HasValue now (Source n) v → AreTexts now (take (i + 1) names) (texts ++ v ∷ [])
texts_more now names texts i n v lt is a h =
    let m : suc i ≡ i + 1 = omega arith in
    subst (λ k. AreTexts now (take k names) (texts ++ v ∷ [])) m (more names texts i lt a (subst (λ (x : List ℕ). HasValue now (Source x) v) is h))
  where
    more : (names : List (List ℕ)) (texts : List Value) (i : ℕ) → i < length names → AreTexts now (take i names) texts → HasValue now (Source (get_or names i n)) v → AreTexts now (take (suc i) names) (texts ++ v ∷ [])
    more [] ts i l a h = absurd (omega arith)
    more (m ∷ ns) [] zero l a h = (h, tt)
    more (m ∷ ns) (t ∷ ts) zero l a h = absurd a
    more (m ∷ ns) [] (suc i) l a h = absurd a
    more (m ∷ ns) (t ∷ ts) (suc i) l a h = (a.0, more ns ts i (omega arith) a.1 h)

-- a name among them has its bytes
pub bytes_at_place : (now : Past) (names : List (List ℕ)) → AllByRecursion (HasBytes now) (source_keys names) → (i : ℕ) (n : List ℕ) → i < length names → n ≡ get_or names i n → HasBytes now (Source n)
bytes_at_place now [] a i n lt is = absurd (omega (arith, lt))
bytes_at_place now (m ∷ ns) a zero n lt is = subst (λ (x : List ℕ). HasBytes now (Source x)) (sym is) a.0
bytes_at_place now (m ∷ ns) a (suc i) n lt is = bytes_at_place now ns a.1 i n (omega arith) is
