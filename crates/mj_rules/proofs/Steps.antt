-- Steps of the loops that collect diagnostics.
use Rattle.std.proofs.Common.{◌≡◌, ℕ, zero, suc, ◌+◌, ◌<◌, ◌≤◌, Bool, true, false, not, ◌&&◌, ◌||◌, List, [], ◌∷◌, ◌++◌, length, map, get_or, drop, slice_get, Option, Some, None, option_map, refl, sym, ap, ap₂, ◌∙◌, arith, append_assoc, append-nil, ◌⊎◌, inl, inr, String, Vec}
use Rattle.std.proofs.Math.Bool.{or_assoc}
use Rattle.std.specs.declared.alloc.Global.{Global}
use Rattle.std.proofs.lemmas.List.{length-map, drop_all}
use Rattle.std.proofs.lemmas.Option.{none-some, same_Some, slice_get-get_or, get_or_from_slice_get}
use Rattle.mj_tree.specs.declared.tree.FileTree.{FileTree}
use Rattle.mj_tree.specs.declared.tree.Ty.{Ty}
use Rattle.mj_tree.specs.declared.tree.Variable.{Variable}
use Rattle.mj_tree.specs.Views.{file_view}
use Rattle.mj_members.specs.Classes.{tree_view, class_ref_view}
use Rattle.mj_classes.specs.Classes.{files_view}
use Rattle.mj_members.specs.declared.class.AnyClassTree.{AnyClassTree}
use Rattle.mj_members.specs.declared.class.AnyClassTree.TheVariants.{Main, Plain}
use Rattle.mj_members.specs.declared.class.ClassRef.{ClassRef}
use Rattle.mj_tree.specs.declared.place.Place.TheVariants.{Project, ClassOf}
use Rattle.mj_tree.proofs.Positions.{read_at}
use Rattle.mj_answer.specs.declared.code.Code.TheVariants.{E102, E104}
use Rattle.mj_answer.specs.declared.diagnostic.Diagnostic.{Diagnostic}
use Rattle.named_files.specs.Projects.{SourceFile, source_view, sources_view}
use Rattle.named_files.specs.Repeats.{repeats}
use Rattle.mj_rules.specs.Sentences.{file_of, trees_of}
use Rattle.mj_rules.specs.FaultLists.{fault, when_fault, repeated_class, each_numbered, has_main, any_main, file_faults, files_faults, same_type, same_types}
use Rattle.named_files.proofs.Listed.{at_map, map_at}
use Rattle.named_files.proofs.RepeatLemmas.{length-repeats}

pub drop_at : {X : Type 0} (xs : List X) (n : ℕ) (x : X) → slice_get xs n ≡ Some x → drop n xs ≡ x ∷ drop (n + 1) xs
drop_at [] n x e = absurd (none-some x e)
drop_at (y ∷ xs) zero x e = ap (λ z. z ∷ xs) (same_Some y x e)
drop_at (y ∷ xs) (suc n) x e =
    let next : n + 1 + 1 ≡ suc (n + 1) = omega arith in
    let later : suc n + 1 ≡ suc (n + 1) = omega arith in
    drop_at xs n x e ∙ ap (λ k. x ∷ drop k (y ∷ xs)) (sym later)

-- one more of a numbered list
pub each_step : {X : Type 0} (faults : ℕ → Bool → X → List Diagnostic) (xs : List X) (flags : List Bool) (n : ℕ) (x : X) (flag : Bool) (old new : List Diagnostic)
    → slice_get xs n ≡ Some x → slice_get flags n ≡ Some flag → new ≡ old ++ faults n flag x
    → new ++ each_numbered faults (n + 1) (drop (n + 1) xs) (drop (n + 1) flags) ≡ old ++ each_numbered faults n (drop n xs) (drop n flags)
each_step faults xs flags n x flag old new ex ef e =
    ap (λ (ds : List Diagnostic). ds ++ each_numbered faults (n + 1) (drop (n + 1) xs) (drop (n + 1) flags)) e
    ∙ (append_assoc old (faults n flag x) (each_numbered faults (n + 1) (drop (n + 1) xs) (drop (n + 1) flags))
    ∙ ap₂ (λ ys fs. old ++ each_numbered faults n ys fs) (sym (drop_at xs n x ex)) (sym (drop_at flags n flag ef)))

-- the end of the list
pub each_end : {X : Type 0} (faults : ℕ → Bool → X → List Diagnostic) (xs : List X) (flags : List Bool) (n : ℕ) (old : List Diagnostic) → length xs ≤ n
    → old ++ each_numbered faults n (drop n xs) (drop n flags) ≡ old
each_end faults xs flags n old h = ap (λ ys. old ++ each_numbered faults n ys (drop n flags)) (drop_all n xs h) ∙ append-nil old

-- one more file
pub files_step : (files : List SourceFile) (before : Bool) (n : ℕ) (f : SourceFile) (old new : List Diagnostic) → slice_get files n ≡ Some f → new ≡ old ++ file_faults before f.name (file_of f.bytes)
    → new ++ files_faults (before || has_main (file_of f.bytes)) (drop (n + 1) files) ≡ old ++ files_faults before (drop n files)
files_step files before n f old new ef e =
    ap (λ (ds : List Diagnostic). ds ++ files_faults (before || has_main (file_of f.bytes)) (drop (n + 1) files)) e
    ∙ (append_assoc old (file_faults before f.name (file_of f.bytes)) (files_faults (before || has_main (file_of f.bytes)) (drop (n + 1) files))
    ∙ ap (λ fs. old ++ files_faults before fs) (sym (drop_at files n f ef)))

pub files_end : (files : List SourceFile) (before : Bool) (n : ℕ) (old : List Diagnostic) → length files ≤ n → old ++ files_faults before (drop n files) ≡ old
files_end files before n old h = ap (λ fs. old ++ files_faults before fs) (drop_all n files h) ∙ append-nil old

-- the flag at a place
pub flag_read : (spec flags : List Bool) (n : ℕ) (d : Bool) → flags ≡ spec → n < length flags → slice_get spec n ≡ Some (get_or flags n d)
flag_read spec flags n d e within = ap (λ fs. slice_get fs n) (sym e) ∙ slice_get-get_or flags n d within

-- a list has as many flags as names
pub flag_within : (names : List (List ℕ)) (flags : List Bool) (n : ℕ) → flags ≡ repeats names → n < length names → n < length flags
flag_within names flags n e within = let same = ap length e ∙ length-repeats names in omega (arith, same)

-- what is added if the flag has this value
pub flag_is : (faults : Bool → List Diagnostic) (old new : List Diagnostic) (flag b : Bool) → flag ≡ b → new ≡ old ++ faults b → new ≡ old ++ faults flag
flag_is faults old new flag b e h = h ∙ ap (λ f. old ++ faults f) (sym e)

-- of things that have names each has a flag
pub flag_of_each : {X Y : Type 0} (view : X → Y) (name : Y → List ℕ) (xs : List X) (flags : List Bool) (n : ℕ) → flags ≡ repeats (map name (map view xs)) → n < length xs → n < length flags
flag_of_each view name xs flags n e within =
    let views = length-map xs view in
    let same = length-map (map view xs) name in
    flag_within (map name (map view xs)) flags n e (omega (arith, views, same, within))

-- one more of a numbered list of things that have names
pub named_step : {X Y : Type 0} (view : X → Y) (name : Y → List ℕ) (faults : ℕ → Bool → Y → List Diagnostic) (xs : List X) (flags : List Bool) (n : ℕ) (x : X) (old new : List Diagnostic)
    → flags ≡ repeats (map name (map view xs)) → n < length xs → x ≡ get_or xs n x → new ≡ old ++ faults n (get_or flags n false) (view x)
    → new ++ each_numbered faults (n + 1) (drop (n + 1) (map view xs)) (drop (n + 1) (repeats (map name (map view xs)))) ≡ old ++ each_numbered faults n (drop n (map view xs)) (drop n (repeats (map name (map view xs))))
named_step view name faults xs flags n x old new e within is added =
    each_step faults (map view xs) (repeats (map name (map view xs))) n (view x) (get_or flags n false) old new
    (map_at view xs n x (read_at xs n x within is))
    (flag_read (repeats (map name (map view xs))) flags n false e (flag_of_each view name xs flags n e within))
    added

-- the tree of a file
pub tree_at : (files : List SourceFile) (trees : List (Option FileTree)) (n : ℕ) (f : SourceFile) (t : Option FileTree) → files_view trees ≡ trees_of files → slice_get files n ≡ Some f → t ≡ get_or trees n t
    → option_map file_view t ≡ file_of f.bytes
tree_at files trees n f t same ef is =
    let p = at_map (λ (u : Option FileTree). option_map file_view u) trees n (file_of f.bytes) (ap (λ ts. slice_get ts n) same ∙ map_at (λ (g : SourceFile). file_of g.bytes) files n f ef) in
    ap (λ (u : Option FileTree). option_map file_view u) (is ∙ get_or_from_slice_get trees n p.0 t p.1) ∙ p.2

-- there is a tree for each file
pub tree_within : (files : List (String Global × Vec ℕ Global)) (trees : List (Option FileTree)) (n : ℕ) → files_view trees ≡ trees_of (sources_view files) → n < length files → n < length trees
tree_within files trees n same within =
    let views = length-map trees (λ (u : Option FileTree). option_map file_view u) in
    let sources = length-map files source_view in
    let found = length-map (sources_view files) (λ (g : SourceFile). file_of g.bytes) in
    let as_many = ap length same in
    omega (arith, views, sources, found, as_many)

-- one more file may have a main class
pub any_step : (files : List SourceFile) (before : Bool) (n : ℕ) (f : SourceFile) → slice_get files n ≡ Some f → (before || has_main (file_of f.bytes) || any_main (drop (n + 1) files)) ≡ (before || any_main (drop n files))
any_step files before n f ef = or_assoc before (has_main (file_of f.bytes)) (any_main (drop (n + 1) files)) ∙ ap (λ fs. before || any_main fs) (sym (drop_at files n f ef))

pub or_false : (b : Bool) → (b || false) ≡ b
or_false true = refl
or_false false = refl

pub any_end : (files : List SourceFile) (before : Bool) (n : ℕ) → length files ≤ n → (before || any_main (drop n files)) ≡ before
any_end files before n h = ap (λ fs. before || any_main fs) (drop_all n files h) ∙ or_false before

-- the number and the file of a class are those of its reference
number_in : (file number : ℕ) (t : AnyClassTree) → (tree_view file number t).number ≡ number
number_in file number (Main m) = refl
number_in file number (Plain c) = refl

file_in : (file number : ℕ) (t : AnyClassTree) → (tree_view file number t).file ≡ file
file_in file number (Main m) = refl
file_in file number (Plain c) = refl

pub class_number : (c : ClassRef) → (class_ref_view c).number ≡ c.number
class_number c = number_in c.file c.number c.tree

pub class_file : (c : ClassRef) → (class_ref_view c).file ≡ c.file
class_file c = file_in c.file c.number c.tree

-- types in different numbers aren't the same
pub differ : (vs : List Variable) (ts : List Ty) → (length vs ≡ length ts → ⊥) → false ≡ same_types vs ts
differ [] [] no_way = absurd (no_way refl)
differ [] (t ∷ ts) no_way = refl
differ (v ∷ vs) [] no_way = refl
differ (v ∷ vs) (t ∷ ts) no_way = both (same_type v.ty t) (differ vs ts (λ e. no_way (ap suc e)))
  where
    both : (b : Bool) → false ≡ same_types vs ts → false ≡ (b && same_types vs ts)
    both true h = h
    both false h = refl

-- ---- diagnostics of repeated classes

pub none_added : (old : List Diagnostic) (o : Option SourceFile) (n : ℕ) → o ≡ None → old ≡ old ++ repeated_class o n
none_added old o n e = sym (ap (λ p. old ++ repeated_class p n) e ∙ append-nil old)

pub one_added : (old new : List Diagnostic) (name : List ℕ) (n : ℕ) (o : Option SourceFile) (f : SourceFile) → new ≡ old ++ fault (ClassOf name n) E104 ∷ [] → o ≡ Some f → name ≡ f.name → new ≡ old ++ repeated_class o n
one_added old new name n o f e there same = e ∙ (ap (λ m. old ++ fault (ClassOf m n) E104 ∷ []) same ∙ sym (ap (λ p. old ++ repeated_class p n) there))

-- ---- joining the parts

pub four_parts : (a b c d f0 f1 f2 f3 f4 : List Diagnostic) → f0 ≡ [] → f1 ≡ f0 ++ a → f2 ≡ f1 ++ b → f3 ≡ f2 ++ c → f4 ≡ f3 ++ d → f4 ≡ a ++ (b ++ (c ++ d))
four_parts a b c d f0 f1 f2 f3 f4 e0 e1 e2 e3 e4 =
    e4 ∙ (ap (λ x. x ++ d) (e3 ∙ ap (λ x. x ++ c) (e2 ∙ ap (λ x. x ++ b) (e1 ∙ ap (λ x. x ++ a) e0)))
    ∙ (append_assoc (a ++ b) c d ∙ append_assoc a b (c ++ d)))

pub three_parts : (a b c f0 f1 f2 f3 : List Diagnostic) → f0 ≡ [] → f1 ≡ f0 ++ a → f2 ≡ f1 ++ b → f3 ≡ f2 ++ c → f3 ≡ a ++ (b ++ c)
three_parts a b c f0 f1 f2 f3 e0 e1 e2 e3 = e3 ∙ (ap (λ x. x ++ c) (e2 ∙ ap (λ x. x ++ b) (e1 ∙ ap (λ x. x ++ a) e0)) ∙ append_assoc a b c)

pub main_added : (old new : List Diagnostic) (any : Bool) → ((any ≡ false) × (new ≡ old ++ fault Project E102 ∷ [])) ⊎ ((any ≡ true) × (new ≡ old)) → new ≡ old ++ when_fault (not any) Project E102
main_added old new any (inl h) = h.1 ∙ ap (λ b. old ++ when_fault (not b) Project E102) (sym h.0)
main_added old new any (inr h) = h.1 ∙ (sym (append-nil old) ∙ ap (λ b. old ++ when_fault (not b) Project E102) (sym h.0))
