-- Which files are a project, and why others are none.
use Rattle.std.proofs.Common.{◌≡◌, ℕ, ◌+◌, ◌<◌, ◌≤◌, Bool, true, false, not, cond, nat_lt, List, [], ◌∷◌, map, length, get_or, take, slice_get, Option, Some, None, All, position, refl, sym, ap, ◌∙◌, arith, true≢false, ltb-false, string_bytes, String, Vec}
use Rattle.std.specs.declared.alloc.Global.{Global}
use Rattle.std.specs.List.{position_or_len}
use Rattle.std.proofs.lemmas.Bool.Decides.{nat_tests}
use Rattle.std.proofs.lemmas.Option.{none-some, slice_get-get_or, slice_get_within, slice_get_read, slice_get_past, get_or_from_slice_get}
use Rattle.std.proofs.lemmas.List.Quantifiers.{position-Some}
use Rattle.std.proofs.lemmas.List.{length-map}
use Rattle.std.proofs.lemmas.List.Sums.{fails_before_first}
use Rattle.named_files.specs.declared.project.ProjectFault.{ProjectFault}
use Rattle.named_files.specs.declared.project.ProjectFault.TheVariants.{NoFiles, TooManyFiles, BadFileName, RepeatedFile, OutOfMemory}
use Rattle.named_files.specs.Repeats.{repeats}
use Rattle.named_files.specs.Projects.{SourceFile, source_view, sources_view, names_of, IsFileName, is_file_name, HasProjectSize, IsRepeated, IsProject, IsFirst, Refuses}
use Rattle.named_files.proofs.Listed.{map_at}
use Rattle.named_files.proofs.RepeatLemmas.{Contains-is_in, is_in-Contains, flag_at, length-repeats}

past : (a b : ℕ) → cond (nat_lt a b) (Some a) None ≡ None → b ≤ a
past a b e = test (nat_lt a b) refl e
  where
    test : (t : Bool) → nat_lt a b ≡ t → cond t (Some a) None ≡ None → b ≤ a
    test true h f = absurd (none-some a (sym f))
    test false h f = ltb-false a b h

-- ---- names

good : (name : List ℕ) → not (is_file_name name) ≡ false → IsFileName name
good name h = grind (arith, nat_tests)

bad : (name : List ℕ) → not (is_file_name name) ≡ true → IsFileName name → ⊥
bad name h is = grind (arith, nat_tests)

abbrev is_bad : List ℕ → Bool
is_bad name = not (is_file_name name)

pub all_good : (names : List (List ℕ)) → position is_bad names ≡ None → All IsFileName names
all_good names e = λ k d h.
    let end : length names ≤ position_or_len is_bad names = past (position_or_len is_bad names) (length names) e in
    good (get_or names k d) (fails_before_first is_bad names k d (omega arith))

pub first_bad : (names : List (List ℕ)) (i : ℕ) → position is_bad names ≡ Some i → IsFirst (λ k name. IsFileName name → ⊥) names i
first_bad names i e =
    let w = position-Some is_bad names i [] e in
    record {
      name = get_or names i [];
      here = slice_get-get_or names i [] w.0;
      holds = bad (get_or names i []) w.1;
      none_before = λ k earlier below ek ill. ill (good earlier (ap is_bad (sym (get_or_from_slice_get names k earlier [] ek)) ∙ w.2 k below));
    }

-- ---- repeated names

pub all_distinct : (names : List (List ℕ)) → position (λ (b : Bool). b) (repeats names) ≡ None → (k : ℕ) (name : List ℕ) → slice_get names k ≡ Some name → IsRepeated names k name → ⊥
all_distinct names e k name ek h =
    let f = flag_at names k name ek in
    let end : length (repeats names) ≤ position_or_len (λ (b : Bool). b) (repeats names) = past (position_or_len (λ (b : Bool). b) (repeats names)) (length (repeats names)) e in
    let within : k < length (repeats names) = slice_get_within (repeats names) k f.0 f.1 in
    let unset : get_or (repeats names) k true ≡ false = fails_before_first (λ (b : Bool). b) (repeats names) k true (omega arith) in
    true≢false (sym (is_in-Contains (take k names) name h) ∙ (sym f.2 ∙ (sym (get_or_from_slice_get (repeats names) k f.0 true f.1) ∙ unset)))

pub first_repeated : (names : List (List ℕ)) (i : ℕ) → position (λ (b : Bool). b) (repeats names) ≡ Some i → IsFirst (IsRepeated names) names i
first_repeated names i e =
    let w = position-Some (λ (b : Bool). b) (repeats names) i true e in
    let within : i < length names = rw (← length-repeats names) w.0 in
    let here = slice_get-get_or names i [] within in
    let f = flag_at names i (get_or names i []) here in
    record {
      name = get_or names i [];
      here = here;
      holds = Contains-is_in (take i names) (get_or names i []) (sym f.2 ∙ (sym (get_or_from_slice_get (repeats names) i f.0 true f.1) ∙ w.1));
      none_before = λ k earlier below ek h. earlier_one k earlier below ek h w.2;
    }
  where
    earlier_one : (k : ℕ) (earlier : List ℕ) → k < i → slice_get names k ≡ Some earlier → IsRepeated names k earlier → ((j : ℕ) → j < i → get_or (repeats names) j true ≡ false) → ⊥
    earlier_one k earlier below ek h unset =
        let f = flag_at names k earlier ek in
        true≢false (sym (is_in-Contains (take k names) earlier h) ∙ (sym f.2 ∙ (sym (get_or_from_slice_get (repeats names) k f.0 true f.1) ∙ unset k below)))

-- ---- refusals

first_is_one : (Holds : ℕ → List ℕ → Type 0) (names : List (List ℕ)) (i j : ℕ) → IsFirst Holds names i → IsFirst Holds names j → i ≡ j
first_is_one Holds names i j a b =
    let one : i < j → ⊥ = λ h. b.none_before i a.name h a.here a.holds in
    let two : j < i → ⊥ = λ h. a.none_before j b.name h b.here b.holds in
    omega (arith, one, two)

name_good : (names : List (List ℕ)) (i : ℕ) (name : List ℕ) → All IsFileName names → slice_get names i ≡ Some name → IsFileName name
name_good names i name all e = rw (← get_or_from_slice_get names i name [] e) (all i [] (slice_get_within names i name e))

pub project_refuses : (files : List SourceFile) (fault : ProjectFault) → IsProject files → Refuses files fault → ⊥
project_refuses files NoFiles is h = let none : length files ≡ 0 = ap length h in let some : 0 < length files = is.size.0 in omega arith
project_refuses files TooManyFiles is h = let few : length files ≤ 4096 = is.size.1 in omega arith
project_refuses files (BadFileName i) is h = h.1.holds (name_good (names_of files) i h.1.name is.names h.1.here)
project_refuses files (RepeatedFile i) is h = is.distinct i h.2.name h.2.here h.2.holds
project_refuses files OutOfMemory is h = h

empty_size : (files : List SourceFile) → files ≡ [] → HasProjectSize files → ⊥
empty_size files e size = let none : length files ≡ 0 = ap length e in let some : 0 < length files = size.0 in omega arith

large_size : (files : List SourceFile) → 4096 < length files → HasProjectSize files → ⊥
large_size files h size = let few : length files ≤ 4096 = size.1 in omega arith

empty_large : (files : List SourceFile) → files ≡ [] → 4096 < length files → ⊥
empty_large files e h = let none : length files ≡ 0 = ap length e in omega arith

pub one_refusal : (files : List SourceFile) (a b : ProjectFault) → Refuses files a → Refuses files b → a ≡ b
one_refusal files OutOfMemory b h k = absurd h
one_refusal files NoFiles OutOfMemory h k = absurd k
one_refusal files NoFiles NoFiles h k = refl
one_refusal files NoFiles TooManyFiles h k = absurd (empty_large files h k)
one_refusal files NoFiles (BadFileName i) h k = absurd (empty_size files h k.0)
one_refusal files NoFiles (RepeatedFile i) h k = absurd (empty_size files h k.0)
one_refusal files TooManyFiles OutOfMemory h k = absurd k
one_refusal files TooManyFiles NoFiles h k = absurd (empty_large files k h)
one_refusal files TooManyFiles TooManyFiles h k = refl
one_refusal files TooManyFiles (BadFileName i) h k = absurd (large_size files h k.0)
one_refusal files TooManyFiles (RepeatedFile i) h k = absurd (large_size files h k.0)
one_refusal files (BadFileName i) OutOfMemory h k = absurd k
one_refusal files (BadFileName i) NoFiles h k = absurd (empty_size files k h.0)
one_refusal files (BadFileName i) TooManyFiles h k = absurd (large_size files k h.0)
one_refusal files (BadFileName i) (BadFileName j) h k = ap BadFileName (first_is_one (λ n name. IsFileName name → ⊥) (names_of files) i j h.1 k.1)
one_refusal files (BadFileName i) (RepeatedFile j) h k = absurd (h.1.holds (name_good (names_of files) i h.1.name k.1 h.1.here))
one_refusal files (RepeatedFile i) OutOfMemory h k = absurd k
one_refusal files (RepeatedFile i) NoFiles h k = absurd (empty_size files k h.0)
one_refusal files (RepeatedFile i) TooManyFiles h k = absurd (large_size files k h.0)
one_refusal files (RepeatedFile i) (BadFileName j) h k = absurd (k.1.holds (name_good (names_of files) j k.1.name h.1 k.1.here))
one_refusal files (RepeatedFile i) (RepeatedFile j) h k = ap RepeatedFile (first_is_one (IsRepeated (names_of files)) (names_of files) i j h.2 k.2)

-- ---- files as the code has them

position_or_len-map : {X Y : Type 0} (f : X → Y) (p : Y → Bool) (xs : List X) → position_or_len p (map f xs) ≡ position_or_len (λ (x : X). p (f x)) xs
position_or_len-map f p [] = refl
position_or_len-map f p (x ∷ xs) = ap (λ n. cond (not (p (f x))) (1 + n) 0) (position_or_len-map f p xs)

position-map : {X Y : Type 0} (f : X → Y) (p : Y → Bool) (xs : List X) → position p (map f xs) ≡ position (λ (x : X). p (f x)) xs
position-map f p xs = rw (position_or_len-map f p xs, length-map xs f)

abbrev Files : Type 0
Files = List (String Global × Vec ℕ Global)

bad_position : (files : Files) → position is_bad (names_of (sources_view files)) ≡ position (λ (f : String Global × Vec ℕ Global). is_bad (string_bytes f.0)) files
bad_position files = position-map (λ (s : SourceFile). s.name) is_bad (sources_view files) ∙ position-map source_view (λ (s : SourceFile). is_bad s.name) files

pub is_size : (files : Files) → 0 < length files → length files ≤ 4096 → HasProjectSize (sources_view files)
is_size files some few = let same : length (sources_view files) ≡ length files = length-map files source_view in (omega arith, omega arith)

pub names_good : (files : Files) → position (λ (f : String Global × Vec ℕ Global). is_bad (string_bytes f.0)) files ≡ None → All IsFileName (names_of (sources_view files))
names_good files e = all_good (names_of (sources_view files)) (bad_position files ∙ e)

pub bad_refusal : (files : Files) (n : ℕ) → HasProjectSize (sources_view files) → position (λ (f : String Global × Vec ℕ Global). is_bad (string_bytes f.0)) files ≡ Some n → Refuses (sources_view files) (BadFileName n)
bad_refusal files n size e = (size, first_bad (names_of (sources_view files)) n (bad_position files ∙ e))

pub repeated_refusal : (files : Files) (n : ℕ) → HasProjectSize (sources_view files) → All IsFileName (names_of (sources_view files)) → position (λ (b : Bool). b) (repeats (names_of (sources_view files))) ≡ Some n
    → Refuses (sources_view files) (RepeatedFile n)
repeated_refusal files n size names e = (size, names, first_repeated (names_of (sources_view files)) n e)

pub is_project : (files : Files) → HasProjectSize (sources_view files) → All IsFileName (names_of (sources_view files)) → position (λ (b : Bool). b) (repeats (names_of (sources_view files))) ≡ None → IsProject (sources_view files)
is_project files size names e = record { size = size; names = names; distinct = all_distinct (names_of (sources_view files)) e }

pub none_by : (o : Option ℕ) → ((n : ℕ) → o ≡ Some n → ⊥) → o ≡ None
none_by None never = refl
none_by (Some n) never = absurd (never n refl)

-- the file at a place
pub file_at : (files : Files) (n : ℕ) (f : String Global × Vec ℕ Global) → n < length files → f ≡ get_or files n f → slice_get (sources_view files) n ≡ Some (source_view f)
file_at files n f within is = map_at source_view files n f (slice_get_read files (length files) n f refl within is)

pub past_end : (files : Files) (n : ℕ) → length files ≤ n → slice_get (sources_view files) n ≡ None
past_end files n h = slice_get_past (sources_view files) n (rw (length-map files source_view) h)

pub good_at : (files : Files) (n : ℕ) (f : String Global × Vec ℕ Global) → All IsFileName (names_of (sources_view files)) → n < length files → f ≡ get_or files n f → IsFileName (string_bytes f.0)
good_at files n f names within is = name_good (names_of (sources_view files)) n (string_bytes f.0) names (map_at (λ (s : SourceFile). s.name) (sources_view files) n (source_view f) (file_at files n f within is))
