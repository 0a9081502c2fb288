-- Where the classes of a file begin and end.
use Rattle.std.proofs.Common.{◌≡◌, ℕ, zero, suc, ◌+◌, ◌-◌, ◌<◌, cond, List, [], ◌∷◌, map, length, find, slice_get, Option, Some, None, unwrap_or, refl, ap, ◌∙◌, subst, inl, inr, arith, codes}
use Rattle.std.specs.Str.{bytes_eq}
use Rattle.std.proofs.lemmas.Bool.{cases_Bool}
use Rattle.mj_lexer.specs.declared.token.Token.{Token}
use Rattle.mj_lexer.specs.declared.token.Terminal.TheVariants as terminals
use Rattle.mj_tree.specs.declared.place.Place.TheVariants as place
use Rattle.mj_tree.specs.Trees.{Name, Main, Class, File}
use Rattle.mj_expressions.specs.Steps.{◌>>=◌}
use Rattle.mj_parser.specs.Rows.{InRow, row_size}
use Rattle.mj_parser.specs.Declarations.{class_size, IsClass, IsMain, main_size, IsMainPart, main_part_size, Derives}
use Rattle.mj_parser.specs.Locations.{all_of, existing, class_start, class_end, method_name, token_of}
use Rattle.mj_expressions.proofs.Binds.{some_is}
use Rattle.place_laws.specs.Parts.{Part, row_parts, class_parts, class_number}
use Rattle.place_laws.specs.Laws.{MainTokens, FileTokens}
use Rattle.place_laws.proofs.Runs.{upto, run, all_run, run_join, Lacks, lacks_run, row_run}
use Rattle.place_laws.proofs.Classes.{class_lacks, class_run}
use Rattle.place_laws.proofs.Inside.{main_within, main_marks}
use Rattle.place_laws.proofs.MainClass.{main_static, main_word, main_lacks, main_run, main_publics}
use Rattle.place_laws.proofs.Found.{get_map, get_map_none, Reaches, class_found, method_found, no_method_found, start_found, has_name, class_tokens}

module _ (ts : List Token) where
  starts_run : (i : ℕ) (cs : List Class) → InRow (IsClass ts) class_size i cs → run ts terminals.Class i (row_size class_size cs) ≡ map (λ c. c.at) (row_parts class_size i cs)
  starts_run = row_run ts terminals.Class (IsClass ts) class_size (λ at c. at) (class_run ts)

  first_start : (i : ℕ) (cs : List Class) → i + row_size class_size cs ≡ length ts → unwrap_or (slice_get (map (λ c. c.at) (row_parts class_size i cs)) 0) (length ts) ≡ i
  first_start i [] e = omega arith
  first_start i (c ∷ cs) e = refl

  -- a class ends where the next one begins
  ends : (i j : ℕ) (cs : List Class) → i < j → Lacks ts terminals.Class (i + 1) j → InRow (IsClass ts) class_size j cs → j + row_size class_size cs ≡ length ts → class_end ts i ≡ j
  ends i j cs some lacks h whole =
      let inner = lacks_run ts terminals.Class (i + 1) (j - (i + 1)) (upto lacks (omega arith)) in
      let all = run_join ts terminals.Class (i + 1) (j - (i + 1)) j (row_size class_size cs) (j - (i + 1) + row_size class_size cs) [] _ (omega arith) refl inner (starts_run j cs h) in
      let places = all_run ts terminals.Class (i + 1) (length ts) (j - (i + 1) + row_size class_size cs) (omega arith) ∙ all in
      ap (λ places. unwrap_or (slice_get places 0) (length ts)) places ∙ first_start j cs whole

  record IsPlaced (c : Part Class) : Type 0 where
    pub is : IsClass ts c.at c.item
    pub ends_at : class_end ts c.at ≡ c.at + class_size c.item

  class_there : (i : ℕ) (cs : List Class) (n : ℕ) (c : Part Class) → InRow (IsClass ts) class_size i cs → i + row_size class_size cs ≡ length ts → slice_get (row_parts class_size i cs) n ≡ Some c → IsPlaced c
  class_there i [] n c h whole e = absurd cc
  class_there i (x ∷ cs) zero c h whole e =
      let end = ends i (i + class_size x) cs (omega arith) (class_lacks ts i x h.0) h.1 (omega arith) in
      subst IsPlaced (some_is _ _ e) (record { is = h.0; ends_at = end })
  class_there i (x ∷ cs) (suc n) c h whole e = class_there (i + class_size x) cs n c h.1 (omega arith) e

  starts_with_main : (m : Main) (cs : List Class) → IsMain ts m → InRow (IsClass ts) class_size (main_size m) cs → main_size m + row_size class_size cs ≡ length ts → all_of ts terminals.Class 0 (length ts) ≡ 0 ∷ map (λ c. c.at) (row_parts class_size (main_size m) cs)
  starts_with_main m cs is h whole =
      let width = main_size m + row_size class_size cs in
      let all = run_join ts terminals.Class 0 (main_size m) (main_size m) (row_size class_size cs) width (0 ∷ []) _ (omega arith) refl (main_run ts m is) (starts_run (main_size m) cs h) in
      all_run ts terminals.Class 0 (length ts) width (omega arith) ∙ all

  -- where the classes behind the main class begin
  start_behind : (main : Option Main) (cs : List Class) → IsMainPart ts main → InRow (IsClass ts) class_size (main_part_size main) cs → main_part_size main + row_size class_size cs ≡ length ts → (n : ℕ) → class_start ts (class_number main n) ≡ slice_get (map (λ c. c.at) (row_parts class_size (main_part_size main) cs)) n
  start_behind None cs is h whole n = ap (λ places. slice_get places n) (all_run ts terminals.Class 0 (length ts) (row_size class_size cs) (omega arith) ∙ starts_run 0 cs h)
  start_behind (Some m) cs is h whole n = ap (λ places. slice_get places (suc n)) (starts_with_main m cs is h whole)

  main_reaches : (m : Main) (cs : List Class) → IsMain ts m → InRow (IsClass ts) class_size (main_size m) cs → main_size m + row_size class_size cs ≡ length ts → Reaches ts 0 0 (main_size m)
  main_reaches m cs is h whole =
      let end = ends 0 (main_size m) cs (omega arith) (main_lacks ts m is) h whole in
      record {
        starts = ap (λ places. slice_get places 0) (starts_with_main m cs is h whole);
        ends = end ∙ omega arith;
      }

  -- ---- the main class

  module _ (m : Main) (is : IsMain ts m) (r : Reaches ts 0 0 (main_size m)) where
    main_name_is : method_name ts 3 ≡ 6
    main_name_is = rw (main_static ts m is) refl

    main_inside : (name : Name) (n : ℕ) → token_of ts 0 (place.Inside name n) ≡ cond (bytes_eq (codes "main") name) (existing ts (3 + n)) None
    main_inside name n =
        let start = start_found ts 0 0 (main_size m) r name ∙ ap (find (has_name ts name)) (main_publics ts m is) in
        ap (λ o. o >>= λ start. existing ts (start + n)) start ∙ of_name
      where
        of_name : (find (has_name ts name) (3 ∷ []) >>= λ start. existing ts (start + n)) ≡ cond (bytes_eq (codes "main") name) (existing ts (3 + n)) None
        of_name = elim (cases_Bool (bytes_eq (codes "main") name)) [
          | inl e ↦ rw (main_name_is, main_word ts m is, e) refl
          | inr e ↦ rw (main_name_is, main_word ts m is, e) refl
        ]

    main_tokens : MainTokens ts m
    main_tokens = record {
      class = (class_found ts 0 0 (main_size m) r m.name is.name, is.name);
      method = (method_found ts 0 0 (main_size m) r 0 3 6 (codes "main") (ap (λ places. slice_get places 0) (main_publics ts m is)) main_name_is (main_word ts m is), main_word ts m is);
      no_other_method = λ n. no_method_found ts 0 0 (main_size m) r (suc n) (ap (λ places. slice_get places (suc n)) (main_publics ts m is));
      inside = main_inside;
      within = main_within ts m is;
      marks = main_marks ts m is;
    }

  main_of : (main : Option Main) (cs : List Class) (m : Main) → IsMainPart ts main → InRow (IsClass ts) class_size (main_part_size main) cs → main_part_size main + row_size class_size cs ≡ length ts → main ≡ Some m → MainTokens ts m
  main_of None cs m is h whole e = absurd cc
  main_of (Some other) cs m is h whole e = subst (MainTokens ts) (some_is _ _ e) (main_tokens other is (main_reaches other cs is h whole))

pub places : (ts : List Token) (f : File) → Derives ts f → FileTokens ts f
places ts f d =
    let whole = d.whole in
    let start = start_behind ts f.main f.classes d.main d.classes whole in
    record {
      main = λ m e. main_of ts f.main f.classes m d.main d.classes whole e;
      classes = λ n c e.
          let there = class_there ts (main_part_size f.main) f.classes n c d.classes whole e in
          let begins = start n ∙ get_map (λ (c : Part Class). c.at) (class_parts f) n c e in
          class_tokens ts (class_number f.main n) c.at c.item there.is (record { starts = begins; ends = there.ends_at });
      no_other_class = λ n e.
          let none = start n ∙ get_map_none (λ (c : Part Class). c.at) (class_parts f) n e in
          ap (λ o. o >>= λ start. existing ts (start + 1)) none;
      numbered = λ class number name. refl;
    }
