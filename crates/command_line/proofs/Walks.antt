-- How the arguments after a subcommand are read.
use Rattle.std.proofs.Common.{◌≡◌, ◌∙◌, ◌||◌, ◌&&◌, ◌⊎◌, ◌++◌, inl, inr, Bool, true, false, List, [], ◌∷◌, Option, Some, None, cond, codes, refl, sym, ap, subst, append-nil, append_assoc, nat_lt, map}
use Rattle.std.specs.Prelude.{fold, if◌then◌else◌}
use Rattle.std.specs.List.{list_any}
use Rattle.std.specs.Option.{option_map_or}
use Rattle.std.specs.Str.{bytes_eq}
use Rattle.std.proofs.lemmas.Bool.{and_from}
use Rattle.clap.specs.Faults.{check_fault, defaults_fault, flag_word_fault, level_fault, long_fault, positional_fault, settle_fault, step_fault, stray_fault, turn_fault, use_fault, walk_fault, word_fault}
use Rattle.clap.specs.Kinds.{or_else}
use Rattle.clap.specs.Lexer.{long_of, short_of}
use Rattle.clap.specs.Simple.{Shape}
use Rattle.clap.specs.Walk.{Held, Row, Step, Waiting, Walk, after_flag, after_step, arg_by_id, arg_by_long, finished, idle, is_pending, long_met, long_or_other, next, nothing_held, option, option_word, plain_word, positional, pushed, rows_after, settled, settled_rows, subcommand_met, subcommand_or_other, to_positional, trailing, used, used_by_id, value, walked, word_met}
use Rattle.clap.specs.Words.{Kinds, Rule, Text}
use Rattle.command_line.specs.Given.{GivenValue, are_of, given_by, given_in, given_to, values_of}
use Rattle.command_line.specs.Matches.{has_flag}
use Rattle.command_line.specs.Plain.{dashes}
use Rattle.command_line.specs.Subcommands.{is_flag, is_repeatable}
use Rattle.command_line.proofs.Faults.{IsFault, is_fault, no_faults}
use Rattle.command_line.proofs.Options.{flag_fault, flag_met, help, long_is_fault, quiet, short_read}
use Rattle.command_line.proofs.Rules.{Flag, IsFlagged, IsFound, IsOther, Opt, file, file_by_id, file_by_index, flag_as, is_long, names, rule, rules_with, same_bytes, shape_with, short_flags}
use Rattle.command_line.proofs.ToldRows.{told}
use Rattle.command_line.proofs.Uses.{AreFew, IsPart, Part, defaults_apart, defaults_are, files_few, files_for, files_told, flag_few, flag_kinds, flag_part, flag_set, flag_told as flag_adds, id_of, is_few, use_few, use_kinds, use_told, value_for, with_defaults, with_files, with_flag, with_use}

-- an option of these, which is found by its name
pub record Choice (opts : List Opt) (flag : Option Flag) : Type 0 where
  pub option : Opt
  pub by_id : arg_by_id (rules_with opts flag) option.name ≡ Some (rule option)
  pub among : list_any (bytes_eq option.name) (names opts flag) ≡ true

-- ---- where the walk stands between two arguments

-- nothing, these FILEs, an option without its value, or with it
pub data Pending (opts : List Opt) (flag : Option Flag) : Type 0 where
  nothing : Pending opts flag
  some : Text → List Text → Pending opts flag
  waits : Choice opts flag → Pending opts flag
  has : Choice opts flag → Text → Pending opts flag

-- ---- what is read

-- the rows have what the arguments give, with no value of an option twice unless it may be given again; no other option is given
pub record IsRead (opts : List Opt) (flag : Option Flag) (words : List Text) (rows : List Row) : Type 0 where
  pub values : (b : Part) → IsPart b → is_flag (id_of b) ≡ false → told (id_of b) rows ≡ values_of b (given_in None words)
  pub few : (name : Text) → IsPart (Some name) → is_repeatable name ≡ false → is_flag name ≡ false → is_few (told name rows) ≡ true
  pub set : (g : Flag) → flag ≡ Some g → has_flag g.name rows ≡ list_any (bytes_eq (codes "true")) (values_of (Some g.name) (given_in None words))
  pub known : are_of (names opts flag) (given_in None words) ≡ true

module _ (command : Text) (opts : List Opt) (flag : Option Flag) where
  abbrev pub s : Shape
  s = shape_with command opts flag

  abbrev pub rules : List Rule
  rules = rules_with opts flag

  abbrev pub pending_of : Pending opts flag → Option (Text × List Text)
  pending_of nothing = None
  pending_of (some f files) = Some (codes "FILE", f ∷ files)
  pending_of (waits o) = Some (o.option.name, [])
  pending_of (has o v) = Some (o.option.name, v ∷ [])

  abbrev pub waiting_of : Pending opts flag → Waiting
  waiting_of nothing = idle
  waiting_of (some f files) = positional
  waiting_of (waits o) = option o.option.name
  waiting_of (has o v) = idle

  -- the option that waits
  abbrev mode_of : Pending opts flag → Option Text
  mode_of (waits o) = Some o.option.name
  mode_of _ = None

  -- the values that are pending for a part
  abbrev pend : Part → Pending opts flag → List Text
  pend b (some f files) = files_for b f files
  pend b (has o v) = value_for b o.option.name v
  pend b _ = []

  abbrev pub held : List Row → Pending opts flag → Held
  held rows p = quiet rows (pending_of p)

  abbrev pub state : List Row → Pending opts flag → Bool → Walk
  state rows p is_trailing = record {
    held = held rows p;
    waiting = waiting_of p;
    position = 1;
    is_trailing = is_trailing;
    stopped = None;
  }

  -- ---- what is pending is used

  -- the rows then
  abbrev pub after : List Row → Pending opts flag → List Row
  after rows nothing = rows
  after rows (some f files) = with_files f files rows
  after rows (waits o) = used (rule o.option) [] rows
  after rows (has o v) = with_use o.option v rows

  after_is : (rows : List Row) (p : Pending opts flag) → settled_rows rules (pending_of p) rows ≡ after rows p
  after_is rows nothing = refl
  after_is rows (some f files) = ap (λ a. used_by_id a (f ∷ files) rows) (file_by_id opts flag)
  after_is rows (waits o) = ap (λ a. used_by_id a [] rows) o.by_id
  after_is rows (has o v) = ap (λ a. used_by_id a (v ∷ []) rows) o.by_id

  -- its faults, if they are reported
  abbrev pub settle : List Row → Pending opts flag → Kinds
  settle rows p = settle_fault rules false (held rows p)

  abbrev use_of : Option Rule → List Text → List Row → Kinds
  use_of a vs rows = option_map_or (λ r. use_fault false r vs rows) a []

  waits_kinds : (rows : List Row) (o : Choice opts flag) → settle rows (waits o) ≡ use_fault false (rule o.option) [] rows
  waits_kinds rows o = ap (λ a. use_of a [] rows) o.by_id

  has_kinds : (rows : List Row) (o : Choice opts flag) (v : Text) → settle rows (has o v) ≡ use_kinds o.option v rows
  has_kinds rows o v = ap (λ a. use_of a (v ∷ []) rows) o.by_id

  -- the option that waits is left without its value
  no_value : (rows : List Row) (o : Choice opts flag) → IsFault (settle rows (waits o))
  no_value rows o none = is_fault _ _ (sym (waits_kinds rows o) ∙ none)

  settle_told : (p : Pending opts flag) (rows : List Row) → settle rows p ≡ [] → (b : Part) → IsPart b → told (id_of b) (after rows p) ≡ told (id_of b) rows ++ pend b p
  settle_told nothing rows none b part = sym (append-nil (told (id_of b) rows))
  settle_told (some f files) rows none b part = files_told f files rows b part
  settle_told (waits o) rows none b part = absurd (no_value rows o none)
  settle_told (has o v) rows none b part = use_told o.option v rows (sym (has_kinds rows o v) ∙ none) b

  settle_few : (p : Pending opts flag) (rows : List Row) → settle rows p ≡ [] → AreFew rows → AreFew (after rows p)
  settle_few nothing rows none few = few
  settle_few (some f files) rows none few = files_few f files rows few
  settle_few (waits o) rows none few = absurd (no_value rows o none)
  settle_few (has o v) rows none few = use_few o.option v rows (sym (has_kinds rows o v) ∙ none) few

  -- ---- a FILE

  -- what is pending behind one more FILE, and the rows
  abbrev pub with_file : Pending opts flag → Text → Pending opts flag
  with_file (some f files) word = some f (files ++ word ∷ [])
  with_file _ word = some word []

  abbrev pub rows_before : List Row → Pending opts flag → List Row
  rows_before rows (some f files) = rows
  rows_before rows p = after rows p

  abbrev at_files : Held → Bool → Walk
  at_files h t = record { held = h; waiting = positional; position = 1; is_trailing = t; stopped = None }

  or_false : (t : Bool) → (t || false) ≡ t
  or_false true = refl
  or_false false = refl

  abbrev joins : Bool → Held → Held
  joins t h = if t && true then h else settled rules h

  -- the pending option is used before
  used_first : (rows : List Row) (o : Opt) (vs : List Text) → (rows_next : List Row) → settled_rows rules (Some (o.name, vs)) rows ≡ rows_next → (word : Text)
      → pushed (codes "FILE") word (joins (bytes_eq o.name (codes "FILE")) (quiet rows (Some (o.name, vs)))) ≡ held rows_next (some word [])
  used_first rows o vs rows_next is word =
      ap (λ t. pushed (codes "FILE") word (joins t (quiet rows (Some (o.name, vs))))) o.apart
      ∙ ap (λ rs. held rs (some word [])) is

  file_held : (rows : List Row) (p : Pending opts flag) (word : Text) → pushed (codes "FILE") word (joins (is_pending file (pending_of p)) (held rows p)) ≡ held (rows_before rows p) (with_file p word)
  file_held rows nothing word = refl
  file_held rows (some f files) word = refl
  file_held rows (waits o) word = used_first rows o.option [] (after rows (waits o)) (after_is rows (waits o)) word
  file_held rows (has o v) word = used_first rows o.option (v ∷ []) (after rows (has o v)) (after_is rows (has o v)) word

  file_waits : (p : Pending opts flag) (word : Text) → waiting_of (with_file p word) ≡ positional
  file_waits nothing word = refl
  file_waits (some f files) word = refl
  file_waits (waits o) word = refl
  file_waits (has o v) word = refl

  abbrev waiting_at : Held → Waiting → Bool → Walk
  waiting_at h w t = record { held = h; waiting = w; position = 1; is_trailing = t; stopped = None }

  pub file_taken : (rows : List Row) (p : Pending opts flag) (t : Bool) (word : Text) → after_step rules word (state rows p t) (held rows p) value
      ≡ state (rows_before rows p) (with_file p word) t
  file_taken rows p t word =
      ap (λ a. to_positional rules a word (state rows p t) (held rows p)) (file_by_index opts flag)
      ∙ (ap (λ u. waiting_at (pushed (codes "FILE") word (joins (is_pending file (pending_of p)) (held rows p))) positional u) (or_false t)
      ∙ (ap (λ h. waiting_at h positional t) (file_held rows p word)
      ∙ ap (λ w. waiting_at (held (rows_before rows p) (with_file p word)) w t) (sym (file_waits p word))))

  -- ---- the faults of a FILE

  abbrev pub file_kinds : List Row → Pending opts flag → Kinds
  file_kinds rows p = step_fault s 1 (held rows p) value

  abbrev pub unless : Bool → Kinds → Kinds
  unless t kinds = if t && true then [] else kinds

  pub file_kinds_are : (rows : List Row) (p : Pending opts flag) → file_kinds rows p ≡ unless (is_pending file (pending_of p)) (settle rows p)
  file_kinds_are rows p =
      ap (λ a. option_map_or (λ r. positional_fault rules false r (held rows p)) a (stray_fault s)) (file_by_index opts flag)

  -- what was pending passes, if it isn't FILEs
  option_passes : (rows : List Row) (p : Pending opts flag) → is_pending file (pending_of p) ≡ false → file_kinds rows p ≡ [] → settle rows p ≡ []
  option_passes rows p apart none = sym (file_kinds_are rows p ∙ ap (λ t. unless t (settle rows p)) apart) ∙ none

  no_file : (rows : List Row) (o : Choice opts flag) → IsFault (file_kinds rows (waits o))
  no_file rows o none = no_value rows o (option_passes rows (waits o) o.option.apart none)

  abbrev file_for : Part → Text → List Text
  file_for None word = word ∷ []
  file_for (Some name) word = []

  first_file : (b : Part) (word : Text) → files_for b word [] ≡ file_for b word
  first_file None word = refl
  first_file (Some name) word = refl

  file_next : (p : Pending opts flag) (rows : List Row) (word : Text) → settle rows p ≡ [] → (b : Part) → IsPart b
      → told (id_of b) (after rows p) ++ files_for b word [] ≡ (told (id_of b) rows ++ pend b p) ++ file_for b word
  file_next p rows word none b part =
      ap (λ x. x ++ files_for b word []) (settle_told p rows none b part) ∙ ap (λ x. (told (id_of b) rows ++ pend b p) ++ x) (first_file b word)

  file_told : (p : Pending opts flag) (rows : List Row) (word : Text) → file_kinds rows p ≡ [] → (b : Part) → IsPart b
      → told (id_of b) (rows_before rows p) ++ pend b (with_file p word) ≡ (told (id_of b) rows ++ pend b p) ++ file_for b word
  file_told (some f files) rows word none None part = sym (append_assoc (told (codes "FILE") rows) (f ∷ files) (word ∷ []))
  file_told (some f files) rows word none (Some name) part = sym (append-nil (told name rows ++ []))
  file_told nothing rows word none b part = file_next nothing rows word refl b part
  file_told (waits o) rows word none b part = absurd (no_file rows o none)
  file_told (has o v) rows word none b part = file_next (has o v) rows word (option_passes rows (has o v) o.option.apart none) b part

  file_few : (p : Pending opts flag) (rows : List Row) → file_kinds rows p ≡ [] → AreFew rows → AreFew (rows_before rows p)
  file_few (some f files) rows none few = few
  file_few nothing rows none few = few
  file_few (waits o) rows none few = absurd (no_file rows o none)
  file_few (has o v) rows none few = settle_few (has o v) rows (option_passes rows (has o v) o.option.apart none) few

  -- ---- all arguments

  abbrev end : List Row → Pending opts flag → Bool → List Text → Held
  end rows p t words = (fold (walked rules []) (state rows p t) words).held

  -- the rows at the end
  abbrev last : List Row → Pending opts flag → Bool → List Text → List Row
  last rows p t words = (settled rules (end rows p t words)).rows

  -- each part has at the end what it has now, what is pending for it and what these values give it; no other option is given
  record IsReadTo (rows : List Row) (p : Pending opts flag) (t : Bool) (words : List Text) (given : List GivenValue) : Type 0 where
    values : (b : Part) → IsPart b → told (id_of b) (last rows p t words) ≡ (told (id_of b) rows ++ pend b p) ++ values_of b given
    few : AreFew rows → AreFew (last rows p t words)
    known : are_of (names opts flag) given ≡ true

  -- the rest of the arguments has no fault
  abbrev Passes : List Row → Pending opts flag → Bool → List Text → Type 0
  Passes rows p t words = (walk_fault s [] (state rows p t) words ≡ []) × (settle_fault rules false (end rows p t words) ≡ [])

  read_nothing : (rows : List Row) (p : Pending opts flag) (t : Bool) → Passes rows p t [] → IsReadTo rows p t [] []
  read_nothing rows p t pass = record {
    values = λ b part. ap (told (id_of b)) (after_is rows p) ∙ (settle_told p rows pass.1 b part ∙ sym (append-nil (told (id_of b) rows ++ pend b p)));
    few = λ few. subst AreFew (sym (after_is rows p)) (settle_few p rows pass.1 few);
    known = refl;
  }

  -- one FILE more
  values_more : (b : Part) (word : Text) (given : List GivenValue) → values_of b ((None, word) ∷ given) ≡ file_for b word ++ values_of b given
  values_more None word given = refl
  values_more (Some name) word given = refl

  file_read : (rows : List Row) (p : Pending opts flag) (t : Bool) (word : Text) (rest : List Text) (given : List GivenValue) → walked rules [] (state rows p t) word ≡ state (rows_before rows p) (with_file p word) t
      → file_kinds rows p ≡ [] → IsReadTo (rows_before rows p) (with_file p word) t rest given → IsReadTo rows p t (word ∷ rest) ((None, word) ∷ given)
  file_read rows p t word rest given is none later = record {
    values = λ b part. ap (λ (w : Walk). told (id_of b) (settled rules (fold (walked rules []) w rest).held).rows) is
        ∙ (later.values b part
        ∙ (ap (λ x. x ++ values_of b given) (file_told p rows word none b part)
        ∙ (append_assoc (told (id_of b) rows ++ pend b p) (file_for b word) (values_of b given)
        ∙ ap (λ x. (told (id_of b) rows ++ pend b p) ++ x) (sym (values_more b word given)))));
    few = λ few. subst (λ (w : Walk). AreFew (settled rules (fold (walked rules []) w rest).held).rows) (sym is) (later.few (file_few p rows none few));
    known = later.known;
  }

  pub trailing_word : (rows : List Row) (p : Pending opts flag) (word : Text) → walked rules [] (state rows p true) word ≡ state (rows_before rows p) (with_file p word) true
  unfolding walked
  trailing_word rows p word = file_taken rows p true word

  -- what is left passes behind the next argument
  next_passes : (rows rows_next : List Row) (p q : Pending opts flag) (t u : Bool) (word : Text) (rest : List Text) → walked rules [] (state rows p t) word ≡ state rows_next q u
      → Passes rows p t (word ∷ rest) → Passes rows_next q u rest
  unfolding walk_fault
  next_passes rows rows_next p q t u word rest is pass =
      let parts = no_faults (turn_fault s [] (state rows p t) word) (walk_fault s [] (walked rules [] (state rows p t) word) rest) pass.0 in (
        sym (ap (λ (w : Walk). walk_fault s [] w rest) is) ∙ parts.1,
        sym (ap (λ (w : Walk). settle_fault rules false (fold (walked rules []) w rest).held) is) ∙ pass.1,
      )

  turn_passes : (rows : List Row) (p : Pending opts flag) (t : Bool) (word : Text) (rest : List Text) → Passes rows p t (word ∷ rest) → turn_fault s [] (state rows p t) word ≡ []
  unfolding walk_fault
  turn_passes rows p t word rest pass =
      (no_faults (turn_fault s [] (state rows p t) word) (walk_fault s [] (walked rules [] (state rows p t) word) rest) pass.0).0

  abbrev files_given : List Text → List GivenValue
  files_given words = map (λ file. (None, file)) words

  trailing_read : (words : List Text) (rows : List Row) (p : Pending opts flag) → Passes rows p true words → IsReadTo rows p true words (files_given words)
  trailing_read [] rows p pass = read_nothing rows p true pass
  trailing_read (word ∷ rest) rows p pass =
      let is = trailing_word rows p word in
      file_read rows p true word rest (files_given rest) is (turn_passes rows p true word rest pass)
      (trailing_read rest (rows_before rows p) (with_file p word) (next_passes rows (rows_before rows p) p (with_file p word) true true word rest is pass))

  -- ---- an argument before the first `--`

  pub no_command : (p : Pending opts flag) (word : Text) → subcommand_met [] (waiting_of p) word ≡ None
  no_command nothing word = refl
  no_command (some f files) word = refl
  no_command (waits o) word = refl
  no_command (has o v) word = refl

  -- if no option waits
  idle_where_settled : (p : Pending opts flag) (rows : List Row) → settle rows p ≡ [] → mode_of p ≡ None
  idle_where_settled nothing rows none = refl
  idle_where_settled (some f files) rows none = refl
  idle_where_settled (waits o) rows none = absurd (no_value rows o none)
  idle_where_settled (has o v) rows none = refl

  idle_where_trailing : (p : Pending opts flag) (rows : List Row) (words : List Text) → Passes rows p true words → mode_of p ≡ None
  idle_where_trailing nothing rows words pass = refl
  idle_where_trailing (some f files) rows words pass = refl
  idle_where_trailing (has o v) rows words pass = refl
  idle_where_trailing (waits o) rows [] pass = absurd (no_value rows o pass.1)
  idle_where_trailing (waits o) rows (word ∷ rest) pass = absurd (no_file rows o (turn_passes rows (waits o) true word rest pass))

  -- what is read of the other arguments
  abbrev IsReadBehind : List Text → Type 0
  IsReadBehind rest = (rows : List Row) (p : Pending opts flag) → Passes rows p false rest → IsReadTo rows p false rest (given_in (mode_of p) rest)

  module _ (rows : List Row) (p : Pending opts flag) (word : Text) (rest : List Text) where
    -- ---- `--`
    abbrev pub other_word : Option Text → Held × Step
    other_word m = subcommand_or_other rules m (waiting_of p) 1 word (held rows p)

    abbrev pub dashes_if : Bool → Held × Step
    dashes_if t = if t then (held rows p, trailing 1) else long_or_other rules (waiting_of p) word (long_of word) (held rows p)

    abbrev pub stepped : Held × Step → Walk
    stepped m = after_step rules word (state rows p false) m.0 m.1

    pub dashes_walked : bytes_eq word dashes ≡ true → walked rules [] (state rows p false) word ≡ state rows p true
    unfolding walked
    dashes_walked is = ap (λ m. stepped (other_word m)) (no_command p word) ∙ ap (λ t. stepped (dashes_if t)) is

    abbrev given_if : Bool → List GivenValue
    given_if t = if t then files_given rest else given_by word (long_of word) (given_in None rest) (λ name. given_in (Some name) rest)

    dashes_given : mode_of p ≡ None → bytes_eq word dashes ≡ true → given_in (mode_of p) (word ∷ rest) ≡ files_given rest
    dashes_given still is = ap (λ m. given_in m (word ∷ rest)) still ∙ ap given_if is

    dashes_read : bytes_eq word dashes ≡ true → Passes rows p false (word ∷ rest) → IsReadTo rows p false (word ∷ rest) (given_in (mode_of p) (word ∷ rest))
    dashes_read is pass =
        let behind = next_passes rows rows p p false true word rest (dashes_walked is) pass in
        let still = idle_where_trailing p rows rest behind in
        let later = trailing_read rest rows p behind in
        subst (IsReadTo rows p false (word ∷ rest)) (sym (dashes_given still is)) (record {
          values = λ b part. ap (λ (w : Walk). told (id_of b) (settled rules (fold (walked rules []) w rest).held).rows) (dashes_walked is) ∙ later.values b part;
          few = λ few. subst (λ (w : Walk). AreFew (settled rules (fold (walked rules []) w rest).held).rows) (sym (dashes_walked is)) (later.few few);
          known = later.known;
        })

    abbrev flagged : Option Rule → Option Text → Held × Step
    flagged a v = after_flag rules (waiting_of p) word (long_met rules a v (held rows p)).0 (long_met rules a v (held rows p)).1

    module _ (no_dashes : bytes_eq word dashes ≡ false) where
      other_given : mode_of p ≡ None → given_in (mode_of p) (word ∷ rest) ≡ given_by word (long_of word) (given_in None rest) (λ name. given_in (Some name) rest)
      other_given still = ap (λ m. given_in m (word ∷ rest)) still ∙ ap given_if no_dashes

      -- ---- an argument that is an option

      module _ (name : Text) (v : Option Text) (a : Option Rule) (long : long_of word ≡ Some (name, v)) (named : arg_by_long rules name ≡ a) where
        long_walked : walked rules [] (state rows p false) word ≡ stepped (flagged a v)
        unfolding walked
        long_walked =
            ap stepped (flag_met s [] (waiting_of p) 1 word rows (pending_of p) (no_command p word) no_dashes
            ∙ (ap (λ l. long_or_other rules (waiting_of p) word l (held rows p)) long ∙ ap (λ x. flagged x v) named))

        long_passes : turn_fault s [] (state rows p false) word ≡ [] → long_fault rules false a v (held rows p) ≡ []
        long_passes none =
            let met = word_met rules [] false (waiting_of p) 1 word (held rows p) in
            sym (flag_fault s [] (waiting_of p) 1 word rows (pending_of p) (no_command p word) no_dashes
            ∙ (ap (λ l. flag_word_fault rules false l word (held rows p)) long ∙ ap (λ x. long_fault rules false x v (held rows p)) named))
            ∙ (no_faults (word_fault s [] false (waiting_of p) word (held rows p)) (step_fault s 1 met.0 met.1) none).0

    -- ---- an option

    -- with its value
    value_walked : (o : Opt) (v : Text) → stepped (flagged (Some (rule o)) (Some v)) ≡ state (with_use o v (after rows p)) nothing false
    value_walked o v = ap (λ rs. state (with_use o v rs) nothing false) (after_is rows p)

    value_passes : (o : Opt) (v : Text) → long_fault rules false (Some (rule o)) (Some v) (held rows p) ≡ [] → (settle rows p ≡ []) × (use_kinds o v (after rows p) ≡ [])
    value_passes o v none =
        let parts = no_faults (settle rows p) (use_kinds o v (settled_rows rules (pending_of p) rows)) none in
        (parts.0, sym (ap (use_kinds o v) (after_is rows p)) ∙ parts.1)

    -- a flag
    flag_walked : (g : Flag) → stepped (flagged (Some (flag_as g)) None) ≡ state (with_flag g (after rows p)) nothing false
    flag_walked g = ap (λ rs. state (with_flag g rs) nothing false) (after_is rows p)

    flag_passes : (g : Flag) → long_fault rules false (Some (flag_as g)) None (held rows p) ≡ [] → (settle rows p ≡ []) × (flag_kinds g (after rows p) ≡ [])
    flag_passes g none =
        let parts = no_faults (settle rows p) (flag_kinds g (settled_rows rules (pending_of p) rows)) none in
        (parts.0, sym (ap (flag_kinds g) (after_is rows p)) ∙ parts.1)

    -- without it
    name_walked : (o : Choice opts flag) → stepped (flagged (Some (rule o.option)) None) ≡ state (after rows p) (waits o) false
    name_walked o = ap (λ rs. state rs (waits o) false) (after_is rows p)

    name_passes : (o : Opt) → long_fault rules false (Some (rule o)) None (held rows p) ≡ [] → settle rows p ≡ []
    name_passes o none = none

  -- the values of one option more
  values_of_option : (b : Part) (name v : Text) (given : List GivenValue) → values_of b ((Some name, v) ∷ given) ≡ value_for b name v ++ values_of b given
  values_of_option None name v given = refl
  values_of_option (Some other) name v given = named (bytes_eq other name)
    where
      named : (t : Bool) → (if t then v ∷ values_of (Some other) given else values_of (Some other) given) ≡ (if t then v ∷ [] else []) ++ values_of (Some other) given
      named true = refl
      named false = refl

  module _ (rows : List Row) (p : Pending opts flag) (word : Text) (rest : List Text) where
    value_told : (o : Opt) (v : Text) → settle rows p ≡ [] → use_kinds o v (after rows p) ≡ [] → (b : Part) → IsPart b → (given : List GivenValue)
        → (told (id_of b) (with_use o v (after rows p)) ++ []) ++ values_of b given ≡ (told (id_of b) rows ++ pend b p) ++ values_of b ((Some o.name, v) ∷ given)
    value_told o v settles uses b part given =
        let values = values_of b given in
        let before = told (id_of b) rows ++ pend b p in
        ap (λ x. x ++ values) (append-nil (told (id_of b) (with_use o v (after rows p)))
        ∙ (use_told o v (after rows p) uses b ∙ ap (λ x. x ++ value_for b o.name v) (settle_told p rows settles b part)))
        ∙ (append_assoc before (value_for b o.name v) values ∙ ap (λ x. before ++ x) (sym (values_of_option b o.name v given)))

    flag_told : (g : Flag) → settle rows p ≡ [] → flag_kinds g (after rows p) ≡ [] → (b : Part) → IsPart b → (given : List GivenValue)
        → (told (id_of b) (with_flag g (after rows p)) ++ []) ++ values_of b given
        ≡ (told (id_of b) rows ++ pend b p) ++ values_of b ((Some g.name, codes "true") ∷ given)
    flag_told g settles uses b part given =
        let values = values_of b given in
        let before = told (id_of b) rows ++ pend b p in
        let more = value_for b g.name (codes "true") in
        ap (λ x. x ++ values) (append-nil (told (id_of b) (with_flag g (after rows p)))
        ∙ (flag_adds g (after rows p) uses b ∙ ap (λ x. x ++ more) (settle_told p rows settles b part)))
        ∙ (append_assoc before more values ∙ ap (λ x. before ++ x) (sym (values_of_option b g.name (codes "true") given)))

    name_told : settle rows p ≡ [] → (b : Part) → IsPart b → (given : List GivenValue) → (told (id_of b) (after rows p) ++ []) ++ values_of b given
        ≡ (told (id_of b) rows ++ pend b p) ++ values_of b given
    name_told settles b part given =
        ap (λ x. x ++ values_of b given) (append-nil (told (id_of b) (after rows p)) ∙ settle_told p rows settles b part)

    -- what is read behind this argument is what is read from it
    read_from : (rows_next : List Row) (q : Pending opts flag) (u : Bool) (given : List GivenValue) → walked rules [] (state rows p false) word ≡ state rows_next q u
        → IsReadTo rows_next q u rest given → (all : List GivenValue)
        → ((b : Part) → IsPart b → (told (id_of b) rows_next ++ pend b q) ++ values_of b given ≡ (told (id_of b) rows ++ pend b p) ++ values_of b all)
        → (AreFew rows → AreFew rows_next) → are_of (names opts flag) all ≡ true → IsReadTo rows p false (word ∷ rest) all
    read_from rows_next q u given is later all told_is few_is known = record {
      values = λ b part. ap (λ (w : Walk). told (id_of b) (settled rules (fold (walked rules []) w rest).held).rows) is ∙ (later.values b part ∙ told_is b part);
      few = λ few. subst (λ (w : Walk). AreFew (settled rules (fold (walked rules []) w rest).held).rows) (sym is) (later.few (few_is few));
      known = known;
    }

    module _ (no_dashes : bytes_eq word dashes ≡ false) (behind : IsReadBehind rest) (pass : Passes rows p false (word ∷ rest)) where
      turn_is : turn_fault s [] (state rows p false) word ≡ []
      turn_is = turn_passes rows p false word rest pass

      abbrev unless_flag : Text → Bool → List GivenValue
      unless_flag name t = if t then (Some name, codes "true") ∷ given_in None rest else given_in (Some name) rest

      option_given : (name : Text) (v : Option Text) → long_of word ≡ Some (name, v) → mode_of p ≡ None
          → given_in (mode_of p) (word ∷ rest) ≡ given_to name v (given_in None rest) (λ n. given_in (Some n) rest)
      option_given name v long still = other_given rows p word rest no_dashes still
          ∙ ap (λ l. given_by word l (given_in None rest) (λ n. given_in (Some n) rest)) long

      value_read : (o : Choice opts flag) (v : Text) → long_of word ≡ Some (o.option.name, Some v) → arg_by_long rules o.option.name ≡ Some (rule o.option)
          → IsReadTo rows p false (word ∷ rest) (given_in (mode_of p) (word ∷ rest))
      value_read o v long found =
          let name = o.option.name in
          let is = long_walked rows p word rest no_dashes name (Some v) (Some (rule o.option)) long found ∙ value_walked rows p word rest o.option v in
          let passes = value_passes rows p word rest o.option v (long_passes rows p word rest no_dashes name (Some v) (Some (rule o.option)) long found turn_is) in
          let rows_next = with_use o.option v (after rows p) in
          let later = behind rows_next nothing (next_passes rows rows_next p nothing false false word rest is pass) in
          subst (IsReadTo rows p false (word ∷ rest)) (sym (option_given name (Some v) long (idle_where_settled p rows passes.0)))
          (read_from rows_next nothing false (given_in None rest) is later ((Some name, v) ∷ given_in None rest)
          (λ b part. value_told o.option v passes.0 passes.1 b part (given_in None rest))
          (λ few. use_few o.option v (after rows p) passes.1 (settle_few p rows passes.0 few))
          (and_from _ _ o.among later.known))

      name_read : (o : Choice opts flag) → long_of word ≡ Some (o.option.name, None) → arg_by_long rules o.option.name ≡ Some (rule o.option)
          → IsReadTo rows p false (word ∷ rest) (given_in (mode_of p) (word ∷ rest))
      name_read o long found =
          let name = o.option.name in
          let is = long_walked rows p word rest no_dashes name None (Some (rule o.option)) long found ∙ name_walked rows p word rest o in
          let settles = name_passes rows p word rest o.option (long_passes rows p word rest no_dashes name None (Some (rule o.option)) long found turn_is) in
          let later = behind (after rows p) (waits o) (next_passes rows (after rows p) p (waits o) false false word rest is pass) in
          subst (IsReadTo rows p false (word ∷ rest)) (sym (option_given name None long (idle_where_settled p rows settles) ∙ ap (unless_flag name) o.option.valued))
          (read_from (after rows p) (waits o) false (given_in (Some name) rest) is later (given_in (Some name) rest)
          (λ b part. name_told settles b part (given_in (Some name) rest))
          (settle_few p rows settles) later.known)

      option_read : (o : Choice opts flag) (v : Option Text) → long_of word ≡ Some (o.option.name, v) → arg_by_long rules o.option.name ≡ Some (rule o.option)
          → IsReadTo rows p false (word ∷ rest) (given_in (mode_of p) (word ∷ rest))
      option_read o (Some v) long found = value_read o v long found
      option_read o None long found = name_read o long found

      abbrev choice : (name : Text) → IsFound opts flag name → Choice opts flag
      choice name found = record {
        option = found.option;
        by_id = subst (λ n. arg_by_id rules n ≡ Some (rule found.option)) (sym found.named) found.by_id;
        among = subst (λ n. list_any (bytes_eq n) (names opts flag) ≡ true) (sym found.named) found.among;
      }

      -- a flag
      flag_read : (g : Flag) (v : Option Text) → long_of word ≡ Some (g.name, v) → arg_by_long rules g.name ≡ Some (flag_as g)
          → list_any (bytes_eq g.name) (names opts flag) ≡ true → IsReadTo rows p false (word ∷ rest) (given_in (mode_of p) (word ∷ rest))
      flag_read g (Some v) long found among =
          absurd (is_fault _ _ (long_passes rows p word rest no_dashes g.name (Some v) (Some (flag_as g)) long found turn_is))
      flag_read g None long found among =
          let name = g.name in
          let is = long_walked rows p word rest no_dashes name None (Some (flag_as g)) long found ∙ flag_walked rows p word rest g in
          let passes = flag_passes rows p word rest g (long_passes rows p word rest no_dashes name None (Some (flag_as g)) long found turn_is) in
          let rows_next = with_flag g (after rows p) in
          let later = behind rows_next nothing (next_passes rows rows_next p nothing false false word rest is pass) in
          let given = (Some name, codes "true") ∷ given_in None rest in
          subst (IsReadTo rows p false (word ∷ rest)) (sym (option_given name None long (idle_where_settled p rows passes.0) ∙ ap (unless_flag name) g.flagged))
          (read_from rows_next nothing false (given_in None rest) is later given
          (λ b part. flag_told g passes.0 passes.1 b part (given_in None rest))
          (λ few. flag_few g (after rows p) passes.1 (settle_few p rows passes.0 few))
          (and_from _ _ among later.known))

      other_long_read : (name : Text) (v : Option Text) → long_of word ≡ Some (name, v) → IsFlagged opts flag name ⊎ IsOther opts flag name
          → IsReadTo rows p false (word ∷ rest) (given_in (mode_of p) (word ∷ rest))
      other_long_read name v long (inl found) = flag_read found.option v (long ∙ ap (λ n. Some (n, v)) (sym found.named))
          (ap (arg_by_long rules) found.named ∙ found.by_long)
          (subst (λ n. list_any (bytes_eq n) (names opts flag) ≡ true) (sym found.named) found.among)
      other_long_read name v long (inr other) = absurd (long_is_fault rules false other.0 false v (held rows p)
          (long_passes rows p word rest no_dashes name v (cond other.0 (Some help) None) long other.1 turn_is))

      long_read : (name : Text) (v : Option Text) → long_of word ≡ Some (name, v) → IsReadTo rows p false (word ∷ rest) (given_in (mode_of p) (word ∷ rest))
      long_read name v long = elim (is_long opts flag name) [
        | inl found ↦ option_read (choice name found) v (long ∙ ap (λ n. Some (n, v)) (sym found.named))
            (subst (λ n. arg_by_long rules n ≡ Some (rule found.option)) (sym found.named) found.by_long)
        | inr others ↦ other_long_read name v long others
      ]

  -- ---- a plain argument

  abbrev pub plain_of : List Row → Pending opts flag → Text → Held × Step
  plain_of rows (waits o) word = (held rows (has o word), next idle)
  plain_of rows p word = (held rows p, value)

  abbrev waiting_word : List Row → Choice opts flag → Text → Option Rule → Held × Step
  waiting_word rows o word a = ((option_word a o.option.name word (held rows (waits o))).0, next (option_word a o.option.name word (held rows (waits o))).1)

  abbrev waits_more : Choice opts flag → Bool → Waiting
  waits_more o t = if nat_lt (if t then 1 else 0) 1 then option o.option.name else idle

  pub plain_is : (rows : List Row) (p : Pending opts flag) (word : Text) → plain_word rules (waiting_of p) word (held rows p) ≡ plain_of rows p word
  plain_is rows nothing word = refl
  plain_is rows (some f files) word = refl
  plain_is rows (waits o) word =
      ap (waiting_word rows o word) o.by_id
      ∙ ap (λ t. (held rows (has o word), next (waits_more o t))) (same_bytes o.option.name o.option.name refl)
  plain_is rows (has o v) word = refl

  file_mode : (p : Pending opts flag) (word : Text) → mode_of (with_file p word) ≡ None
  file_mode nothing word = refl
  file_mode (some f files) word = refl
  file_mode (waits o) word = refl
  file_mode (has o v) word = refl

  module _ (rows : List Row) (word : Text) (rest : List Text) (behind : IsReadBehind rest) where
    -- the value that an option waits for
    waits_read : (o : Choice opts flag) → walked rules [] (state rows (waits o) false) word ≡ state rows (has o word) false → Passes rows (waits o) false (word ∷ rest)
        → IsReadTo rows (waits o) false (word ∷ rest) (given_in (Some o.option.name) (word ∷ rest))
    waits_read o is pass =
        let given = given_in None rest in
        let later = behind rows (has o word) (next_passes rows rows (waits o) (has o word) false false word rest is pass) in
        read_from rows (waits o) word rest rows (has o word) false given is later ((Some o.option.name, word) ∷ given)
        (λ b part. append_assoc (told (id_of b) rows) (value_for b o.option.name word) (values_of b given)
        ∙ (ap (λ x. told (id_of b) rows ++ x) (sym (values_of_option b o.option.name word given))
        ∙ ap (λ x. x ++ values_of b ((Some o.option.name, word) ∷ given)) (sym (append-nil (told (id_of b) rows)))))
        (λ few. few) (and_from _ _ o.among later.known)

    -- a FILE
    plain_file : (p : Pending opts flag) → walked rules [] (state rows p false) word ≡ state (rows_before rows p) (with_file p word) false → file_kinds rows p ≡ []
        → mode_of p ≡ None → bytes_eq word dashes ≡ false → long_of word ≡ None → Passes rows p false (word ∷ rest)
        → IsReadTo rows p false (word ∷ rest) (given_in (mode_of p) (word ∷ rest))
    plain_file p is none still no_dashes long pass =
        let given_is = other_given rows p word rest no_dashes still ∙ ap (λ l. given_by word l (given_in None rest) (λ n. given_in (Some n) rest)) long in
        let later = behind (rows_before rows p) (with_file p word) (next_passes rows (rows_before rows p) p (with_file p word) false false word rest is pass) in
        subst (IsReadTo rows p false (word ∷ rest)) (sym given_is)
        (file_read rows p false word rest (given_in None rest) is none
        (subst (λ m. IsReadTo (rows_before rows p) (with_file p word) false rest (given_in m rest)) (file_mode p word) later))

    plain_walked : (p : Pending opts flag) → word_met rules [] false (waiting_of p) 1 word (held rows p) ≡ plain_word rules (waiting_of p) word (held rows p)
        → walked rules [] (state rows p false) word ≡ stepped rows p word rest (plain_of rows p word)
    unfolding walked
    plain_walked p met = ap (stepped rows p word rest) (met ∙ plain_is rows p word)

    plain_kinds : (p : Pending opts flag) → word_met rules [] false (waiting_of p) 1 word (held rows p) ≡ plain_word rules (waiting_of p) word (held rows p)
        → turn_fault s [] (state rows p false) word ≡ [] → step_fault s 1 (plain_of rows p word).0 (plain_of rows p word).1 ≡ []
    plain_kinds p met none =
        let m = word_met rules [] false (waiting_of p) 1 word (held rows p) in
        sym (ap (λ (x : Held × Step). step_fault s 1 x.0 x.1) (met ∙ plain_is rows p word))
        ∙ (no_faults (word_fault s [] false (waiting_of p) word (held rows p)) (step_fault s 1 m.0 m.1) none).1

    plain_read : (p : Pending opts flag) → word_met rules [] false (waiting_of p) 1 word (held rows p) ≡ plain_word rules (waiting_of p) word (held rows p)
        → bytes_eq word dashes ≡ false → long_of word ≡ None → Passes rows p false (word ∷ rest)
        → IsReadTo rows p false (word ∷ rest) (given_in (mode_of p) (word ∷ rest))
    plain_read (waits o) met no_dashes long pass = waits_read o (plain_walked (waits o) met) pass
    plain_read nothing met no_dashes long pass = plain_file nothing (plain_walked nothing met ∙ file_taken rows nothing false word)
        (plain_kinds nothing met (turn_passes rows nothing false word rest pass)) refl no_dashes long pass
    plain_read (some f files) met no_dashes long pass = plain_file (some f files) (plain_walked (some f files) met ∙ file_taken rows (some f files) false word)
        (plain_kinds (some f files) met (turn_passes rows (some f files) false word rest pass)) refl no_dashes long pass
    plain_read (has o v) met no_dashes long pass = plain_file (has o v) (plain_walked (has o v) met ∙ file_taken rows (has o v) false word)
        (plain_kinds (has o v) met (turn_passes rows (has o v) false word rest pass)) refl no_dashes long pass

    -- ---- any argument

    other_read : (p : Pending opts flag) (l : Option (Text × Option Text)) → long_of word ≡ l → bytes_eq word dashes ≡ false → Passes rows p false (word ∷ rest)
        → IsReadTo rows p false (word ∷ rest) (given_in (mode_of p) (word ∷ rest))
    other_read p (Some l) long no_dashes pass = long_read rows p word rest no_dashes behind pass l.0 l.1 long
    other_read p None long no_dashes pass =
        let m = word_met rules [] false (waiting_of p) 1 word (held rows p) in
        let none = (no_faults (word_fault s [] false (waiting_of p) word (held rows p)) (step_fault s 1 m.0 m.1) (turn_passes rows p false word rest pass)).0 in
        elim (short_read s [] (waiting_of p) 1 word rows (pending_of p) (no_command p word) no_dashes (short_flags opts flag) (short_of word) refl long) [
          | inl fault ↦ absurd (fault none)
          | inr met ↦ plain_read p met no_dashes long pass
        ]

    word_read : (p : Pending opts flag) (t : Bool) → bytes_eq word dashes ≡ t → Passes rows p false (word ∷ rest)
        → IsReadTo rows p false (word ∷ rest) (given_in (mode_of p) (word ∷ rest))
    word_read p true is pass = dashes_read rows p word rest is pass
    word_read p false is pass = other_read p (long_of word) refl is pass

  walk_read : (words : List Text) → IsReadBehind words
  walk_read [] rows p pass = read_nothing rows p false pass
  walk_read (word ∷ rest) rows p pass = word_read rows word rest (walk_read rest) p (bytes_eq word dashes) refl pass

  -- ---- the level

  abbrev pub level : List Text → Kinds
  level words = level_fault s [] nothing_held words false []

  level_passes : (words : List Text) → level words ≡ [] → Passes [] nothing false words
  level_passes words none =
      let h = end [] nothing false words in
      let later = or_else (defaults_fault (settled rules h).rows rules) (check_fault s (finished rules h) false) in
      let parts = no_faults (walk_fault s [] (state [] nothing false) words) (or_else (settle_fault rules false h) later) none in
      (parts.0, (no_faults (settle_fault rules false h) later parts.1).0)

  -- arguments that are read give what is read of them
  pub read : (words : List Text) → level words ≡ [] → IsRead opts flag words (rows_after rules [] words)
  read words none =
      let all = walk_read words [] nothing (level_passes words none) in
      let rows = last [] nothing false words in
      let few = all.few (λ name part once. refl) in
      subst (IsRead opts flag words) (sym (defaults_are opts flag rows)) (record {
        values = λ b part valued. defaults_apart flag (id_of b) rows valued ∙ all.values b part;
        few = λ name part once valued. ap is_few (defaults_apart flag name rows valued) ∙ few name part once;
        set = λ g is. ap (λ f. has_flag g.name (with_defaults f rows)) is
            ∙ (flag_set g rows few ∙ ap (list_any (bytes_eq (codes "true"))) (all.values (Some g.name) (flag_part g)));
        known = all.known;
      })
