-- The text of a session.
use Rattle.std.specs.Prelude.{ℕ, ◌+◌, List, [], ◌∷◌, ◌++◌, length, Option, Some, None, codes, decimal, flat_map}
use Rattle.hex.specs.Hex.{encode_lower}
use Rattle.item_ids.specs.declared.key.Key.{Key}
use Rattle.item_ids.specs.Keys.{kind_of, class_of, member_of}
use Rattle.item_ids.specs.Words.{kind_word}
use Rattle.fingerprint.specs.Prints.{print_of}
use Rattle.sessions.specs.declared.mark.Mark.{Mark}
use Rattle.sessions.specs.declared.mark.Mark.TheVariants.{Input, Executed, Green}
use Rattle.sessions.specs.Sessions.{RecordValue, SessionValue}
use Rattle.sessions.specs.Terms.{version_of}

abbrev pub mark_word : Mark → List ℕ
mark_word Input = codes "Input"
mark_word Executed = codes "Executed"
mark_word Green = codes "Green"

-- `-` stands if there is no name
abbrev pub name_word : Option (List ℕ) → List ℕ
name_word None = codes "-"
name_word (Some name) = name

-- the kind, the class or file, and the method
abbrev pub key_text : Key → List ℕ
key_text key =
    kind_word (kind_of key) ++ codes " " ++ name_word (class_of key) ++ codes " "
    ++ name_word (member_of key)

-- a space and the name, if there is one
abbrev pub and_name : Option (List ℕ) → List ℕ
and_name None = []
and_name (Some name) = codes " " ++ name

-- the kind, and then the names that the key has, which may be two: `Answer`, `Source M.java`
abbrev pub key_words : Key → List ℕ
key_words key = kind_word (kind_of key) ++ and_name (class_of key) ++ and_name (member_of key)

-- 4, 8, 9
abbrev pub edges_text : List ℕ → List ℕ
edges_text [] = []
edges_text (first ∷ others) = decimal first ++ flat_map (λ e. codes ", " ++ decimal e) others

-- 10 Answer - Executed [4, 8, 9] 5f2d.., for record i
abbrev pub record_line : ℕ → RecordValue → List ℕ
record_line i r =
    decimal i ++ codes " " ++ key_text r.key ++ codes " " ++ mark_word r.mark ++ codes " ["
    ++ edges_text r.edges ++ codes "] " ++ encode_lower (print_of r.value) ++ codes "\n"

-- a line for each record, of which the first has the index i
abbrev pub lines_of_records : ℕ → List RecordValue → List ℕ
lines_of_records i [] = []
lines_of_records i (r ∷ rs) = record_line i r ++ lines_of_records (i + 1) rs

-- session 0 version 1 records 12, and then the records
abbrev pub text_of_session : SessionValue → List ℕ
text_of_session s =
    codes "session " ++ decimal s.number ++ codes " version " ++ decimal (version_of s.terms)
    ++ codes " records " ++ decimal (length s.records) ++ codes "\n" ++ lines_of_records 0 s.records
