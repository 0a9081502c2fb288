-- The graph of a session, as Graphviz reads it.
use Rattle.std.specs.Prelude.{◌≡◌, ℕ, ◌+◌, ◌==◌, Bool, List, [], ◌∷◌, ◌++◌, Option, codes, decimal, flat_map, encode_utf8_all, if◌then◌else◌}
use Rattle.std.specs.Str.{chars}
use Rattle.item_ids.specs.declared.key.Key.{Key}
use Rattle.sessions.specs.Sessions.{RecordValue, SessionValue}
use Rattle.session_text.specs.declared.drawing.shade.Shade.{Shade}
use Rattle.session_text.specs.SessionText.{key_words}
use Rattle.session_text.specs.Shades.{shade_of, class_word, fill_word}
use Rattle.session_text.specs.Within.{AreDrawn}

-- a character of a label: a quote, a backslash and an ampersand mean something else there
abbrev pub escaped_char : ℕ → List ℕ
escaped_char c =
    if c == 0x22 then codes "\\\""
    else (if c == 0x5c then codes "\\\\" else (if c == 0x26 then codes "&amp;" else c ∷ []))

abbrev pub escaped : List ℕ → List ℕ
escaped text = encode_utf8_all (flat_map escaped_char (chars text))

-- the words of a key
abbrev pub label_of : Key → List ℕ
label_of key = escaped (key_words key)

-- `  n5 [label="Answer", class="executed", fillcolor="#fbe3a6"];` for record 5
abbrev pub node_line : Shade → ℕ → RecordValue → List ℕ
node_line shade i r =
    codes "  n" ++ decimal i ++ codes " [label=\"" ++ label_of r.key ++ codes "\", class=\""
    ++ class_word shade ++ codes "\", fillcolor=\"" ++ fill_word shade ++ codes "\"];\n"

-- `  n5 -> n1;`, from the record that has read to the one that was read
abbrev pub edge_line : ℕ → ℕ → List ℕ
edge_line i e = codes "  n" ++ decimal i ++ codes " -> n" ++ decimal e ++ codes ";\n"

-- the node of a record, and behind it its edges
abbrev pub record_lines : Shade → ℕ → RecordValue → List ℕ
record_lines shade i r = node_line shade i r ++ flat_map (edge_line i) r.edges

-- those of the records that are drawn, of which the first has the index i
abbrev pub drawn_lines : Option SessionValue → ℕ → List Bool → List RecordValue → List ℕ
drawn_lines past i [] rs = []
drawn_lines past i (drawn ∷ ds) [] = []
drawn_lines past i (drawn ∷ ds) (r ∷ rs) =
    (if drawn then record_lines (shade_of past r) i r else []) ++ drawn_lines past (i + 1) ds rs

abbrev pub head : List ℕ
head = codes "digraph session {\n  node [shape=box, style=filled];\n"

-- the text of the graph of a session over the one before, of all of it or of what lies within one record
pub record IsDotText (past : Option SessionValue) (s : SessionValue) (of : Option ℕ) (text : List ℕ)
    : Type 0 where
  pub drawn : List Bool
  pub exact : AreDrawn s.records of drawn
  pub lines : text ≡ head ++ drawn_lines past 0 drawn s.records ++ codes "}\n"
