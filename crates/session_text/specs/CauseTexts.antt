-- The text of why the queries of a session were executed.
use Rattle.std.specs.Prelude.{◌≡◌, ℕ, ◌==◌, ◌++◌, ◌&&◌, Bool, true, false, not, List, Option, Some, codes, count_by, decimal, flat_map}
use Rattle.std.specs.List.{AllByRecursion}
use Rattle.item_ids.specs.declared.key.Key.{Key}
use Rattle.item_ids.specs.declared.kind.Kind.{Kind}
use Rattle.item_ids.specs.Keys.{kind_of}
use Rattle.item_ids.specs.Inputs.{is_input}
use Rattle.sessions.specs.declared.mark.Mark.{Mark}
use Rattle.sessions.specs.declared.mark.Mark.TheVariants as marks
use Rattle.sessions.specs.Marks.{mark_number}
use Rattle.sessions.specs.Sessions.{RecordValue, SessionValue}
use Rattle.session_text.specs.SessionText.{key_words}
use Rattle.session_text.specs.declared.causes.cause.Cause.{Cause}
use Rattle.session_text.specs.declared.causes.cause.Cause.TheVariants.{New, Changed, Gone, Same, Green, Red, OtherProfile, NothingChanged}
use Rattle.session_text.specs.declared.causes.cause.Why.{Why}
use Rattle.session_text.specs.Causes.{AreWhys, IsRightWhy, IsTrail}

-- what became of the result of a query that was executed again
abbrev pub result_words : Bool → List ℕ
result_words true = codes ", same result"
result_words false = codes ", another result"

abbrev pub cause_words : Cause → Bool → List ℕ
cause_words New same = codes "new"
cause_words Changed same = codes "changed"
cause_words Gone same = codes "gone"
cause_words Same same = codes "same"
cause_words Green same = codes "green"
cause_words (Red e) same = codes "red " ++ key_words e.now ++ result_words same
cause_words OtherProfile same = codes "other profile" ++ result_words same
cause_words NothingChanged same = codes "nothing changed" ++ result_words same

-- Answer: red Source M.java, same result
abbrev pub why_line : Why → List ℕ
why_line why =
    key_words why.key.now ++ codes ": " ++ cause_words why.cause why.is_same_result ++ codes "\n"

-- it is said of an input
abbrev pub is_of_input : Why → Bool
is_of_input why = is_input (kind_of why.key.now)

-- the query was executed again, and gave its old result
abbrev pub is_cut_off : Why → Bool
is_cut_off why = not (is_of_input why) && why.is_same_result

-- how many of these records became done so
abbrev pub many_with : Mark → List RecordValue → ℕ
many_with mark records = count_by (λ r. mark_number r.mark == mark_number mark) records

-- session 1: 1 inputs changed, 7 executed, 2 of them cut off, 30 green
unfoldable pub counts_line : ℕ → ℕ → ℕ → ℕ → ℕ → List ℕ
counts_line number inputs executed cut_off green =
    codes "session " ++ decimal number ++ codes ": " ++ decimal inputs ++ codes " inputs changed, "
    ++ decimal executed ++ codes " executed, " ++ decimal cut_off ++ codes " of them cut off, "
    ++ decimal green ++ codes " green\n"

-- how many inputs are new, changed or gone, how many records were executed, how many of these gave their
-- old result, and how many are green
abbrev pub last_line : SessionValue → List Why → List ℕ
last_line now whys =
    counts_line now.number (count_by is_of_input whys) (many_with marks.Executed now.records)
    (count_by is_cut_off whys) (many_with marks.Green now.records)

-- a line for each key that is explained, and then the counts
abbrev pub IsWhyText : Option SessionValue → SessionValue → List Kind → List ℕ → Type 0
IsWhyText was now crossing text =
    (whys : List Why) × AreWhys was now crossing whys
    × (text ≡ flat_map why_line whys ++ last_line now whys)

-- The line of a key, then that of the key that was red for it, and so on, up to a cause that isn't red.
abbrev pub IsCausesText : Option SessionValue → SessionValue → List Kind → Key → List ℕ → Type 0
IsCausesText was now crossing q text =
    (whys : List Why) × AllByRecursion (IsRightWhy was now crossing) whys × IsTrail (Some q) whys
    × (text ≡ flat_map why_line whys)
