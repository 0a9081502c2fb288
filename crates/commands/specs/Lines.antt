-- The lines about a session, and about a file that it doesn't follow.
use Rattle.std.specs.Prelude.{◌≡◌, ◌≢◌, ◌==◌, ◌++◌, ℕ, Bool, List, [], Option, Some, None, codes, count_by, decimal}
use Rattle.sessions.specs.declared.mark.Mark.TheVariants.{Executed, Green}
use Rattle.sessions.specs.Sessions.{SessionValue, many_of}
use Rattle.session_file.specs.declared.fault.FileFault.TheVariants as file
use Rattle.session_text.specs.FaultWords.{fault_words}
use Rattle.session_cache.specs.Starts.{path_of}
use Rattle.session_cache.specs.declared.start.Note.{Note}
use Rattle.session_cache.specs.declared.start.NotFollowed.{NotFollowed}
use Rattle.session_cache.specs.declared.start.NotFollowed.TheVariants.{Refused, Number, Full}

-- 3 executed, 7 green
abbrev pub counts_of : SessionValue → List ℕ
counts_of s =
    decimal (many_of Executed s.records) ++ codes " executed, "
    ++ decimal (many_of Green s.records) ++ codes " green"

-- session 1: 3 executed, 7 green
abbrev pub summary_with : ℕ → List ℕ → List ℕ
summary_with number counts = codes "session " ++ decimal number ++ codes ": " ++ counts ++ codes "\n"

-- the number of the session, and how many of its records were run and how many taken over
abbrev pub summary_line : SessionValue → List ℕ
summary_line s = summary_with s.number (counts_of s)

-- why no session follows a file
abbrev pub IsNotFollowedText : NotFollowed → List ℕ → Type 0
IsNotFollowedText (Refused fault) text =
    (fault ≢ file.OutOfMemory) × (text ≡ codes "refused: " ++ fault_words fault)
IsNotFollowedText Number text = text ≡ codes "refused: number"
IsNotFollowedText Full text = text ≡ codes "full"

-- note: DIR/c0000/s0003.mjrg full
pub record IsNoteText (dir : List ℕ) (note : Note) (text : List ℕ) : Type 0 where
  pub why : List ℕ
  pub told : IsNotFollowedText note.why why
  pub line : text ≡ codes "note: " ++ path_of dir note.place ++ codes " " ++ why ++ codes "\n"

-- what precedes the lines on a check: the line on a file that isn't followed
abbrev pub AreNotesOn : List ℕ → Option Note → List ℕ → Type 0
AreNotesOn dir None text = text ≡ []
AreNotesOn dir (Some note) text = IsNoteText dir note text
