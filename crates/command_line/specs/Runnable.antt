-- What the arguments of a command line that is read always have.
use Rattle.std.specs.Prelude.{◌<◌, ◌≤◌, ℕ, IfSome, IsTrue, List, map, string_bytes, vec_len}
use Rattle.command_line.specs.declared.asked.CheckWords.{CheckWords}
use Rattle.command_line.specs.declared.asked.ScratchWords.{ScratchWords}
use Rattle.command_line.specs.declared.asked.ShowWords.{ShowWords}
use Rattle.command_line.specs.declared.asked.Subcommand.{Subcommand}
use Rattle.command_line.specs.declared.asked.Subcommand.TheVariants.{Scratch, Check, Audit, Show, Why, Explain}
use Rattle.command_line.specs.declared.asked.Words.{Words}
use Rattle.command_line.specs.declared.asked.Words.TheVariants as words

-- the most workers that `check` can have
abbrev pub most_jobs : ℕ
most_jobs = 64

-- the last profile
abbrev pub most_profile : ℕ
most_profile = 2

-- the last form of session files
abbrev pub most_form : ℕ
most_form = 2

-- at least one FILE, and a profile
pub record IsScratchable (w : ScratchWords) : Type 0 where
  pub files : 0 < vec_len w.files
  pub some_profile : 1 ≤ w.profile
  pub most_profile : w.profile ≤ most_profile

-- at least one FILE, 1 to 64 workers, a profile and a form
pub record IsCheckable (w : CheckWords) : Type 0 where
  pub files : 0 < vec_len w.files
  pub some_jobs : 1 ≤ w.jobs
  pub most_jobs : w.jobs ≤ most_jobs
  pub some_profile : 1 ≤ w.profile
  pub most_profile : w.profile ≤ most_profile
  pub some_form : 1 ≤ w.form
  pub most_form : w.form ≤ most_form

-- at least one FILE, and a record is asked for only of the graph
pub record IsShowable (w : ShowWords) : Type 0 where
  pub files : 0 < vec_len w.files
  pub of_graph : IfSome w.of (λ key. IsTrue w.dot)

-- at least one FILE or code, numbers that there are, and a record only of the graph
abbrev pub IsRunnable : Words → Type 0
IsRunnable (words.Scratch w) = IsScratchable w
IsRunnable (words.Check w) = IsCheckable w
IsRunnable (words.Audit w) = 0 < vec_len w.files
IsRunnable (words.Show w) = IsShowable w
IsRunnable (words.Why w) = 0 < vec_len w.files
IsRunnable (words.Explain asked) = 0 < vec_len asked

-- the subcommand
abbrev pub subcommand_of : Words → Subcommand
subcommand_of (words.Scratch w) = Scratch
subcommand_of (words.Check w) = Check
subcommand_of (words.Audit w) = Audit
subcommand_of (words.Show w) = Show
subcommand_of (words.Why w) = Why
subcommand_of (words.Explain asked) = Explain

-- the FILEs; of `explain` the codes stand in their place
abbrev pub files_of_words : Words → List (List ℕ)
files_of_words (words.Scratch w) = map string_bytes w.files.items
files_of_words (words.Check w) = map string_bytes w.files.items
files_of_words (words.Audit w) = map string_bytes w.files.items
files_of_words (words.Show w) = map string_bytes w.files.items
files_of_words (words.Why w) = map string_bytes w.files.items
files_of_words (words.Explain asked) = map string_bytes asked.items
