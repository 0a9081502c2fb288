-- What a call reports to its caller.
use Rattle.std.specs.Prelude.{ℕ, Bool, true, false, List, [], string_bytes}
use Rattle.commands.specs.declared.auditing.AuditTexts.{AuditTexts}
use Rattle.commands.specs.declared.texts.AnswerTexts.{AnswerTexts}
use Rattle.linkable.specs.declared.told.Ending.{Ending}
use Rattle.linkable.specs.declared.told.Ending.TheVariants as ending
use Rattle.linkable.specs.declared.told.Told.{Told}
use Rattle.linkable.specs.declared.told.ToldSession.{ToldSession}

-- The texts for the two buffers, and the status that the call ends with.
pub record Telling : Type 0 where
  pub answer : List ℕ
  pub notes : List ℕ
  pub status : ℕ

abbrev pub ending_status : Ending → ℕ
ending_status ending.Clean = 0
ending_status ending.Diagnostics = 1
ending_status ending.Refused = 2
ending_status ending.ChainRefused = 3

-- an answer without diagnostics is clean
abbrev pub answer_status : Bool → ℕ
answer_status true = 0
answer_status false = 1

abbrev pub told_of : Told → Telling
told_of told = record {
  answer = string_bytes told.answer;
  notes = string_bytes told.notes;
  status = ending_status told.ending;
}

-- one text alone
abbrev pub text_alone : List ℕ → Telling
text_alone text = record { answer = text; notes = []; status = 0 }

-- why there is no answer
abbrev pub refusal : List ℕ → Telling
refusal notes = record { answer = []; notes = notes; status = 2 }

-- why a chain is refused
abbrev pub chain_refusal : List ℕ → Telling
chain_refusal notes = record { answer = []; notes = notes; status = 3 }

-- the texts of an answer
abbrev pub answer_telling : AnswerTexts → Telling
answer_telling texts = record {
  answer = string_bytes texts.answer;
  notes = string_bytes texts.notes;
  status = answer_status texts.clean;
}

-- the texts of an accepted chain
abbrev pub chain_telling : AuditTexts → Telling
chain_telling texts = record {
  answer = string_bytes texts.answer;
  notes = string_bytes texts.notes;
  status = 0;
}

-- ---- with the file of a session

-- The file, and the texts.
pub record SessionTelling : Type 0 where
  pub session : List ℕ
  pub texts : Telling

abbrev pub session_told_of : ToldSession → SessionTelling
session_told_of told =
    record { session = told.file.bytes.items; texts = told_of told.texts }

-- the texts alone
abbrev pub no_session : Telling → SessionTelling
no_session texts = record { session = []; texts = texts }
