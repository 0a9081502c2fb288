-- Sessions and their files, as short texts give them.
use Rattle.std.specs.Prelude.{◌≡◌, ℕ, List, Some, replicate}
use Rattle.std.specs.List.{AllZip}
use Rattle.answer_fixtures.specs.Telling.{IsKeyOf, IsSpelledValue}
use Rattle.sessions.specs.declared.mark.Mark.{Mark}
use Rattle.sessions.specs.declared.mark.Mark.TheVariants.{Input, Executed, Green}
use Rattle.sessions.specs.declared.terms.Terms.{Terms}
use Rattle.sessions.specs.Sessions.{RecordValue, SessionValue, IsSession, IsTakenFrom}
use Rattle.sessions.specs.Spelling.{file_of, digest_of}
use Rattle.session_fixtures.specs.declared.records.Kept.{Kept}

-- the record of the key that is given, with its mark, its edges, and the result that the digits
-- spell
pub record IsRecordOf (kept : Kept) (r : RecordValue) : Type 0 where
  pub key : IsKeyOf kept.key r.key
  pub mark : r.mark ≡ kept.mark
  pub edges : r.edges ≡ kept.edges.now
  pub value : IsSpelledValue kept.key.0 kept.digits.now r.value

-- the records are those that are given, in their order
abbrev pub AreRecordsOf : List Kept → List RecordValue → Type 0
AreRecordsOf kept records = AllZip IsRecordOf kept records

-- the session of the number, the link and the records that are given
pub record IsToldSession (number : ℕ) (link : List ℕ) (kept : List Kept) (s : SessionValue) : Type 0 where
  pub session : IsSession s
  pub number_told : s.number ≡ number
  pub link_told : s.link ≡ link
  pub records_told : AreRecordsOf kept s.records

-- the first session of a chain, with the records that are given
abbrev pub IsFirstOf : List Kept → SessionValue → Type 0
IsFirstOf kept s = IsToldSession 0 (replicate 32 0) kept s

-- how a record becomes done again: no input is green
abbrev pub mark_again : Mark → Mark
mark_again Input = Input
mark_again Executed = Green
mark_again Green = Green

-- the same record, which is green if it is no input
pub record IsTakenOverRecord (before after : Kept) : Type 0 where
  pub key : after.key ≡ before.key
  pub edges : after.edges ≡ before.edges
  pub digits : after.digits ≡ before.digits
  pub mark : after.mark ≡ mark_again before.mark

-- the session of these terms behind the first one of the records, with the same records, which are
-- green if they are no inputs
pub record IsSecondOf (terms : Terms) (kept : List Kept) (s : SessionValue) : Type 0 where
  pub first : SessionValue
  pub first_told : IsFirstOf kept first
  pub again : List Kept
  pub taken_over : AllZip IsTakenOverRecord kept again
  pub told : IsToldSession 1 (digest_of first) again s
  pub terms_told : s.terms ≡ terms

-- the bytes are the file of this session, which is taken from that one
pub record IsFileOver (past : SessionValue) (bytes : List ℕ) (s : SessionValue) : Type 0 where
  pub session : IsSession s
  pub taken : IsTakenFrom (Some past) s
  pub file : bytes ≡ file_of s

-- the bytes are the file of this session
pub record IsFileOf (bytes : List ℕ) (s : SessionValue) : Type 0 where
  pub session : IsSession s
  pub file : bytes ≡ file_of s
