-- Runs of MiniJava's queries, as cases of short texts give them.
use Rattle.std.specs.Prelude.{ℕ, List}
use Rattle.item_ids.specs.declared.key.Key.{Key}
use Rattle.item_ids.specs.declared.key.Key.TheVariants as keys
use Rattle.result_bytes.specs.declared.value.Value.{Value}
use Rattle.result_bytes.specs.Values.{canon}
use Rattle.profiles.specs.declared.profile.Profile.{Profile}
use Rattle.recorder.specs.Projects.{Project}
use Rattle.recorder.specs.Backed.{ReadValue, Backed, Asked as AsksInOrder}
use Rattle.recorder.specs.Recording.{Recording}
use Rattle.recorder.specs.Runs.{IsNextRefused}
use Rattle.query_rules.specs.Meaning.{mean}
use Rattle.query_rules.specs.Reads.{reads}
use Rattle.answer_fixtures.specs.declared.keys.KeyParts.{KeyParts}
use Rattle.answer_fixtures.specs.Telling.{IsKeyOf, Tell}
use Rattle.run_fixtures.specs.declared.reads.Given.{Given}
use Rattle.run_fixtures.specs.declared.refusals.KeptReads.{KeptReads}
use Rattle.run_fixtures.specs.Reading.{AreReadsOf, KeepsJust}

-- In a profile the key reads just the answers that are given, one after the other, and the value that
-- is given follows from them.
pub record IsGivenRun (profile : Profile) (query : Given) (given : List Given) : Type 0 where
  pub key : Key
  pub of_key : IsKeyOf query.0 key
  pub told : List ReadValue
  pub of_reads : AreReadsOf given told
  pub value : Value
  pub of_digits : Tell query.1.now (canon value)
  pub backed : Backed (mean profile) (reads profile) key told value

-- A run of the key in a profile keeps just this, when an answer wasn't there; what it read is what the
-- key reads first, and the key that was refused comes next.
pub record IsLackingRun (profile : Profile) (query : KeyParts) (kept : KeptReads) : Type 0 where
  pub key : Key
  pub of_key : IsKeyOf query key
  pub end : Recording (List ReadValue)
  pub in_order : AsksInOrder (mean profile) (reads profile) key end.told
  pub next : IsNextRefused (mean profile) (reads profile) key end
  pub keeps : KeepsJust kept end

-- in the profile and the project the key has the value that is given
pub record Means (profile : Profile) (p : Project) (wanted : Given) : Type 0 where
  pub key : Key
  pub of_key : IsKeyOf wanted.0 key
  pub value : Tell wanted.1.now (canon (mean profile p key))

-- the digits spell the project's answer in the profile
abbrev pub IsAnswerTold : Profile → Project → List ℕ → Type 0
IsAnswerTold profile p digits = Tell digits (canon (mean profile p keys.Answer))
