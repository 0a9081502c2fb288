-- What a run says of its case.
use Rattle.std.proofs.Common.{List, Bool, IsTrue, IfOk}
use Rattle.std.specs.Prelude.{Result, Ok, Err, ◌↔◌}
use Rattle.item_ids.specs.declared.key.Key.{Key}
use Rattle.result_bytes.specs.declared.value.Value.{Value}
use Rattle.profiles.specs.declared.profile.Profile.{Profile}
use Rattle.recorder.specs.Recording.{Recording}
use Rattle.recorder.specs.Runs.{IsRun}
use Rattle.recorder.specs.declared.runner.RunFault.{RunFault}
use Rattle.query_rules.specs.Meaning.{mean}
use Rattle.query_rules.specs.Reads.{reads}
use Rattle.answer_fixtures.specs.Telling.{IsKeyOf}
use Rattle.run_fixtures.specs.declared.reads.Given.{Given}
use Rattle.run_fixtures.specs.Reading.{EndsWithValue}
use Rattle.query_fixtures.specs.Rows.{IsGivenRun}

ended : {D : Type 0} (profile : Profile) (query : Given) (given : List Given) (key : Key) (r : Recording D) (result : Result Value RunFault)
    → IsKeyOf query.0 key → IsRun (mean profile) (reads profile) key r result → EndsWithValue query.1.now given result r.told → IsGivenRun profile query given
ended profile query given key r (Ok v) of_key run came = record {
  key = key;
  of_key = of_key;
  told = r.told;
  of_reads = came.reads;
  value = v;
  of_digits = came.value;
  backed = run.backed;
}
ended profile query given key r (Err e) of_key run came = absurd came.value

-- a run that comes to what the case says is a run of it
pub come : {D E : Type 0} (profile : Profile) (query : Given) (given : List Given) (key : Key) (r : Recording D) (result : Result Value RunFault) (yes : Result Bool E)
    → IsKeyOf query.0 key → IsRun (mean profile) (reads profile) key r result → IfOk yes (λ b. IsTrue b ↔ EndsWithValue query.1.now given result r.told)
    → IfOk yes (λ b. IsTrue b → IsGivenRun profile query given)
come profile query given key r result (Ok b) of_key run came = λ is. ended profile query given key r result of_key run (came.0 is)
come profile query given key r result (Err e) of_key run came = tt

-- the same of what is a run in every profile
pub come_in_each : {D E : Type 0} (query : Given) (given : List Given) (key : Key) (r : Recording D) (result : Result Value RunFault) (yes : Result Bool E)
    → IsKeyOf query.0 key → ((profile : Profile) → IsRun (mean profile) (reads profile) key r result) → IfOk yes (λ b. IsTrue b ↔ EndsWithValue query.1.now given result r.told)
    → IfOk yes (λ b. IsTrue b → (profile : Profile) → IsGivenRun profile query given)
come_in_each query given key r result (Ok b) of_key run came = λ is profile. ended profile query given key r result of_key (run profile) (came.0 is)
come_in_each query given key r result (Err e) of_key run came = tt
