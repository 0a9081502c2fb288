-- Texts in the caller's buffers.
use Rattle.std.proofs.Common.{◌≡◌, ℕ, List, length, refl, arith}
use Rattle.std.specs.Prelude.{◌≢◌}
use Rattle.linkable.specs.Handing.{Buffers, HaveRoom, HaveRoomFor, IsHandedOver, IsSessionHandedOver, all_written, written}
use Rattle.linkable.specs.Telling.{SessionTelling, Telling, ending_status}
use Rattle.linkable.specs.declared.handing.Outcome.{Outcome}
use Rattle.linkable.specs.declared.handing.SessionOutcome.{SessionOutcome}
use Rattle.linkable.specs.declared.told.Ending.{Ending}
use Rattle.linkable.specs.declared.told.Ending.TheVariants as ending

-- a buffer is too small
pub none_written : (telling : Telling) (outcome : Outcome) (out err : List ℕ) → outcome.status ≡ 5 → outcome.out_length ≡ length telling.answer → outcome.err_length ≡ length telling.notes
    → (HaveRoom telling out err → ⊥) → IsHandedOver telling outcome out out err err
none_written telling outcome out err status out_is err_is small = record {
  out_length = out_is;
  err_length = err_is;
  ends = λ room. absurd (small room);
  answer = λ room. absurd (small room);
  notes = λ room. absurd (small room);
  too_small = λ no. status;
  untouched = λ no. (refl, refl);
}

-- both buffers have room
pub both_written : (telling : Telling) (outcome : Outcome) (out_old out_new err_old err_new : List ℕ) → outcome.status ≡ telling.status → outcome.out_length ≡ length telling.answer → outcome.err_length ≡ length telling.notes
    → HaveRoom telling out_old err_old → out_new ≡ written telling.answer out_old → err_new ≡ written telling.notes err_old
    → IsHandedOver telling outcome out_old out_new err_old err_new
both_written telling outcome out_old out_new err_old err_new status out_is err_is room answer notes = record {
  out_length = out_is;
  err_length = err_is;
  ends = λ has. status;
  answer = λ has. answer;
  notes = λ has. notes;
  too_small = λ no. absurd (no room);
  untouched = λ no. absurd (no room);
}

-- no call with texts ends as one that memory ran out for
pub other_status : (end : Ending) (status : ℕ) → status ≡ ending_status end → status ≢ 4
other_status ending.Clean status is four = omega (arith, is, four)
other_status ending.Diagnostics status is four = omega (arith, is, four)
other_status ending.Refused status is four = omega (arith, is, four)
other_status ending.ChainRefused status is four = omega (arith, is, four)

-- ---- with the file of a session

pub no_session_written : (telling : SessionTelling) (outcome : SessionOutcome) (old : Buffers) → outcome.status ≡ 5 → outcome.session_length ≡ length telling.session
    → outcome.out_length ≡ length telling.texts.answer → outcome.err_length ≡ length telling.texts.notes → (HaveRoomFor telling old → ⊥) → IsSessionHandedOver telling outcome old old
no_session_written telling outcome old status session_is out_is err_is small = record {
  session_length = session_is;
  out_length = out_is;
  err_length = err_is;
  ends = λ room. absurd (small room);
  all = λ room. absurd (small room);
  too_small = λ no. status;
  untouched = λ no. refl;
}

pub all_are_written : (telling : SessionTelling) (outcome : SessionOutcome) (old new : Buffers) → outcome.status ≡ telling.texts.status → outcome.session_length ≡ length telling.session
    → outcome.out_length ≡ length telling.texts.answer → outcome.err_length ≡ length telling.texts.notes → HaveRoomFor telling old → new ≡ all_written telling old
    → IsSessionHandedOver telling outcome old new
all_are_written telling outcome old new status session_is out_is err_is room all = record {
  session_length = session_is;
  out_length = out_is;
  err_length = err_is;
  ends = λ has. status;
  all = λ has. all;
  too_small = λ no. absurd (no room);
  untouched = λ no. absurd (no room);
}
