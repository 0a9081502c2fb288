use Rattle.std.proofs.Common.{codes, string_bytes}
use Rattle.session_text.specs.CauseTexts.{result_words}
use Rattle.session_text.proofs.Added.{added}
use Rattle.session_text.proofs.causes.words.write_cause.Goals as goal

pub returns-in_ok-push_str-in-OtherProfile : goal.returns-in_ok-push_str-in-OtherProfile
returns-in_ok-push_str-in-OtherProfile c =
    rw c.in-OtherProfile.is
    (added c.push_str-in-OtherProfile-2.result _ _ (string_bytes c.args.text.now) (codes "other profile") _ (result_words c.args.is_same_result) c.in_ok-push_str-in-OtherProfile.ensures.bytes
    c.result_words-in-OtherProfile.ensures c.push_str-in-OtherProfile-2.ensures.bytes)

pub returns-in_ok-push_str-in-NothingChanged : goal.returns-in_ok-push_str-in-NothingChanged
returns-in_ok-push_str-in-NothingChanged c =
    rw c.in-NothingChanged.is
    (added c.push_str-in-NothingChanged-2.result _ _ (string_bytes c.args.text.now) (codes "nothing changed") _ (result_words c.args.is_same_result) c.in_ok-push_str-in-NothingChanged.ensures.bytes
    c.result_words-in-NothingChanged.ensures c.push_str-in-NothingChanged-2.ensures.bytes)
