use Rattle.std.proofs.Common.{◌<◌, ◌≤◌, length, sym, ◌∙◌, arith, inr}
use Rattle.std.proofs.lemmas.Bool.Decides.{nat_tests}
use Rattle.named_files.proofs.ProjectLemmas.{is_size, names_good, bad_refusal, repeated_refusal, is_project, none_by}
use Rattle.named_files.proofs.project.check_files.Goals as goal

pub returns-in-Some : goal.returns-in-Some
returns-in-Some c =
    let some : 0 < length c.args.files.now = grind (arith, nat_tests) in
    let few : length c.args.files.now ≤ 4096 = omega arith in
    inr (bad_refusal c.args.files.now c.in-Some.number (is_size c.args.files.now some few) (sym c.in-Some.ensures))

pub returns-in-Some-2 : goal.returns-in-Some-2
returns-in-Some-2 c =
    let some : 0 < length c.args.files.now = grind (arith, nat_tests) in
    let few : length c.args.files.now ≤ 4096 = omega arith in
    let none = sym c.bad_name.ensures ∙ none_by c.bad_name.result c.in_default.not-Some in
    inr (repeated_refusal c.args.files.now c.in-Some-2.number (is_size c.args.files.now some few) (names_good c.args.files.now none)
    (sym c.in_ok-number.ensures ∙ c.in-Some-2.is))

pub returns : goal.returns
returns c =
    let some : 0 < length c.args.files.now = grind (arith, nat_tests) in
    let few : length c.args.files.now ≤ 4096 = omega arith in
    let none = sym c.bad_name.ensures ∙ none_by c.bad_name.result c.in_default.not-Some in
    is_project c.args.files.now (is_size c.args.files.now some few) (names_good c.args.files.now none)
    (sym c.in_ok-number.ensures ∙ none_by c.in_ok-number.field-0 c.in_default-2.not-Some)
