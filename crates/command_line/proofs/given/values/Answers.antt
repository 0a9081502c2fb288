use Rattle.std.proofs.Common.{◌∙◌, [], ap, map, string_bytes, sym, unwrap_or}
use Rattle.std.proofs.lemmas.Result.{IfOk-weaker}
use Rattle.clap.proofs.WalkLemmas.{raw_values-rows}
use Rattle.clap.specs.Words.{found_of}
use Rattle.command_line.proofs.given.values.Goals as goal

pub returns-in-Some : goal.returns-in-Some
returns-in-Some c =
    let all = c.in-Some.ensures ∙ raw_values-rows (found_of c.args.given.now) c.args.id.now in
    IfOk-weaker c.copies.result _ _ (λ files are. sym (are ∙ ap (λ values. unwrap_or values []) all)) c.copies.ensures

pub returns-in-None : goal.returns-in-None
returns-in-None c =
    let all = c.in-None.ensures ∙ raw_values-rows (found_of c.args.given.now) c.args.id.now in
    sym (ap (map string_bytes) c.new.ensures.items ∙ ap (λ values. unwrap_or values []) all)
