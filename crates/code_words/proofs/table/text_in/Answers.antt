use Rattle.std.proofs.Common.{◌∙◌, sym}
use Rattle.mj_answer.proofs.Searches.{option_copied-get}
use Rattle.code_words.proofs.Found.{none_found, text_found}
use Rattle.code_words.proofs.table.text_in.Goals as goal

pub returns-in-Some : goal.returns-in-Some
returns-in-Some c =
    let texts = c.args.texts.now in
    let there = c.get.ensures.lookup in
    let here = c.copied.ensures ∙ option_copied-get texts c.in-Some.at c.get.result there.0 there.1 in
    text_found c.args.codes.now texts c.args.word.now c.in-Some.at c.copied.result (sym c.place_of.ensures ∙ c.in-Some.is) here

pub returns-in-None : goal.returns-in-None
returns-in-None c = none_found c.args.codes.now c.args.texts.now c.args.word.now (sym c.place_of.ensures ∙ c.in-None.is)
