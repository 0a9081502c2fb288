use Rattle.std.proofs.Common.{◌≡◌, ◌∙◌, sym, ap, subst, decimal, Ok}
use Rattle.std.specs.Str.{IsUtf8}
use Rattle.std.proofs.lemmas.Fmt.{parse-decimal}
use Rattle.redgreen_words.proofs.Numbers.{decimal_utf8}
use Rattle.redgreen_words.proofs.lines.number_of.Goals as goal

pub returns-in_default : goal.returns-in_default
returns-in_default c = λ n lt e. c.in_default.ensures.cases.0 (subst IsUtf8 (sym e) (decimal_utf8 n lt))

pub returns-in_default-parse : goal.returns-in_default-parse
returns-in_default-parse c = λ n lt e.
    let parsed : c.parse.result ≡ Ok n = parse-decimal 64 n c.in-Ok.text.now c.parse.result lt lt (c.in-Ok.ensures.cases.0 ∙ e) c.parse.ensures.value.0 in
    let other = c.in_default-parse.is in
    cc

pub returns-else-is_decimal : goal.returns-else-is_decimal
returns-else-is_decimal c = λ n lt e.
    let parsed : c.parse.result ≡ Ok n = parse-decimal 64 n c.in-Ok.text.now c.parse.result lt lt (c.in-Ok.ensures.cases.0 ∙ e) c.parse.ensures.value.0 in
    let other = c.in-Ok-parse.is in
    let same : c.in-Ok-parse.number ≡ n = cc in
    c.if-is_decimal.ensures (e ∙ sym (ap decimal same))
