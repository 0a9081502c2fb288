use Rattle.std.proofs.Common.{◌≡◌, ◌∙◌, ◌<◌, true, false, length, position, sym, ap, arith}
use Rattle.std.specs.Str.{bytes_eq}
use Rattle.sessions.specs.Sessions.{RecordValue}
use Rattle.session_text.specs.SessionText.{key_words}
use Rattle.session_text.proofs.First.{first_here, none_here, none_more}
use Rattle.session_text.proofs.names.record_named.Goals as goal

pub returns-then-branch-clause-found : goal.returns-then-branch-clause-found
returns-then-branch-clause-found c =
    let words = c.args.words.now in
    let records = c.records-records.result.now in
    let item = c.index-records-i.result in
    let lt : c.loop-i.i < length records = omega (arith, c.loop-i-test.true) in
    let pass : bytes_eq (key_words item.key) words ≡ true = ap (λ q. bytes_eq (key_words q) words) (sym c.key.ensures) ∙ (sym c.in_ok-is_named.ensures ∙ c.if-branch.true) in
    let test = λ (r : RecordValue). bytes_eq (key_words r.key) words in
    sym (first_here test records c.loop-i.i item lt c.index-records-i.is c.loop-i.invariant pass) ∙ ap (position test) c.records-records.ensures.value

pub loop-i-preserved : goal.loop-i-preserved
loop-i-preserved c =
    let words = c.args.words.now in
    let records = c.records-records.result.now in
    let item = c.index-records-i.result in
    let lt : c.loop-i.i < length records = omega (arith, c.loop-i-test.true) in
    let fails : bytes_eq (key_words item.key) words ≡ false = ap (λ q. bytes_eq (key_words q) words) (sym c.key.ensures) ∙ (sym c.in_ok-is_named.ensures ∙ c.if-branch.false) in
    none_more (λ (r : RecordValue). bytes_eq (key_words r.key) words) records c.loop-i.i item lt c.index-records-i.is c.loop-i.invariant fails

pub returns-clause-found : goal.returns-clause-found
returns-clause-found c =
    let words = c.args.words.now in
    let records = c.records-records.result.now in
    let test = λ (r : RecordValue). bytes_eq (key_words r.key) words in
    sym (none_here test records (λ k d l. c.loop-i.invariant k d (omega (arith, l, c.loop-i-test.false)))) ∙ ap (position test) c.records-records.ensures.value
