-- One more line.
use Rattle.std.proofs.Common.{◌≡◌, ◌∙◌, ◌<◌, ◌+◌, ◌++◌, ℕ, suc, zero, List, [], ◌∷◌, length, take, get_or, sym, ap, arith, append-nil, append_assoc}
use Rattle.sessions.specs.Sessions.{RecordValue}
use Rattle.session_text.specs.SessionText.{lines_of_records, record_line}

-- a line more for the record behind those in front
line_more : (i : ℕ) (records : List RecordValue) (n : ℕ) (r : RecordValue) → n < length records → r ≡ get_or records n r
    → lines_of_records i (take (suc n) records) ≡ lines_of_records i (take n records) ++ record_line (i + n) r
line_more i [] n r lt is = absurd (omega (arith, lt))
line_more i (s ∷ records) zero r lt is =
    let same : i ≡ i + zero = omega arith in
    append-nil (record_line i s) ∙ (ap (record_line i) (sym is) ∙ ap (λ k. record_line k r) same)
line_more i (s ∷ records) (suc n) r lt is =
    let inner : n < length records = omega (arith, lt) in
    let same : i + 1 + n ≡ i + suc n = omega arith in
    ap (λ t. record_line i s ++ t) (line_more (i + 1) records n r inner is ∙ ap (λ k. lines_of_records (i + 1) (take n records) ++ record_line k r) same)
    ∙ sym (append_assoc (record_line i s) (lines_of_records (i + 1) (take n records)) (record_line (i + suc n) r))

pub lines_more : (records : List RecordValue) (n : ℕ) (r : RecordValue) → n < length records → r ≡ get_or records n r
    → lines_of_records 0 (take (n + 1) records) ≡ lines_of_records 0 (take n records) ++ record_line n r
lines_more records n r lt is =
    let next : n + 1 ≡ suc n = omega arith in
    let first : 0 + n ≡ n = omega arith in
    ap (λ k. lines_of_records 0 (take k records)) next
    ∙ (line_more 0 records n r lt is ∙ ap (λ k. lines_of_records 0 (take n records) ++ record_line k r) first)
