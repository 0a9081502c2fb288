-- The indices of executed records.
use Rattle.std.proofs.Common.{◌≡◌, ℕ, suc, zero, ◌+◌, ◌<◌, inl, inr, true, false, List, [], ◌∷◌, ◌++◌, drop, length, get_or, slice_get, Some, refl, sym, ap, ◌∙◌, subst, arith, append_assoc}
use Rattle.std.specs.Prelude.{Contains, if◌then◌else◌, ◌↔◌}
use Rattle.std.proofs.Math.Seq.{drop-cons}
use Rattle.std.proofs.lemmas.Option.{none-some, same_Some}
use Rattle.sessions.specs.declared.mark.Mark.{Mark}
use Rattle.sessions.specs.declared.mark.Mark.TheVariants.{Input, Executed, Green}
use Rattle.sessions.specs.Sessions.{RecordValue, SessionValue}
use Rattle.audit_graph.proofs.Entries.{nowhere, contains_cases, contains_first, contains_later}
use Rattle.audit_graph.specs.Plans.{is_executed, executed_from, executed_in}

-- ---- a loop that collects them

pub adds : (rs : List RecordValue) (done : List ℕ) (i : ℕ) (r : RecordValue) → i < length rs → r ≡ get_or rs i r → is_executed r.mark ≡ true
    → done ++ executed_from i (drop i rs) ≡ (done ++ i ∷ []) ++ executed_from (i + 1) (drop (i + 1) rs)
adds rs done i r lt is mark =
    let e : suc i ≡ i + 1 = omega arith in
    let front : drop i rs ≡ r ∷ drop (i + 1) rs = drop-cons rs i r lt ∙ (ap (λ (x : RecordValue). x ∷ drop (suc i) rs) (sym is) ∙ ap (λ n. r ∷ drop n rs) e) in
    ap (λ (xs : List RecordValue). done ++ executed_from i xs) front
    ∙ (ap (λ b. done ++ (if b then i ∷ executed_from (i + 1) (drop (i + 1) rs) else executed_from (i + 1) (drop (i + 1) rs))) mark
    ∙ sym (append_assoc done (i ∷ []) (executed_from (i + 1) (drop (i + 1) rs))))

pub passes : (rs : List RecordValue) (done : List ℕ) (i : ℕ) (r : RecordValue) → i < length rs → r ≡ get_or rs i r → is_executed r.mark ≡ false
    → done ++ executed_from i (drop i rs) ≡ done ++ executed_from (i + 1) (drop (i + 1) rs)
passes rs done i r lt is mark =
    let e : suc i ≡ i + 1 = omega arith in
    let front : drop i rs ≡ r ∷ drop (i + 1) rs = drop-cons rs i r lt ∙ (ap (λ (x : RecordValue). x ∷ drop (suc i) rs) (sym is) ∙ ap (λ n. r ∷ drop n rs) e) in
    ap (λ (xs : List RecordValue). done ++ executed_from i xs) front
    ∙ ap (λ b. done ++ (if b then i ∷ executed_from (i + 1) (drop (i + 1) rs) else executed_from (i + 1) (drop (i + 1) rs))) mark

-- ---- what they say

-- the record so many places behind the first, whose index is i
abbrev IsExecutedBehind : ℕ → List RecordValue → ℕ → Type 0
IsExecutedBehind i rs n = (k : ℕ) × (i + k ≡ n) × (r : RecordValue) × (slice_get rs k ≡ Some r) × (r.mark ≡ Executed)

executed_mark : (m : Mark) → is_executed m ≡ true → m ≡ Executed
executed_mark Input e = absurd (cc)
executed_mark Executed e = refl
executed_mark Green e = absurd (cc)

later : (i n : ℕ) (r : RecordValue) (rs : List RecordValue) → IsExecutedBehind (i + 1) rs n → IsExecutedBehind i (r ∷ rs) n
later i n r rs h = (suc h.0, (let e = h.1 in omega arith), h.2, h.3, h.4)

tells : (i n : ℕ) (rs : List RecordValue) → Contains (executed_from i rs) n → IsExecutedBehind i rs n
tells i n [] c = absurd (nowhere n c)
tells i n (r ∷ rs) c =
    (elim (is_executed r.mark) as (λ b. is_executed r.mark ≡ b → Contains (if b then i ∷ executed_from (i + 1) rs else executed_from (i + 1) rs) n → IsExecutedBehind i (r ∷ rs) n) [
      | true ↦ λ e h. elim (contains_cases i (executed_from (i + 1) rs) n h) [
        | inl same ↦ (0, (let z : i + 0 ≡ i = omega arith in z ∙ same), r, refl, executed_mark r.mark e)
        | inr rest ↦ later i n r rs (tells (i + 1) n rs rest)
      ]
      | false ↦ λ e h. later i n r rs (tells (i + 1) n rs h)
    ]) refl c

told : (i : ℕ) (rs : List RecordValue) (k : ℕ) (r : RecordValue) → slice_get rs k ≡ Some r → r.mark ≡ Executed → Contains (executed_from i rs) (i + k)
told i [] k r is mark = absurd (none-some r is)
told i (x ∷ xs) zero r is mark =
    let e : x ≡ r = same_Some x r is in
    let passed : is_executed x.mark ≡ true = ap (λ (y : RecordValue). is_executed y.mark) e ∙ ap is_executed mark in
    let z : i ≡ i + 0 = omega arith in
    subst (λ b. Contains (if b then i ∷ executed_from (i + 1) xs else executed_from (i + 1) xs) (i + 0)) (sym passed)
    (subst (Contains (i ∷ executed_from (i + 1) xs)) z (contains_first i (executed_from (i + 1) xs)))
told i (x ∷ xs) (suc k) r is mark =
    let z : i + 1 + k ≡ i + suc k = omega arith in
    let h : Contains (executed_from (i + 1) xs) (i + suc k) = subst (Contains (executed_from (i + 1) xs)) z (told (i + 1) xs k r is mark) in
    (elim (is_executed x.mark) as (λ b. Contains (if b then i ∷ executed_from (i + 1) xs else executed_from (i + 1) xs) (i + suc k)) [
      | true ↦ contains_later i (executed_from (i + 1) xs) (i + suc k) h
      | false ↦ h
    ])

pub plan_tells : (s : SessionValue) (n : ℕ) → Contains (executed_in s) n ↔ ((r : RecordValue) × (slice_get s.records n ≡ Some r) × (r.mark ≡ Executed))
plan_tells s n = (
  (λ c. let t = tells 0 n s.records c in let e : t.0 ≡ n = (let z = t.1 in omega arith) in
      (t.2, ap (slice_get s.records) (sym e) ∙ t.3, t.4)),
  (λ h. let z : 0 + n ≡ n = omega arith in subst (Contains (executed_in s)) z (told 0 s.records n h.0 h.1 h.2)),
)
