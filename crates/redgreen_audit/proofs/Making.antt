-- Runs that were made, one after the other.
use Rattle.std.proofs.Common.{◌≡◌, ℕ, ◌+◌, ◌<◌, List, [], ◌∷◌, ◌++◌, map, take, get_or, sym, ap, subst, ◌∙◌, length, append_assoc}
use Rattle.std.proofs.lemmas.List.{append-nil}
use Rattle.redgreen_rules.specs.Runs.{Run, AreMade}
use Rattle.redgreen_rules.specs.Sessions.{Entry, Session as Entries, Passes, ArePassed, run_by, runs_of, runs_in}
use Rattle.redgreen_sessions.specs.declared.record.Record.{Record}
use Rattle.redgreen_sessions.specs.declared.record.Session.{Session}
use Rattle.redgreen_sessions.specs.Views.{mark_of, entry_in, entries_of, session_of}
use Rattle.redgreen_audit.proofs.Places.{map_more}

pub made_then : {S : Type 0} (makes : S → Run → S → Type 0) (s m t : S) (xs ys : List Run) → AreMade makes s xs m → AreMade makes m ys t → AreMade makes s (xs ++ ys) t
made_then {S} makes s m t [] ys p q = subst (λ (x : S). AreMade makes x ys t) (sym p) q
made_then makes s m t (x ∷ xs) ys p q = (p.0, p.1, made_then makes p.0 m t xs ys p.2 q)

runs_more : (xs : List Entry) (r : Entry) → runs_of (xs ++ r ∷ []) ≡ runs_of xs ++ run_by r.mark r
runs_more [] r = append-nil (run_by r.mark r)
runs_more (x ∷ xs) r = ap (λ (rs : List Run). run_by x.mark x ++ rs) (runs_more xs r) ∙ sym (append_assoc (run_by x.mark x) (runs_of xs) (run_by r.mark r))

pub made_more : {S : Type 0} (makes : S → Run → S → Type 0) (s m t : S) (records : List Record) (n : ℕ) (x : Record) → n < length records → x ≡ get_or records n x
    → AreMade makes s (runs_of (map (entry_in records) (take n records))) m → AreMade makes m (run_by (mark_of x.mark) (entry_in records x)) t
    → AreMade makes s (runs_of (map (entry_in records) (take (n + 1) records))) t
made_more makes s m t records n x l e p q =
    let front = map (entry_in records) (take n records) in
    let is = ap runs_of (map_more (entry_in records) records n x l e) ∙ runs_more front (entry_in records x) in
    subst (λ (rs : List Run). AreMade makes s rs t) (sym is) (made_then makes s m t (runs_of front) (run_by (mark_of x.mark) (entry_in records x)) p q)

in_more : (ss : List Entries) (s : Entries) → runs_in (ss ++ s ∷ []) ≡ runs_in ss ++ runs_of s
in_more [] s = append-nil (runs_of s)
in_more (x ∷ ss) s = ap (λ (rs : List Run). runs_of x ++ rs) (in_more ss s) ∙ sym (append_assoc (runs_of x) (runs_in ss) (runs_of s))

pub made_session : {S : Type 0} (makes : S → Run → S → Type 0) (s m t : S) (chain : List Session) (k : ℕ) (x : Session) → k < length chain → x ≡ get_or chain k x
    → AreMade makes s (runs_in (map session_of (take k chain))) m → AreMade makes m (runs_of (session_of x)) t
    → AreMade makes s (runs_in (map session_of (take (k + 1) chain))) t
made_session makes s m t chain k x l e p q =
    let front = map session_of (take k chain) in
    let is = ap runs_in (map_more session_of chain k x l e) ∙ in_more front (session_of x) in
    subst (λ (rs : List Run). AreMade makes s rs t) (sym is) (made_then makes s m t (runs_in front) (runs_of (session_of x)) p q)

-- what passes over the last of these sessions passes after them
abbrev pub PassSoFar : List Session → ℕ → List Record → Type 0
PassSoFar chain k past = (rest : List Entries) → ArePassed (entries_of past) rest → ArePassed [] (map session_of (take k chain) ++ rest)

pub passed_session : (chain : List Session) (k : ℕ) (past : List Record) (x : Session) → k < length chain → x ≡ get_or chain k x
    → PassSoFar chain k past → Passes (entries_of past) [] (session_of x) → PassSoFar chain (k + 1) x.records.items
passed_session chain k past x l e so_far p = λ rest q.
    let front = map session_of (take k chain) in
    subst (λ (ss : List Entries). ArePassed [] (ss ++ rest)) (sym (map_more session_of chain k x l e))
    (subst (ArePassed []) (sym (append_assoc front (session_of x ∷ []) rest)) (so_far (session_of x ∷ rest) (p, q)))
