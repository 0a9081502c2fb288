-- What passes is right by its places.
use Rattle.std.proofs.Common.{◌≡◌, ◌≢◌, inl, inr, ℕ, zero, suc, List, [], ◌∷◌, ◌++◌, map, drop, get_or, slice_get, Option, Some, refl, sym, ap, subst, ◌∙◌, arith}
use Rattle.std.specs.List.{AllByRecursion}
use Rattle.std.proofs.lemmas.Bool.{cases_order}
use Rattle.std.proofs.lemmas.List.{map-append}
use Rattle.std.proofs.lemmas.Option.{same_Some, slice_get_within}
use Rattle.redgreen_rules.specs.Programs.{Key, Prog, Ret}
use Rattle.redgreen_rules.specs.Runs.{Told, IsIn, Run}
use Rattle.redgreen_rules.specs.Sessions as rules
use Rattle.redgreen_rules.specs.Sessions.{Entry, IsNew, PassesBy, Passes, IsTakenOver, run_of, run_by, runs_of}
use Rattle.redgreen_sessions.specs.declared.record.Mark.{Mark}
use Rattle.redgreen_sessions.specs.declared.record.Mark.TheVariants.{Input, Green, Executed}
use Rattle.redgreen_sessions.specs.declared.record.Record.{Record}
use Rattle.redgreen_sessions.specs.Views.{mark_of, tell_of, tell_at, told_at, entry_in, entries_of}
use Rattle.redgreen_sessions.specs.Marks.{previous_of}
use Rattle.redgreen_audit.specs.Answering.{AreInside, AreAllInside}
use Rattle.redgreen_audit.specs.Checks.{HaveNew, IsUnchanged, IsUnchangedAt, IsTakenFrom, IsGreenBy, named, previous_in, previous_at}
use Rattle.redgreen_audit.specs.Right.{FirstReads, EndsAfter, IsRightSession, ArePlaced, AreWholeRuns}
use Rattle.redgreen_audit.proofs.Passing.{new_keys, inside_mark}
use Rattle.redgreen_audit.proofs.Places.{there}

-- ---- keys

keys_of : (now front : List Record) (k : Key) → IsNew (map (entry_in now) front) k → AllByRecursion (λ (a : Record). a.key ≢ k) front
keys_of now [] k h = tt
keys_of now (a ∷ front) k h = (h.0, keys_of now front k h.1)

have_new : (past : List Entry) (now front rest : List Record) → Passes past (map (entry_in now) front) (map (entry_in now) rest) → HaveNew front rest
have_new past now front [] p = tt
have_new past now front (r ∷ rest) p = (
  keys_of now front r.key p.0,
  have_new past now (front ++ r ∷ []) rest (subst (λ (xs : List Entry). Passes past xs (map (entry_in now) rest)) (sym (map-append (entry_in now) front (r ∷ []))) p.2),
)

-- ---- what is asked of a record besides its place

abbrev AloneBy : List Entry → Entry → rules.Mark → Type 0
AloneBy past r rules.Input = r.told ≡ []
AloneBy past r rules.Green = IsTakenOver past r
AloneBy past r rules.Executed = Unit {0}

alone_by : (past front : List Entry) (r : Entry) (m : rules.Mark) → PassesBy past front r m → AloneBy past r m
alone_by past front r rules.Input p = p
alone_by past front r rules.Green p = p.1
alone_by past front r rules.Executed p = tt

alone_at : (past front : List Entry) (now rest : List Record) (i : ℕ) (r : Record) → Passes past front (map (entry_in now) rest) → slice_get rest i ≡ Some r → AloneBy past (entry_in now r) (mark_of r.mark)
alone_at past front now [] i r p e = absurd cc
alone_at past front now (x ∷ rest) zero r p e =
    subst (λ (y : Record). AloneBy past (entry_in now y) (mark_of y.mark)) (same_Some x r e) (alone_by past front (entry_in now x) (mark_of x.mark) p.1)
alone_at past front now (x ∷ rest) (suc i) r p e = alone_at past (front ++ entry_in now x ∷ []) now rest i r p.2 e

-- ---- the record of a key in the session before

record From (past xs : List Record) (had : Entry) : Type 0 where
  pub item : Record
  pub place : ℕ
  pub here : slice_get xs place ≡ Some item
  pub is : entry_in past item ≡ had

from : (past xs : List Record) (had : Entry) → IsIn (map (entry_in past) xs) had → From past xs had
from past [] had l = elim l [ ]
from past (x ∷ xs) had (inl e) = record { item = x; place = 0; here = refl; is = e }
from past (x ∷ xs) had (inr l) = let f = from past xs had l in record { item = f.item; place = suc f.place; here = f.here; is = f.is }

one_record : (past : List Record) (i j : ℕ) (a b : Record) → HaveNew [] past → slice_get past i ≡ Some a → slice_get past j ≡ Some b → a.key ≡ b.key → a ≡ b
one_record past i j a b h e f same = elim (cases_order i j) [
  | inl eq ↦ same_Some a b (sym e ∙ (ap (slice_get past) eq ∙ f))
  | inr two ↦ elim two [
    | inl lt ↦ absurd (new_keys [] past i j a b h lt e f same)
    | inr gt ↦ absurd (new_keys [] past j i b a h gt f e (sym same))
  ]
]

-- each record with an old key and value names its old place
abbrev AreAllNamed : List Record → List Record → Type 0
AreAllNamed past now =
    (j : ℕ) (r : Record) → slice_get now j ≡ Some r → (place : ℕ) (had : Record) → slice_get past place ≡ Some had → had.key ≡ r.key → had.value ≡ r.value → previous_of r.mark ≡ Some place

-- what is read now by its old key and value names its old place
names_all : (past now : List Record) → AreAllNamed past now → (had reads : List ℕ) → AreInside past had → AreInside now reads → told_at past had ≡ told_at now reads → map (previous_at now) reads ≡ map named had
names_all past now all [] [] i j e = refl
names_all past now all [] (x ∷ reads) i j e = absurd cc
names_all past now all (q ∷ had) [] i j e = absurd cc
names_all past now all (q ∷ had) (x ∷ reads) i j e =
    let a = there past q (i 0 (omega arith)) in
    let b = there now x (j 0 (omega arith)) in
    let first : tell_at past q ≡ tell_at now x = ap (λ (ts : List Told). get_or ts 0 (tell_at past q)) e in
    let both : tell_of (Some a.0) ≡ tell_of (Some b.0) = ap tell_of (sym a.1) ∙ (first ∙ ap tell_of b.1) in
    let names : previous_of b.0.mark ≡ Some q = all x b.0 b.1 q a.0 a.1 (ap (λ (t : Told). t.key) both) (ap (λ (t : Told). t.value) both) in
    ap (λ (o : Option ℕ). o ∷ map (previous_at now) reads) (ap previous_in b.1 ∙ names)
    ∙ ap (λ (os : List (Option ℕ)). named q ∷ os) (names_all past now all had reads (λ k l. i (suc k) (omega (arith, l))) (λ k l. j (suc k) (omega (arith, l))) (ap (λ (ts : List Told). drop 1 ts) e))

taken_at : (past now : List Record) → AreAllNamed past now → AreAllInside past → (place : ℕ) (r : Record) → HaveNew [] past → AreInside now r.reads.items → IsUnchangedAt past place r → IsTakenOver (entries_of past) (entry_in now r) → IsTakenFrom past now place r
taken_at past now all within place r h inside u st =
    let f = from past past st.had st.there in
    let item_key : f.item.key ≡ r.key = ap (λ (x : Entry). x.key) f.is ∙ st.again.key in
    let same : f.item ≡ u.had = one_record past f.place place f.item u.had h f.here u.here (item_key ∙ sym u.key) in
    let isnt : mark_of f.item.mark ≢ rules.Input = λ e. st.no_input (sym (ap (λ (x : Entry). x.mark) f.is) ∙ e) in
    record {
      had = f.item;
      here = u.here ∙ ap Some (sym same);
      no_input = isnt;
      reads = names_all past now all f.item.reads.items r.reads.items (within f.place f.item f.here) inside (ap (λ (x : Entry). x.told) f.is ∙ st.again.told);
    }

by_mark : (past now : List Record) → AreAllNamed past now → AreAllInside past → (r : Record) (m : Mark) → HaveNew [] past → AreInside now r.reads.items → IsUnchanged past r (previous_of m) → AloneBy (entries_of past) (entry_in now r) (mark_of m) → IsGreenBy past now r m
by_mark past now all within r (Input previous) h inside u a = tt
by_mark past now all within r (Green place) h inside u a = taken_at past now all within place r h inside u a
by_mark past now all within r (Executed previous) h inside u a = tt

-- ---- runs

all_split : {A : Type 0} (P : A → Type 0) (xs ys : List A) → AllByRecursion P (xs ++ ys) → AllByRecursion P xs × AllByRecursion P ys
all_split P [] ys h = (tt, h)
all_split P (x ∷ xs) ys h = let r = all_split P xs ys h.1 in ((h.0, r.0), r.1)

module _ (prog_of : Key → Prog) where
  run_at : (now xs : List Record) (n : ℕ) (item : Record) → AreWholeRuns prog_of (runs_of (map (entry_in now) xs)) → slice_get xs n ≡ Some item → mark_of item.mark ≡ rules.Executed → FirstReads (prog_of item.key) (told_at now item.reads.items) (Ret item.value)
  run_at now [] n item h e m = absurd cc
  run_at now (x ∷ xs) zero item h e m =
      let same : x ≡ item = same_Some x item e in
      let s = all_split (λ (run : Run). EndsAfter (prog_of run.key) run.told run.end) (run_by (mark_of x.mark) (entry_in now x)) (runs_of (map (entry_in now) xs)) h in
      let first : AreWholeRuns prog_of (run_by (mark_of item.mark) (entry_in now item)) = subst (λ (y : Record). AreWholeRuns prog_of (run_by (mark_of y.mark) (entry_in now y))) same s.0 in
      (subst (λ (k : rules.Mark). AreWholeRuns prog_of (run_by k (entry_in now item))) m first).0
  run_at now (x ∷ xs) (suc n) item h e m =
      let s = all_split (λ (run : Run). EndsAfter (prog_of run.key) run.told run.end) (run_by (mark_of x.mark) (entry_in now x)) (runs_of (map (entry_in now) xs)) h in
      run_at now xs n item s.1 e m

  pub built : (past now : List Record) → HaveNew [] past → AreAllInside past → Passes (entries_of past) [] (entries_of now) → ArePlaced past now → AreWholeRuns prog_of (runs_of (entries_of now)) → IsRightSession prog_of past now
  built past now h within p placed runs =
      let all : AreAllNamed past now = λ j r at. (placed j r at).names.whole in
      record {
        new = have_new (entries_of past) now [] now p;
        each = λ i r at. record {
          reads = (placed i r at).reads;
          unchanged = (placed i r at).names.unchanged;
          green = by_mark past now all within r r.mark h (inside_mark now i r r.mark (slice_get_within now i r at) (placed i r at).reads) (placed i r at).names.unchanged (alone_at (entries_of past) [] now now i r p at);
        };
        runs = λ n item at m. run_at now now n item runs at m;
      }
