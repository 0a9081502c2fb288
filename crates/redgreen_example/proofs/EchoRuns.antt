-- Runs of the echo.
use Rattle.std.proofs.Common.{◌≡◌, ℕ, ◌<◌, ◌≤◌, ◌⊎◌, inl, inr, List, [], ◌∷◌, ◌++◌, length, get_or, drop, take, ◌-◌, Option, Some, None, Result, Ok, Err, sym, ap, subst, ◌∙◌, arith}
use Rattle.std.proofs.lemmas.Option.{same_Some}
use Rattle.std.specs.Prelude.{OnOk, IfErr, IfSome, IfNone}
use Rattle.std.proofs.lemmas.List.{take_all}
use Rattle.std.specs.List.{AllByRecursion}
use Rattle.redgreen_rules.specs.Programs.{Key, Value, Prog, Ret, Ask}
use Rattle.redgreen_rules.specs.Runs.{Told, IsIn, Run, Reached, Start, Again, First, End, Gave, Wanted, Failed, IsRunOf, AreMade}
use Rattle.redgreen_audit.specs.Right.{FirstReads, start, again, first, EndsAfter}
use Rattle.redgreen_audit.specs.Answering.{Tells}
use Rattle.redgreen_example.specs.Echoes.{echo_of, IsEcho}

reached : (prog : Prog) (told : List Told) (p : Prog) → FirstReads prog told p → Reached prog told p
reached prog _ _ start = Start
reached prog _ _ (again told k f v h l) = Again told k f v (reached prog told (Ask k f) h) l
reached prog _ _ (first told k f v h n) = First told k f v (reached prog told (Ask k f) h)

is_run : (key : Key) (told : List Told) (end : End) → EndsAfter (echo_of key) told end → IsRunOf echo_of (record { key = key; told = told; end = end })
is_run key told (Gave v) h = reached (echo_of key) told (Ret v) h
is_run key told (Wanted k) h = (h.0, reached (echo_of key) told (Ask k h.0) h.1)
is_run key told Failed h = absurd h

pub all_runs : {S : Type 0} (s t : S) (runs : List Run) → AreMade (λ a run b. IsEcho run) s runs t → AllByRecursion (IsRunOf echo_of) runs
all_runs s t [] m = tt
all_runs s t (run ∷ runs) m = (is_run run.key run.told run.end m.1, all_runs m.0 t runs m.2)

-- its one read, told for the first time
pub echoed : (b : ℕ) (rest : Key) (v : Value) (old new : List Told) → old ≡ [] → Tells old rest v new → FirstReads (echo_of (b ∷ rest)) new (Ret (b ∷ v))
echoed b rest v old new none (inl e) =
    let is : new ≡ record { key = rest; value = v } ∷ [] = e.1 ∙ ap (λ (ts : List Told). ts ++ record { key = rest; value = v } ∷ []) none in
    subst (λ (ts : List Told). FirstReads (echo_of (b ∷ rest)) ts (Ret (b ∷ v))) (sym is) (first [] rest (λ v. Ret (b ∷ v)) v start tt)
echoed b rest v old new none (inr e) = absurd (subst (λ (ts : List Told). IsIn ts (record { key = rest; value = v })) none e.1)

pub head_tail : (key : Key) → 1 ≤ length key → key ≡ get_or key 0 0 ∷ take (length key - 1) (drop 1 key)
head_tail [] l = absurd (omega (arith, l))
head_tail (b ∷ rest) l = ap (λ (k : Key). b ∷ k) (sym (take_all (length (b ∷ rest) - 1) rest (omega arith)))

pub wanted : (b : ℕ) (rest k : Key) (told : List Told) (o : Option Key) → told ≡ [] → o ≡ Some k → (o ≡ None) ⊎ (o ≡ Some rest) → (f : Value → Prog) × FirstReads (echo_of (b ∷ rest)) told (Ask k f)
wanted b rest k told o none is (inl e) = let both : Some k ≡ None = sym is ∙ e in absurd cc
wanted b rest k told o none is (inr e) =
    let same : rest ≡ k = same_Some rest k (sym e ∙ is) in (
      λ v. Ret (b ∷ v),
      subst (λ (q : Key). FirstReads (echo_of (b ∷ rest)) told (Ask q (λ v. Ret (b ∷ v)))) same
          (subst (λ (ts : List Told). FirstReads (echo_of (b ∷ rest)) ts (Ask rest (λ v. Ret (b ∷ v)))) (sym none) start),
    )

pub emptied : (key v : Key) (told : List Told) → length key < 1 → told ≡ [] → v ≡ key → FirstReads (echo_of key) told (Ret v)
emptied [] v told l none is = subst (λ (w : Value). FirstReads (Ret []) told (Ret w)) (sym is) (subst (λ (ts : List Told). FirstReads (Ret []) ts (Ret [])) (sym none) start)
emptied (b ∷ rest) v told l none is = absurd (omega (arith, l))

pub on_two : {T E P Q R : Type 0} (r : Result T E) → (P → Q → R) → OnOk r P → OnOk r Q → OnOk r R
on_two (Ok x) f p q = f p q
on_two (Err e) f p q = tt

err_of : {T E : Type 0} → E → Result T E
err_of e = Err e

same_err : {T E : Type 0} (d e : E) → err_of {T = T} d ≡ err_of e → d ≡ e
unfolding err_of
same_err d e i = cc

pub at_err : {T E : Type 0} (P : E → Type 0) (r : Result T E) (e : E) → r ≡ Err e → IfErr r P → P e
unfolding err_of
at_err P (Ok x) e is h = absurd cc
at_err {T} P (Err d) e is h = subst P (same_err {T = T} d e is) h

pub if_some : {A : Type 0} (P : A → Type 0) (o : Option A) (x : A) → o ≡ Some x → IfSome o P → P x
if_some P None x is h = absurd cc
if_some P (Some y) x is h = subst P (same_Some y x is) h

pub if_none : {A P : Type 0} (o : Option A) → o ≡ None → IfNone o P → P
if_none None is h = h
if_none (Some y) is h = absurd cc
