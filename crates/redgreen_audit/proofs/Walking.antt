-- A program does one thing by given answers.
use Rattle.std.proofs.Common.{◌≡◌, ◌≢◌, inl, inr, Bool, true, false, cond, List, [], ◌∷◌, ◌++◌, take, Option, Some, None, refl, sym, ap, ◌∙◌, subst, append_assoc}
use Rattle.std.specs.List.{AllByRecursion}
use Rattle.std.specs.Str.{bytes_eq}
use Rattle.std.proofs.lemmas.Slice.Eq.{bytes_eq-Decides}
use Rattle.std.proofs.lemmas.List.{append-nil}
use Rattle.redgreen_rules.specs.Programs.{Key, Value, Prog, Ret, Ask}
use Rattle.redgreen_rules.specs.Runs.{Told, IsIn, End, Gave, Wanted}
use Rattle.redgreen_audit.specs.Answering.{IsUntold}
use Rattle.redgreen_audit.specs.Right.{FirstReads, start, again, first}

abbrev find : List Told → Key → Option Value
find [] k = None
find (t ∷ ts) k = cond (bytes_eq t.key k) (Some t.value) (find ts k)

record Stand : Type 0 where
  pub seen : List Told
  pub rest : List Told
  pub end : End

abbrev stand : List Told → List Told → End → Stand
stand seen rest end = record { seen = seen; rest = rest; end = end }

-- what a program does by answers that it was told, and others that it is to be told in this order
abbrev next : (Value → List Told → List Told → Stand) → Key → List Told → List Told → Option Value → Stand
next go k seen rest (Some v) = go v seen rest
next go k seen [] None = stand seen [] (Wanted k)
next go k seen (t ∷ rest) None = cond (bytes_eq t.key k) (go t.value (seen ++ t ∷ []) rest) (stand seen (t ∷ rest) (Wanted k))

abbrev walk : Prog → List Told → List Told → Stand
walk (Ret v) seen rest = stand seen rest (Gave v)
walk (Ask k f) seen rest = next (λ v. walk (f v)) k seen rest (find seen k)

-- ---- what is found

then_is : {A : Type 0} (b : Bool) (x y : A) → b ≡ true → cond b x y ≡ x
then_is true x y e = refl
then_is false x y e = absurd cc

else_is : {A : Type 0} (b : Bool) (x y : A) → b ≡ false → cond b x y ≡ y
else_is true x y e = absurd cc
else_is false x y e = refl

unlike : (b : Bool) → (b ≡ true → ⊥) → b ≡ false
unlike true h = absurd (h refl)
unlike false h = refl

eq_no : (a k : Key) → a ≢ k → bytes_eq a k ≡ false
eq_no a k ne = unlike (bytes_eq a k) (λ e. ne ((bytes_eq-Decides a k).0 e))

pub find_none : (told : List Told) (k : Key) → IsUntold told k → find told k ≡ None
find_none [] k n = refl
find_none (t ∷ ts) k n = else_is (bytes_eq t.key k) (Some t.value) (find ts k) (eq_no t.key k n.0) ∙ find_none ts k n.1

-- each key once
abbrev Once : List Told → Type 0
Once [] = Unit {0}
Once (t ∷ ts) = AllByRecursion (λ u. u.key ≢ t.key) ts × Once ts

all_at : {A : Type 0} (P : A → Type 0) (xs : List A) (x : A) → AllByRecursion P xs → IsIn xs x → P x
all_at P [] x h l = elim l [ ]
all_at P (y ∷ ys) x h (inl e) = subst P e h.0
all_at P (y ∷ ys) x h (inr l) = all_at P ys x h.1 l

all_push : {A : Type 0} (P : A → Type 0) (xs : List A) (x : A) → AllByRecursion P xs → P x → AllByRecursion P (xs ++ x ∷ [])
all_push P [] x h p = (p, tt)
all_push P (y ∷ ys) x h p = (h.0, all_push P ys x h.1 p)

once_push : (told : List Told) (t : Told) → Once told → IsUntold told t.key → Once (told ++ t ∷ [])
once_push [] t o n = (tt, tt)
once_push (u ∷ told) t o n = (all_push (λ (x : Told). x.key ≢ u.key) told t o.0 (λ e. n.0 (sym e)), once_push told t o.1 n.1)

once : (prog : Prog) (told : List Told) (p : Prog) → FirstReads prog told p → Once told
once prog _ _ start = tt
once prog _ _ (again told k f v h l) = once prog told (Ask k f) h
once prog _ _ (first told k f v h n) = once_push told (record { key = k; value = v }) (once prog told (Ask k f) h) n

find_some : (told : List Told) (k : Key) (v : Value) → Once told → IsIn told (record { key = k; value = v }) → find told k ≡ Some v
find_some [] k v o l = elim l [ ]
find_some (t ∷ ts) k v o (inl e) =
    then_is (bytes_eq t.key k) (Some t.value) (find ts k) ((bytes_eq-Decides t.key k).1 (ap (λ (x : Told). x.key) e)) ∙ ap (λ (x : Told). Some x.value) e
find_some (t ∷ ts) k v o (inr l) =
    else_is (bytes_eq t.key k) (Some t.value) (find ts k) (eq_no t.key k (λ e. all_at (λ (u : Told). u.key ≢ t.key) ts (record { key = k; value = v }) o.0 l (sym e))) ∙ find_some ts k v o.1 l

-- ---- from where it is, it goes on

pub walked : (prog : Prog) (told more : List Told) (p : Prog) → FirstReads prog told p → walk prog [] (told ++ more) ≡ walk p told more
walked prog _ more _ start = refl
walked prog _ more _ (again told k f v h l) =
    walked prog told more (Ask k f) h ∙ ap (next (λ (x : Value). walk (f x)) k told more) (find_some told k v (once prog told (Ask k f) h) l)
walked prog _ more _ (first told k f v h n) =
    let t : Told = record { key = k; value = v } in
    ap (walk prog []) (append_assoc told (t ∷ []) more)
    ∙ walked prog told (t ∷ more) (Ask k f) h
    ∙ ap (next (λ (x : Value). walk (f x)) k told (t ∷ more)) (find_none told k n)
    ∙ then_is (bytes_eq k k) (walk (f v) (told ++ t ∷ []) more) (stand told (t ∷ more) (Wanted k)) ((bytes_eq-Decides k k).1 refl)

-- ---- so of two runs by the same answers both come to the same end

whole : (prog : Prog) (told : List Told) (v : Value) → FirstReads prog told (Ret v) → walk prog [] told ≡ stand told [] (Gave v)
whole prog told v h = ap (walk prog []) (sym (append-nil told)) ∙ walked prog told [] (Ret v) h

part : (prog : Prog) (all told more : List Told) (p : Prog) → told ++ more ≡ all → FirstReads prog told p → walk prog [] all ≡ walk p told more
part prog all told more p e h = ap (walk prog []) (sym e) ∙ walked prog told more p h

pub one_result : (prog : Prog) (all told more : List Told) (v w : Value) → told ++ more ≡ all → FirstReads prog all (Ret v) → FirstReads prog told (Ret w) → (more ≡ []) × (w ≡ v)
one_result prog all told more v w e h g =
    let same : stand told more (Gave w) ≡ stand all [] (Gave v) = sym (part prog all told more (Ret w) e g) ∙ whole prog all v h in
    (ap (λ (s : Stand). s.rest) same, gave (ap (λ (s : Stand). s.end) same))
  where
    gave : Gave w ≡ Gave v → w ≡ v
    gave i = cc

-- a key that was told before, or is told next, isn't wanted
pub no_other : (prog : Prog) (all told more : List Told) (v : Value) (k : Key) (f : Value → Prog) → told ++ more ≡ all → FirstReads prog all (Ret v) → FirstReads prog told (Ask k f) → IsUntold told k → IsUntold (take 1 more) k → ⊥
no_other prog all told [] v k f e h g n m =
    let same : walk (Ask k f) told [] ≡ stand all [] (Gave v) = sym (part prog all told [] (Ask k f) e g) ∙ whole prog all v h in
    let is : walk (Ask k f) told [] ≡ stand told [] (Wanted k) = ap (next (λ (x : Value). walk (f x)) k told []) (find_none told k n) in
    let both : Wanted k ≡ Gave v = ap (λ (s : Stand). s.end) (sym is ∙ same) in cc
no_other prog all told (t ∷ more) v k f e h g n m =
    let same : walk (Ask k f) told (t ∷ more) ≡ stand all [] (Gave v) = sym (part prog all told (t ∷ more) (Ask k f) e g) ∙ whole prog all v h in
    let is : walk (Ask k f) told (t ∷ more) ≡ stand told (t ∷ more) (Wanted k) =
    ap (next (λ (x : Value). walk (f x)) k told (t ∷ more)) (find_none told k n) ∙ else_is (bytes_eq t.key k) (walk (f t.value) (told ++ t ∷ []) more) (stand told (t ∷ more) (Wanted k)) (eq_no t.key k m.0) in
    let both : Wanted k ≡ Gave v = ap (λ (s : Stand). s.end) (sym is ∙ same) in cc
