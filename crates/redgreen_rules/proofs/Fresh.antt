-- What passes is what a fresh run comes to.
use Rattle.std.proofs.Common.{◌≡◌, ◌≢◌, inl, inr, ◌⊎◌, Bool, true, false, cond, List, [], ◌∷◌, ◌++◌, Option, Some, None, refl, sym, ◌∙◌, ap, subst, append_assoc}
use Rattle.std.specs.List.{AllByRecursion}
use Rattle.std.specs.Str.{bytes_eq}
use Rattle.std.proofs.lemmas.Option.{same_Some}
use Rattle.std.proofs.lemmas.List.{append-nil}
use Rattle.std.proofs.lemmas.Slice.Eq.{bytes_eq-Decides}
use Rattle.redgreen_rules.specs.Programs.{Key, Value, Prog, Ret, Ask, Inputs, ComesTo, Evaluates, input, query, ret, ask}
use Rattle.redgreen_rules.specs.Runs.{Told, IsIn, Reached, Start, Again, First, IsRunOf}
use Rattle.redgreen_rules.specs.Sessions.{Mark, Input, Green, Executed, Entry, Session, Holds, AreHeld, IsNew, IsTakenOver, PassesBy, Passes, ArePassed, last_from, last_of, run_by, runs_of, runs_in, AgreesBy, Agree, input_by, inputs_of, IsFresh}

-- ---- a fresh run comes to one value at most

some_none : {A : Type 0} {x : A} (o : Option A) → o ≡ Some x → o ≡ None → ⊥
some_none (Some y) a b = cc
some_none None a b = cc

asked : (prog_of : Key → Prog) (inputs : Inputs) (k : Key) (f : Value → Prog) (w : Value) → Evaluates prog_of inputs (Ask k f) w → (x : Value) × ComesTo prog_of inputs k x × Evaluates prog_of inputs (f x) w
asked prog_of inputs k f w (ask _ _ x _ c e) = (x, c, e)

ended : (prog_of : Key → Prog) (inputs : Inputs) (v w : Value) → Evaluates prog_of inputs (Ret v) w → v ≡ w
ended prog_of inputs v w (ret _) = refl

came : (prog_of : Key → Prog) (inputs : Inputs) (k : Key) (w : Value) → ComesTo prog_of inputs k w → (inputs k ≡ Some w) ⊎ ((inputs k ≡ None) × Evaluates prog_of inputs (prog_of k) w)
came prog_of inputs k w (input _ _ a) = inl a
came prog_of inputs k w (query _ _ a e) = inr (a, e)

mutual
  one_value : (prog_of : Key → Prog) (inputs : Inputs) (k : Key) (v w : Value) → ComesTo prog_of inputs k v → ComesTo prog_of inputs k w → v ≡ w
  one_value prog_of inputs k v w (input _ _ a) d = elim (came prog_of inputs k w d) [
    | inl b ↦ same_Some v w (sym a ∙ b)
    | inr b ↦ absurd (some_none (inputs k) a b.0)
  ]
  one_value prog_of inputs k v w (query _ _ a e) d = elim (came prog_of inputs k w d) [
    | inl b ↦ absurd (some_none (inputs k) b a)
    | inr b ↦ one_end prog_of inputs (prog_of k) v w e b.1
  ]

  one_end : (prog_of : Key → Prog) (inputs : Inputs) (p : Prog) (v w : Value) → Evaluates prog_of inputs p v → Evaluates prog_of inputs p w → v ≡ w
  one_end prog_of inputs _ v w (ret _) e = ended prog_of inputs v w e
  one_end prog_of inputs _ v w (ask k f x _ c e) d =
      let i = asked prog_of inputs k f w d in
      let same : x ≡ i.0 = one_value prog_of inputs k x i.0 c i.1 in
      one_end prog_of inputs (f x) v w e (subst (λ (y : Value). Evaluates prog_of inputs (f y) w) (sym same) i.2)

pub one : (prog_of : Key → Prog) (inputs : Inputs) (k : Key) (v w : Value) → ComesTo prog_of inputs k v → ComesTo prog_of inputs k w → v ≡ w
one = one_value

-- ---- lists

all_map : {A : Type 0} (P Q : A → Type 0) → ((x : A) → P x → Q x) → (xs : List A) → AllByRecursion P xs → AllByRecursion Q xs
all_map P Q f [] h = tt
all_map P Q f (x ∷ xs) h = (f x h.0, all_map P Q f xs h.1)

all_in : {A : Type 0} (P : A → Type 0) (xs : List A) (x : A) → AllByRecursion P xs → IsIn xs x → P x
all_in P [] x h l = elim l [ ]
all_in P (y ∷ ys) x h (inl e) = subst P e h.0
all_in P (y ∷ ys) x h (inr l) = all_in P ys x h.1 l

all_before : {A : Type 0} (P : A → Type 0) (xs : List A) (x : A) → AllByRecursion P (xs ++ x ∷ []) → AllByRecursion P xs × P x
all_before P [] x h = (tt, h.0)
all_before P (y ∷ ys) x h = let r = all_before P ys x h.1 in ((h.0, r.0), r.1)

all_split : {A : Type 0} (P : A → Type 0) (xs ys : List A) → AllByRecursion P (xs ++ ys) → AllByRecursion P xs × AllByRecursion P ys
all_split P [] ys h = (tt, h)
all_split P (x ∷ xs) ys h = let r = all_split P xs ys h.1 in ((h.0, r.0), r.1)

in_last : {A : Type 0} (xs : List A) (x y : A) → IsIn (xs ++ x ∷ []) y → IsIn xs y ⊎ (x ≡ y)
in_last [] x y (inl e) = inr e
in_last [] x y (inr h) = absurd h
in_last (z ∷ xs) x y (inl e) = inl (inl e)
in_last (z ∷ xs) x y (inr h) = elim (in_last xs x y h) [ inl l ↦ inl (inr l) | inr e ↦ inr e ]

-- ---- a run over answers that fresh runs come to is a fresh run

module _ (prog_of : Key → Prog) (inputs : Inputs) where
  reached_fresh : (prog : Prog) (told : List Told) (p : Prog) (v : Value) → Reached prog told p → AllByRecursion (λ t. ComesTo prog_of inputs t.key t.value) told → Evaluates prog_of inputs p v → Evaluates prog_of inputs prog v
  reached_fresh prog _ _ v Start c e = e
  reached_fresh prog _ _ v (Again told k f x h there) c e =
      reached_fresh prog told (Ask k f) v h c (ask k f x v (all_in (λ t. ComesTo prog_of inputs t.key t.value) told (record { key = k; value = x }) c there) e)
  reached_fresh prog _ _ v (First told k f x h) c e =
      let b = all_before (λ t. ComesTo prog_of inputs t.key t.value) told (record { key = k; value = x }) c in
      reached_fresh prog told (Ask k f) v h b.0 (ask k f x v b.1 e)

-- ---- each entry that is no input is a run over its own answers

abbrev FollowsBy : (Key → Prog) → Entry → Mark → Type 0
FollowsBy prog_of r Input = Unit {0}
FollowsBy prog_of r Green = Reached (prog_of r.key) r.told (Ret r.value)
FollowsBy prog_of r Executed = Reached (prog_of r.key) r.told (Ret r.value)

abbrev Follow : (Key → Prog) → List Entry → Type 0
Follow prog_of entries = AllByRecursion (λ r. FollowsBy prog_of r r.mark) entries

module _ (prog_of : Key → Prog) where
  ran : (r : Entry) (m : Mark) → r.mark ≡ m → r.mark ≢ Input → FollowsBy prog_of r m → Reached (prog_of r.key) r.told (Ret r.value)
  ran r Input e isnt f = absurd (isnt e)
  ran r Green e isnt f = f
  ran r Executed e isnt f = f

  taken_over : (past : List Entry) (r : Entry) → Follow prog_of past → IsTakenOver past r → Reached (prog_of r.key) r.told (Ret r.value)
  taken_over past r was st =
      let had = ran st.had st.had.mark refl st.no_input (all_in (λ r. FollowsBy prog_of r r.mark) past st.had was st.there) in
      subst (λ (v : Value). Reached (prog_of r.key) r.told (Ret v)) st.again.value
      (subst (λ (ts : List Told). Reached (prog_of r.key) ts (Ret st.had.value)) st.again.told
      (subst (λ (k : Key). Reached (prog_of k) st.had.told (Ret st.had.value)) st.again.key had))

  follows_by : (past front : List Entry) (r : Entry) (m : Mark) → Follow prog_of past → PassesBy past front r m → AllByRecursion (IsRunOf prog_of) (run_by m r) → FollowsBy prog_of r m
  follows_by past front r Input was p q = tt
  follows_by past front r Green was p q = taken_over past r was p.1
  follows_by past front r Executed was p q = q.0

  follows : (past front rest : List Entry) → Follow prog_of past → Passes past front rest → AllByRecursion (IsRunOf prog_of) (runs_of rest) → Follow prog_of rest
  follows past front [] was p q = tt
  follows past front (r ∷ rest) was p q =
      let s = all_split (IsRunOf prog_of) (run_by r.mark r) (runs_of rest) q in
      (follows_by past front r r.mark was p.1 s.0, follows past (front ++ r ∷ []) rest was p.2 s.1)

-- ---- so each is fresh after fresh ones

module _ (prog_of : Key → Prog) (inputs : Inputs) where
  abbrev AreFresh : List Entry → Type 0
  AreFresh front = (k : Key) (v : Value) → Holds front k v → ComesTo prog_of inputs k v

  run_fresh : (front : List Entry) (r : Entry) → AreFresh front → AreHeld front r.told → inputs r.key ≡ None → Reached (prog_of r.key) r.told (Ret r.value) → ComesTo prog_of inputs r.key r.value
  run_fresh front r fresh held none run =
      query r.key r.value none (reached_fresh prog_of inputs (prog_of r.key) r.told (Ret r.value) r.value run
      (all_map (λ t. Holds front t.key t.value) (λ t. ComesTo prog_of inputs t.key t.value) (λ t. fresh t.key t.value) r.told held) (ret r.value))

  fresh_by : (past front : List Entry) (r : Entry) (m : Mark) → AreFresh front → PassesBy past front r m → FollowsBy prog_of r m → AgreesBy inputs r m → ComesTo prog_of inputs r.key r.value
  fresh_by past front r Input fresh p f a = input r.key r.value a
  fresh_by past front r Green fresh p f a = run_fresh front r fresh p.0 a f
  fresh_by past front r Executed fresh p f a = run_fresh front r fresh p a f

  fresh_more : (front : List Entry) (r : Entry) → AreFresh front → ComesTo prog_of inputs r.key r.value → AreFresh (front ++ r ∷ [])
  fresh_more front r fresh is k v h = elim (in_last front r h.entry h.there) [
    | inl before ↦ fresh k v (record { entry = h.entry; there = before; key = h.key; value = h.value })
    | inr same ↦ subst (λ (x : Entry). x.key ≡ k → x.value ≡ v → ComesTo prog_of inputs k v) same
        (λ a b. subst (λ (w : Value). ComesTo prog_of inputs k w) b (subst (λ (q : Key). ComesTo prog_of inputs q r.value) a is)) h.key h.value
  ]

  fresh_all : (past front rest : List Entry) → AreFresh front → Passes past front rest → Follow prog_of rest → Agree inputs rest → AreFresh (front ++ rest)
  fresh_all past front [] fresh p f a = subst AreFresh (sym (append-nil front)) fresh
  fresh_all past front (r ∷ rest) fresh p f a =
      subst AreFresh (append_assoc front (r ∷ []) rest) (fresh_all past (front ++ r ∷ []) rest
      (fresh_more front r fresh (fresh_by past front r r.mark fresh p.1 f.0 a.0)) p.2 f.1 a.1)

nothing_fresh : (prog_of : Key → Prog) (inputs : Inputs) (k : Key) (v : Value) → Holds [] k v → ComesTo prog_of inputs k v
nothing_fresh prog_of inputs k v h = absurd h.there

-- ---- chains

record IsLast (prog_of : Key → Prog) (session : Session) : Type 0 where
  pub past : List Entry
  pub passes : Passes past [] session
  pub follow : Follow prog_of session

last : (prog_of : Key → Prog) (past s : Session) (ss : List Session) → Passes past [] s → Follow prog_of s → ArePassed s ss → AllByRecursion (IsRunOf prog_of) (runs_in ss) → IsLast prog_of (last_from s ss)
last prog_of past s [] p f c q = record { past = past; passes = p; follow = f }
last prog_of past s (t ∷ ss) p f c q =
    let r = all_split (IsRunOf prog_of) (runs_of t) (runs_in ss) q in
    last prog_of s t ss c.0 (follows prog_of s [] t f c.0 r.0) c.1 r.1

pub fresh : (prog_of : Key → Prog) (chain : List Session) → ArePassed [] chain → AllByRecursion (IsRunOf prog_of) (runs_in chain) → IsFresh prog_of (last_of chain)
fresh prog_of chain c q =
    let l : IsLast prog_of (last_of chain) = last prog_of [] [] chain tt tt c q in
    let comes = λ (inputs : Inputs) (a : Agree inputs (last_of chain)). fresh_all prog_of inputs l.past [] (last_of chain) (nothing_fresh prog_of inputs) l.passes l.follow a in
    record {
      value = comes;
      alone = λ inputs a k v h w d. one prog_of inputs k v w (comes inputs a k v h) d;
    }

-- ---- the inputs of a session agree with it

skipped : (b : Bool) (x y : Option Value) → b ≡ false → cond b x y ≡ y
skipped true x y e = absurd cc
skipped false x y e = refl

taken : (b : Bool) (x y : Option Value) → b ≡ true → cond b x y ≡ x
taken true x y e = refl
taken false x y e = absurd cc

unlike : (b : Bool) → (b ≡ true → ⊥) → b ≡ false
unlike true h = absurd (h refl)
unlike false h = refl

-- the first entry with a key decides
behind : (front rest : List Entry) (r : Entry) → IsNew front r.key → inputs_of (front ++ r ∷ rest) r.key ≡ input_by r.mark r.value
behind [] rest r n = taken (bytes_eq r.key r.key) (input_by r.mark r.value) (inputs_of rest r.key) ((bytes_eq-Decides r.key r.key).1 refl)
behind (x ∷ front) rest r n =
    skipped (bytes_eq x.key r.key) (input_by x.mark x.value) (inputs_of (front ++ r ∷ rest) r.key)
    (unlike (bytes_eq x.key r.key) (λ e. n.0 ((bytes_eq-Decides x.key r.key).0 e))) ∙ behind front rest r n.1

agrees_by : (inputs : Inputs) (r : Entry) (m : Mark) → inputs r.key ≡ input_by m r.value → AgreesBy inputs r m
agrees_by inputs r Input e = e
agrees_by inputs r Green e = e
agrees_by inputs r Executed e = e

agree_from : (past front rest : List Entry) (inputs : Inputs) → ((k : Key) → inputs k ≡ inputs_of (front ++ rest) k) → Passes past front rest → Agree inputs rest
agree_from past front [] inputs e p = tt
agree_from past front (r ∷ rest) inputs e p = (
  agrees_by inputs r r.mark (e r.key ∙ behind front rest r p.0),
  agree_from past (front ++ r ∷ []) rest inputs (λ k. e k ∙ ap (λ (xs : List Entry). inputs_of xs k) (sym (append_assoc front (r ∷ []) rest))) p.2,
)

agree_last : (past s : Session) (ss : List Session) → Passes past [] s → ArePassed s ss → Agree (inputs_of (last_from s ss)) (last_from s ss)
agree_last past s [] p c = agree_from past [] s (inputs_of s) (λ k. refl) p
agree_last past s (t ∷ ss) p c = agree_last s t ss c.0 c.1

pub agree : (chain : List Session) → ArePassed [] chain → Agree (inputs_of (last_of chain)) (last_of chain)
agree chain c = agree_last [] [] chain tt c
