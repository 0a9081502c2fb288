-- Legal histories are sound.
use Rattle.std.proofs.Common.{◌≡◌, ◌≢◌, inl, inr, ◌⊎◌, ℕ, ◌+◌, ◌<◌, Bool, true, false, cond, List, [], ◌∷◌, ◌++◌, length, take, get_or, slice_get, Some, None, refl, sym, ◌∙◌, ap, subst, append_assoc, arith}
use Rattle.std.specs.List.{AllByRecursion}
use Rattle.std.specs.Str.{bytes_eq}
use Rattle.std.proofs.lemmas.List.{append-nil, take_more, take_all}
use Rattle.std.proofs.lemmas.Option.{slice_get_within, get_or_from_slice_get}
use Rattle.std.proofs.lemmas.Slice.Eq.{bytes_eq-Decides}
use Rattle.redgreen_rules.specs.Programs.{Key}
use Rattle.redgreen_rules.specs.Runs.{Told, IsIn, Run}
use Rattle.redgreen_rules.specs.Sessions.{Entry, Holds, AreHeld, IsNew, PassesBy, AgreesBy, run_by, runs_of}
use Rattle.redgreen_rules.proofs.Growing.{grows}
use Rattle.redgreen_table.specs.Histories.{Status, Unknown, Claimed, Marking, Running, Finished, Broken, State, Setting, Event, Claims, Takes, Marks, Same, Differs, Keeps, Starts, Reads, Waits, Gives, Fails, input_of, green_of, executed_of, put, changed, finished, after, MayStep, Legal, none, more, IsMarked, Fits, Sound}

-- ---- lists

all_push : {A : Type 0} (P : A → Type 0) (xs ys : List A) → AllByRecursion P xs → AllByRecursion P ys → AllByRecursion P (xs ++ ys)
all_push P [] ys h k = k
all_push P (x ∷ xs) ys h k = (h.0, all_push P xs ys h.1 k)

in_front : {A : Type 0} (xs ys : List A) (x : A) → IsIn xs x → IsIn (xs ++ ys) x
in_front [] ys x h = elim h [ ]
in_front (z ∷ xs) ys x (inl e) = inl e
in_front (z ∷ xs) ys x (inr h) = inr (in_front xs ys x h)

held_more : (xs ys : List Entry) (told : List Told) → AreHeld xs told → AreHeld (xs ++ ys) told
held_more xs ys [] h = tt
held_more xs ys (t ∷ ts) h = (record { entry = h.0.entry; there = in_front xs ys h.0.entry h.0.there; key = h.0.key; value = h.0.value }, held_more xs ys ts h.1)

runs_more : (xs : List Entry) (r : Entry) → runs_of (xs ++ r ∷ []) ≡ runs_of xs ++ run_by r.mark r
runs_more [] r = append-nil (run_by r.mark r)
runs_more (x ∷ xs) r = ap (λ (rs : List Run). run_by x.mark x ++ rs) (runs_more xs r) ∙ sym (append_assoc (run_by x.mark x) (runs_of xs) (run_by r.mark r))

-- ---- states

either : (b : Bool) → (b ≡ true) ⊎ (b ≡ false)
either true = inl refl
either false = inr refl

then_is : {A : Type 0} (b : Bool) (x y : A) → b ≡ true → cond b x y ≡ x
then_is true x y e = refl
then_is false x y e = absurd cc

else_is : {A : Type 0} (b : Bool) (x y : A) → b ≡ false → cond b x y ≡ y
else_is true x y e = absurd cc
else_is false x y e = refl

unlike : (a b : List ℕ) → bytes_eq a b ≡ false → a ≢ b
unlike a b no_eq e = let yes : bytes_eq a b ≡ true = (bytes_eq-Decides a b).1 e in let both : true ≡ false = sym yes ∙ no_eq in cc

module _ (over : Setting) where
  new_of : (done : List Entry) (k : Key) (st : Status) → st ≢ Finished → Fits over done k st → IsNew done k
  new_of done k Unknown isnt f = f
  new_of done k Claimed isnt f = f
  new_of done k (Marking had i) isnt f = f.new
  new_of done k (Running told) isnt f = f.new
  new_of done k Finished isnt f = absurd (isnt refl)
  new_of done k Broken isnt f = f

  grown : (done : List Entry) (r : Entry) (q : Key) (st : Status) → r.key ≢ q → Fits over done q st → Fits over (done ++ r ∷ []) q st
  grown done r q Unknown ne f = all_push (λ (x : Entry). x.key ≢ q) done (r ∷ []) f (ne, tt)
  grown done r q Claimed ne f = all_push (λ (x : Entry). x.key ≢ q) done (r ∷ []) f (ne, tt)
  grown done r q (Marking had i) ne f = record {
    new = all_push (λ (x : Entry). x.key ≢ q) done (r ∷ []) f.new (ne, tt);
    query = f.query;
    there = f.there;
    no_input = f.no_input;
    key = f.key;
    held = held_more done (r ∷ []) (take i had.told) f.held;
  }
  grown done r q (Running told) ne f = record {
    new = all_push (λ (x : Entry). x.key ≢ q) done (r ∷ []) f.new (ne, tt);
    query = f.query;
    held = held_more done (r ∷ []) told f.held;
  }
  grown done r q Finished ne f = tt
  grown done r q Broken ne f = all_push (λ (x : Entry). x.key ≢ q) done (r ∷ []) f (ne, tt)

  -- another state of one key
  put_fits : (done : List Entry) (status : Key → Status) (k : Key) (st : Status) → ((q : Key) → Fits over done q (status q)) → Fits over done k st → (q : Key) → Fits over done q (put status k st q)
  put_fits done status k st each here q = elim (either (bytes_eq k q)) [
    | inl equal ↦ subst (Fits over done q) (sym (then_is (bytes_eq k q) st (status q) equal)) (subst (λ (x : Key). Fits over done x st) ((bytes_eq-Decides k q).0 equal) here)
    | inr other ↦ subst (Fits over done q) (sym (else_is (bytes_eq k q) st (status q) other)) (each q)
  ]

  changes : (s : State) (k : Key) (st : Status) → Sound over s → Fits over s.done k st → Sound over (changed s k st)
  changes s k st h here = record { passes = h.passes; runs = h.runs; agree = h.agree; each = put_fits s.done s.status k st h.each here }

  -- one key more is done
  done_fits : (done : List Entry) (status : Key → Status) (r : Entry) → ((q : Key) → Fits over done q (status q)) → (q : Key) → Fits over (done ++ r ∷ []) q (put status r.key Finished q)
  done_fits done status r each q = elim (either (bytes_eq r.key q)) [
    | inl equal ↦ subst (Fits over (done ++ r ∷ []) q) (sym (then_is (bytes_eq r.key q) Finished (status q) equal)) tt
    | inr other ↦ subst (Fits over (done ++ r ∷ []) q) (sym (else_is (bytes_eq r.key q) Finished (status q) other)) (grown done r q (status q) (unlike r.key q other) (each q))
  ]

  finishes : (s : State) (r : Entry) → Sound over s → IsNew s.done r.key → PassesBy over.past s.done r r.mark → AllByRecursion (λ run. IsIn over.runs run) (run_by r.mark r) → AgreesBy over.inputs r r.mark → Sound over (finished s r)
  finishes s r h new passes runs agree = record {
    passes = grows over.past s.done r h.passes new passes;
    runs = subst (AllByRecursion (λ run. IsIn over.runs run)) (sym (runs_more s.done r)) (all_push (λ run. IsIn over.runs run) (runs_of s.done) (run_by r.mark r) h.runs runs);
    agree = all_push (λ (x : Entry). AgreesBy over.inputs x x.mark) s.done (r ∷ []) h.agree (agree, tt);
    each = done_fits s.done s.status r h.each;
  }

  at : (s : State) (k : Key) (st : Status) → Sound over s → s.status k ≡ st → Fits over s.done k st
  at s k st h e = subst (Fits over s.done k) e (h.each k)

  held_next : (done : List Entry) (told : List Told) (i : ℕ) (t : Told) → slice_get told i ≡ Some t → AreHeld done (take i told) → Holds done t.key t.value → AreHeld done (take (i + 1) told)
  held_next done told i t e h here =
      let l : i < length told = slice_get_within told i t e in
      let is : get_or told i t ≡ t = get_or_from_slice_get told i t t e in
      subst (AreHeld done) (sym (take_more told i t l ∙ ap (λ (x : Told). take i told ++ x ∷ []) is)) (all_push (λ (x : Told). Holds done x.key x.value) (take i told) (t ∷ []) h (here, tt))

  keeps : (s : State) (k : Key) (had : Entry) → Sound over s → IsMarked over s.done k had (length had.told) → Sound over (finished s (green_of had))
  keeps s k had h m =
      finishes s (green_of had) h (subst (IsNew s.done) (sym m.key) m.new) (
        subst (AreHeld s.done) (take_all (length had.told) had.told (omega arith)) m.held,
        record { had = had; there = m.there; no_input = m.no_input; again = record { key = refl; told = refl; value = refl } },
      )
      tt (subst (λ (x : Key). over.inputs x ≡ None) (sym m.key) m.query)

  stepped : (s : State) (event : Event) → Sound over s → MayStep over s event → Sound over (after s event)
  stepped s (Claims k) h m = changes s k Claimed h (at s k Unknown h m)
  stepped s (Takes k v) h m = finishes s (input_of k v) h (at s k Claimed h m.0) refl tt m.1
  stepped s (Marks k had) h m = changes s k (Marking had 0) h (record { new = at s k Claimed h m.0; query = m.1; there = m.2; no_input = m.3; key = m.4; held = tt })
  stepped s (Same k had i t) h m =
      let f = at s k (Marking had i) h m.0 in
      changes s k (Marking had (i + 1)) h (record { new = f.new; query = f.query; there = f.there; no_input = f.no_input; key = f.key; held = held_next s.done had.told i t m.1 f.held m.2 })
  stepped s (Differs k had i t w) h m = let f = at s k (Marking had i) h m.0 in changes s k (Running []) h (record { new = f.new; query = f.query; held = tt })
  stepped s (Keeps k had) h m = keeps s k had h (at s k (Marking had (length had.told)) h m)
  stepped s (Starts k) h m = changes s k (Running []) h (record { new = at s k Claimed h m.0; query = m.1; held = tt })
  stepped s (Reads k told q v) h m =
      let f = at s k (Running told) h m.0 in
      changes s k (Running (told ++ record { key = q; value = v } ∷ [])) h
      (record { new = f.new; query = f.query; held = all_push (λ (x : Told). Holds s.done x.key x.value) told (record { key = q; value = v } ∷ []) f.held (m.1, tt) })
  stepped s (Waits k told q) h m = h
  stepped s (Gives k told v) h m =
      let f = at s k (Running told) h m.0 in
      finishes s (executed_of k told v) h f.new f.held (m.1, tt) f.query
  stepped s (Fails k told) h m = let f = at s k (Running told) h m.0 in changes s k Broken h f.new

  pub sound : (events : List Event) (s : State) → Legal over events s → Sound over s
  sound _ _ none = record { passes = tt; runs = tt; agree = tt; each = λ k. tt }
  sound _ _ (more events s event l m) = stepped s event (sound events s l) m
