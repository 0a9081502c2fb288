-- Runs of a program when all keys are answered.
use Rattle.std.proofs.Common.{◌≡◌, Bool, true, false, List, [], ◌∷◌, ◌++◌, map, Contains, refl, sym, ap, subst, ◌∙◌, append_assoc, if◌then◌else◌}
use Rattle.std.specs.List.{AllByRecursion}
use Rattle.std.specs.Ordering.{is_eq}
use Rattle.std.proofs.lemmas.List.{append-nil}
use Rattle.std.proofs.lemmas.List.Elements.{Contains-append_left, Contains-append_right, Contains-push}
use Rattle.item_ids.specs.declared.key.Key.{Key}
use Rattle.item_ids.specs.Keys.{key_cmp}
use Rattle.item_ids.specs.KeyLists.{NoneTwice}
use Rattle.item_ids.proofs.Apart.{test_same, test_itself}
use Rattle.item_ids.proofs.Lists.{all_push, once_push}
use Rattle.result_bytes.specs.declared.value.Value.{Value}
use Rattle.recorder.specs.Backed.{ReadValue, GivesEach, keys, is_seen}
use Rattle.recorder.specs.Recording.{IsUnread}
use Rattle.recorder.specs.Programs.{Prog, Ret, Ask, runs, asks, Reached, Start, Again, First}
use Rattle.recorder.proofs.Recorded.{all_at}
use Rattle.recorder.proofs.Seen.{seen_told, unseen_unread}
use Rattle.recorder.proofs.Reach.{asks_seen, asks_new}

differs : false ≡ true → ⊥
differs e = cc

abbrev pub read_by : (Key → Value) → Key → ReadValue
read_by m k = record { key = k; value = m k }

-- ---- what was read when a run stands at a place

pub all_before : {X : Type 0} (P : X → Type 0) (xs : List X) (x : X) → AllByRecursion P (xs ++ x ∷ []) → AllByRecursion P xs × P x
all_before P [] x h = (tt, h.0)
all_before P (y ∷ ys) x h = let r = all_before P ys x h.1 in ((h.0, r.0), r.1)

keys_last : (xs : List ReadValue) (t : ReadValue) → keys (xs ++ t ∷ []) ≡ keys xs ++ t.key ∷ []
keys_last [] t = refl
keys_last (x ∷ xs) t = ap (λ ks. x.key ∷ ks) (keys_last xs t)

pub reached_runs : (prog : Prog) (m : Key → Value) (told : List ReadValue) (p : Prog) → Reached prog told p → GivesEach m told → runs prog m ≡ runs p m
unfolding runs
reached_runs prog m _ _ Start g = refl
reached_runs prog m _ _ (Again told k f v h c) g =
    reached_runs prog m told (Ask k f) h g ∙ ap (λ w. runs (f w) m) (all_at (λ t. m t.key ≡ t.value) told (record { key = k; value = v }) c g)
reached_runs prog m _ _ (First told k f v h u) g =
    let b = all_before (λ t. m t.key ≡ t.value) told (record { key = k; value = v }) g in
    reached_runs prog m told (Ask k f) h b.0 ∙ ap (λ w. runs (f w) m) b.1

pub reached_asks : (prog : Prog) (m : Key → Value) (told : List ReadValue) (p : Prog) → Reached prog told p → GivesEach m told → asks prog m [] ≡ keys told ++ asks p m (keys told)
reached_asks prog m _ _ Start g = refl
reached_asks prog m _ _ (Again told k f v h c) g =
    let t : ReadValue = record { key = k; value = v } in
    reached_asks prog m told (Ask k f) h g
    ∙ ap (λ l. keys told ++ l) (asks_seen k f m (keys told) (seen_told told t c) ∙ ap (λ w. asks (f w) m (keys told)) (all_at (λ t. m t.key ≡ t.value) told t c g))
reached_asks prog m _ _ (First told k f v h u) g =
    let t : ReadValue = record { key = k; value = v } in
    let b = all_before (λ t. m t.key ≡ t.value) told t g in
    reached_asks prog m told (Ask k f) h b.0
    ∙ ap (λ l. keys told ++ l) (asks_new k f m (keys told) (unseen_unread told k u) ∙ ap (λ w. k ∷ asks (f w) m (keys told ++ k ∷ [])) b.1)
    ∙ sym (append_assoc (keys told) (k ∷ []) (asks (f v) m (keys told ++ k ∷ [])))
    ∙ ap (λ ks. ks ++ asks (f v) m ks) (sym (keys_last told t))

-- no key was read twice
pub reached_once : (prog : Prog) (told : List ReadValue) (p : Prog) → Reached prog told p → NoneTwice (λ (t : ReadValue). t.key) told
reached_once prog _ _ Start = tt
reached_once prog _ _ (Again told k f v h c) = reached_once prog told (Ask k f) h
reached_once prog _ _ (First told k f v h u) = once_push (λ (t : ReadValue). t.key) told (record { key = k; value = v }) (reached_once prog told (Ask k f) h) u

-- ---- a run with the answers of m

told_seen : (m : Key → Value) (told : List ReadValue) (k : Key) → GivesEach m told → is_seen (keys told) k ≡ true → Contains told (read_by m k)
told_seen m [] k g e = absurd (differs e)
told_seen m (t ∷ ts) k g e = go (told_seen m ts k g.1) (is_eq (key_cmp t.key k)) refl e
  where
    here : t.key ≡ k → t ≡ read_by m k
    here same = ap (λ (v : Value). record { key = t.key; value = v }) (sym g.0) ∙ ap (read_by m) same

    go : (is_seen (keys ts) k ≡ true → Contains ts (read_by m k)) → (b : Bool) → is_eq (key_cmp t.key k) ≡ b → (if b then true else is_seen (keys ts) k) ≡ true → Contains (t ∷ ts) (read_by m k)
    go ih true h _ = subst (Contains (t ∷ ts)) (here (test_same t.key k h)) (Contains-append_left (t ∷ []) ts t (Contains-push [] t))
    go ih false h f = Contains-append_right (t ∷ []) ts (read_by m k) (ih f)

unread_unseen : (told : List ReadValue) (k : Key) → is_seen (keys told) k ≡ false → IsUnread k told
unread_unseen [] k e = tt
unread_unseen (t ∷ ts) k e = go (unread_unseen ts k) (is_eq (key_cmp t.key k)) refl e
  where
    go : (is_seen (keys ts) k ≡ false → IsUnread k ts) → (b : Bool) → is_eq (key_cmp t.key k) ≡ b → (if b then true else is_seen (keys ts) k) ≡ false → IsUnread k (t ∷ ts)
    go ih true h f = absurd (differs (sym f))
    go ih false h f = ((λ same. differs (sym h ∙ test_itself t.key k same)), ih f)

-- from each place it goes on to its end
pub goes_on : (prog : Prog) (m : Key → Value) (told : List ReadValue) (p : Prog) → Reached prog told p → GivesEach m told
    → Reached prog (told ++ map (read_by m) (asks p m (keys told))) (Ret (runs p m))
unfolding runs asks
goes_on prog m told (Ret v) h g = subst (λ (ts : List ReadValue). Reached prog ts (Ret v)) (sym (append-nil told)) h
goes_on prog m told (Ask k f) h g = go (λ r. goes_on prog m told (f (m k)) r g) (λ r. goes_on prog m (told ++ read_by m k ∷ []) (f (m k)) r (all_push (λ (t : ReadValue). m t.key ≡ t.value) told (read_by m k) g refl)) (is_seen (keys told) k) refl
  where
    Ends : List ReadValue → Type 0
    Ends ts = Reached prog ts (Ret (runs (f (m k)) m))

    after : List ReadValue
    after = told ++ read_by m k ∷ []

    after_it : is_seen (keys told) k ≡ false → after ++ map (read_by m) (asks (f (m k)) m (keys after)) ≡ told ++ map (read_by m) (asks (Ask k f) m (keys told))
    after_it e =
        append_assoc told (read_by m k ∷ []) (map (read_by m) (asks (f (m k)) m (keys after)))
        ∙ ap (λ (ks : List Key). told ++ (read_by m k ∷ map (read_by m) (asks (f (m k)) m ks))) (keys_last told (read_by m k))
        ∙ ap (λ (ks : List Key). told ++ map (read_by m) ks) (sym (asks_new k f m (keys told) e))

    go : (Reached prog told (f (m k)) → Ends (told ++ map (read_by m) (asks (f (m k)) m (keys told))))
        → (Reached prog after (f (m k)) → Ends (after ++ map (read_by m) (asks (f (m k)) m (keys after))))
        → (b : Bool) → is_seen (keys told) k ≡ b → Ends (told ++ map (read_by m) (asks (Ask k f) m (keys told)))
    go old new true e =
        subst (λ (ks : List Key). Ends (told ++ map (read_by m) ks)) (sym (asks_seen k f m (keys told) e))
        (old (Again told k f (m k) h (told_seen m told k g e)))
    go old new false e =
        subst Ends (after_it e)
        (new (First told k f (m k) h (unread_unseen told k e)))
