-- What a run of a program has read when it stands at a place.
use Rattle.std.proofs.Common.{◌≡◌, inl, inr, suc, ◌<◌, ◌≤◌, true, false, List, [], ◌∷◌, ◌++◌, length, length-append, take, sym, ◌∙◌, ap, subst, refl, arith, append_assoc, if◌then◌else◌}
use Rattle.std.specs.List.{AllByRecursion}
use Rattle.std.proofs.lemmas.List.{take-append-le, take_all, append-nil}
use Rattle.std.proofs.Math.Nat.{eq-or-lt_of_le}
use Rattle.item_ids.specs.declared.key.Key.{Key}
use Rattle.item_ids.specs.Inputs.{rank}
use Rattle.item_ids.specs.KeyLists.{AreLower}
use Rattle.result_bytes.specs.declared.value.Value.{Value}
use Rattle.named_files.specs.Projects.{IsProject}
use Rattle.recorder.specs.Projects.{Project}
use Rattle.recorder.specs.Backed.{Meaning, ReadLists, ReadValue, keys, Gives, GivesEach, BeginsWith, Asked, IsNext, Backed, is_seen}
use Rattle.recorder.specs.Recording.{IsUnread}
use Rattle.recorder.specs.Programs.{Prog, Ret, Ask, runs, asks, Fits, Reached, Start, Again, First}
use Rattle.item_ids.proofs.Lists.{all_push}
use Rattle.recorder.proofs.Recorded.{all_at}
use Rattle.recorder.proofs.Seen.{seen_told, unseen_unread}

all_before : {X : Type 0} (P : X → Type 0) (xs : List X) (x : X) → AllByRecursion P (xs ++ x ∷ []) → AllByRecursion P xs × P x
all_before P [] x h = (tt, h.0)
all_before P (y ∷ ys) x h = let r = all_before P ys x h.1 in ((h.0, r.0), r.1)

keys_last : (xs : List ReadValue) (t : ReadValue) → keys (xs ++ t ∷ []) ≡ keys xs ++ t.key ∷ []
keys_last [] t = refl
keys_last (x ∷ xs) t = ap (λ ks. x.key ∷ ks) (keys_last xs t)

pub asks_seen : (k : Key) (f : Value → Prog) (m : Key → Value) (seen : List Key) → is_seen seen k ≡ true → asks (Ask k f) m seen ≡ asks (f (m k)) m seen
unfolding asks
asks_seen k f m seen e = ap (λ b. if b then asks (f (m k)) m seen else k ∷ asks (f (m k)) m (seen ++ k ∷ [])) e

pub asks_new : (k : Key) (f : Value → Prog) (m : Key → Value) (seen : List Key) → is_seen seen k ≡ false → asks (Ask k f) m seen ≡ k ∷ asks (f (m k)) m (seen ++ k ∷ [])
unfolding asks
asks_new k f m seen e = ap (λ b. if b then asks (f (m k)) m seen else k ∷ asks (f (m k)) m (seen ++ k ∷ [])) e

reached_runs : (prog : Prog) (m : Key → Value) (told : List ReadValue) (p : Prog) → Reached prog told p → GivesEach m told → runs prog m ≡ runs p m
unfolding runs
reached_runs prog m _ _ Start g = refl
reached_runs prog m _ _ (Again told k f v h c) g =
    reached_runs prog m told (Ask k f) h g ∙ ap (λ w. runs (f w) m) (all_at (λ t. m t.key ≡ t.value) told (record { key = k; value = v }) c g)
reached_runs prog m _ _ (First told k f v h u) g =
    let b = all_before (λ t. m t.key ≡ t.value) told (record { key = k; value = v }) g in
    reached_runs prog m told (Ask k f) h b.0 ∙ ap (λ w. runs (f w) m) b.1

reached_asks : (prog : Prog) (m : Key → Value) (told : List ReadValue) (p : Prog) → Reached prog told p → GivesEach m told → asks prog m [] ≡ keys told ++ asks p m (keys told)
reached_asks prog m _ _ Start g = refl
reached_asks prog m _ _ (Again told k f v h c) g =
    let t : ReadValue = record { key = k; value = v } in
    reached_asks prog m told (Ask k f) h g
    ∙ ap (λ l. keys told ++ l) (asks_seen k f m (keys told) (seen_told told t c) ∙ ap (λ w. asks (f w) m (keys told)) (all_at (λ t. m t.key ≡ t.value) told t c g))
reached_asks prog m _ _ (First told k f v h u) g =
    let t : ReadValue = record { key = k; value = v } in
    let b = all_before (λ t. m t.key ≡ t.value) told t g in
    reached_asks prog m told (Ask k f) h b.0
    ∙ ap (λ l. keys told ++ l) (asks_new k f m (keys told) (unseen_unread told k u) ∙ ap (λ w. k ∷ asks (f w) m (keys told ++ k ∷ [])) b.1)
    ∙ sym (append_assoc (keys told) (k ∷ []) (asks (f v) m (keys told ++ k ∷ [])))
    ∙ ap (λ ks. ks ++ asks (f v) m ks) (sym (keys_last told t))

pub reached_lower : (prog : Prog) (q : Key) → Fits q prog → (told : List ReadValue) (p : Prog) → Reached prog told p → AreLower q (keys told) × Fits q p
unfolding Fits
reached_lower prog q r _ _ Start = (tt, r)
reached_lower prog q r _ _ (Again told k f v h c) = let i = reached_lower prog q r told (Ask k f) h in (i.0, i.1.1 v)
reached_lower prog q r _ _ (First told k f v h u) =
    let i = reached_lower prog q r told (Ask k f) h in
    (subst (AreLower q) (sym (keys_last told (record { key = k; value = v }))) (all_push (λ l. rank l < rank q) (keys told) k i.0 i.1.0), i.1.1 v)

module _ (mean : Meaning) (reads : ReadLists) (q : Key) where
  asked_more : (told : List ReadValue) (t : ReadValue) → Asked mean reads q told → IsNext mean reads q told t.key → Asked mean reads q (told ++ t ∷ [])
  asked_more told t a n i h p g =
      let long : i ≤ length told = omega (arith, length-append told (t ∷ [])) in
      elim (eq-or-lt_of_le long) [
        | inl e ↦
            let e1 : take i (told ++ t ∷ []) ≡ told = take-append-le i told (t ∷ []) long ∙ take_all i told (omega arith) in
            let e2 : take (suc i) (told ++ t ∷ []) ≡ told ++ t ∷ [] = take_all (suc i) (told ++ t ∷ []) (omega (arith, length-append told (t ∷ []))) in
            subst (λ ks. BeginsWith ks (reads p q)) (sym (ap keys e2 ∙ keys_last told t)) (n p (subst (Gives mean p) e1 g))
        | inr l ↦
            let e1 : take i (told ++ t ∷ []) ≡ take i told = take-append-le i told (t ∷ []) long in
            let e2 : take (suc i) (told ++ t ∷ []) ≡ take (suc i) told = take-append-le (suc i) told (t ∷ []) (omega arith) in
            subst (λ ks. BeginsWith ks (reads p q)) (sym (ap keys e2)) (a i l p (subst (Gives mean p) e1 g))
      ]

module _ (mean : Meaning) (reads : ReadLists) (q : Key) (prog : Prog) (tie : (p : Project) → IsProject p → reads p q ≡ asks prog (mean p) []) where
  pub reached_next : (told : List ReadValue) (k : Key) (f : Value → Prog) → Reached prog told (Ask k f) → IsUnread k told → IsNext mean reads q told k
  reached_next told k f h u p g =
      let rest = asks (f (mean p k)) (mean p) (keys told ++ k ∷ []) in (
        rest,
        append_assoc (keys told) (k ∷ []) rest
            ∙ ap (λ l. keys told ++ l) (sym (asks_new k f (mean p) (keys told) (unseen_unread told k u)))
            ∙ sym (reached_asks prog (mean p) told (Ask k f) h g.each)
            ∙ sym (tie p g.project),
      )

  pub reached_asked : (told : List ReadValue) (p : Prog) → Reached prog told p → Asked mean reads q told
  reached_asked _ _ Start = λ i l. absurd (omega (arith, l))
  reached_asked _ _ (Again told k f v h c) = reached_asked told (Ask k f) h
  reached_asked _ _ (First told k f v h u) =
      asked_more mean reads q told (record { key = k; value = v }) (reached_asked told (Ask k f) h) (reached_next told k f h u)

  pub reached_backed : ((p : Project) → IsProject p → mean p q ≡ runs prog (mean p)) → (told : List ReadValue) (v : Value) → Reached prog told (Ret v) → Backed mean reads q told v
  unfolding asks runs
  reached_backed means told v h = record {
    asked = reached_asked told (Ret v) h;
    whole = λ p g. tie p g.project ∙ reached_asks prog (mean p) told (Ret v) h g.each ∙ append-nil (keys told);
    means = λ p g. means p g.project ∙ reached_runs prog (mean p) told (Ret v) h g.each;
  }
