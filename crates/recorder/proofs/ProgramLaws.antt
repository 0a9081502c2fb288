-- A runner whose values and reads are those of programs meets the laws of runners.
use Rattle.std.proofs.Common.{◌≡◌, ◌≢◌, ℕ, zero, suc, Bool, true, false, List, [], ◌∷◌, ◌++◌, take, sym, ◌∙◌, ap, subst, refl}
use Rattle.std.specs.List.{AllByRecursion}
use Rattle.item_ids.specs.declared.key.Key.{Key}
use Rattle.item_ids.specs.declared.key.Key.TheVariants.{Files, Source}
use Rattle.item_ids.specs.Inputs.{Origin, files, source, computed, origin}
use Rattle.item_ids.specs.KeyLists.{AreLower, NoneTwice}
use Rattle.result_bytes.specs.declared.value.Value.{Value}
use Rattle.result_bytes.specs.Values.{kind_of_value, IsOfKind}
use Rattle.named_files.specs.Projects.{IsProject}
use Rattle.recorder.specs.Projects.{Project}
use Rattle.recorder.specs.Backed.{Meaning, ReadLists, Alike, NextAlike, ValueAlike, ReadLaws, RunnerLaws, is_seen}
use Rattle.recorder.specs.Programs.{Prog, Ret, Ask, runs, asks, Fits, Tied}
use Rattle.item_ids.proofs.Lists.{all_push, all_map}
use Rattle.recorder.proofs.Seen.{seen_alike, unseen_last}
use Rattle.recorder.proofs.Reach.{asks_seen, asks_new}

runs_kind : (q : Key) (p : Prog) (m : Key → Value) → Fits q p → IsOfKind q (runs p m)
unfolding runs Fits
runs_kind q (Ret v) m h = h
runs_kind q (Ask k f) m h = runs_kind q (f (m k)) m (h.1 (m k))

asks_lower : (q : Key) (p : Prog) (m : Key → Value) (seen : List Key) → Fits q p → AreLower q (asks p m seen)
unfolding asks Fits
asks_lower q (Ret v) m seen h = tt
asks_lower q (Ask k f) m seen h = go (asks_lower q (f (m k)) m seen (h.1 (m k))) (asks_lower q (f (m k)) m (seen ++ k ∷ []) (h.1 (m k))) (is_seen seen k) refl
  where
    go : AreLower q (asks (f (m k)) m seen) → AreLower q (asks (f (m k)) m (seen ++ k ∷ [])) → (b : Bool) → is_seen seen k ≡ b → AreLower q (asks (Ask k f) m seen)
    go i j true e = subst (AreLower q) (sym (asks_seen k f m seen e)) i
    go i j false e = subst (AreLower q) (sym (asks_new k f m seen e)) (h.0, j)

-- no key is asked that was seen
asks_unseen : (p : Prog) (m : Key → Value) (seen : List Key) → AllByRecursion (λ x. is_seen seen x ≡ false) (asks p m seen)
unfolding asks
asks_unseen (Ret v) m seen = tt
asks_unseen (Ask k f) m seen = go (asks_unseen (f (m k)) m seen) (asks_unseen (f (m k)) m (seen ++ k ∷ [])) (is_seen seen k) refl
  where
    U : List Key → List Key → Type 0
    U s = AllByRecursion (λ x. is_seen s x ≡ false)

    go : U seen (asks (f (m k)) m seen) → U (seen ++ k ∷ []) (asks (f (m k)) m (seen ++ k ∷ [])) → (b : Bool) → is_seen seen k ≡ b → U seen (asks (Ask k f) m seen)
    go i j true e = subst (U seen) (sym (asks_seen k f m seen e)) i
    go i j false e = subst (U seen) (sym (asks_new k f m seen e)) (e, all_map (λ x. is_seen (seen ++ k ∷ []) x ≡ false) (λ x. is_seen seen x ≡ false) (λ x h. (unseen_last seen k x h).0) (asks (f (m k)) m (seen ++ k ∷ [])) j)

asks_once : (p : Prog) (m : Key → Value) (seen : List Key) → NoneTwice (λ k. k) (asks p m seen)
unfolding asks
asks_once (Ret v) m seen = tt
asks_once (Ask k f) m seen = go (asks_once (f (m k)) m seen) (asks_once (f (m k)) m (seen ++ k ∷ [])) (is_seen seen k) refl
  where
    N : List Key → Type 0
    N = NoneTwice (λ k. k)

    go : N (asks (f (m k)) m seen) → N (asks (f (m k)) m (seen ++ k ∷ [])) → (b : Bool) → is_seen seen k ≡ b → N (asks (Ask k f) m seen)
    go i j true e = subst N (sym (asks_seen k f m seen e)) i
    go i j false e = subst N (sym (asks_new k f m seen e)) (all_map (λ x. is_seen (seen ++ k ∷ []) x ≡ false) (λ x. x ≢ k) (λ x h. (unseen_last seen k x h).1) (asks (f (m k)) m (seen ++ k ∷ [])) (asks_unseen (f (m k)) m (seen ++ k ∷ [])), j)

asks_next : (p : Prog) (m n : Key → Value) (seen : List Key) (i : ℕ) → Alike m n seen → Alike m n (take i (asks p m seen)) → take (suc i) (asks p m seen) ≡ take (suc i) (asks p n seen)
unfolding asks
asks_next (Ret v) m n seen i s a = refl
asks_next (Ask k f) m n seen i s a = go i (λ j. asks_next (f (m k)) m n seen j s) (λ j t. asks_next (f (m k)) m n (seen ++ k ∷ []) j t) (is_seen seen k) refl a
  where
    seen_both : is_seen seen k ≡ true → (j : ℕ) → take (suc j) (asks (f (m k)) m seen) ≡ take (suc j) (asks (f (m k)) n seen) → take (suc j) (asks (Ask k f) m seen) ≡ take (suc j) (asks (Ask k f) n seen)
    seen_both e j h =
        ap (take (suc j)) (asks_seen k f m seen e) ∙ h
        ∙ ap (λ v. take (suc j) (asks (f v) n seen)) (seen_alike m n seen k e s)
        ∙ ap (take (suc j)) (sym (asks_seen k f n seen e))

    new_both : is_seen seen k ≡ false → (j : ℕ) → take (suc j) (k ∷ asks (f (m k)) m (seen ++ k ∷ [])) ≡ take (suc j) (k ∷ asks (f (n k)) n (seen ++ k ∷ [])) → take (suc j) (asks (Ask k f) m seen) ≡ take (suc j) (asks (Ask k f) n seen)
    new_both e j h = ap (take (suc j)) (asks_new k f m seen e) ∙ h ∙ ap (take (suc j)) (sym (asks_new k f n seen e))

    go : (i : ℕ) → ((j : ℕ) → Alike m n (take j (asks (f (m k)) m seen)) → take (suc j) (asks (f (m k)) m seen) ≡ take (suc j) (asks (f (m k)) n seen))
        → ((j : ℕ) → Alike m n (seen ++ k ∷ []) → Alike m n (take j (asks (f (m k)) m (seen ++ k ∷ []))) → take (suc j) (asks (f (m k)) m (seen ++ k ∷ [])) ≡ take (suc j) (asks (f (m k)) n (seen ++ k ∷ [])))
        → (b : Bool) → is_seen seen k ≡ b → Alike m n (take i (asks (Ask k f) m seen)) → take (suc i) (asks (Ask k f) m seen) ≡ take (suc i) (asks (Ask k f) n seen)
    go i known new true e a = seen_both e i (known i (subst (λ l. Alike m n (take i l)) (asks_seen k f m seen e) a))
    go zero known new false e a = new_both e zero refl
    go (suc j) known new false e a =
        let b : Alike m n (k ∷ take j (asks (f (m k)) m (seen ++ k ∷ []))) = subst (λ l. Alike m n (take (suc j) l)) (asks_new k f m seen e) a in
        new_both e (suc j) (ap (λ l. k ∷ l) (new j (all_push (λ x. m x ≡ n x) seen k s b.0) b.1 ∙ ap (λ v. take (suc j) (asks (f v) n (seen ++ k ∷ []))) b.0))

asks_same : (p : Prog) (m n : Key → Value) (seen : List Key) → Alike m n seen → Alike m n (asks p m seen) → runs p m ≡ runs p n
unfolding asks runs
asks_same (Ret v) m n seen s a = refl
asks_same (Ask k f) m n seen s a = go (asks_same (f (m k)) m n seen s) (asks_same (f (m k)) m n (seen ++ k ∷ [])) (is_seen seen k) refl
  where
    next : m k ≡ n k → runs (f (m k)) m ≡ runs (f (m k)) n → runs (Ask k f) m ≡ runs (Ask k f) n
    next e h = h ∙ ap (λ v. runs (f v) n) e

    go : (Alike m n (asks (f (m k)) m seen) → runs (f (m k)) m ≡ runs (f (m k)) n) → (Alike m n (seen ++ k ∷ []) → Alike m n (asks (f (m k)) m (seen ++ k ∷ [])) → runs (f (m k)) m ≡ runs (f (m k)) n)
        → (b : Bool) → is_seen seen k ≡ b → runs (Ask k f) m ≡ runs (Ask k f) n
    go i j true e = next (seen_alike m n seen k e s) (i (subst (Alike m n) (asks_seen k f m seen e) a))
    go i j false e =
        let b : Alike m n (k ∷ asks (f (m k)) m (seen ++ k ∷ [])) = subst (Alike m n) (asks_new k f m seen e) a in
        next b.0 (j (all_push (λ x. m x ≡ n x) seen k s b.0) b.1)

-- ---- the laws

module _ (prog_of other : Key → Prog) (m n : Meaning) (l k : ReadLists) (t : Tied prog_of m l) (u : Tied other n k) where
  next_law : (p r : Project) (q : Key) (i : ℕ) → prog_of q ≡ other q → Origin q → NextAlike m l n k p r q i
  next_law p r _ i e files h g a = ap (take (suc i)) ((t.inputs p h).no_reads Files refl ∙ sym ((u.inputs r g).no_reads Files refl))
  next_law p r _ i e (source file) h g a = ap (take (suc i)) ((t.inputs p h).no_reads (Source file) refl ∙ sym ((u.inputs r g).no_reads (Source file) refl))
  next_law p r _ i e (computed q is) h g a =
      ap (take (suc i)) ((t.each q is.above).asked p h)
      ∙ asks_next (prog_of q) (m p) (n r) [] i tt (subst (λ ks. Alike (m p) (n r) (take i ks)) ((t.each q is.above).asked p h) a)
      ∙ ap (λ x. take (suc i) (asks x (n r) [])) e
      ∙ ap (take (suc i)) (sym ((u.each q is.above).asked r g))

  same_law : (p r : Project) (q : Key) → prog_of q ≡ other q → ValueAlike m l n k p r q
  same_law p r q e h g above a =
      (t.each q above).means p h
      ∙ asks_same (prog_of q) (m p) (n r) [] tt (subst (Alike (m p) (n r)) ((t.each q above).asked p h) a)
      ∙ ap (λ x. runs x (n r)) e
      ∙ sym ((u.each q above).means r g)

module _ (prog_of : Key → Prog) (mean : Meaning) (reads : ReadLists) (t : Tied prog_of mean reads) where
  kind_law : (p : Project) (q : Key) → IsProject p → Origin q → IsOfKind q (mean p q)
  kind_law p _ h files = ap kind_of_value (t.inputs p h).files
  kind_law p _ h (source file) = ap kind_of_value ((t.inputs p h).source file)
  kind_law p _ h (computed q is) = subst (IsOfKind q) (sym ((t.each q is.above).means p h)) (runs_kind q (prog_of q) (mean p) (t.each q is.above).fits)

  lower_law : (p : Project) (q : Key) → IsProject p → Origin q → AreLower q (reads p q)
  lower_law p _ h files = subst (AreLower Files) (sym ((t.inputs p h).no_reads Files refl)) tt
  lower_law p _ h (source file) = subst (AreLower (Source file)) (sym ((t.inputs p h).no_reads (Source file) refl)) tt
  lower_law p _ h (computed q is) = subst (AreLower q) (sym ((t.each q is.above).asked p h)) (asks_lower q (prog_of q) (mean p) [] (t.each q is.above).fits)

  once_law : (p : Project) (q : Key) → IsProject p → Origin q → NoneTwice (λ k. k) (reads p q)
  once_law p _ h files = subst (NoneTwice (λ k. k)) (sym ((t.inputs p h).no_reads Files refl)) tt
  once_law p _ h (source file) = subst (NoneTwice (λ k. k)) (sym ((t.inputs p h).no_reads (Source file) refl)) tt
  once_law p _ h (computed q is) = subst (NoneTwice (λ k. k)) (sym ((t.each q is.above).asked p h)) (asks_once (prog_of q) (mean p) [])

  pub program_laws : RunnerLaws mean reads
  program_laws = record {
    inputs = t.inputs;
    keys = λ p h. record {
      kind = λ q. kind_law p q h (origin q);
      lower = λ q. lower_law p q h (origin q);
      once = λ q. once_law p q h (origin q);
    };
    next = λ p r q i. next_law prog_of prog_of mean mean reads reads t t p r q i refl (origin q);
    same = λ p r q. same_law prog_of prog_of mean mean reads reads t t p r q refl;
  }

-- two pairs whose program of a key is the same keep to the laws of reads at this key
pub programs_alike : (prog_of other : Key → Prog) (m : Meaning) (l : ReadLists) (n : Meaning) (k : ReadLists) → Tied prog_of m l → Tied other n k → (q : Key) → prog_of q ≡ other q → ReadLaws m l n k q
programs_alike prog_of other m l n k t u q e = record {
  next = λ p r i. next_law prog_of other m n l k t u p r q i e (origin q);
  same = λ p r. same_law prog_of other m n l k t u p r q e;
}
