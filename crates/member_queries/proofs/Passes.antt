-- What a program comes to if each query has its value: the keys that it asks, one after the other,
-- and its result.
use Rattle.std.proofs.Common.{◌≡◌, List, [], ◌∷◌, ◌++◌, map, refl, sym, ap, ap₂, ◌∙◌, if◌then◌else◌}
use Rattle.std.specs.Prelude.{flat_map}
use Rattle.std.specs.List.{AllByRecursion}
use Rattle.item_ids.specs.declared.key.Key.{Key}
use Rattle.result_bytes.specs.declared.value.Value.{Value}
use Rattle.profiles.specs.declared.profile.Profile.{Profile}
use Rattle.recorder.specs.Projects.{Project}
use Rattle.recorder.specs.Programs.{Prog, Ret, Ask, runs, asks, Fits, each}
use Rattle.recorder.proofs.Rules.{fold_of}
use Rattle.recorder.specs.Backed.{is_seen}
use Rattle.query_rules.specs.Meaning.{mean}
use Rattle.query_rules.specs.Reads.{first_keys, reads}
use Rattle.query_rules.specs.Ties.{TiesIn}

-- asking these keys in turn, the first program comes to the second
pub data Passes (m : Key → Value) : Prog → List Key → Prog → Type 0 where
  Stays : (p : Prog) → Passes m p [] p
  Reads : (k : Key) (f : Value → Prog) (ks : List Key) (q : Prog) → Passes m (f (m k)) ks q → Passes m (Ask k f) (k ∷ ks) q

pub passes_runs : (m : Key → Value) (p : Prog) (ks : List Key) (q : Prog) → Passes m p ks q → runs p m ≡ runs q m
unfolding runs
passes_runs m p ks q (Stays _) = refl
passes_runs m p ks q (Reads k f rest _ w) = passes_runs m (f (m k)) rest q w

pub passes_asks : (m : Key → Value) (p : Prog) (ks : List Key) (q : Prog) → ((seen : List Key) → asks q m seen ≡ []) → Passes m p ks q → (seen : List Key) → asks p m seen ≡ first_keys seen ks
unfolding asks
passes_asks m p ks q h (Stays _) seen = h seen
passes_asks m p ks q h (Reads k f rest _ w) seen =
    ap₂ (λ (x y : List Key). if is_seen seen k then x else k ∷ y) (passes_asks m (f (m k)) rest q h w seen) (passes_asks m (f (m k)) rest q h w (seen ++ k ∷ []))

pub passes_then : (m : Key → Value) (p : Prog) (ks : List Key) (q : Prog) (ls : List Key) (r : Prog) → Passes m p ks q → Passes m q ls r → Passes m p (ks ++ ls) r
passes_then m p ks q ls r (Stays _) h = h
passes_then m p ks q ls r (Reads k f rest _ w) h = Reads k f (rest ++ ls) r (passes_then m (f (m k)) rest q ls r w h)

-- a step for each of a list
pub passes_each : {A S : Type 0} (m : Key → Value) (step : A → S → (S → Prog) → Prog) (asked : A → List Key) (next : A → S → S) (xs : List A)
    → AllByRecursion (λ (a : A). (s : S) (k : S → Prog) → Passes m (step a s k) (asked a) (k (next a s))) xs
    → (s : S) (k : S → Prog) → Passes m (each step xs s k) (flat_map asked xs) (k (fold_of next xs s))
unfolding each fold_of
passes_each m step asked next [] h s k = Stays (k s)
passes_each m step asked next (a ∷ rest) h s k =
    passes_then m (step a s (λ t. each step rest t k)) (asked a) (each step rest (next a s) k) (flat_map asked rest) (k (fold_of next rest (next a s)))
    (h.0 s (λ t. each step rest t k)) (passes_each m step asked next rest h.1 (next a s) k)

-- one key for each of a list
pub flat_one : {A B : Type 0} (f : A → B) (xs : List A) → flat_map (λ (x : A). f x ∷ []) xs ≡ map f xs
flat_one f [] = refl
flat_one f (x ∷ xs) = ap (λ ys. f x ∷ ys) (flat_one f xs)

-- a program that gives the value of its key, and asks what the key reads
pub ties_by : (profile : Profile) (q : Key) (prog : Prog) (asked : Project → List Key)
    → ((p : Project) → Passes (mean profile p) prog (asked p) (Ret (mean profile p q)))
    → ((p : Project) → first_keys [] (asked p) ≡ reads profile p q) → Fits q prog → TiesIn profile q prog
unfolding runs asks
ties_by profile q prog asked passes same fits = record {
  means = λ p h. sym (passes_runs (mean profile p) prog (asked p) (Ret (mean profile p q)) (passes p));
  asked = λ p h. sym (same p) ∙ sym (passes_asks (mean profile p) prog (asked p) (Ret (mean profile p q)) (λ seen. refl) (passes p) []);
  fits = fits;
}
