-- The meaning of each kind is what its program computes.
use Rattle.std.proofs.Common.{◌≡◌, ℕ, ◌<◌, Bool, true, false, ◌||◌, if◌then◌else◌, List, [], ◌∷◌, Option, Some, None, is_some, is_none, sym, ◌∙◌, ap, refl, arith}
use Rattle.std.specs.Prelude.{bytes_eq}
use Rattle.item_ids.specs.declared.key.Key.{Key}
use Rattle.item_ids.specs.declared.key.Key.TheVariants as keys
use Rattle.item_ids.specs.Inputs.{rank}
use Rattle.result_bytes.specs.Payloads.{HeaderValue}
use Rattle.result_bytes.specs.declared.value.Value.TheVariants.{Header, Sig, CheckClass, CheckBody}
use Rattle.named_files.specs.Projects.{names_of}
use Rattle.recorder.specs.Projects.{Project}
use Rattle.recorder.specs.Backed.{AreLawful}
use Rattle.recorder.specs.Programs.{Prog, Ret, Ask, runs, asks, Fits, Tied}
use Rattle.recorder.proofs.Rules.{program_laws, programs_alike, fold_of, each_runs, each_fits}
use Rattle.run_fixtures.specs.Phrases.{Phrase, Phrases, Named, Called, NoMore, More, phrase_for}
use Rattle.run_fixtures.specs.Meaning.{header_at, signature_of, signature_at, is_main, any_main, meet, type_of, types_of, faults_if, sample_mean}
use Rattle.result_bytes.specs.Parts.{files_in, header_in, signature_in}
use Rattle.run_fixtures.specs.Programs.{header_steps, sig_rest, sig_steps, main_step, class_steps, meet_step, phrase_step, phrases_step, body_steps, steps_of, prog_of, sample_reads, sample_queries}

-- ---- what each program computes

header_runs : (p : Project) (f : List ℕ)
    → runs (header_steps f Ret) (sample_mean p) ≡ Header (header_at p f)
unfolding runs sample_mean
header_runs p f = refl

sig_runs : (p : Project) (f g : List ℕ)
    → runs (sig_steps f g Ret) (sample_mean p) ≡ Sig (signature_at p f g)
unfolding runs sample_mean
sig_runs p f g = go (header_at p f) refl
  where
    go : (h : Option HeaderValue) → header_at p f ≡ h
        → runs (sig_rest f g h Ret) (sample_mean p) ≡ Sig (signature_of h (header_at p g))
    go None e = refl
    go (Some x) e = ap (λ h. Sig (signature_of h (header_at p g))) e

or_false : (b : Bool) → b ≡ (b || false)
or_false true = refl
or_false false = refl

or_assoc : (a b c : Bool) → ((a || b) || c) ≡ (a || (b || c))
or_assoc true b c = refl
or_assoc false b c = refl

mains_found : (p : Project) (ns : List (List ℕ)) (found : Bool)
    → fold_of (λ n b. b || is_main (header_at p n)) ns found ≡ (found || any_main p ns)
unfolding fold_of
mains_found p [] found = or_false found
mains_found p (n ∷ ns) found =
    mains_found p ns (found || is_main (header_at p n))
    ∙ or_assoc found (is_main (header_at p n)) (any_main p ns)

class_runs : (p : Project) → runs (class_steps Ret) (sample_mean p)
    ≡ CheckClass (faults_if (any_main p (names_of p)))
unfolding runs sample_mean
class_runs p =
    each_runs main_step (sample_mean p) (λ n b. b || is_main (header_at p n)) (λ n b k. refl)
    (names_of p) false (λ b. Ret (CheckClass (faults_if b)))
    ∙ ap (λ b. CheckClass (faults_if b)) (mains_found p (names_of p) false)

meet_runs : (p : Project) (s t : Option (List ℕ)) (k : Option (List ℕ) → Prog)
    → runs (meet_step s t k) (sample_mean p) ≡ runs (k (meet p s t)) (sample_mean p)
unfolding runs sample_mean
meet_runs p None t k = refl
meet_runs p (Some s) None k = refl
meet_runs p (Some s) (Some t) k = go (bytes_eq s t)
  where
    go : (b : Bool) → runs (if b then k (Some s)
        else Ask (keys.Sig s t) (λ v. k (if is_some (signature_in v) then Some t else None)))
        (sample_mean p) ≡ runs
        (k (if b then Some s else if is_some (signature_at p s t) then Some t else None))
        (sample_mean p)
    go true = refl
    go false = refl

mutual
  unfolding runs sample_mean phrase_step phrases_step

  phrase_runs : (p : Project) (e : Phrase) (k : Option (List ℕ) → Prog)
      → runs (phrase_step e k) (sample_mean p) ≡ runs (k (type_of p e)) (sample_mean p)
  phrase_runs p (Named n) k = refl
  phrase_runs p (Called e rest) k =
      phrase_runs p e (λ s. phrases_step rest s k) ∙ phrases_runs p rest (type_of p e) k

  phrases_runs : (p : Project) (es : Phrases) (s : Option (List ℕ)) (k : Option (List ℕ) → Prog)
      → runs (phrases_step es s k) (sample_mean p) ≡ runs (k (types_of p es s)) (sample_mean p)
  phrases_runs p NoMore s k = refl
  phrases_runs p (More e rest) s k =
      phrase_runs p e (λ t. meet_step s t (λ u. phrases_step rest u k))
      ∙ meet_runs p s (type_of p e) (λ u. phrases_step rest u k)
      ∙ phrases_runs p rest (meet p s (type_of p e)) k

body_runs : (p : Project) (f g : List ℕ)
    → runs (body_steps f g Ret) (sample_mean p)
    ≡ CheckBody (faults_if (is_none (type_of p (phrase_for f g))))
unfolding runs
body_runs p f g = phrase_runs p (phrase_for f g) (λ t. Ret (CheckBody (faults_if (is_none t))))

-- ---- ranks and kinds

header_fits : (f : List ℕ) → Fits (keys.Header f) (header_steps f Ret)
unfolding Fits
header_fits f = (omega arith, λ v. refl)

sig_fits : (f g : List ℕ) → Fits (keys.Sig f g) (sig_steps f g Ret)
unfolding Fits
sig_fits f g = (omega arith, λ v. go (header_in v))
  where
    go : (h : Option HeaderValue) → Fits (keys.Sig f g) (sig_rest f g h Ret)
    go None = refl
    go (Some h) = (omega arith, λ w. (omega arith, λ v. refl))

class_fits : (f : List ℕ) → Fits (keys.CheckClass f) (class_steps Ret)
unfolding Fits
class_fits f = (
  omega arith,
  λ v. each_fits (keys.CheckClass f) main_step
      (λ n b k h. (omega arith, λ w. h (b || is_main (header_in w)))) (files_in v) false
      (λ b. Ret (CheckClass (faults_if b))) (λ b. refl),
)

module _ (f g : List ℕ) where
  meet_fits : (s t : Option (List ℕ)) (k : Option (List ℕ) → Prog)
      → ((u : Option (List ℕ)) → Fits (keys.CheckBody f g) (k u))
      → Fits (keys.CheckBody f g) (meet_step s t k)
  unfolding Fits
  meet_fits None t k h = h None
  meet_fits (Some s) None k h = h None
  meet_fits (Some s) (Some t) k h = go (bytes_eq s t)
    where
      go : (b : Bool) → Fits (keys.CheckBody f g)
          (if b then k (Some s) else Ask (keys.Sig s t)
          (λ v. k (if is_some (signature_in v) then Some t else None)))
      go true = h (Some s)
      go false = (omega arith, λ v. h (if is_some (signature_in v) then Some t else None))

  mutual
    unfolding Fits phrase_step phrases_step

    phrase_fits : (e : Phrase) (k : Option (List ℕ) → Prog)
        → ((u : Option (List ℕ)) → Fits (keys.CheckBody f g) (k u))
        → Fits (keys.CheckBody f g) (phrase_step e k)
    phrase_fits (Named n) k h =
        (omega arith, λ v. h (if is_some (header_in v) then Some n else None))
    phrase_fits (Called e rest) k h =
        phrase_fits e (λ s. phrases_step rest s k) (λ s. phrases_fits rest s k h)

    phrases_fits : (es : Phrases) (s : Option (List ℕ)) (k : Option (List ℕ) → Prog)
        → ((u : Option (List ℕ)) → Fits (keys.CheckBody f g) (k u))
        → Fits (keys.CheckBody f g) (phrases_step es s k)
    phrases_fits NoMore s k h = h s
    phrases_fits (More e rest) s k h =
        phrase_fits e (λ t. meet_step s t (λ u. phrases_step rest u k))
        (λ t. meet_fits s t (λ u. phrases_step rest u k) (λ u. phrases_fits rest u k h))

  body_fits : Fits (keys.CheckBody f g) (body_steps f g Ret)
  unfolding Fits
  body_fits =
      phrase_fits (phrase_for f g) (λ t. Ret (CheckBody (faults_if (is_none t)))) (λ t. refl)

-- ---- all kinds

means : (p : Project) (q : Key) → 0 < rank q → sample_mean p q ≡ runs (prog_of q) (sample_mean p)
unfolding runs sample_mean steps_of
means p keys.Files a = absurd (omega (arith, a))
means p (keys.Source f) a = absurd (omega (arith, a))
means p (keys.Header f) a = sym (header_runs p f)
means p (keys.Sig f g) a = sym (sig_runs p f g)
means p (keys.CheckClass f) a = sym (class_runs p)
means p (keys.CheckBody f g) a = sym (body_runs p f g)
means p _ a = refl

fits : (q : Key) → 0 < rank q → Fits q (prog_of q)
unfolding Fits steps_of
fits keys.Files a = absurd (omega (arith, a))
fits (keys.Source f) a = absurd (omega (arith, a))
fits (keys.Header f) a = header_fits f
fits (keys.Sig f g) a = sig_fits f g
fits (keys.CheckClass f) a = class_fits f
fits (keys.CheckBody f g) a = body_fits f g
fits _ a = refl

no_reads : (p : Project) (q : Key) → rank q ≡ 0 → sample_reads p q ≡ []
unfolding asks steps_of
no_reads p keys.Files e = refl
no_reads p (keys.Source f) e = refl
no_reads p _ e = absurd (omega (arith, e))

pub sample_tied : Tied prog_of sample_mean sample_reads
unfolding sample_mean
sample_tied = record {
  inputs = λ p i. record { files = refl; source = λ f. refl; no_reads = no_reads p };
  each = λ q a. record { means = λ p i. means p q a; asked = λ p i. refl; fits = fits q a };
}

pub sample_laws : AreLawful sample_queries
sample_laws = record {
  each = λ a. program_laws prog_of sample_mean sample_reads sample_tied;
  across = λ a b q apart. programs_alike prog_of prog_of sample_mean sample_reads sample_mean sample_reads sample_tied sample_tied q refl;
}
