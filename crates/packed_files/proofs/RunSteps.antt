-- Unpacking run after run, as the loop does.
use Rattle.std.proofs.Common.{◌≡◌, ℕ, ◌<◌, List, [], ◌∷◌, ◌++◌, length, Err, refl, sym, ap, subst, ◌∙◌, append_assoc, arith}
use Rattle.std.specs.List.{AllByRecursion}
use Rattle.std.proofs.lemmas.List.{length-append, append-nil}
use Rattle.std.proofs.lemmas.List.Concat.{flat_map-cons}
use Rattle.byte_readers.specs.Lawful.{IsBytes}
use Rattle.packed_files.specs.Packing.{run}
use Rattle.packed_files.specs.Runs.{IsRunRefusedAt, IsShort, UnpacksRun, packed_runs}
use Rattle.packed_files.specs.Unpacking.{run_at}
use Rattle.packed_files.specs.declared.flaws.Flaw.{Flaw}
use Rattle.packed_files.specs.declared.flaws.Flaw.TheVariants as flaws
use Rattle.packed_files.specs.declared.flaws.UnpackFault.{UnpackFault}
use Rattle.packed_files.specs.declared.flaws.UnpackFault.TheVariants as faults
use Rattle.packed_files.proofs.Laws.{ok_is, run_again, run_takes, some_run}

-- ---- lists of runs

cons_runs : (text : List ℕ) (runs : List (List ℕ)) (rest : List ℕ) → packed_runs (text ∷ runs) ++ rest ≡ run text ++ (packed_runs runs ++ rest)
cons_runs text runs rest = ap (λ (t : List ℕ). t ++ rest) (flat_map-cons run text runs) ∙ append_assoc (run text) (packed_runs runs) rest

more_runs : (runs : List (List ℕ)) (text rest : List ℕ) → packed_runs (runs ++ text ∷ []) ++ rest ≡ packed_runs runs ++ (run text ++ rest)
more_runs [] text rest = cons_runs text [] rest
more_runs (first ∷ runs) text rest =
    cons_runs first (runs ++ text ∷ []) rest ∙ ap (λ (t : List ℕ). run first ++ t) (more_runs runs text rest) ∙ sym (cons_runs first runs (run text ++ rest))

short_more : (runs : List (List ℕ)) (text : List ℕ) → AllByRecursion IsShort runs → IsShort text → AllByRecursion IsShort (runs ++ text ∷ [])
short_more [] text all fit = (fit, tt)
short_more (first ∷ runs) text all fit = (all.0, short_more runs text all.1 fit)

-- Of runs that are packed, these stand behind the first ones.
record Behind (runs front : List (List ℕ)) (rest : List ℕ) : Type 0 where
  more : List (List ℕ)
  runs_are : runs ≡ front ++ more
  short : AllByRecursion IsShort more
  packed_is : packed_runs more ≡ rest

behind : (runs front : List (List ℕ)) (rest : List ℕ) → AllByRecursion IsShort runs → AllByRecursion IsShort front → packed_runs runs ≡ packed_runs front ++ rest → Behind runs front rest
behind runs [] rest fit all e = record { more = runs; runs_are = refl; short = fit; packed_is = e }
behind [] (f ∷ front) rest fit all e = absurd (omega (arith, some_run f (packed_runs front ++ rest), ap length (e ∙ cons_runs f front rest)))
behind (g ∷ runs) (f ∷ front) rest fit all e =
    let same : run g ++ packed_runs runs ≡ run f ++ (packed_runs front ++ rest) = sym (flat_map-cons run g runs) ∙ e ∙ cons_runs f front rest in
    let pair = ok_is (g, packed_runs runs) (f, packed_runs front ++ rest)
    (sym (run_again flaws.Length flaws.Bytes g (packed_runs runs) fit.0) ∙ ap (run_at flaws.Length flaws.Bytes) same ∙ run_again flaws.Length flaws.Bytes f (packed_runs front ++ rest) all.0) in
    let first : g ≡ f = ap (λ (p : List ℕ × List ℕ). p.0) pair in
    let others = behind runs front rest fit.1 all.1 (ap (λ (p : List ℕ × List ℕ). p.1) pair) in
    record {
      more = others.more;
      runs_are = ap (λ (x : List (List ℕ)). g ∷ x) others.runs_are ∙ ap (λ (x : List ℕ). x ∷ (front ++ others.more)) first;
      short = others.short;
      packed_is = others.packed_is;
    }

-- ---- the loop

-- These runs are unpacked of the bytes, and this is left.
pub record AreUnpackedTo (bytes : List ℕ) (runs : List (List ℕ)) (rest : List ℕ) : Type 0 where
  pub parts : bytes ≡ packed_runs runs ++ rest
  pub short : AllByRecursion IsShort runs
  pub fits : IsBytes rest

pub no_run_yet : (bytes : List ℕ) (runs : List (List ℕ)) → runs ≡ [] → IsBytes bytes → AreUnpackedTo bytes runs bytes
no_run_yet bytes runs none fits = rw none (record { parts = refl; short = tt; fits = fits })

pub one_more_run : (bytes front rest : List ℕ) (old new : List (List ℕ)) → UnpacksRun front rest old new → AreUnpackedTo bytes old front → AreUnpackedTo bytes new rest
one_more_run bytes front rest old new one so_far =
    let t = run_takes flaws.Length flaws.Bytes front one.text rest so_far.fits one.reads in
    subst (λ (x : List (List ℕ)). AreUnpackedTo bytes x rest) (sym one.added) (record {
      parts = so_far.parts ∙ ap (λ (x : List ℕ). packed_runs old ++ x) t.0.parts ∙ sym (more_runs old one.text rest);
      short = short_more old one.text so_far.short t.1;
      fits = t.0.rest_fits;
    })

pub fewer_left : (bytes front rest : List ℕ) (old new : List (List ℕ)) → UnpacksRun front rest old new → AreUnpackedTo bytes old front → length rest < length front
fewer_left bytes front rest old new one so_far =
    let t = run_takes flaws.Length flaws.Bytes front one.text rest so_far.fits one.reads in
    omega (arith, ap length t.0.parts, some_run one.text [], length-append (run one.text) rest, length-append (run one.text) [])

nothing : (rest : List ℕ) → length rest ≡ 0 → rest ≡ []
nothing [] e = refl
nothing (b ∷ rest) e = absurd (omega arith)

none_more : (more : List (List ℕ)) → packed_runs more ≡ [] → more ≡ []
none_more [] e = refl
none_more (text ∷ more) e = absurd (omega (arith, some_run text (packed_runs more), ap length e))

pub same_runs : (bytes rest : List ℕ) (made runs : List (List ℕ)) → AreUnpackedTo bytes made rest → length rest ≡ 0 → AllByRecursion IsShort runs → packed_runs runs ≡ bytes → made ≡ runs
same_runs bytes rest made runs is none fit e =
    let b = behind runs made rest fit is.short (e ∙ is.parts) in
    sym (b.runs_are ∙ ap (λ (x : List (List ℕ)). made ++ x) (none_more b.more (b.packed_is ∙ nothing rest none)) ∙ append-nil made)

no_flaw : (more : List (List ℕ)) (rest : List ℕ) → AllByRecursion IsShort more → packed_runs more ≡ rest → 0 < length rest → (flaw : Flaw) → run_at flaws.Length flaws.Bytes rest ≡ Err flaw → ⊥
no_flaw [] rest fit e some flaw f = omega (arith, some, ap length e)
no_flaw (text ∷ more) rest fit e some flaw f =
    let read = run_again flaws.Length flaws.Bytes text (packed_runs more) fit.0 in
    absurd (cc (f, read))

pub memory_alone : (bytes rest : List ℕ) (made runs : List (List ℕ)) (number : ℕ) (fault : UnpackFault) → AreUnpackedTo bytes made rest → 0 < length rest → IsRunRefusedAt rest number fault → AllByRecursion IsShort runs → packed_runs runs ≡ bytes → fault ≡ faults.OutOfMemory
memory_alone bytes rest made runs number (faults.Flawed k flaw) is some at fit e =
    let b = behind runs made rest fit is.short (e ∙ is.parts) in
    absurd (no_flaw b.more rest b.short b.packed_is some flaw at.1)
memory_alone bytes rest made runs number faults.OutOfMemory is some at fit e = refl
