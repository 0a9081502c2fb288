-- Unpacking file after file, as the loop does.
use Rattle.std.proofs.Common.{◌≡◌, ℕ, ◌<◌, Bool, true, false, nat_eq, List, [], ◌∷◌, ◌++◌, length, Err, refl, sym, ap, subst, ◌∙◌, arith}
use Rattle.std.specs.List.{AllByRecursion}
use Rattle.std.proofs.lemmas.Bool.Decides.{nat_tests}
use Rattle.std.proofs.lemmas.List.{length-append, append-nil}
use Rattle.byte_readers.specs.Lawful.{IsBytes}
use Rattle.named_files.specs.Projects.{SourceFile}
use Rattle.packed_files.specs.Packing.{IsPackable, packed, packed_file}
use Rattle.packed_files.specs.Unpacking.{IsRefusedAt, UnpacksOne, file_at}
use Rattle.packed_files.specs.declared.flaws.Flaw.{Flaw}
use Rattle.packed_files.specs.declared.flaws.UnpackFault.{UnpackFault}
use Rattle.packed_files.specs.declared.flaws.UnpackFault.TheVariants as faults
use Rattle.packed_files.proofs.Laws.{behind, file_again, file_takes, packable_more, packed_more, some_packed}

-- These files are unpacked of the bytes, and this is left.
pub record IsUnpackedTo (bytes : List ℕ) (files : List SourceFile) (rest : List ℕ) : Type 0 where
  pub parts : bytes ≡ packed files ++ rest
  pub packable : AllByRecursion IsPackable files
  pub fits : IsBytes rest

pub none_yet : (bytes : List ℕ) (files : List SourceFile) → files ≡ [] → IsBytes bytes → IsUnpackedTo bytes files bytes
none_yet bytes files none fits = rw none (record { parts = refl; packable = tt; fits = fits })

pub one_more : (bytes front rest : List ℕ) (old new : List SourceFile) → UnpacksOne front rest old new → IsUnpackedTo bytes old front → IsUnpackedTo bytes new rest
one_more bytes front rest old new one so_far =
    let t = file_takes front one.file rest so_far.fits one.reads in
    subst (λ (x : List SourceFile). IsUnpackedTo bytes x rest) (sym one.added) (record {
      parts = so_far.parts ∙ ap (λ (x : List ℕ). packed old ++ x) t.0.parts ∙ sym (packed_more old one.file rest);
      packable = packable_more old one.file so_far.packable t.1;
      fits = t.0.rest_fits;
    })

pub shorter : (bytes front rest : List ℕ) (old new : List SourceFile) → UnpacksOne front rest old new → IsUnpackedTo bytes old front → length rest < length front
shorter bytes front rest old new one so_far =
    let t = file_takes front one.file rest so_far.fits one.reads in
    omega (arith, ap length t.0.parts, some_packed one.file [], length-append (packed_file one.file) rest, length-append (packed_file one.file) [])

nothing : (rest : List ℕ) → length rest ≡ 0 → rest ≡ []
nothing [] e = refl
nothing (b ∷ rest) e = absurd (omega arith)

none_more : (more : List SourceFile) → packed more ≡ [] → more ≡ []
none_more [] e = refl
none_more (file ∷ more) e = absurd (omega (arith, some_packed file (packed more), ap length e))

-- a list that is tested to be empty
pub ended : (empty : Bool) (rest : List ℕ) → empty ≡ nat_eq (length rest) 0 → empty ≡ true → length rest ≡ 0
ended empty rest e f = grind (arith, nat_tests, e, f)

pub goes_on : (empty : Bool) (rest : List ℕ) → empty ≡ nat_eq (length rest) 0 → empty ≡ false → 0 < length rest
goes_on empty rest e f = grind (arith, nat_tests, e, f)

pub same_files : (bytes rest : List ℕ) (made files : List SourceFile) → IsUnpackedTo bytes made rest → length rest ≡ 0 → AllByRecursion IsPackable files → packed files ≡ bytes → made ≡ files
same_files bytes rest made files is none fit e =
    let b = behind files made rest fit is.packable (e ∙ is.parts) in
    sym (b.files_are ∙ ap (λ (x : List SourceFile). made ++ x) (none_more b.more (b.packed_is ∙ nothing rest none)) ∙ append-nil made)

no_flaw : (more : List SourceFile) (rest : List ℕ) → AllByRecursion IsPackable more → packed more ≡ rest → 0 < length rest → (flaw : Flaw) → file_at rest ≡ Err flaw → ⊥
no_flaw [] rest fit e some flaw f = omega (arith, some, ap length e)
no_flaw (file ∷ more) rest fit e some flaw f =
    let read = file_again file (packed more) fit.0 in
    absurd (cc (f, read))

pub only_memory : (bytes rest : List ℕ) (made files : List SourceFile) (number : ℕ) (fault : UnpackFault) → IsUnpackedTo bytes made rest → 0 < length rest → IsRefusedAt rest number fault → AllByRecursion IsPackable files → packed files ≡ bytes → fault ≡ faults.OutOfMemory
only_memory bytes rest made files number (faults.Flawed k flaw) is some at fit e =
    let b = behind files made rest fit is.packable (e ∙ is.parts) in
    absurd (no_flaw b.more rest b.packable b.packed_is some flaw at.1)
only_memory bytes rest made files number faults.OutOfMemory is some at fit e = refl
