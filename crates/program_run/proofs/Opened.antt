-- A file that is opened and taken.
use Rattle.std.proofs.Common.{◌≡◌, ◌≢◌, ◌∙◌, inl, inr, ℕ, List, [], ◌∷◌, ◌++◌, Option, Some, None, String, string_bytes, refl, ap}
use Rattle.std.specs.Prelude.{if◌then◌else◌, ◌==◌}
use Rattle.std.specs.Io.Buffered.{reader_buffer, reader_capacity, reader_inner, reader_remaining}
use Rattle.std.specs.Io.KnownBytes.{prepend_known}
use Rattle.std.specs.declared.alloc.Global.{Global}
use Rattle.std.specs.declared.io.buffered.BufReader.{BufReader}
use Rattle.audit_graph.specs.declared.fault.AuditFault.{AuditFault}
use Rattle.audit_graph.specs.declared.fault.AuditFault.TheVariants as chain
use Rattle.session_file.specs.declared.fault.FileFault.TheVariants as file
use Rattle.mini_java.specs.Headline.{ChainRefuses}
use Rattle.mini_java.specs.Taken.{RefusesBehind}
use Rattle.program_run.specs.Audits.{FailsAtOpened, FailsBehind, RefusesAt, failure_of}
use Rattle.program_run.specs.declared.failure.Failure.{Failure}
use Rattle.program_run.specs.declared.failure.Failure.TheVariants as failure

-- behind a buffer that holds nothing yet a file holds what it held
pub buffered_holds : {T A : Type 0} (held : T → Option (List ℕ)) (r : BufReader T A) (file : T) (bytes : List ℕ)
    → reader_inner r ≡ file → reader_buffer r ≡ [] → reader_capacity r ≡ 8192 → held file ≡ Some bytes → reader_remaining held r ≡ Some bytes
buffered_holds held r file bytes inner empty size told =
    ap (λ (n : ℕ). if n == 0 then None else prepend_known (reader_buffer r) (held r.inner)) size
    ∙ (ap (λ (buffer : List ℕ). prepend_known buffer (held r.inner)) empty
    ∙ (ap (λ t. prepend_known [] (held t)) inner ∙ ap (λ (known : Option (List ℕ)). prepend_known [] known) told))

-- what isn't a failure of the device is a refusal of all files that begin so
no_device : (front : List (List ℕ)) (bytes : List ℕ) (fault : AuditFault) → ((k : ℕ) → fault ≢ chain.File k file.Device)
    → RefusesBehind front bytes fault → (rest : List (List ℕ)) → ChainRefuses (front ++ bytes ∷ rest) fault
no_device front bytes fault never (inl device) = absurd (never _ device.is)
no_device front bytes fault never (inr refused) = refused

module _ {File : Type 0} (held : File → Option (List ℕ)) (opened : File) (front : List (List ℕ)) where
  other : (fault : AuditFault) → ((k : ℕ) → fault ≢ chain.File k file.Device)
      → ((bytes : List ℕ) → held opened ≡ Some bytes → RefusesBehind front bytes fault) → RefusesAt held opened front fault
  other fault never refuses = λ bytes told. no_device front bytes fault never (refuses bytes told)

  pub fails_at : (name : String Global) (fault : AuditFault) → ((bytes : List ℕ) → held opened ≡ Some bytes → RefusesBehind front bytes fault)
      → FailsAtOpened held opened front (string_bytes name) (failure_of name fault)
  fails_at name (chain.File k file.Device) refuses = refl
  fails_at name fault refuses = other fault (λ j e. absurd cc) refuses

  -- why an opened file isn't taken is why the file of its name isn't
  pub fails_behind : (name : List ℕ) (why : Failure) → FailsAtOpened held opened front name why → FailsBehind held front name why
  fails_behind name (failure.CannotRead path) f = f
  fails_behind name (failure.Chain fault) f = record { opened = opened; refused = f }
  fails_behind name failure.OutOfMemory f = tt
  fails_behind name why f = absurd f
