-- What follows from reading a file from a feed.
use Rattle.std.proofs.Common.{◌≡◌, ◌≢◌, inl, inr, ℕ, ◌<◌, List, [], ◌∷◌, ◌++◌, length, Option, Err, refl, sym, ap, ◌∙◌, arith, append-nil}
use Rattle.sessions.specs.Sessions.{SessionValue, IsSession, IsTakenFrom}
use Rattle.sessions.specs.Spelling.{file_of}
use Rattle.session_file.specs.Feeding.{Given, CountsIf, is_device}
use Rattle.session_file.specs.Reading.{IsUnlessStopped, front_after, session_after}
use Rattle.session_file.specs.declared.fault.FileFault.{FileFault}
use Rattle.session_file.specs.declared.fault.FileFault.TheVariants.{Trailing, Device, OutOfMemory}
use Rattle.session_file.proofs.FileLaws.{front_again, file_is_longer, file_breaks}
use Rattle.audit_graph.specs.declared.fault.AuditFault.TheVariants as faults
use Rattle.audit_replay.specs.Sums.{ReadFails, CountsFault, file_fault}

-- a file behind which the feed is at its end
module _ (past : Option SessionValue) (old now new : List ℕ → Type 0) (s : SessionValue) (given : Given old now (file_of s)) where
  pub given_whole : ((bytes : List ℕ) → now bytes → (bytes ≡ []) × new bytes) → Given old new (file_of s)
  given_whole end = record {
    left = λ bytes h.
        let l = given.left bytes h in
        record { rest = l.rest; whole = l.whole; holds = (end l.rest l.holds).1 };
  }

  pub is_whole : ((bytes : List ℕ) → now bytes → (bytes ≡ []) × new bytes) → (bytes : List ℕ) → old bytes → bytes ≡ file_of s
  is_whole end bytes h =
      let l = given.left bytes h in
      l.whole ∙ (ap (λ (rest : List ℕ). file_of s ++ rest) (end l.rest l.holds).0 ∙ append-nil (file_of s))

  -- a byte behind it
  pub is_trailing : IsSession s → IsTakenFrom past s → ((bytes : List ℕ) → now bytes → bytes ≢ []) → (k : ℕ) (bytes : List ℕ) → old bytes → ReadFails past k bytes (faults.File k Trailing)
  is_trailing session taken some k bytes h =
      let l = given.left bytes h in
      inr (refl, file_is_longer past bytes s l.rest (ap (front_after past) l.whole ∙ front_again past s l.rest session taken) (longer l.rest (some l.rest l.holds)))
    where
      longer : (rest : List ℕ) → rest ≢ [] → 0 < length rest
      longer [] not = absurd (not refl)
      longer (x ∷ xs) not = omega arith

pub file_fails : (past : Option SessionValue) (k : ℕ) (bytes : List ℕ) (fault : FileFault) → IsUnlessStopped {A = SessionValue} (Err fault) (session_after past bytes) → ReadFails past k bytes (file_fault k fault)
file_fails past k bytes Device e = inl (record { is = refl })
file_fails past k bytes OutOfMemory e = inr tt
file_fails past k bytes fault e = inr (refl, file_breaks past bytes fault (sym e))

pub file_counts : (k : ℕ) (fault : FileFault) (old new : ℕ) → CountsIf (is_device fault) old new → CountsFault (file_fault k fault) old new
file_counts k OutOfMemory old new c = c
file_counts k fault old new c = c
