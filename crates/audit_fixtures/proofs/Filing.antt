-- Files of sessions, one more at a time.
use Rattle.std.proofs.Common.{◌≡◌, ℕ, List, [], ◌∷◌, ◌++◌, Option, Some, sym, ap, ◌∙◌}
use Rattle.std.proofs.lemmas.Option.{same_Some}
use Rattle.sessions.specs.Sessions.{SessionValue}
use Rattle.sessions.specs.Spelling.{file_of}
use Rattle.table_fixtures.specs.declared.changes.Change.{Change}
use Rattle.table_fixtures.specs.Told.{IsBehind}
use Rattle.audit_fixtures.specs.Chains.{IsFiled}

-- the file of the session that is behind another goes behind the files
pub filed_behind : (change : Change) (before after : Option SessionValue) (old new : List (List ℕ)) (s : SessionValue) → IsBehind change before after → after ≡ Some s → new ≡ old ++ file_of s ∷ []
    → IsFiled change (before, old) (after, new)
filed_behind change before after old new s behind is grown = record {
  behind = behind;
  filed = grown ∙ ap (λ (x : SessionValue). old ++ file_of x ∷ []) (same_Some s behind.session (sym is ∙ behind.after_is));
}
