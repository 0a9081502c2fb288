-- A file that is refused since a byte 0 follows it.
use Rattle.std.proofs.Common.{◌≡◌, ℕ, List, [], ◌∷◌, ◌++◌, Option, Some, None, take, subst}
use Rattle.std.specs.Prelude.{IfSome, slice_get}
use Rattle.item_ids.specs.declared.key.Key.{Key}
use Rattle.query_rules.specs.Queries.{queries}
use Rattle.audit_graph.specs.declared.fault.AuditFault.{AuditFault}
use Rattle.audit_replay.specs.Audits.{IsRefusedBehind}
use Rattle.table_fixtures.specs.declared.changes.Change.{Change}
use Rattle.audit_fixtures.specs.Chains.{AreFilesOf, IsRefusedLonger}

-- what was found of the file with that byte, behind those in front of it
pub longer_refused : (chain : List Change) (at : ℕ) (files : List (List ℕ)) → AreFilesOf chain files → (file : List ℕ) → slice_get files at ≡ Some file
    → (before : List (List ℕ)) → before ≡ take at files → (bytes : List ℕ) → bytes ≡ file ++ 0 ∷ []
    → (found : Option AuditFault) → IfSome found (λ fault. (log : List Key) × IsRefusedBehind queries (before ++ bytes ∷ []) [] log fault) → IfSome found (IsRefusedLonger chain at)
longer_refused chain at files are file there before front bytes longer None h = tt
longer_refused chain at files are file there before front bytes longer (Some fault) h = record {
  files = files;
  files_of = are;
  file = file;
  there = there;
  log = h.0;
  refused = subst (λ (all : List (List ℕ)). IsRefusedBehind queries all [] h.0 fault) (λ i. front i ++ longer i ∷ []) h.1;
}
