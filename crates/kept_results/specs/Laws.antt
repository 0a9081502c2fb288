-- MiniJava's runner keeps what the tests call kept.
use Rattle.query_rules.specs.Queries.{queries}
use Rattle.providers.specs.Programs.{prog_of}
use Rattle.providers.specs.Laws.{mini_java_tied}
use Rattle.keeping.specs.Keeping.{KeepingLaws}
use Rattle.kept_laws.specs.Tests.{is_kept}
use Rattle.kept_laws.proofs.Tests.{results_kept}

pub mini_java_keeps : KeepingLaws queries prog_of is_kept
mini_java_keeps = record {
  tied = mini_java_tied;
  keeps = results_kept;
}
