-- What a call of a worker leaves as it was, and what is known of the table at its store.
use Rattle.std.specs.Prelude.{◌≡◌, Option}
use Rattle.item_ids.specs.declared.key.Key.{Key}
use Rattle.result_bytes.specs.declared.value.Value.{Value}
use Rattle.job_table.specs.Tables.{TableValue}
use Rattle.mark_green.specs.declared.worker.Worker.{Worker}
use Rattle.mark_green.specs.Leaves.{KnowsChange, StaysTold}

-- it is the same worker at the same store, and what the store has given it stays given
pub record IsSameWorker {S R O : Type 0} (told : S → Key → Value → Type 0)
    (old new : Worker S R O) : Type 0 where
  pub store : new.store.ghost_name ≡ old.store.ghost_name
  pub id : new.id ≡ old.id
  pub stays : StaysTold (told old.store.now) (told new.store.now)

-- what is known of the table of a worker's store before and after
abbrev pub ChangesTable : {S R O : Type 0} → (S → Option TableValue) → Worker S R O → Worker S R O
    → (TableValue → TableValue → Type 0) → Type 0
ChangesTable table old new P = KnowsChange P (table old.store.now) (table new.store.now)
