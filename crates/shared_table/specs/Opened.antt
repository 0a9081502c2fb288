-- What a session begins with.
use Rattle.std.specs.Prelude.{◌≡◌, ℕ, []}
use Rattle.logbook.specs.Pages.{Book}
use Rattle.job_table.specs.Tables.{TableValue}
use Rattle.shared_table.specs.declared.opening.Opening.{Opening}

-- The session of the name whose ledger has this name and these parts, whose list is in this book, and
-- whose table was opened so, begins with these: its own ledger and list, and its table without events.
pub record IsOpenedFor {R : Type 0} (name parts : ℕ) (book : Book) (opened : TableValue)
    (o : Opening R) : Type 0 where
  pub name_is : o.blank.name ≡ name
  pub parts_are : o.blank.parts ≡ parts
  pub list : o.list.seen.book ≡ book
  pub table : o.table ≡ opened
  pub first : o.table.history ≡ []
