use Rattle.driver.proofs.alone.drive_alone.Given as goal

abbrev pub ghosts-drive_table-J-Ledger : goal.ghosts-drive_table-J-Ledger
ghosts-drive_table-J-Ledger g a = record { name = a.opening.blank.name; parts = a.opening.blank.parts }

abbrev pub ghosts-drive_table-J-Naming : goal.ghosts-drive_table-J-Naming
ghosts-drive_table-J-Naming g a = record { opened = a.opening.table }

abbrev pub ghosts-drive_table-J-ListNaming : goal.ghosts-drive_table-J-ListNaming
ghosts-drive_table-J-ListNaming g a = record { book = a.opening.list.seen.book }
