use Rattle.crew_fixtures.proofs.seats.all_stop.Given as goal

abbrev pub ghosts-stop-J-Ledger : goal.ghosts-stop-J-Ledger
ghosts-stop-J-Ledger g a = record { name = a.opening.blank.name; parts = a.opening.blank.parts }

abbrev pub ghosts-stop-J-Naming : goal.ghosts-stop-J-Naming
ghosts-stop-J-Naming g a = record { opened = a.opening.table }

abbrev pub ghosts-stop-J-ListNaming : goal.ghosts-stop-J-ListNaming
ghosts-stop-J-ListNaming g a = record { book = a.opening.list.seen.book }
