use Rattle.crew_fixtures.proofs.seats.fellows_stop.Given as goal

abbrev pub ghosts-fellow_stops-J-Ledger : goal.ghosts-fellow_stops-J-Ledger
ghosts-fellow_stops-J-Ledger g a = record { name = a.opening.blank.name; parts = a.opening.blank.parts }

abbrev pub ghosts-fellow_stops-J-Naming : goal.ghosts-fellow_stops-J-Naming
ghosts-fellow_stops-J-Naming g a = record { opened = a.opening.table }

abbrev pub ghosts-fellow_stops-J-ListNaming : goal.ghosts-fellow_stops-J-ListNaming
ghosts-fellow_stops-J-ListNaming g a = record { book = a.opening.list.seen.book }
