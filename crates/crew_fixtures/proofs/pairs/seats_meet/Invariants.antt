use Rattle.crew_fixtures.proofs.pairs.seats_meet.Given as goal

abbrev pub ghosts-both_evaluate-J-Ledger : goal.ghosts-both_evaluate-J-Ledger
ghosts-both_evaluate-J-Ledger g a = record { name = a.opening.blank.name; parts = a.opening.blank.parts }

abbrev pub ghosts-both_evaluate-J-Naming : goal.ghosts-both_evaluate-J-Naming
ghosts-both_evaluate-J-Naming g a = record { opened = a.opening.table }

abbrev pub ghosts-both_evaluate-J-ListNaming : goal.ghosts-both_evaluate-J-ListNaming
ghosts-both_evaluate-J-ListNaming g a = record { book = a.opening.list.seen.book }
