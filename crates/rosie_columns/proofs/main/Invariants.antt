use Rattle.rosie_columns.proofs.main.Given as goal

-- the steps are counted on the ledger of the blank
abbrev pub ghosts-run : goal.ghosts-run
ghosts-run a = record { name = a.blank.name; parts = a.blank.parts }
