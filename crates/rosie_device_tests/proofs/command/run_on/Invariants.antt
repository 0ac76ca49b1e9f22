use Rattle.rosie_device_tests.proofs.command.run_on.Given as goal

-- the steps are counted on the ledger of the blank
abbrev pub ghosts-run_counted : goal.ghosts-run_counted
ghosts-run_counted a = record { name = a.blank.name; parts = a.blank.parts }
