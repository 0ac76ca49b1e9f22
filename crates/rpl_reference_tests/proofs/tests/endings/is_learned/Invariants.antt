use Rattle.rpl_reference_tests.proofs.tests.endings.is_learned.Given as goal

-- the steps are counted on the ledger of the blank
abbrev pub ghosts-learned_on : goal.ghosts-learned_on
ghosts-learned_on a = record { name = a.blank.name; parts = a.blank.parts }
