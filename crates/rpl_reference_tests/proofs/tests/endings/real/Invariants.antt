use Rattle.rpl_reference_tests.proofs.tests.endings.real.Given as goal

-- the steps are counted on the ledger of the blank
abbrev pub ghosts-answer_on : goal.ghosts-answer_on
ghosts-answer_on a = record { name = a.blank.name; parts = a.blank.parts }
