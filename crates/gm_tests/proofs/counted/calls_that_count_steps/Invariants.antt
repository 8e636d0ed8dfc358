use Rattle.gm_tests.proofs.counted.calls_that_count_steps.Given as goal

-- the ledger that the blank begins
abbrev pub ghosts-check_each : goal.ghosts-check_each
ghosts-check_each g a = record { name = a.blank.name; parts = a.blank.parts }
