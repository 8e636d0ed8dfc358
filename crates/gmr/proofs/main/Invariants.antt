use Rattle.gmr.proofs.main.Given as goal

abbrev pub ghosts-run_over_files : goal.ghosts-run_over_files
ghosts-run_over_files a = record { name = a.blank.name; parts = a.blank.parts }
