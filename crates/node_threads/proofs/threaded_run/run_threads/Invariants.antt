use Rattle.node_threads.proofs.threaded_run.run_threads.Given as goal

-- the codes of the course
abbrev pub ghosts-run_course : goal.ghosts-run_course
ghosts-run_course g a = record { codes = a.course.bus.codes }
