use Rattle.mini_java.proofs.jobs.Worker.evaluate_trees.Given as goal

abbrev pub invariant-loop : goal.invariant-loop
invariant-loop g l = Unit {0}
