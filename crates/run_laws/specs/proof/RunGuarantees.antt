-- The law that each run keeps the clauses of KeepsClauses.
use Rattle.run_laws.specs.proof.RunQuantifiers.{InRuns}
use Rattle.run_laws.specs.RunGuarantees.{KeepsClauses}

abbrev pub ClausesAreKept : Type 0
ClausesAreKept = InRuns KeepsClauses
