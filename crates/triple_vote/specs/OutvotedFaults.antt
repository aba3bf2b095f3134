-- When faults are outvoted: no two replicas are at fault in one round, on one link, towards one replica of its
-- target.
use Rattle.std.specs.Prelude.{◌≡◌, ℕ, List, Contains}
use Rattle.pals_runs.specs.declared.replica_faults.VoteFault.{VoteFault}

-- no two replicas are at fault in one round, on one link, towards one replica of its target
abbrev pub AreOutvoted : (ℕ → List VoteFault) → Type 0
AreOutvoted faults =
    (round : ℕ) (f g : VoteFault) → Contains (faults round) f → Contains (faults round) g
    → f.link.0 ≡ g.link.0 → f.target_replica ≡ g.target_replica → f.replica ≡ g.replica
