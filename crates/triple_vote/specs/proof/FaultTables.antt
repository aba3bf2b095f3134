-- The table of a round's faults: for each link, replica of its source and replica of its target, the number of the
-- first fault there.
use Rattle.std.specs.Prelude.{◌≡◌, ℕ, suc, ◌+◌, ◌*◌, ◌<◌, nat_lt, Bool, ◌&&◌, if◌then◌else◌, List, find, Option, None}
use Rattle.std.specs.Prelude.{Some, slice_get, slice_set, slice_index_or}
use Rattle.pals_runs.specs.declared.replica_faults.VoteFault.{VoteFault}
use Rattle.triple_vote.specs.VotedComposition.{is_fault}

-- a link has nine places: of a replica of its source and one of its target, both numbered from 1; so the first place
-- is 4
abbrev pub place : ℕ → ℕ → ℕ → ℕ
place l replica target = l * 9 + replica * 3 + target

-- the number of one of three replicas
abbrev pub is_replica : ℕ → Bool
is_replica n = nat_lt 0 n && nat_lt n 4

-- a fault is at a place on one of so many links
abbrev pub is_placed : ℕ → VoteFault → Bool
is_placed links f = nat_lt f.link.0 links && (is_replica f.replica && is_replica f.target_replica)

-- the number of a fault is put at its place
abbrev pub with_fault : ℕ → List (Option ℕ) → VoteFault → ℕ → List (Option ℕ)
with_fault links places f n =
    if is_placed links f then slice_set places (place f.link.0 f.replica f.target_replica) (Some n) else places

-- the fault of a number; `None` without a number
abbrev pub fault_at : List VoteFault → Option ℕ → Option VoteFault
fault_at faults None = None
fault_at faults (Some n) = slice_get faults n

-- a table has the number of the first fault at each place of a link
abbrev pub AreFirstOn : List VoteFault → ℕ → List (Option ℕ) → Type 0
AreFirstOn faults l places =
    (replica target : ℕ) → replica < 3 → target < 3
    → fault_at faults (slice_index_or places (place l (suc replica) (suc target)) None)
    ≡ find (is_fault l (suc replica) (suc target)) faults

-- and of so many links
abbrev pub AreFirst : List VoteFault → ℕ → List (Option ℕ) → Type 0
AreFirst faults links places = (l : ℕ) → l < links → AreFirstOn faults l places
