-- The table of the number of thread ports that each port leads to.
use Rattle.std.specs.Prelude.{◌≡◌, ℕ, false, ◌+◌, min, List, Option, Some, None, if◌then◌else◌}
use Rattle.std.specs.Map.{lookup}
use Rattle.std.specs.Option.{option_map_or}
use Rattle.aadl_tree.specs.Declarations.{PackageTree}
use Rattle.aadl_names.specs.declared.numbered_port.NumberedPort.TheVariants.{Own}
use Rattle.aadl_uses.specs.ContainmentAndUse.{below}
use Rattle.aadl_uses.specs.declared.connections_by_target.ConnectionPorts.{ConnectionPorts}
use Rattle.aadl_chains.specs.declared.port_set.PortAt.{PortAt}
use Rattle.aadl_chains.specs.proof.PortSets.{same_port}
use Rattle.aadl_chains.specs.proof.PortsJoinedInside.{is_thread_at, is_in_at, declaration_port}
use Rattle.aadl_chains.specs.proof.LimitedCounts.{IsNumber}
use Rattle.aadl_chains.specs.proof.EnteredThreadPorts.{ComesFrom, IsEnteredThrough}

abbrev pub entered_count : List (PortAt × ℕ) → PortAt → ℕ
entered_count table port = option_map_or (λ n. n) (lookup (same_port port) table) 0

-- the number of thread ports that a port of an implementation leads to, by the table for implementations other than
-- threads
abbrev pub entered_count_by : ℕ → List (PortAt × ℕ) → PackageTree ℕ → Option ℕ → ℕ → ℕ
entered_count_by limit table tree None port = 0
entered_count_by limit table tree (Some m) port =
    if is_thread_at tree m then (if is_in_at tree m port then min limit 1 else 0) else entered_count table
    (declaration_port m port)

-- the table has the counts of all ports of an implementation
abbrev pub AreCounted : PackageTree ℕ → ℕ → List (PortAt × ℕ) → ℕ → Type 0
AreCounted tree limit table n =
    (q : ℕ) → is_thread_at tree n ≡ false → IsNumber limit (ComesFrom tree n q)
    (entered_count table (declaration_port n q))

abbrev pub AreTakenBelow : PackageTree ℕ → ℕ → List (PortAt × ℕ) → ℕ → Type 0
AreTakenBelow tree limit table n = (s m : ℕ) → below tree n s ≡ Some m → AreCounted tree limit table m

-- a table after the count of one more connection
pub record IsCounted (tree : PackageTree ℕ) (limit n k : ℕ) (wire : ConnectionPorts)
    (old new : List (PortAt × ℕ)) : Type 0 where
  pub others : (m q : ℕ) → (m ≡ n → ⊥) → entered_count new (declaration_port m q)
      ≡ entered_count old (declaration_port m q)
  pub same : (q : ℕ) → (wire.source ≡ Some (Own q) → ⊥)
      → entered_count new (declaration_port n q) ≡ entered_count old (declaration_port n q)
  pub more : (q : ℕ) → wire.source ≡ Some (Own q) → AreTakenBelow tree limit old n
      → (c : ℕ) × IsNumber limit (IsEnteredThrough tree n k) c
      × (entered_count new (declaration_port n q) ≡ min limit (entered_count old (declaration_port n q) + c))

-- no implementation contains itself, and this one is not in the table yet
pub record IsNew (tree : PackageTree ℕ) (n : ℕ) (table : List (PortAt × ℕ)) : Type 0 where
  pub apart : (s m : ℕ) → below tree n s ≡ Some m → m ≡ n → ⊥
  pub empty : (q : ℕ) → entered_count table (declaration_port n q) ≡ 0

-- a table after the counts of the connections of one implementation
pub record AreAdded (tree : PackageTree ℕ) (limit n : ℕ) (old new : List (PortAt × ℕ)) : Type 0 where
  pub others : (m q : ℕ) → (m ≡ n → ⊥) → entered_count new (declaration_port m q)
      ≡ entered_count old (declaration_port m q)
  pub added : IsNew tree n old → AreTakenBelow tree limit old n → AreCounted tree limit new n
