-- The first fault of all names is the first of the comparisons that are made.
use Rattle.std.proofs.Common.{◌≡◌, ℕ, Bool, true, false, List, [], ◌∷◌, ◌++◌, Option, None, sym, subst, if◌then◌else◌}
use Rattle.std.specs.List.{filter_map, flat_map}
use Rattle.aadl_tree.specs.Annexes.{AnnexTree}
use Rattle.aadl_tree.specs.Declarations.{Implementation, Declaration, type, implementation, PackageTree}
use Rattle.aadl_names.specs.declared.fault.PackageFault.{PackageFault}
use Rattle.aadl_names.specs.FirstFaults.{FirstOf}
use Rattle.aadl_names.specs.proof.FirstFaultSoFar.{found}
use Rattle.aadl_names.specs.DuplicateNames.{twice}
use Rattle.aadl_names.specs.NameResolution.{is_thread, ports_of}
use Rattle.aadl_names.specs.BehaviourAnnexes.{behaviours}
use Rattle.aadl_names.specs.DuplicatesByNamespace.{port_entries, variable_entries, state_entries, member_entries}
use Rattle.aadl_names.specs.DuplicatesByNamespace.{type_entry, implementation_entry, twice_in_behaviour, twice_in_first}
use Rattle.aadl_names.specs.DuplicatesByNamespace.{twice_in, twice_names}
use Rattle.aadl_names.specs.PackageNameFaults.{wrong_names, package_faults}
use Rattle.aadl_names.specs.proof.DuplicatesBesidePorts.{beside, beside_in_behaviour, beside_in_first, beside_in}
use Rattle.aadl_names.specs.proof.DuplicatesBesidePorts.{beside_names}
use Rattle.aadl_names.proofs.SameFirstFaults.{Covers, covers_itself, covers_append, covers_all, first_of_more}
use Rattle.aadl_names.proofs.SameFirstFaults.{found_is_first}
use Rattle.aadl_names.proofs.DuplicatesBesidePorts.{beside_covers}

behaviour_covers : (tree : PackageTree ℕ) (x : Implementation ℕ) (annex : AnnexTree ℕ)
    → Covers (beside_in_behaviour tree x annex) (twice_in_behaviour tree x annex)
behaviour_covers tree x annex =
    covers_append (beside (port_entries (ports_of tree x)) (variable_entries annex))
    (twice (port_entries (ports_of tree x) ++ variable_entries annex))
    (twice (state_entries annex)) (twice (state_entries annex))
    (beside_covers (port_entries (ports_of tree x)) (variable_entries annex))
    (covers_itself (twice (state_entries annex)))

first_covers : (tree : PackageTree ℕ) (x : Implementation ℕ) (bs : List (ℕ × AnnexTree ℕ))
    → Covers (beside_in_first tree x bs) (twice_in_first tree x bs)
first_covers tree x [] = covers_itself []
first_covers tree x (b ∷ bs) = by (is_thread x.category)
  where
    by : (c : Bool) → Covers (if c then beside_in_behaviour tree x b.1 else [])
        (if c then twice_in_behaviour tree x b.1 else [])
    by true = behaviour_covers tree x b.1
    by false = covers_itself []

in_covers : (tree : PackageTree ℕ) (d : Declaration ℕ) → Covers (beside_in tree d) (twice_in tree d)
in_covers tree (type x) = covers_itself []
in_covers tree (implementation x) =
    covers_append (beside (port_entries (ports_of tree x)) (member_entries x))
    (twice (port_entries (ports_of tree x) ++ member_entries x))
    (beside_in_first tree x (behaviours x.annexes)) (twice_in_first tree x (behaviours x.annexes))
    (beside_covers (port_entries (ports_of tree x)) (member_entries x)) (first_covers tree x (behaviours x.annexes))

names_cover : (tree : PackageTree ℕ) → Covers (beside_names tree) (twice_names tree)
unfolding beside_names twice_names
names_cover tree =
    let types = twice (filter_map type_entry tree.declarations) in
    let implementations = twice (filter_map implementation_entry tree.declarations) in
    covers_append (types ++ implementations) (types ++ implementations) (flat_map (beside_in tree) tree.declarations)
    (flat_map (twice_in tree) tree.declarations)
    (covers_itself (types ++ implementations))
    (covers_all (beside_in tree) (twice_in tree) (in_covers tree) tree.declarations)

pub first_fault : (tree : PackageTree ℕ) (root : ℕ) (first : Option PackageFault)
    → first ≡ found None (wrong_names tree root ++ beside_names tree)
    → FirstOf (package_faults tree root) first
first_fault tree root first is =
    subst (FirstOf (package_faults tree root)) (sym is)
    (first_of_more (wrong_names tree root ++ beside_names tree) (package_faults tree root)
    (covers_append (wrong_names tree root) (wrong_names tree root) (beside_names tree) _
    (covers_itself (wrong_names tree root)) (names_cover tree))
    (found None (wrong_names tree root ++ beside_names tree))
    (found_is_first (wrong_names tree root ++ beside_names tree)))
