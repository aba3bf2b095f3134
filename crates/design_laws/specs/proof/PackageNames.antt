-- Facts about the names of a package: they are words, and if none is declared twice, they are distinct.
use Rattle.std.specs.Prelude.{◌≡◌, ℕ, true, false, List, [], ◌++◌, slice_get, IsTrue, Some, All, AllPairs}
use Rattle.pals_base.specs.Names.{is_word}
use Rattle.aadl_tree.specs.Names.{Identifier, same_name}
use Rattle.aadl_tree.specs.Annexes.{AnnexTree}
use Rattle.aadl_tree.specs.Declarations.{Feature, Subcomponent, TypeDeclaration, Implementation, type, implementation}
use Rattle.aadl_tree.specs.Declarations.{PackageTree}
use Rattle.aadl_names.specs.declared.declared_name.SpelledName.{SpelledName}
use Rattle.aadl_names.specs.BehaviourAnnexes.{behaviours, variables_of, states_of}
use Rattle.aadl_names.specs.NameResolution.{is_thread, ports_of}
use Rattle.aadl_names.specs.PackageNameFaults.{package_faults}
use Rattle.aadl_names.specs.DuplicatesByNamespace.{port_entries, variable_entries, state_entries, member_entries}

-- ---- words
abbrev pub IsNamed : Identifier ℕ → Type 0
IsNamed x = IsTrue (is_word x.spelling)

-- the names of ports, subcomponents, variables and states are words
pub record HasWords (tree : PackageTree ℕ) : Type 0 where
  pub ports : (n : ℕ) (x : TypeDeclaration ℕ) → slice_get tree.declarations n ≡ Some (type x)
      → All (λ (f : Feature ℕ). IsNamed f.name) x.features
  pub subs : (n : ℕ) (x : Implementation ℕ) → slice_get tree.declarations n ≡ Some (implementation x)
      → All (λ (s : Subcomponent ℕ). IsNamed s.name) x.subcomponents
  pub variables : (n : ℕ) (x : Implementation ℕ) (b : ℕ × AnnexTree ℕ)
      → slice_get tree.declarations n ≡ Some (implementation x)
      → slice_get (behaviours x.annexes) 0 ≡ Some b → All IsNamed (variables_of b.1)
  pub states : (n : ℕ) (x : Implementation ℕ) (b : ℕ × AnnexTree ℕ)
      → slice_get tree.declarations n ≡ Some (implementation x)
      → slice_get (behaviours x.annexes) 0 ≡ Some b → All IsNamed (states_of b.1)

-- ---- names that are distinct even without regard to case
abbrev pub Differ : List SpelledName → Type 0
Differ xs = AllPairs (λ (x y : SpelledName). same_name x.name y.name ≡ false) xs

-- among the ports, subcomponents and connections of an implementation; among the ports and variables of a thread; and
-- among its states
pub record NamesDiffer (tree : PackageTree ℕ) (x : Implementation ℕ) : Type 0 where
  pub members : Differ (port_entries (ports_of tree x) ++ member_entries x)
  pub values : (b : ℕ × AnnexTree ℕ) → slice_get (behaviours x.annexes) 0 ≡ Some b → is_thread x.category ≡ true
      → Differ (port_entries (ports_of tree x) ++ variable_entries b.1)
  pub states : (b : ℕ × AnnexTree ℕ) → slice_get (behaviours x.annexes) 0 ≡ Some b → is_thread x.category ≡ true
      → Differ (state_entries b.1)

-- the facts about all names of a package
pub record AreNamed (tree : PackageTree ℕ) : Type 0 where
  pub words : HasWords tree
  pub differ : (root n : ℕ) (x : Implementation ℕ) → package_faults tree root ≡ []
      → slice_get tree.declarations n ≡ Some (implementation x)
      → NamesDiffer tree x
