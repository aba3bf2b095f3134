-- No fault of a package is `Memory`, and neither is its first fault.
use Rattle.std.proofs.Common.{◌≡◌, inl, inr, ◌∙◌, sym, ℕ, Bool, List, [], ◌∷◌, ◌++◌, Option, Some, None}
use Rattle.std.specs.Prelude.{◌≢◌, not}
use Rattle.std.specs.List.{enumerate_from, filter_map}
use Rattle.aadl_tree.specs.Names.{Identifier}
use Rattle.aadl_tree.specs.declared.declarations.Category.{Category}
use Rattle.aadl_tree.specs.declared.declarations.Direction.{Direction}
use Rattle.aadl_tree.specs.Values.{Associations}
use Rattle.aadl_tree.specs.Annexes.{AnnexTree, AnnexContent, foreign, behaviour, Annex}
use Rattle.aadl_tree.specs.Declarations.{Feature, Subcomponent, ConnectionEnd, Connection, TypeDeclaration}
use Rattle.aadl_tree.specs.Declarations.{Implementation, Declaration, type, implementation, PackageTree}
use Rattle.aadl_names.specs.declared.fault.PackageFault.{PackageFault}
use Rattle.aadl_names.specs.declared.fault.PackageFault.TheVariants.{NoRoot, Recursive, DeadEnd, TwoSources, TooMany}
use Rattle.aadl_names.specs.declared.fault.PackageFault.TheVariants.{Memory}
use Rattle.aadl_names.specs.declared.recognised_properties.PropertyHolder.{PropertyHolder}
use Rattle.aadl_names.specs.declared.recognised_properties.PropertyHolder.TheVariants as holders
use Rattle.aadl_names.specs.declared.numbered_port.NumberedPort.{NumberedPort}
use Rattle.aadl_names.specs.BehaviourAnnexes.{behaviours, variables_in}
use Rattle.aadl_names.specs.RecognisedProperties.{listed, association_at, counts, misshapen, shape_fault}
use Rattle.aadl_names.specs.RecognisedProperties.{property_entries, list_faults}
use Rattle.aadl_names.specs.NameResolution.{is_thread, target_of, ports_of}
use Rattle.aadl_names.specs.DuplicatesByNamespace as s
use Rattle.aadl_names.specs.PackageNameFaults as p
use Rattle.aadl_uses.specs.Recursion.{IsRecursive}
use Rattle.aadl_chains.specs.ChainFaults.{IsEndFault}
use Rattle.aadl_instance.specs.Faults.{FoundIn, Found, IsFault}
use Rattle.design_laws.proofs.ListsWithoutMemoryFault.{NoneIsMemory, none, both, each, either, kind, kinds, unknown}
use Rattle.design_laws.proofs.ListsWithoutMemoryFault.{wrong}
use Rattle.design_laws.proofs.ListsWithoutMemoryFault.{twice_named}
use Rattle.design_laws.proofs.AnnexesWithoutMemoryFault.{behaviour_named}

list_named : (holder : PropertyHolder) (xs : Associations ℕ) → NoneIsMemory (list_faults holder xs)
list_named holder xs =
    both (each (shape_fault holder) (λ x. either (counts x) (wrong (misshapen holder x) (association_at x)) none)
    (listed xs)) (twice_named (property_entries xs))

target_named : (sub : Subcomponent ℕ) (o : Option (Implementation ℕ)) → NoneIsMemory (p.target_faults sub o)
target_named sub None = unknown _ _
target_named sub (Some x) = wrong (not (p.same_category x.category sub.category)) sub.name.at

names_named : (tree : PackageTree ℕ) (sub : Subcomponent ℕ) (o : Option (Identifier ℕ))
    → NoneIsMemory (p.names_faults tree sub o)
names_named tree sub None = kind sub.name.at
names_named tree sub (Some i) = target_named sub (target_of tree sub)

subcomponent_named : (tree : PackageTree ℕ) (outer : Category) (sub : Subcomponent ℕ)
    → NoneIsMemory (p.subcomponent_faults tree outer sub)
subcomponent_named tree outer sub =
    both (both (wrong (not (p.may_contain outer sub.category)) sub.name.at)
    (names_named tree sub sub.classifier.implementation))
    (list_named (holders.Subcomponent sub.category) sub.properties)

end_named : (may : NumberedPort × Option Direction → Bool) (end : ConnectionEnd ℕ) (at : ℕ)
    (o : Option (NumberedPort × Option Direction)) → NoneIsMemory (p.end_faults may end at o)
end_named may end at None = unknown _ _
end_named may end at (Some port) = wrong (not (may port)) at

connection_named : (tree : PackageTree ℕ) (x : Implementation ℕ) (c : Connection ℕ)
    → NoneIsMemory (p.connection_faults tree x c)
connection_named tree x c =
    both (both (both (end_named p.may_leave c.source c.name.at (p.directed_end_port tree x c.source))
    (end_named p.may_enter c.target c.name.at (p.directed_end_port tree x c.target)))
    (wrong _ c.name.at)) (list_named holders.Connection c.properties)

variables_named : (x : Annex ℕ) → NoneIsMemory (p.variables_faults x)
variables_named x = each p.variable_faults (λ v. list_named holders.Variable v.properties) (variables_in x)

stray_by : (at : ℕ) (language : Identifier ℕ) (content : AnnexContent ℕ)
    → NoneIsMemory (p.stray_faults (record { at = at; language = language; content = content }))
stray_by at language (foreign bytes) = none
stray_by at language (behaviour tree) = kind at

annexes_named : (tree : PackageTree ℕ) (x : Implementation ℕ) (bs : List (ℕ × AnnexTree ℕ))
    → NoneIsMemory (p.annex_faults tree x bs)
annexes_named tree x [] = none
annexes_named tree x (b ∷ bs) =
    either (is_thread x.category) (both (behaviour_named tree x b.1) (kinds (λ (c : ℕ × AnnexTree ℕ). c.0) bs))
    (kinds (λ (c : ℕ × AnnexTree ℕ). c.0) (b ∷ bs))

implementation_named : (tree : PackageTree ℕ) (of_root : Bool) (x : Implementation ℕ)
    → NoneIsMemory (p.implementation_faults tree of_root x)
implementation_named tree of_root x =
    both
    (both (both (both (both (both (wrong _ x.end_name.component_type.at) (wrong _ x.at))
    (each (p.subcomponent_faults tree x.category) (subcomponent_named tree x.category) x.subcomponents))
    (each (p.connection_faults tree x) (connection_named tree x) x.connections))
    (list_named (holders.Declaration x.category of_root) x.properties))
    (each p.variables_faults variables_named x.annexes))
    (annexes_named tree x (behaviours x.annexes))

type_named : (of_root : Bool) (x : TypeDeclaration ℕ) → NoneIsMemory (p.type_faults of_root x)
type_named of_root x =
    both (both (both (both (wrong _ x.end_name.at)
    (each p.port_faults (λ (f : Feature ℕ). list_named holders.Port f.properties) x.features))
    (list_named (holders.Declaration x.category of_root) x.properties))
    (each p.stray_faults (λ (a : Annex ℕ). stray_by a.at a.language a.content) x.annexes))
    (each p.variables_faults variables_named x.annexes)

declaration_named : (tree : PackageTree ℕ) (root : ℕ) (d : ℕ × Declaration ℕ)
    → NoneIsMemory (p.declaration_faults tree root d)
declaration_named tree root (n, type x) = type_named _ x
declaration_named tree root (n, implementation x) = implementation_named tree _ x

wrong_names_named : (tree : PackageTree ℕ) (root : ℕ) → NoneIsMemory (p.wrong_names tree root)
unfolding p.wrong_names
wrong_names_named tree root =
    both (wrong _ tree.end_name.first.at)
    (each (p.declaration_faults tree root) (declaration_named tree root) (enumerate_from 0 tree.declarations))

behaviour_twice : (tree : PackageTree ℕ) (x : Implementation ℕ) (annex : AnnexTree ℕ)
    → NoneIsMemory (s.twice_in_behaviour tree x annex)
behaviour_twice tree x annex =
    both (twice_named (s.port_entries (ports_of tree x) ++ s.variable_entries annex))
    (twice_named (s.state_entries annex))

first_twice : (tree : PackageTree ℕ) (x : Implementation ℕ) (bs : List (ℕ × AnnexTree ℕ))
    → NoneIsMemory (s.twice_in_first tree x bs)
first_twice tree x [] = none
first_twice tree x (b ∷ bs) = either (is_thread x.category) (behaviour_twice tree x b.1) none

in_twice : (tree : PackageTree ℕ) (d : Declaration ℕ) → NoneIsMemory (s.twice_in tree d)
in_twice tree (type x) = none
in_twice tree (implementation x) =
    both (twice_named (s.port_entries (ports_of tree x) ++ s.member_entries x))
    (first_twice tree x (behaviours x.annexes))

twice_names_named : (tree : PackageTree ℕ) → NoneIsMemory (s.twice_names tree)
unfolding s.twice_names
twice_names_named tree =
    both (both (twice_named (filter_map s.type_entry tree.declarations))
    (twice_named (filter_map s.implementation_entry tree.declarations)))
    (each (s.twice_in tree) (in_twice tree) tree.declarations)

pub package_named : (tree : PackageTree ℕ) (root : ℕ) → NoneIsMemory (p.package_faults tree root)
package_named tree root = both (wrong_names_named tree root) (twice_names_named tree)

recursive_named : (tree : PackageTree ℕ) (fault : PackageFault) → IsRecursive tree fault → fault ≢ Memory
recursive_named tree fault h e = let f : Recursive h.0.name.spelling h.0.name.at ≡ Memory = sym h.2 ∙ e in absurd cc

end_fault_named : (tree : PackageTree ℕ) (root : ℕ) (fault : PackageFault) → IsEndFault tree root fault → fault ≢ Memory
end_fault_named tree root fault (inl h) e = let f : DeadEnd h.0.name.spelling h.0.name.at ≡ Memory = sym h.2
    ∙ e in absurd cc
end_fault_named tree root fault (inr h) e = let f : TwoSources h.0.name.spelling h.0.name.at ≡ Memory = sym h.2
    ∙ e in absurd cc

found_named : (tree : PackageTree ℕ) (root line : ℕ) (fault : PackageFault) → FoundIn tree root line fault
    → fault ≢ Memory
found_named tree root line fault (inl h) e = (package_named tree root).named fault h.1 e
found_named tree root line fault (inr (inl h)) e = recursive_named tree fault h.1 e
found_named tree root line fault (inr (inr (inl h))) e = end_fault_named tree root fault h.1 e
found_named tree root line fault (inr (inr (inr h))) e = let f : TooMany h.0 ≡ Memory = sym h.2 ∙ e in absurd cc

named_by : (tree : PackageTree ℕ) (name : List ℕ) (line : ℕ) (fault : PackageFault) → Found tree name line fault
    → fault ≢ Memory
named_by tree name line fault (inl h) e = let f : NoRoot ≡ Memory = sym h.2 ∙ e in absurd cc
named_by tree name line fault (inr h) e = found_named tree h.0 line fault h.2 e

pub fault_named : (tree : PackageTree ℕ) (name : List ℕ) (fault : PackageFault) → IsFault tree name fault
    → fault ≢ Memory
fault_named tree name fault x = named_by tree name x.line fault x.here.found
