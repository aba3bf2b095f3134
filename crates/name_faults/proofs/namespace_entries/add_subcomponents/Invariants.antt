use Rattle.std.proofs.Common.{◌≡◌, ◌++◌, map, drop}
use Rattle.aadl_tree.specs.proof.DeclarationViews.{subcomponent_view}
use Rattle.aadl_tree.specs.proof.PlaceMaps.{kept_place}
use Rattle.aadl_names.specs.DuplicateNames.{entry_of}
use Rattle.name_faults.proofs.namespace_entries.add_subcomponents.Given as goal

-- the remaining part is still to be added
abbrev pub invariant-loop-sub : goal.invariant-loop-sub
invariant-loop-sub l =
    l.initial.entries ++ map (λ d. entry_of d.name) (map (subcomponent_view kept_place) l.subs) ≡ l.entries
    ++ map (λ d. entry_of d.name) (map (subcomponent_view kept_place) (drop l.sub-index l.subs))
