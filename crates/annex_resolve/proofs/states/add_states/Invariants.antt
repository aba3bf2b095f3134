use Rattle.std.proofs.Common.{◌≡◌, ◌++◌, ◌∷◌, map, take}
use Rattle.aadl_tree.specs.proof.PlaceMaps.{kept_place}
use Rattle.aadl_tree.specs.proof.NameViews.{identifier_view}
use Rattle.aadl_tree.specs.proof.AnnexViews.{state_view}
use Rattle.annex_resolve.specs.BehavioursAndFindings.{state_at}
use Rattle.annex_resolve.proofs.states.add_states.Given as goal

abbrev pub invariant-loop-name : goal.invariant-loop-name
invariant-loop-name l =
    l.states ≡ l.fn.states ++ state_at (state_view kept_place l.declaration)
    (identifier_view kept_place l.declaration.names.first)
    ∷ map (state_at (state_view kept_place l.declaration))
    (map (identifier_view kept_place) (take l.name-index l.name-items))
