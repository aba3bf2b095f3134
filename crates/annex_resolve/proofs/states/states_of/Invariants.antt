use Rattle.std.proofs.Common.{◌≡◌, map, take}
use Rattle.aadl_tree.specs.proof.PlaceMaps.{kept_place}
use Rattle.std.specs.Prelude.{flat_map}
use Rattle.aadl_tree.specs.proof.AnnexViews.{state_view}
use Rattle.annex_resolve.specs.BehavioursAndFindings.{states_in}
use Rattle.annex_resolve.proofs.states.states_of.Given as goal

abbrev pub invariant-loop-declaration : goal.invariant-loop-declaration
invariant-loop-declaration l =
    l.states ≡ flat_map states_in (map (state_view kept_place) (take l.declaration-index l.declaration-items))
