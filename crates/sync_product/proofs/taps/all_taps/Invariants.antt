use Rattle.std.proofs.Common.{◌≡◌, List, [], ℕ, map, take}
use Rattle.pals_model.specs.declared.design.Component.{Component}
use Rattle.sync_product.proofs.TapPortTable.{table_from}
use Rattle.sync_product.proofs.taps.all_taps.Given as goal

abbrev pub invariant-loop-component : goal.invariant-loop-component
invariant-loop-component l =
    l.table ≡ map (λ (c : Component). let none : List ℕ = [] in none) (take l._component-index l._component-items)

abbrev pub invariant-loop-tap : goal.invariant-loop-tap
invariant-loop-tap l = l.table ≡ table_from 0 l.design.components (take l.tap-index l.tap-items)
