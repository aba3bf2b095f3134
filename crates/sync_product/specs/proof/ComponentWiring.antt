-- How the components of a design are wired, and the out ports of components that root out ports show.
use Rattle.std.specs.Prelude.{◌≡◌, ℕ, Some, slice_get, nat_eq, List, map, filter}
use Rattle.pals_model.specs.declared.design.DesignParts.{DesignParts}
use Rattle.pals_model.specs.ComponentInputs.{sources_of, all_sources}
use Rattle.sync_product.specs.declared.wiring.WiredComponent.{WiredComponent}
use Rattle.sync_product.specs.declared.wiring.Wiring.{Wiring}
use Rattle.std.specs.List.{enumerate_from}
use Rattle.pals_model.specs.declared.design.Tap.{Tap}

-- the out ports of a component that root out ports show, in their order
abbrev pub tap_ports : List Tap → ℕ → List ℕ
tap_ports taps node = map (λ (tap : Tap). tap.out_port) (filter (λ (tap : Tap). nat_eq tap.source.0 node) taps)

abbrev pub all_taps : DesignParts → List (List ℕ)
all_taps design = map (λ numbered. tap_ports design.taps numbered.0) (enumerate_from 0 design.components)

-- a component of a design
pub record IsWired (design : DesignParts) (node : ℕ) (wired : WiredComponent) : Type 0 where
  pub component_is : slice_get design.components node ≡ Some wired.component.now
  pub sources_are : wired.sources.now ≡ sources_of design node wired.component.now
  pub taps_are : wired.taps.now ≡ tap_ports design.taps node

-- all its components
pub record IsWiring (design : DesignParts) (wiring : Wiring) : Type 0 where
  pub sources_are : wiring.sources ≡ all_sources design
  pub taps_are : wiring.taps ≡ all_taps design
