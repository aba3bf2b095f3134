use Rattle.std.proofs.Common.{◌≡◌, ◌++◌, length, take, All}
use Rattle.std.specs.List.{flat_map, zip}
use Rattle.pals_model.specs.RoundTexts.{text_of}
use Rattle.code_listing.specs.Listings.{component_lines}
use Rattle.code_listing.specs.NumberRanges.{NumbersFit}
use Rattle.code_listing.proofs.listing.add_components.Given as goal

-- the lines so far, of components whose numbers fit
abbrev pub invariant-loop-component : goal.invariant-loop-component
invariant-loop-component l =
    (l.out.items ≡ l.fn.out.items
    ++ text_of (flat_map (λ p. component_lines l.design p.0 p.1)
    (take (length l.yielded) (zip l.design.components l.codes))))
    × All (λ p. NumbersFit p.0.behaviour p.1) (take (length l.yielded) (zip l.design.components l.codes))
