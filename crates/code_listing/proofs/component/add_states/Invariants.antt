use Rattle.std.proofs.Common.{◌≡◌, ◌++◌, length, map, take, All}
use Rattle.std.specs.List.{zip}
use Rattle.pals_model.specs.RoundTexts.{text_of}
use Rattle.code_listing.specs.Listings.{state_line}
use Rattle.code_listing.specs.NumberRanges.{EntryFits}
use Rattle.code_listing.proofs.component.add_states.Given as goal

-- the lines so far, of entries that fit
abbrev pub invariant-loop-state : goal.invariant-loop-state
invariant-loop-state l =
    (l.out.items ≡ l.fn.out.items
    ++ text_of (map (λ p. state_line p.0 p.1) (take (length l.yielded) (zip l.states l.entries))))
    × All (λ p. EntryFits p.1) (take (length l.yielded) (zip l.states l.entries))
