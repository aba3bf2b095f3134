-- The position at which terminals stop being a behaviour or nest too deep.
use Rattle.std.specs.Prelude.{ℕ, true, List, [], ◌∷◌}
use Rattle.aadl_lex.specs.declared.token.Token.{Token}
use Rattle.aadl_tree.specs.Terminals.{spots_from}
use Rattle.aadl_tree.specs.PackagesBehavioursAndNesting.{IsBehaviour}
use Rattle.aadl_tree.specs.TerminalFaults.{FailsAt, DeepAt}
use Rattle.aadl_tree.specs.TextTreesAndFaults.{outer_nesting}

-- the end of the last token; 0 if there is none
abbrev pub end_of : List Token → ℕ
end_of [] = 0
end_of (t ∷ []) = t.end
end_of (t ∷ u ∷ ts) = end_of (u ∷ ts)

-- No behaviour continues from this place on.
abbrev pub BehaviourStopsAt : List ℕ → List Token → ℕ → Type 0
BehaviourStopsAt text tokens at = FailsAt IsBehaviour outer_nesting (end_of tokens) (spots_from true text tokens) at

-- The opener at this place of the behaviour exceeds the nesting limit.
abbrev pub BehaviourNestsAt : List ℕ → List Token → ℕ → Type 0
BehaviourNestsAt text tokens at = DeepAt IsBehaviour outer_nesting (spots_from true text tokens) at
