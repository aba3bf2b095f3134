-- The behaviours among annexes, and what they declare.
use Rattle.std.specs.Prelude.{ℕ, List, [], flat_map, Option, Some, None, ◌∷◌}
use Rattle.std.specs.List.{filter_map}
use Rattle.aadl_tree.specs.Names.{Identifier, identifiers, listed_in}
use Rattle.aadl_tree.specs.Annexes.{VariableDeclaration, AnnexTree, foreign, behaviour, Annex}

-- a behaviour with the place of its annex
abbrev pub behaviour_in : Annex ℕ → Option (ℕ × AnnexTree ℕ)
behaviour_in x =
    elim x.content as (λ _. Option (ℕ × AnnexTree ℕ)) [ foreign bytes ↦ None | behaviour tree ↦ Some (x.at, tree) ]

abbrev pub behaviours : List (Annex ℕ) → List (ℕ × AnnexTree ℕ)
behaviours xs = filter_map behaviour_in xs

abbrev pub variables_of : AnnexTree ℕ → List (Identifier ℕ)
variables_of tree = flat_map (λ v. identifiers v.names) (listed_in tree.variables)

abbrev pub states_of : AnnexTree ℕ → List (Identifier ℕ)
states_of tree = flat_map (λ s. identifiers s.names) (listed_in tree.states)

-- the declarations of variables in an annex
abbrev pub variables_in : Annex ℕ → List (VariableDeclaration ℕ)
variables_in x =
    elim x.content as (λ _. List (VariableDeclaration ℕ))
    [ foreign bytes ↦ [] | behaviour tree ↦ listed_in tree.variables ]

abbrev pub first_behaviour : List (ℕ × AnnexTree ℕ) → Option (AnnexTree ℕ)
first_behaviour [] = None
first_behaviour (b ∷ bs) = Some b.1
