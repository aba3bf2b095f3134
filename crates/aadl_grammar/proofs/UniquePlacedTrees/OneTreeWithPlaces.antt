-- A package or behaviour with its places is the only one that its tokens spell: the law `one_tree_with_places`.
use Rattle.std.proofs.Common.{◌≡◌, ℕ, ◌∙◌, sym, ap, List, []}
use Rattle.aadl_tree.specs.Terminals.{PlacedTerminal, kinds_of}
use Rattle.aadl_tree.specs.SpellingParts.{SpellingPart, Written}
use Rattle.aadl_tree.specs.Annexes.{AnnexTree, annex_tree_parts}
use Rattle.aadl_tree.specs.Declarations.{PackageTree, package_parts}
use Rattle.aadl_tree.proofs.SpellingParts.{written_spells}
use Rattle.aadl_grammar.proofs.UniquePlacedTrees.PlaceCounts.{shape}
use Rattle.aadl_grammar.proofs.PlaceIndependence.AlikeParts.{Alike, alike_spells, alike_shape}
use Rattle.aadl_tree.specs.proof.PlaceMaps.{no_place, annex_tree_to, package_to}
use Rattle.aadl_grammar.proofs.PlaceIndependence.Annexes.{annex_tree_alike}
use Rattle.aadl_grammar.proofs.PlaceIndependence.Declarations.{package_alike}
use Rattle.aadl_grammar.proofs.DerivationTrees.UniqueTrees.{one_package, one_behaviour}
use Rattle.aadl_grammar.proofs.UniquePlacedTrees.PlacesFromTokens.{same_places}
use Rattle.aadl_grammar.proofs.UniquePlacedTrees.Names.{Fixed}
use Rattle.aadl_grammar.proofs.UniquePlacedTrees.Annexes.{annex_tree_fixed}
use Rattle.aadl_grammar.proofs.UniquePlacedTrees.Declarations.{package_fixed}

-- two trees with one shape
from_bare : {T U : Type 0} (to : T → U) (parts : T → List (SpellingPart ℕ)) (bare : U → List (SpellingPart (Unit {0})))
    → ((t : T) → Alike no_place (parts t) (bare (to t))) → Fixed T U to parts
    → (ss : List PlacedTerminal) (t u : T) → to t ≡ to u → Written (parts t) ss [] → Written (parts u) ss [] → t ≡ u
from_bare to parts bare alike f ss t u e w v =
    let r =
    f t u [] [] e (same_places (parts t) (parts u) ss
    (alike_shape (alike t) ∙ ap (λ x. shape (bare x)) e ∙ sym (alike_shape (alike u))) w v) in
    r.tree

pub one_placed_package : (ss : List PlacedTerminal) (t u : PackageTree ℕ) → Written (package_parts t) ss []
    → Written (package_parts u) ss [] → t ≡ u
one_placed_package ss t u w v =
    from_bare (package_to no_place) package_parts package_parts (package_alike no_place) package_fixed ss t u
    (one_package (kinds_of ss) (package_to no_place t) (package_to no_place u)
    (alike_spells (kinds_of ss) [] (package_alike no_place t) (written_spells (package_parts t) ss [] w))
    (alike_spells (kinds_of ss) [] (package_alike no_place u) (written_spells (package_parts u) ss [] v))) w v

pub one_placed_behaviour : (ss : List PlacedTerminal) (t u : AnnexTree ℕ) → Written (annex_tree_parts t) ss []
    → Written (annex_tree_parts u) ss [] → t ≡ u
one_placed_behaviour ss t u w v =
    from_bare (annex_tree_to no_place) annex_tree_parts annex_tree_parts (annex_tree_alike no_place)
    annex_tree_fixed ss t u
    (one_behaviour (kinds_of ss) (annex_tree_to no_place t) (annex_tree_to no_place u)
    (alike_spells (kinds_of ss) [] (annex_tree_alike no_place t) (written_spells (annex_tree_parts t) ss [] w))
    (alike_spells (kinds_of ss) [] (annex_tree_alike no_place u) (written_spells (annex_tree_parts u) ss [] v))) w v
