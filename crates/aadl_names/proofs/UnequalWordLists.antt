-- Lists of words that have different lengths are not the same name.
use Rattle.std.proofs.Common.{◌≡◌, ◌≢◌, ℕ, false, ◌&&◌, List, [], ◌∷◌, length, refl, ap, ◌∙◌, map, suc}
use Rattle.std.proofs.Math.Bool.{and-false}
use Rattle.aadl_tree.specs.Names.{same_name}
use Rattle.aadl_tree.specs.declared.names.Identifier.{Identifier}
use Rattle.aadl_tree.specs.proof.NameViews.{identifier_view}
use Rattle.aadl_tree.specs.proof.PlaceMaps.{kept_place}
use Rattle.aadl_tree.specs.Names as n
use Rattle.aadl_names.specs.NameResolution.{same_words}

abbrev seen : List Identifier → List (n.Identifier ℕ)
seen xs = map (identifier_view kept_place) xs

pub words_differ : (a b : List Identifier) → length a ≢ length b → same_words (seen a) (seen b) ≡ false
words_differ [] [] d = absurd (d refl)
words_differ [] (y ∷ b) d = refl
words_differ (x ∷ a) [] d = refl
words_differ (x ∷ a) (y ∷ b) d =
    ap (λ c. same_name (identifier_view kept_place x).spelling (identifier_view kept_place y).spelling && c)
    (words_differ a b (λ e. d (ap suc e)))
    ∙ and-false (same_name (identifier_view kept_place x).spelling (identifier_view kept_place y).spelling)
