-- The loop of `reference`, which reads the names of a reference one by one: an iteration adds one more name.
use Rattle.std.proofs.Common.{◌≡◌, ◌∙◌, ap, sym, List, [], ◌∷◌, ◌++◌, map, flat_map, append_assoc}
use Rattle.aadl_tree.specs.declared.mark.Mark.TheVariants as k
use Rattle.aadl_tree.specs.declared.names.Identifier.{Identifier}
use Rattle.aadl_tree.specs.Terminals.{PlacedTerminal}
use Rattle.aadl_tree.specs.SpellingParts.{plain}
use Rattle.aadl_tree.specs.Names.{identifier_parts, qualifier_parts}
use Rattle.aadl_tree.specs.proof.NameViews.{identifier_view}
use Rattle.aadl_tree.specs.proof.PlaceMaps.{kept_place}
use Rattle.aadl_grammar.specs.proof.ParserAnswers.{AtMark, Reads}
use Rattle.aadl_grammar.proofs.PartSequences.{nothing, then, marked, respelled, listed}

pub qualified : (xs ys : List Identifier) (x : Identifier) {ss mid rest : List PlacedTerminal} → ys ≡ xs ++ x ∷ []
    → Reads (flat_map qualifier_parts (map (identifier_view kept_place) xs)
    ++ identifier_parts (identifier_view kept_place x)) ss mid → AtMark k.Scope mid rest
    → Reads (flat_map qualifier_parts (map (identifier_view kept_place) ys)) ss rest
qualified xs ys x e a l = respelled
    (append_assoc (flat_map qualifier_parts (map (identifier_view kept_place) xs))
    (identifier_parts (identifier_view kept_place x)) (plain k.Scope ∷ [])
    ∙ sym (ap (λ l. flat_map qualifier_parts (map (identifier_view kept_place) l)) e
    ∙ listed qualifier_parts (identifier_view kept_place) xs x))
    (then a (marked l nothing))
