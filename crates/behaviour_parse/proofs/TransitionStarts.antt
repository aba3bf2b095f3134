-- A transition begins with a terminal; its label, source and guard precede its target.
use Rattle.std.proofs.Common.{◌≡◌, ◌∙◌, ap, sym, ℕ, ◌<◌, List, [], ◌∷◌, ◌++◌, length, append_assoc, Option, Some, None}
use Rattle.aadl_tree.specs.declared.mark.Mark.TheVariants as k
use Rattle.aadl_tree.specs.declared.annex.Transition.{Transition}
use Rattle.aadl_tree.specs.Terminals.{PlacedTerminal}
use Rattle.aadl_tree.specs.SpellingParts.{SpellingPart, plain}
use Rattle.aadl_tree.specs.Names as n
use Rattle.aadl_tree.specs.Annexes as x
use Rattle.aadl_tree.specs.proof.AnnexViews.{transition_view}
use Rattle.aadl_tree.specs.proof.PlaceMaps.{kept_place}
use Rattle.aadl_grammar.specs.proof.ParserAnswers.{Reads}
use Rattle.aadl_grammar.proofs.PartSequences.{begun}

plain_begun : (label : Option (n.Identifier ℕ)) (t : x.Transition ℕ) {ss rest : List PlacedTerminal}
    → Reads (x.transition_parts
    (record { label = label; source = t.source; guard = t.guard; target = t.target; effect = t.effect })) ss rest
    → length rest < length ss
plain_begun None t a = begun a
plain_begun (Some y) t a = begun a

pub transition_begun : (t : Transition) {ss rest : List PlacedTerminal}
    → Reads (x.transition_parts (transition_view kept_place t)) ss rest → length rest < length ss
transition_begun t a = plain_begun (transition_view kept_place t).label (transition_view kept_place t) a

-- the start of a transition, its label, its guard in brackets, and its target
pub departed : (first second label source guard arrival : List (SpellingPart ℕ)) → label ++ source ≡ first ++ second
    → first ++ ((second ++ (plain k.GuardOpen ∷ (guard ++ plain k.GuardClose ∷ []))) ++ arrival)
    ≡ label ++ (source ++ (plain k.GuardOpen ∷ (guard ++ (plain k.GuardClose ∷ arrival))))
departed first second label source guard arrival e =
    grouped first second guard arrival
    ∙ ap (λ l. l ++ (plain k.GuardOpen ∷ (guard ++ (plain k.GuardClose ∷ arrival)))) (sym e)
    ∙ append_assoc label source (plain k.GuardOpen ∷ (guard ++ (plain k.GuardClose ∷ arrival))) where
      grouped : (f s g a : List (SpellingPart ℕ))
          → f ++ ((s ++ (plain k.GuardOpen ∷ (g ++ plain k.GuardClose ∷ []))) ++ a)
          ≡ (f ++ s) ++ (plain k.GuardOpen ∷ (g ++ (plain k.GuardClose ∷ a)))
      grouped f s g a = simp append_assoc
