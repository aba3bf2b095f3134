use Rattle.std.proofs.Common.{◌≡◌, ℕ, ◌+◌, ◌*◌, ◌∷◌, ◌++◌, length}
use Rattle.aadl_tree.specs.Actions.{action_parts, mores_parts, elsifs_parts}
use Rattle.aadl_tree.specs.proof.ActionViews.{action_view, mores_view, elsifs_view}
use Rattle.aadl_tree.specs.proof.PlaceMaps.{kept_place}
use Rattle.aadl_tree.specs.declared.nesting_limit.TheConstants.{GREATEST_NESTING}
use Rattle.aadl_grammar.specs.proof.GrammarSymbols as s
use Rattle.aadl_grammar.specs.proof.StackMachine.{Stack, depth, fate}
use Rattle.aadl_grammar.specs.proof.ParserAnswers.{here, Reads}
use Rattle.behaviour_parse.proofs.actions.+action.Given as goal

abbrev pub decreases-block : goal.decreases-block
decreases-block l = 8 * l.room + 0

abbrev pub decreases-repetition : goal.decreases-repetition
decreases-repetition l = 8 * l.room + 1

abbrev pub decreases-action : goal.decreases-action
decreases-action l = 8 * l.room + 2

abbrev pub decreases-actions : goal.decreases-actions
decreases-actions l = 8 * l.room + 3

abbrev pub decreases-elsifs : goal.decreases-elsifs
decreases-elsifs l = 8 * l.room + 4

abbrev pub decreases-otherwise : goal.decreases-otherwise
decreases-otherwise l = 8 * l.room + 4

abbrev pub decreases-choice : goal.decreases-choice
decreases-choice l = 8 * l.room + 5

abbrev pub invariant-elsifs-loop-behind : goal.invariant-elsifs-loop-behind
invariant-elsifs-loop-behind l = record {
  runs : (outer : ℕ) (below : Stack) → outer + depth below + l.room ≡ GREATEST_NESTING
      → fate outer l.reader.end (s.elsifs ∷ below) (here l.reader l.at)
      ≡ fate outer l.reader.end (s.elsifs ∷ below) (here l.reader l.rest);
  reads : Reads (elsifs_parts (elsifs_view kept_place l.found.items)) (here l.reader l.at) (here l.reader l.rest);
}

abbrev pub decreases-elsifs-loop-behind : goal.decreases-elsifs-loop-behind
decreases-elsifs-loop-behind l = length (here l.reader l.rest)

abbrev pub invariant-actions-loop-behind : goal.invariant-actions-loop-behind
invariant-actions-loop-behind l = record {
  runs : (outer : ℕ) (below : Stack) → outer + depth below + l.room ≡ GREATEST_NESTING
      → fate outer l.reader.end (s.actions ∷ below) (here l.reader l.at)
      ≡ fate outer l.reader.end (s.mores ∷ below) (here l.reader l.rest);
  reads : Reads (action_parts (action_view kept_place l.first) ++ mores_parts (mores_view kept_place l.others.items))
      (here l.reader l.at) (here l.reader l.rest);
}

abbrev pub decreases-actions-loop-behind : goal.decreases-actions-loop-behind
decreases-actions-loop-behind l = length (here l.reader l.rest)
