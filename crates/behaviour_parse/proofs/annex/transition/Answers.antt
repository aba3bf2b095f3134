use Rattle.std.proofs.Common.{◌∙◌, ◌∷◌, ◌++◌, [], refl, arith}
use Rattle.std.specs.Prelude.{option_map}
use Rattle.aadl_tree.specs.SpellingParts.{plain, behind, parts_if}
use Rattle.aadl_tree.specs.Names.{identifier_parts}
use Rattle.aadl_tree.specs.Actions.{block_parts}
use Rattle.aadl_tree.specs.Annexes.{guard_parts, label_parts}
use Rattle.aadl_tree.specs.proof.NameViews.{identifier_view}
use Rattle.aadl_tree.specs.proof.ActionViews.{block_view}
use Rattle.aadl_tree.specs.proof.AnnexViews.{guard_view}
use Rattle.aadl_tree.specs.proof.PlaceMaps.{kept_place}
use Rattle.aadl_grammar.specs.proof.ParserAnswers.{here}
use Rattle.aadl_grammar.proofs.TopSymbolMoves.{begins_as}
use Rattle.aadl_grammar.proofs.ParserFaults.{along, exits, no_reads}
use Rattle.aadl_grammar.proofs.PartSequences.{then, respelled}
use Rattle.behaviour_parse.proofs.TransitionStarts.{departed}
use Rattle.aadl_tree.specs.declared.mark.Mark.TheVariants as k
use Rattle.aadl_grammar.specs.proof.GrammarSymbols as s
use Rattle.aadl_grammar.specs.proof.StackMachine.{move, depth}
use Rattle.behaviour_parse.proofs.annex.transition.Goals as goal

pub returns-in_err-first : goal.returns-in_err-first
unfolding move depth
returns-in_err-first c = record {
  runs =
      λ outer below h. exits _ _ _ _ _ _ _ c.from_residual.ensures.1
      (along _ _ _ (begins_as outer c.args.reader.now.end s.transition s.identifier
      (s.after_word ∷ s.identifier ∷ s.effect ∷ s.only k.Semicolon ∷ []) (below) (here c.args.reader.now c.args.at)
      refl refl refl) (c.in_err-first.ensures.runs outer
      (s.after_word ∷ s.identifier ∷ s.effect ∷ s.only k.Semicolon ∷ below) (omega arith)));
  reads = no_reads _ _ _ c.from_residual.ensures.1;
}

pub returns-in_err-second : goal.returns-in_err-second
unfolding move depth
returns-in_err-second c = record {
  runs =
      λ outer below h. exits _ _ _ _ _ _ _ c.from_residual-in_err-second.ensures.1
      (along _ _ _ (begins_as outer c.args.reader.now.end s.transition s.identifier
      (s.after_word ∷ s.identifier ∷ s.effect ∷ s.only k.Semicolon ∷ []) (below) (here c.args.reader.now c.args.at)
      refl refl refl
      ∙ c.in_ok-first.ensures.runs outer (s.after_word ∷ s.identifier ∷ s.effect ∷ s.only k.Semicolon ∷ below)
      (omega arith)) (c.in_err-second.ensures.runs outer (s.identifier ∷ s.effect ∷ s.only k.Semicolon ∷ below)
      (omega arith)));
  reads = no_reads _ _ _ c.from_residual-in_err-second.ensures.1;
}

pub returns-in_err-target : goal.returns-in_err-target
unfolding move depth
returns-in_err-target c = record {
  runs =
      λ outer below h. exits _ _ _ _ _ _ _ c.from_residual-in_err-target.ensures.1
      (along _ _ _ (begins_as outer c.args.reader.now.end s.transition s.identifier
      (s.after_word ∷ s.identifier ∷ s.effect ∷ s.only k.Semicolon ∷ []) (below) (here c.args.reader.now c.args.at)
      refl refl refl
      ∙ c.in_ok-first.ensures.runs outer (s.after_word ∷ s.identifier ∷ s.effect ∷ s.only k.Semicolon ∷ below)
      (omega arith)
      ∙ c.in_ok-second.ensures.runs outer (s.identifier ∷ s.effect ∷ s.only k.Semicolon ∷ below) (omega arith))
      (c.in_err-target.ensures.runs outer (below) (omega arith)));
  reads = no_reads _ _ _ c.from_residual-in_err-target.ensures.1;
}

pub returns : goal.returns
unfolding move depth
returns c = record {
  runs =
      λ outer below h. begins_as outer c.args.reader.now.end s.transition s.identifier
      (s.after_word ∷ s.identifier ∷ s.effect ∷ s.only k.Semicolon ∷ []) (below) (here c.args.reader.now c.args.at)
      refl refl refl
      ∙ c.in_ok-first.ensures.runs outer (s.after_word ∷ s.identifier ∷ s.effect ∷ s.only k.Semicolon ∷ below)
      (omega arith)
      ∙ c.in_ok-second.ensures.runs outer (s.identifier ∷ s.effect ∷ s.only k.Semicolon ∷ below) (omega arith)
      ∙ c.in_ok-target.ensures.runs outer (below) (omega arith);
  reads =
      respelled (departed (identifier_parts (identifier_view kept_place c.in_ok-first.first))
      (parts_if (behind k.Colon identifier_parts) (option_map (identifier_view kept_place) c.in_ok-second.second))
      (parts_if label_parts (option_map (identifier_view kept_place) c.labelled-label.result.0))
      (identifier_parts (identifier_view kept_place c.labelled-label.result.1))
      (parts_if guard_parts (option_map (guard_view kept_place) c.in_ok-second.guard))
      (identifier_parts (identifier_view kept_place c.in_ok-target.target)
      ++ (parts_if block_parts (option_map (block_view kept_place) c.in_ok-target.effect) ++ plain k.Semicolon
      ∷ [])) c.labelled-label.ensures)
      (then c.in_ok-first.ensures.reads (then c.in_ok-second.ensures.reads c.in_ok-target.ensures.reads));
}
