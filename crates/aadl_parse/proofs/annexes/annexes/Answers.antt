use Rattle.std.proofs.Common.{◌∙◌, ◌∷◌, [], refl, arith}
use Rattle.aadl_grammar.specs.proof.ParserAnswers.{here}
use Rattle.aadl_grammar.proofs.TopSymbolMoves.{omits_unless, enters_as}
use Rattle.aadl_grammar.proofs.ParserFaults.{along, exits, no_reads}
use Rattle.aadl_grammar.proofs.PartSequences.{pushed}
use Rattle.aadl_tree.specs.Annexes.{annex_parts}
use Rattle.aadl_tree.specs.proof.AnnexViews.{annex_view}
use Rattle.aadl_tree.specs.proof.PlaceMaps.{kept_place}
use Rattle.aadl_parse.proofs.AnnexProgress.{annex_begun}
use Rattle.aadl_grammar.specs.proof.GrammarSymbols as s
use Rattle.aadl_grammar.specs.proof.StackMachine.{move, depth}
use Rattle.aadl_parse.proofs.annexes.annexes.Goals as goal

pub returns-in_err-next : goal.returns-in_err-next
unfolding move depth
returns-in_err-next c = record {
  runs =
      λ outer below h. exits _ _ _ _ _ _ _ c.from_residual.ensures.1
      (along _ _ _ (c.loop-behind.invariant.runs outer below (omega arith)
      ∙ enters_as outer c.args.reader.now.end s.annexes s.annex (s.annexes ∷ []) (below) refl refl c.in-Some.ensures
      refl) (c.in_err-next.ensures.runs outer (s.annexes ∷ below) (omega arith)));
  reads = no_reads _ _ _ c.from_residual.ensures.1;
}

pub loop-behind-preserved : goal.loop-behind-preserved
unfolding move depth
loop-behind-preserved c = record {
  runs = λ outer below h. c.loop-behind.invariant.runs outer below (omega arith)
      ∙ enters_as outer c.args.reader.now.end s.annexes s.annex (s.annexes ∷ []) (below) refl refl
      c.in-Some.ensures refl
      ∙ c.in_ok-next.ensures.runs outer (s.annexes ∷ below) (omega arith);
  reads =
      pushed annex_parts (annex_view kept_place) c.loop-behind.found.items c.push.new.self.items c.in_ok-next.next
      c.in_ok-push.ensures.items c.loop-behind.invariant.reads c.in_ok-next.ensures.reads;
}

pub loop-behind-smaller : goal.loop-behind-smaller
unfolding move depth
loop-behind-smaller c = annex_begun c.in_ok-next.next c.in_ok-next.ensures.reads

pub returns : goal.returns
unfolding move depth
returns c = record {
  runs = λ outer below h. c.loop-behind.invariant.runs outer below (omega arith)
      ∙ omits_unless outer c.args.reader.now.end s.annexes (below) (here c.args.reader.now c.loop-behind.rest) refl
      (c.in_default.ensures, tt);
  reads = c.loop-behind.invariant.reads;
}
