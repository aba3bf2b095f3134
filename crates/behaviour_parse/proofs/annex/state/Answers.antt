use Rattle.std.proofs.Common.{◌∙◌, ◌∷◌, [], refl, arith}
use Rattle.aadl_grammar.specs.proof.ParserAnswers.{here}
use Rattle.aadl_grammar.proofs.TopSymbolMoves.{begins_as, flag_runs}
use Rattle.aadl_grammar.proofs.ParserFaults.{along, exits, no_reads}
use Rattle.aadl_grammar.proofs.PartSequences.{nothing, then, marked, flagged}
use Rattle.aadl_tree.specs.declared.mark.Mark.TheVariants as k
use Rattle.aadl_grammar.specs.proof.GrammarSymbols as s
use Rattle.aadl_grammar.specs.proof.StackMachine.{move, depth}
use Rattle.behaviour_parse.proofs.annex.state.Goals as goal

pub returns-in_err-names : goal.returns-in_err-names
unfolding move depth
returns-in_err-names c = record {
  runs =
      λ outer below h. exits _ _ _ _ _ _ _ c.from_residual.ensures.1
      (along _ _ _ (begins_as outer c.args.reader.now.end s.state s.identifier
      (s.more_identifiers ∷ s.only k.Colon ∷ s.initial ∷ s.complete ∷ s.only k.State ∷ s.only k.Semicolon ∷ [])
      (below) (here c.args.reader.now c.args.at) refl refl refl)
      (c.in_err-names.ensures.runs outer
      (s.only k.Colon ∷ s.initial ∷ s.complete ∷ s.only k.State ∷ s.only k.Semicolon ∷ below)
      (omega arith)));
  reads = no_reads _ _ _ c.from_residual.ensures.1;
}

pub returns-in_err-colon : goal.returns-in_err-colon
unfolding move depth
returns-in_err-colon c = record {
  runs =
      λ outer below h. exits _ _ _ _ _ _ _ c.from_residual-in_err-colon.ensures.1
      (along _ _ _ (begins_as outer c.args.reader.now.end s.state s.identifier
      (s.more_identifiers ∷ s.only k.Colon ∷ s.initial ∷ s.complete ∷ s.only k.State ∷ s.only k.Semicolon ∷ [])
      (below) (here c.args.reader.now c.args.at) refl refl refl
      ∙ c.in_ok-names.ensures.runs outer
      (s.only k.Colon ∷ s.initial ∷ s.complete ∷ s.only k.State ∷ s.only k.Semicolon ∷ below) (omega arith))
      (c.in_err-colon.ensures.runs outer (s.initial ∷ s.complete ∷ s.only k.State ∷ s.only k.Semicolon ∷ below)
      (omega arith)));
  reads = no_reads _ _ _ c.from_residual-in_err-colon.ensures.1;
}

pub returns-in_err-keyword : goal.returns-in_err-keyword
unfolding move depth
returns-in_err-keyword c = record {
  runs =
      λ outer below h. exits _ _ _ _ _ _ _ c.from_residual-in_err-keyword.ensures.1
      (along _ _ _ (begins_as outer c.args.reader.now.end s.state s.identifier
      (s.more_identifiers ∷ s.only k.Colon ∷ s.initial ∷ s.complete ∷ s.only k.State ∷ s.only k.Semicolon ∷ [])
      (below) (here c.args.reader.now c.args.at) refl refl refl
      ∙ c.in_ok-names.ensures.runs outer
      (s.only k.Colon ∷ s.initial ∷ s.complete ∷ s.only k.State ∷ s.only k.Semicolon ∷ below) (omega arith)
      ∙ c.in_ok-colon.ensures.runs outer (s.initial ∷ s.complete ∷ s.only k.State ∷ s.only k.Semicolon ∷ below)
      (omega arith)
      ∙ flag_runs outer c.args.reader.now.end s.initial (s.complete ∷ s.only k.State ∷ s.only k.Semicolon ∷ below)
      k.Initial c.has-initial.result.0 (here c.args.reader.now c.in_ok-colon.colon)
      (here c.args.reader.now c.has-initial.result.1) refl refl refl (omega arith) c.has-initial.ensures
      ∙ flag_runs outer c.args.reader.now.end s.complete (s.only k.State ∷ s.only k.Semicolon ∷ below) k.Complete
      c.has-complete.result.0 (here c.args.reader.now c.has-initial.result.1)
      (here c.args.reader.now c.has-complete.result.1) refl refl refl (omega arith) c.has-complete.ensures)
      (c.in_err-keyword.ensures.runs outer (s.only k.Semicolon ∷ below) (omega arith)));
  reads = no_reads _ _ _ c.from_residual-in_err-keyword.ensures.1;
}

pub returns-in_err-end : goal.returns-in_err-end
unfolding move depth
returns-in_err-end c = record {
  runs =
      λ outer below h. exits _ _ _ _ _ _ _ c.from_residual-in_err-end.ensures.1
      (along _ _ _ (begins_as outer c.args.reader.now.end s.state s.identifier
      (s.more_identifiers ∷ s.only k.Colon ∷ s.initial ∷ s.complete ∷ s.only k.State ∷ s.only k.Semicolon ∷ [])
      (below) (here c.args.reader.now c.args.at) refl refl refl
      ∙ c.in_ok-names.ensures.runs outer
      (s.only k.Colon ∷ s.initial ∷ s.complete ∷ s.only k.State ∷ s.only k.Semicolon ∷ below) (omega arith)
      ∙ c.in_ok-colon.ensures.runs outer (s.initial ∷ s.complete ∷ s.only k.State ∷ s.only k.Semicolon ∷ below)
      (omega arith)
      ∙ flag_runs outer c.args.reader.now.end s.initial (s.complete ∷ s.only k.State ∷ s.only k.Semicolon ∷ below)
      k.Initial c.has-initial.result.0 (here c.args.reader.now c.in_ok-colon.colon)
      (here c.args.reader.now c.has-initial.result.1) refl refl refl (omega arith) c.has-initial.ensures
      ∙ flag_runs outer c.args.reader.now.end s.complete (s.only k.State ∷ s.only k.Semicolon ∷ below) k.Complete
      c.has-complete.result.0 (here c.args.reader.now c.has-initial.result.1)
      (here c.args.reader.now c.has-complete.result.1) refl refl refl (omega arith) c.has-complete.ensures
      ∙ c.in_ok-keyword.ensures.runs outer (s.only k.Semicolon ∷ below) (omega arith))
      (c.in_err-end.ensures.runs outer (below) (omega arith)));
  reads = no_reads _ _ _ c.from_residual-in_err-end.ensures.1;
}

pub returns : goal.returns
unfolding move depth
returns c = record {
  runs =
      λ outer below h. begins_as outer c.args.reader.now.end s.state s.identifier
      (s.more_identifiers ∷ s.only k.Colon ∷ s.initial ∷ s.complete ∷ s.only k.State ∷ s.only k.Semicolon ∷ []) (below)
      (here c.args.reader.now c.args.at) refl refl refl
      ∙ c.in_ok-names.ensures.runs outer
      (s.only k.Colon ∷ s.initial ∷ s.complete ∷ s.only k.State ∷ s.only k.Semicolon ∷ below) (omega arith)
      ∙ c.in_ok-colon.ensures.runs outer (s.initial ∷ s.complete ∷ s.only k.State ∷ s.only k.Semicolon ∷ below)
      (omega arith)
      ∙ flag_runs outer c.args.reader.now.end s.initial (s.complete ∷ s.only k.State ∷ s.only k.Semicolon ∷ below)
      k.Initial c.has-initial.result.0 (here c.args.reader.now c.in_ok-colon.colon)
      (here c.args.reader.now c.has-initial.result.1) refl refl refl (omega arith) c.has-initial.ensures
      ∙ flag_runs outer c.args.reader.now.end s.complete (s.only k.State ∷ s.only k.Semicolon ∷ below) k.Complete
      c.has-complete.result.0 (here c.args.reader.now c.has-initial.result.1)
      (here c.args.reader.now c.has-complete.result.1) refl refl refl (omega arith) c.has-complete.ensures
      ∙ c.in_ok-keyword.ensures.runs outer (s.only k.Semicolon ∷ below) (omega arith)
      ∙ c.in_ok-end.ensures.runs outer (below) (omega arith);
  reads =
      then c.in_ok-names.ensures.reads
      (marked c.in_ok-colon.ensures.reads
      (then (flagged k.Initial c.has-initial.result.0 c.has-initial.ensures)
      (then (flagged k.Complete c.has-complete.result.0 c.has-complete.ensures)
      (marked c.in_ok-keyword.ensures.reads (marked c.in_ok-end.ensures.reads nothing)))));
}
