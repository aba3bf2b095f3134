use Rattle.std.proofs.Common.{◌∙◌, [], refl, arith}
use Rattle.aadl_grammar.specs.proof.ParserAnswers.{here}
use Rattle.aadl_grammar.proofs.TopSymbolMoves.{omits_unless, enters_as}
use Rattle.aadl_grammar.proofs.ParserFaults.{along, exits, no_reads}
use Rattle.aadl_grammar.proofs.PartSequences.{nothing}
use Rattle.aadl_grammar.proofs.ValueAndPropertyLists.{starts_at}
use Rattle.aadl_grammar.specs.proof.GrammarSymbols as s
use Rattle.aadl_grammar.specs.proof.StackMachine.{move, depth}
use Rattle.aadl_parse.proofs.declaration_members.data_type.Goals as goal

pub returns-then-not-is_word : goal.returns-then-not-is_word
unfolding move depth
returns-then-not-is_word c = record {
  runs =
      λ outer below h. omits_unless outer c.args.reader.now.end s.data_type (below) (here c.args.reader.now c.args.at)
      refl (rw c.if-not-is_word.true at c.is_word.ensures, tt);
  reads = nothing;
}

pub returns-in_err-found : goal.returns-in_err-found
unfolding move depth
returns-in_err-found c = record {
  runs =
      λ outer below h. exits _ _ _ _ _ _ _ c.from_residual.ensures.1
      (along _ _ _ (enters_as outer c.args.reader.now.end s.data_type s.reference ([]) (below) refl refl
      (starts_at (rw c.if-not-is_word.false at c.is_word.ensures)) refl)
      (c.in_err-found.ensures.runs outer (below) (omega arith)));
  reads = no_reads _ _ _ c.from_residual.ensures.1;
}

pub returns : goal.returns
unfolding move depth
returns c = record {
  runs =
      λ outer below h. enters_as outer c.args.reader.now.end s.data_type s.reference ([]) (below) refl refl
      (starts_at (rw c.if-not-is_word.false at c.is_word.ensures)) refl
      ∙ c.in_ok-found.ensures.runs outer (below) (omega arith);
  reads = c.in_ok-found.ensures.reads;
}
