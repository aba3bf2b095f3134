use Rattle.std.proofs.Common.{◌∙◌, ◌∷◌, [], ap, sym, refl, arith}
use Rattle.aadl_grammar.specs.proof.ParserAnswers.{here}
use Rattle.aadl_grammar.proofs.TopSymbolMoves.{takes_row, deep_row, omits_unless, refuses_unless, begins_as, enters_as}
use Rattle.aadl_grammar.proofs.ParserFaults.{along, exits, no_reads, too_deep}
use Rattle.aadl_grammar.proofs.PartSequences.{nothing, respelled}
use Rattle.aadl_tree.specs.Values.{properties_parts}
use Rattle.aadl_tree.specs.proof.ValueViews.{associations_view}
use Rattle.aadl_tree.specs.proof.PlaceMaps.{kept_place}
use Rattle.aadl_grammar.proofs.ValueAndPropertyLists.{starts_at, braced}
use Rattle.aadl_tree.specs.declared.mark.Mark.TheVariants as k
use Rattle.aadl_grammar.specs.proof.GrammarSymbols as s
use Rattle.aadl_grammar.specs.proof.StackMachine.{move, depth, syntax_at}
use Rattle.aadl_grammar.proofs.values.properties.Goals as goal

pub returns-in_default : goal.returns-in_default
unfolding move depth
returns-in_default c = record {
  runs =
      λ outer below h. omits_unless outer c.args.reader.now.end s.properties (below) (here c.args.reader.now c.args.at)
      refl (c.in_default.ensures, tt);
  reads = respelled (ap (λ l. properties_parts (associations_view kept_place l)) (sym c.new.ensures.items)) nothing;
}

pub returns-in_err-inner : goal.returns-in_err-inner
unfolding move depth
returns-in_err-inner c = record {
  runs =
      λ outer below h. exits _ _ _ _ _ _ _ c.from_residual.ensures.1
      (too_deep _ _ _ c.in_err-inner.ensures.1
      (deep_row outer c.args.reader.now.end s.properties (below) c.in-Some.ensures refl
      (omega (arith, c.in_err-inner.ensures.0))));
  reads = no_reads _ _ _ c.from_residual.ensures.1;
}

pub returns-then-not-is_word : goal.returns-then-not-is_word
unfolding move depth
returns-then-not-is_word c = record {
  runs =
      λ outer below h. takes_row outer c.args.reader.now.end s.properties (below) c.in-Some.ensures refl
      (omega (arith, c.in_ok-inner.ensures))
      ∙ begins_as outer c.args.reader.now.end s.association s.name
      (s.operator ∷ s.constant ∷ s.value ∷ s.applies ∷ s.only k.Semicolon ∷ [])
      (s.associations ∷ s.only k.BraceClose ∷ below) (here c.args.reader.now c.in-Some.next) refl refl refl
      ∙ refuses_unless outer c.args.reader.now.end s.name
      (s.operator ∷ s.constant ∷ s.value ∷ s.applies ∷ s.only k.Semicolon ∷ s.associations ∷ s.only k.BraceClose
      ∷ below) (here c.args.reader.now c.in-Some.next) refl (rw c.if-not-is_word.true at c.is_word.ensures, tt)
      ∙ ap syntax_at (sym c.place.ensures);
  reads = tt;
}

pub returns-in_err-found : goal.returns-in_err-found
unfolding move depth
returns-in_err-found c = record {
  runs =
      λ outer below h. exits _ _ _ _ _ _ _ c.from_residual-in_err-found.ensures.1
      (along _ _ _ (takes_row outer c.args.reader.now.end s.properties (below) c.in-Some.ensures refl
      (omega (arith, c.in_ok-inner.ensures))
      ∙ sym (enters_as outer c.args.reader.now.end s.associations s.association (s.associations ∷ [])
      (s.only k.BraceClose ∷ below) refl refl (starts_at (rw c.if-not-is_word.false at c.is_word.ensures)) refl))
      (c.in_err-found.ensures.runs outer (s.only k.BraceClose ∷ below) (omega (arith, c.in_ok-inner.ensures))));
  reads = no_reads _ _ _ c.from_residual-in_err-found.ensures.1;
}

pub returns-in_err-end : goal.returns-in_err-end
unfolding move depth
returns-in_err-end c = record {
  runs =
      λ outer below h. exits _ _ _ _ _ _ _ c.from_residual-in_err-end.ensures.1
      (along _ _ _ (takes_row outer c.args.reader.now.end s.properties (below) c.in-Some.ensures refl
      (omega (arith, c.in_ok-inner.ensures))
      ∙ sym (enters_as outer c.args.reader.now.end s.associations s.association (s.associations ∷ [])
      (s.only k.BraceClose ∷ below) refl refl (starts_at (rw c.if-not-is_word.false at c.is_word.ensures)) refl)
      ∙ c.in_ok-found.ensures.runs outer (s.only k.BraceClose ∷ below) (omega (arith, c.in_ok-inner.ensures)))
      (c.in_err-end.ensures.runs outer (below) (omega (arith, c.in_ok-inner.ensures))));
  reads = no_reads _ _ _ c.from_residual-in_err-end.ensures.1;
}

pub returns : goal.returns
unfolding move depth
returns c = record {
  runs =
      λ outer below h. takes_row outer c.args.reader.now.end s.properties (below) c.in-Some.ensures refl
      (omega (arith, c.in_ok-inner.ensures))
      ∙ sym (enters_as outer c.args.reader.now.end s.associations s.association (s.associations ∷ [])
      (s.only k.BraceClose ∷ below) refl refl (starts_at (rw c.if-not-is_word.false at c.is_word.ensures)) refl)
      ∙ c.in_ok-found.ensures.runs outer (s.only k.BraceClose ∷ below) (omega (arith, c.in_ok-inner.ensures))
      ∙ c.in_ok-end.ensures.runs outer (below) (omega (arith, c.in_ok-inner.ensures));
  reads =
      braced c.in_ok-found.found.items (rw c.if-not-is_word.false at c.is_word.ensures) c.in-Some.ensures
      c.in_ok-found.ensures.reads c.in_ok-end.ensures.reads;
}
