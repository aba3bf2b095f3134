use Rattle.std.proofs.Common.{◌∙◌, ◌∷◌, [], ◌++◌, ap, sym, refl, arith, map}
use Rattle.aadl_grammar.specs.proof.ParserAnswers.{here}
use Rattle.aadl_grammar.proofs.TopSymbolMoves.{takes_row, omits_unless, begins_as}
use Rattle.aadl_grammar.proofs.ParserFaults.{along, exits, no_reads}
use Rattle.aadl_grammar.proofs.PartSequences.{then, respelled, regroup}
use Rattle.std.specs.Prelude.{flat_map}
use Rattle.aadl_tree.specs.Names.{identifier_parts, qualifier_parts}
use Rattle.aadl_tree.specs.proof.NameViews.{identifier_view}
use Rattle.aadl_tree.specs.proof.PlaceMaps.{kept_place}
use Rattle.aadl_grammar.proofs.ReferenceLoop.{qualified}
use Rattle.aadl_grammar.specs.proof.GrammarSymbols as s
use Rattle.aadl_grammar.specs.proof.StackMachine.{move, depth}
use Rattle.aadl_grammar.proofs.names.reference.Goals as goal

pub returns-in_err-type_name : goal.returns-in_err-type_name
unfolding move depth
returns-in_err-type_name c = record {
  runs =
      λ outer below h. exits _ _ _ _ _ _ _ c.from_residual.ensures.1
      (along _ _ _ (begins_as outer c.args.reader.now.end s.reference s.name (s.dot_identifier ∷ []) (below)
      (here c.args.reader.now c.args.at) refl refl refl
      ∙ begins_as outer c.args.reader.now.end s.name s.identifier (s.names ∷ []) (s.dot_identifier ∷ below)
      (here c.args.reader.now c.args.at) refl refl refl)
      (c.in_err-type_name.ensures.runs outer (s.names ∷ s.dot_identifier ∷ below) (omega arith)));
  reads = no_reads _ _ _ c.from_residual.ensures.1;
}

pub loop-behind-init : goal.loop-behind-init
unfolding move depth
loop-behind-init c = record {
  runs =
      λ outer below h. begins_as outer c.args.reader.now.end s.reference s.name (s.dot_identifier ∷ []) (below)
      (here c.args.reader.now c.args.at) refl refl refl
      ∙ begins_as outer c.args.reader.now.end s.name s.identifier (s.names ∷ []) (s.dot_identifier ∷ below)
      (here c.args.reader.now c.args.at) refl refl refl
      ∙ c.in_ok-type_name.ensures.runs outer (s.names ∷ s.dot_identifier ∷ below) (omega arith);
  reads =
      respelled (ap (λ l. flat_map qualifier_parts (map (identifier_view kept_place) l)
      ++ identifier_parts (identifier_view kept_place c.in_ok-type_name.type_name))
      (sym c.new-qualifiers.ensures.items)) c.in_ok-type_name.ensures.reads;
}

pub returns-in_err-next : goal.returns-in_err-next
unfolding move depth
returns-in_err-next c = record {
  runs =
      λ outer below h. exits _ _ _ _ _ _ _ c.from_residual-in_err-next.ensures.1
      (along _ _ _ (c.loop-behind.invariant.runs outer below (omega arith)
      ∙ takes_row outer c.args.reader.now.end s.names (s.dot_identifier ∷ below) c.in-Some.ensures refl (omega arith)
      ∙ begins_as outer c.args.reader.now.end s.name s.identifier (s.names ∷ []) (s.dot_identifier ∷ below)
      (here c.args.reader.now c.in-Some.behind) refl refl refl)
      (c.in_err-next.ensures.runs outer (s.names ∷ s.dot_identifier ∷ below) (omega arith)));
  reads = no_reads _ _ _ c.from_residual-in_err-next.ensures.1;
}

pub loop-behind-preserved : goal.loop-behind-preserved
unfolding move depth
loop-behind-preserved c = record {
  runs = λ outer below h. c.loop-behind.invariant.runs outer below (omega arith)
      ∙ takes_row outer c.args.reader.now.end s.names (s.dot_identifier ∷ below) c.in-Some.ensures refl (omega arith)
      ∙ begins_as outer c.args.reader.now.end s.name s.identifier (s.names ∷ []) (s.dot_identifier ∷ below)
      (here c.args.reader.now c.in-Some.behind) refl refl refl
      ∙ c.in_ok-next.ensures.runs outer (s.names ∷ s.dot_identifier ∷ below) (omega arith);
  reads =
      then (qualified c.loop-behind.qualifiers.items c.push.new.self.items c.loop-behind.type_name
      c.in_ok-push.ensures.items c.loop-behind.invariant.reads c.in-Some.ensures) c.in_ok-next.ensures.reads;
}

pub returns-in_err-implementation : goal.returns-in_err-implementation
unfolding move depth
returns-in_err-implementation c = record {
  runs =
      λ outer below h. exits _ _ _ _ _ _ _ c.from_residual-in_err-implementation.ensures.1
      (along _ _ _ (c.loop-behind.invariant.runs outer below (omega arith)
      ∙ omits_unless outer c.args.reader.now.end s.names (s.dot_identifier ∷ below)
      (here c.args.reader.now c.loop-behind.rest) refl (c.in_default.ensures, tt))
      (c.in_err-implementation.ensures.runs outer (below) (omega arith)));
  reads = no_reads _ _ _ c.from_residual-in_err-implementation.ensures.1;
}

pub returns : goal.returns
unfolding move depth
returns c = record {
  runs = λ outer below h. c.loop-behind.invariant.runs outer below (omega arith)
      ∙ omits_unless outer c.args.reader.now.end s.names (s.dot_identifier ∷ below)
      (here c.args.reader.now c.loop-behind.rest) refl (c.in_default.ensures, tt)
      ∙ c.in_ok-implementation.ensures.runs outer (below) (omega arith);
  reads =
      regroup (flat_map qualifier_parts (map (identifier_view kept_place) c.loop-behind.qualifiers.items))
      (identifier_parts (identifier_view kept_place c.loop-behind.type_name)) c.loop-behind.invariant.reads
      c.in_ok-implementation.ensures.reads;
}
