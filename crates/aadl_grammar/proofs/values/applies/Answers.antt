use Rattle.std.proofs.Common.{◌∙◌, ◌∷◌, [], ◌++◌, ap, sym, refl, arith, rules, map, Some, None}
use Rattle.aadl_grammar.specs.proof.ParserAnswers.{here, AnyRoom}
use Rattle.aadl_grammar.proofs.TopSymbolMoves.{takes_row, omits_unless}
use Rattle.aadl_grammar.proofs.ParserFaults.{along, exits, no_reads}
use Rattle.aadl_grammar.proofs.PartSequences.{nothing, then, marked, respelled, begun}
use Rattle.aadl_grammar.proofs.ListSymbols.{path_list}
use Rattle.aadl_grammar.proofs.ListAnswers.{spelled, items_of, list_from, same_answer, item_advances}
use Rattle.aadl_tree.specs.declared.mark.Mark.TheVariants as k
use Rattle.aadl_tree.specs.Names.{path_parts}
use Rattle.aadl_tree.specs.Values.{applies_parts}
use Rattle.aadl_tree.specs.proof.NameViews.{path_view}
use Rattle.aadl_tree.specs.proof.PlaceMaps.{kept_place}
use Rattle.aadl_grammar.specs.proof.GrammarSymbols as s
use Rattle.aadl_grammar.specs.proof.StackMachine.{move, depth}
use Rattle.aadl_grammar.proofs.values.applies.Goals as goal

pub followers-requires-clause-advances : goal.followers-requires-clause-advances
followers-requires-clause-advances c at r p =
    item_advances AnyRoom (s.path ∷ []) (λ x. path_parts (path_view kept_place x)) r (λ x ss rest a. begun a)
    (search (rules, same_answer))

pub returns-in_default : goal.returns-in_default
unfolding move depth
returns-in_default c = record {
  runs =
      λ outer below h. omits_unless outer c.args.reader.now.end s.applies (below) (here c.args.reader.now c.args.at)
      refl (c.in_default.ensures, tt);
  reads = respelled (ap (λ l. applies_parts (map (path_view kept_place) l)) (sym c.new.ensures.items)) nothing;
}

pub returns-in_err-start : goal.returns-in_err-start
unfolding move depth
returns-in_err-start c = record {
  runs =
      λ outer below h. exits _ _ _ _ _ _ _ c.from_residual.ensures.1
      (along _ _ _ (takes_row outer c.args.reader.now.end s.applies (below) c.in-Some.ensures refl (omega arith))
      (c.in_err-start.ensures.runs outer (s.path ∷ s.more_paths ∷ below) (omega arith)));
  reads = no_reads _ _ _ c.from_residual.ensures.1;
}

pub returns-in_err-first : goal.returns-in_err-first
unfolding move depth
returns-in_err-first c = record {
  runs =
      λ outer below h. exits _ _ _ _ _ _ _ c.from_residual-in_err-first.ensures.1
      (along _ _ _ (takes_row outer c.args.reader.now.end s.applies (below) c.in-Some.ensures refl (omega arith)
      ∙ c.in_ok-start.ensures.runs outer (s.path ∷ s.more_paths ∷ below) (omega arith))
      (c.in_err-first.ensures.runs outer (s.more_paths ∷ below) (omega arith)));
  reads = no_reads _ _ _ c.from_residual-in_err-first.ensures.1;
}

pub returns : goal.returns
unfolding move depth
returns c =
    list_from
    (items_of path_parts (path_view kept_place) None s.path s.more_paths path_list
    (λ at r p. search (rules, same_answer)))
    c.in_ok-first.first (λ l. applies_parts (map (path_view kept_place) l))
    (c.in_ok-push.ensures.items ∙ ap (λ l. l ++ c.in_ok-first.first ∷ []) c.new-found.ensures.items)
    (λ outer below h. (
      omega arith,
      takes_row outer c.args.reader.now.end s.applies (below) c.in-Some.ensures refl (omega arith)
          ∙ c.in_ok-start.ensures.runs outer (s.path ∷ s.more_paths ∷ below) (omega arith)
          ∙ c.in_ok-first.ensures.runs outer (s.more_paths ∷ below) (omega arith),
    ))
    (λ more rest a. marked c.in-Some.ensures
    (marked c.in_ok-start.ensures.reads (then c.in_ok-first.ensures.reads
    (respelled (spelled (Some k.Comma) path_parts (path_view kept_place) more) a))))
    c.followers.ensures
