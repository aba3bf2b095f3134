use Rattle.std.proofs.Common.{◌∙◌, ◌∷◌, [], refl, arith, rules, Some}
use Rattle.aadl_tree.specs.Annexes.{transition_parts}
use Rattle.aadl_tree.specs.proof.AnnexViews.{transition_view}
use Rattle.aadl_tree.specs.proof.PlaceMaps.{kept_place}
use Rattle.aadl_grammar.specs.proof.ParserAnswers.{here, Room}
use Rattle.aadl_grammar.proofs.TopSymbolMoves.{takes_row, omits_unless}
use Rattle.aadl_grammar.proofs.ParserFaults.{along, exits, no_reads}
use Rattle.aadl_grammar.proofs.PartSequences.{nothing, marked}
use Rattle.aadl_grammar.proofs.ListSymbols.{word_list}
use Rattle.aadl_grammar.proofs.ListAnswers.{whole_list, same_answer, item_advances}
use Rattle.aadl_grammar.specs.proof.GrammarSymbols as s
use Rattle.aadl_grammar.specs.proof.StackMachine.{move, depth}
use Rattle.behaviour_parse.proofs.TransitionStarts.{transition_begun}
use Rattle.behaviour_parse.proofs.annex.transitions.Goals as goal

pub followers-requires-clause-advances : goal.followers-requires-clause-advances
followers-requires-clause-advances c at r p =
    item_advances (Room c.args.room) (s.transition ∷ []) (λ x. transition_parts (transition_view kept_place x)) r
    (λ x ss rest a. transition_begun x a) (search (rules, same_answer))

pub returns-in_default : goal.returns-in_default
unfolding move depth
returns-in_default c = record {
  runs =
      λ outer below h. omits_unless outer c.args.reader.now.end s.transitions (below) (here c.args.reader.now c.args.at)
      refl (c.in_default.ensures, tt);
  reads = nothing;
}

pub returns-in_err-found : goal.returns-in_err-found
unfolding move depth
returns-in_err-found c =
    let list =
    whole_list transition_parts (transition_view kept_place) (Some c.args.room) s.transition s.transition_list
    (word_list s.transition s.transition_list refl refl refl refl refl) c.new-none.ensures.items
    (λ at r p. search (rules, same_answer)) c.in_err-found.ensures in
    record {
      runs =
          λ outer below h. exits _ _ _ _ _ _ _ c.from_residual.ensures.1
          (along _ _ _ (takes_row outer c.args.reader.now.end s.transitions below c.in-Some.ensures refl (omega arith))
          (list.runs outer below (omega arith)));
      reads = no_reads _ _ _ c.from_residual.ensures.1;
    }

pub returns : goal.returns
unfolding move depth
returns c =
    let list =
    whole_list transition_parts (transition_view kept_place) (Some c.args.room) s.transition s.transition_list
    (word_list s.transition s.transition_list refl refl refl refl refl) c.new-none.ensures.items
    (λ at r p. search (rules, same_answer)) c.in_ok-found.ensures in
    record {
      runs =
          λ outer below h. takes_row outer c.args.reader.now.end s.transitions below c.in-Some.ensures refl
          (omega arith)
          ∙ list.runs outer below (omega arith);
      reads = marked c.in-Some.ensures list.reads;
    }
