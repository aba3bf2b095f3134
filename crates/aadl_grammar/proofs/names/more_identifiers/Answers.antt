use Rattle.std.proofs.Common.{rules, None}
use Rattle.aadl_tree.specs.Names.{identifier_parts}
use Rattle.aadl_tree.specs.proof.NameViews.{identifier_view}
use Rattle.aadl_tree.specs.proof.PlaceMaps.{kept_place}
use Rattle.aadl_grammar.specs.proof.GrammarSymbols as s
use Rattle.aadl_grammar.proofs.ListAnswers.{whole_list, same_answer}
use Rattle.aadl_grammar.proofs.names.more_identifiers.Goals as goal

pub returns : goal.returns
returns c list lists =
    whole_list identifier_parts (identifier_view kept_place) None s.identifier list lists c.new-none.ensures.items
    (λ at r p. search (rules, same_answer)) c.followers.ensures
