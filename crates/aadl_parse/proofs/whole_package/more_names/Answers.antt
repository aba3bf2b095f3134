use Rattle.std.proofs.Common.{◌∷◌, [], rules, None}
use Rattle.aadl_tree.specs.Names.{name_parts}
use Rattle.aadl_tree.specs.proof.NameViews.{name_view}
use Rattle.aadl_tree.specs.proof.PlaceMaps.{kept_place}
use Rattle.aadl_grammar.specs.proof.GrammarSymbols as s
use Rattle.aadl_grammar.specs.proof.ParserAnswers.{AnyRoom}
use Rattle.aadl_grammar.proofs.PartSequences.{begun}
use Rattle.aadl_grammar.proofs.ListSymbols.{name_list}
use Rattle.aadl_grammar.proofs.ListAnswers.{whole_list, same_answer, item_advances}
use Rattle.aadl_parse.proofs.whole_package.more_names.Goals as goal

pub followers-requires-clause-advances : goal.followers-requires-clause-advances
followers-requires-clause-advances c at r p =
    item_advances AnyRoom (s.name ∷ []) (λ x. name_parts (name_view kept_place x)) r (λ x ss rest a. begun a)
    (search (rules, same_answer))

pub returns : goal.returns
returns c =
    whole_list name_parts (name_view kept_place) None s.name s.more_names name_list c.new-none.ensures.items
    (λ at r p. search (rules, same_answer)) c.followers.ensures
