use Rattle.std.proofs.Common.{◌∷◌, [], ap, refl, rules, Some, None}
use Rattle.aadl_tree.specs.SpellingParts.{subcomponent_section}
use Rattle.aadl_tree.specs.Declarations.{section_parts, subcomponent_parts}
use Rattle.aadl_tree.specs.proof.DeclarationViews.{subcomponent_view}
use Rattle.aadl_tree.specs.proof.PlaceMaps.{kept_place}
use Rattle.aadl_grammar.specs.proof.GrammarSymbols as s
use Rattle.aadl_grammar.specs.proof.ParserAnswers.{Room}
use Rattle.aadl_grammar.proofs.PartSequences.{begun}
use Rattle.aadl_grammar.proofs.ListSymbols.{word_list}
use Rattle.aadl_grammar.proofs.ListAnswers.{spelled, items_of, same_answer, respelled_answer, item_advances}
use Rattle.aadl_grammar.proofs.DeclarationSections.{section_of}
use Rattle.aadl_parse.proofs.declaration_members.subcomponents.Goals as goal

pub section-requires-clause-advances : goal.section-requires-clause-advances
section-requires-clause-advances c at r p =
    item_advances (Room c.args.room) (s.subcomponent ∷ []) (λ x. subcomponent_parts (subcomponent_view kept_place x)) r
    (λ x ss rest a. begun a) (search (rules, same_answer))

pub returns : goal.returns
returns c =
    respelled_answer
    (λ x. ap (section_parts subcomponent_section)
    (spelled None subcomponent_parts (subcomponent_view kept_place) x.items))
    (c.section.ensures subcomponent_section s.subcomponents
    (items_of subcomponent_parts (subcomponent_view kept_place) (Some c.args.room) s.subcomponent s.subcomponent_list
    (word_list s.subcomponent s.subcomponent_list refl refl refl refl refl)
    (λ at r p. search (rules, same_answer))) refl
    (section_of s.subcomponent_section refl refl refl refl refl refl))
