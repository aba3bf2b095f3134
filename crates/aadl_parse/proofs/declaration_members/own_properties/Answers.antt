use Rattle.std.proofs.Common.{◌∷◌, [], ap, refl, rules, Some}
use Rattle.aadl_tree.specs.SpellingParts.{property_section}
use Rattle.aadl_tree.specs.Values.{association_parts}
use Rattle.aadl_tree.specs.Declarations.{section_parts}
use Rattle.aadl_tree.specs.proof.ValueViews.{association_view}
use Rattle.aadl_tree.specs.proof.PlaceMaps.{kept_place}
use Rattle.aadl_grammar.specs.proof.GrammarSymbols as s
use Rattle.aadl_grammar.specs.proof.ParserAnswers.{Room}
use Rattle.aadl_grammar.proofs.ValueAndPropertyLists.{association_begun, associations_spelled}
use Rattle.aadl_grammar.proofs.ListSymbols.{word_list}
use Rattle.aadl_grammar.proofs.ListAnswers.{items_of, same_answer, respelled_answer, item_advances}
use Rattle.aadl_grammar.proofs.DeclarationSections.{section_of}
use Rattle.aadl_parse.proofs.declaration_members.own_properties.Goals as goal

pub section-requires-clause-advances : goal.section-requires-clause-advances
section-requires-clause-advances c at r p =
    item_advances (Room c.args.room) (s.association ∷ []) (λ x. association_parts (association_view kept_place x)) r
    (λ x ss rest a. association_begun x a) (search (rules, same_answer))

pub returns : goal.returns
returns c =
    respelled_answer (λ x. ap (section_parts property_section) (associations_spelled x.items))
    (c.section.ensures property_section s.own_properties
    (items_of association_parts (association_view kept_place) (Some c.args.room) s.association s.associations
    (word_list s.association s.associations refl refl refl refl refl) (λ at r p. search (rules, same_answer))) refl
    (section_of s.property_section refl refl refl refl refl refl))
