-- All symbols together: the tree that each row builds, and the tree of an omitted symbol.
use Rattle.std.proofs.Common.{Bool, true, false, [], None}
use Rattle.aadl_tree.specs.Values as v
use Rattle.aadl_tree.specs.Expressions as e
use Rattle.aadl_tree.specs.Actions as a
use Rattle.aadl_grammar.specs.proof.GrammarSymbols.{Symbol}
use Rattle.aadl_grammar.specs.proof.GrammarSymbols as s
use Rattle.aadl_grammar.specs.proof.ParseTable.{rows, can_omit}
use Rattle.aadl_grammar.specs.proof.SymbolTrees.{NoPlace, TreeOf}
use Rattle.aadl_grammar.proofs.DerivationTrees.TreeBuilders.{Builders}
use Rattle.aadl_grammar.proofs.ProductionTrees.NamesAndValues.{only_builders, identifier_builders, name_builders}
use Rattle.aadl_grammar.proofs.ProductionTrees.NamesAndValues.{names_builders, path_builders, paths_builders}
use Rattle.aadl_grammar.proofs.ProductionTrees.NamesAndValues.{more_identifiers_builders, reference_builders}
use Rattle.aadl_grammar.proofs.ProductionTrees.NamesAndValues.{dot_identifier_builders, figure_builders, unit_builders}
use Rattle.aadl_grammar.proofs.ProductionTrees.NamesAndValues.{quantity_builders, upper_builders, value_builders}
use Rattle.aadl_grammar.proofs.ProductionTrees.NamesAndValues.{path_group_builders, reference_group_builders}
use Rattle.aadl_grammar.proofs.ProductionTrees.NamesAndValues.{values_builders, more_values_builders, operator_builders}
use Rattle.aadl_grammar.proofs.ProductionTrees.NamesAndValues.{constant_builders, applies_builders, more_paths_builders}
use Rattle.aadl_grammar.proofs.ProductionTrees.NamesAndValues.{association_builders, associations_builders}
use Rattle.aadl_grammar.proofs.ProductionTrees.NamesAndValues.{properties_builders}
use Rattle.aadl_grammar.proofs.ProductionTrees.Expressions.{primary_builders, fresh_builders, factor_builders}
use Rattle.aadl_grammar.proofs.ProductionTrees.Expressions.{term_builders, factors_builders, sum_builders}
use Rattle.aadl_grammar.proofs.ProductionTrees.Expressions.{terms_builders, compared_builders, relation_builders}
use Rattle.aadl_grammar.proofs.ProductionTrees.Expressions.{relations_builders, after_and_builders, after_or_builders}
use Rattle.aadl_grammar.proofs.ProductionTrees.Expressions.{expression_builders}
use Rattle.aadl_grammar.proofs.ProductionTrees.Actions.{test_builders, whole_number_builders, bound_builders}
use Rattle.aadl_grammar.proofs.ProductionTrees.Actions.{after_target_builders, loop_head_builders, action_builders}
use Rattle.aadl_grammar.proofs.ProductionTrees.Actions.{actions_builders, mores_builders, after_semicolon_builders}
use Rattle.aadl_grammar.proofs.ProductionTrees.Actions.{elsifs_builders, otherwise_builders, end_if_builders}
use Rattle.aadl_grammar.proofs.ProductionTrees.Actions.{closing_if_builders, block_builders, body_builders}
use Rattle.aadl_grammar.proofs.ProductionTrees.Annexes.{variable_builders, variable_list_builders, variables_builders}
use Rattle.aadl_grammar.proofs.ProductionTrees.Annexes.{initial_builders, complete_builders, state_builders}
use Rattle.aadl_grammar.proofs.ProductionTrees.Annexes.{state_list_builders, states_builders, guard_builders}
use Rattle.aadl_grammar.proofs.ProductionTrees.Annexes.{guarded_builders, after_word_builders, effect_builders}
use Rattle.aadl_grammar.proofs.ProductionTrees.Annexes.{transition_builders, transition_list_builders}
use Rattle.aadl_grammar.proofs.ProductionTrees.Annexes.{transitions_builders, content_builders, annex_builders}
use Rattle.aadl_grammar.proofs.ProductionTrees.Annexes.{annexes_builders}
use Rattle.aadl_grammar.proofs.ProductionTrees.Declarations.{direction_builders, category_builders, data_type_builders}
use Rattle.aadl_grammar.proofs.ProductionTrees.Declarations.{feature_builders, subcomponent_builders}
use Rattle.aadl_grammar.proofs.ProductionTrees.Declarations.{connection_end_builders, connection_builders}
use Rattle.aadl_grammar.proofs.ProductionTrees.Declarations.{feature_list_builders, feature_section_builders}
use Rattle.aadl_grammar.proofs.ProductionTrees.Declarations.{features_builders, subcomponent_list_builders}
use Rattle.aadl_grammar.proofs.ProductionTrees.Declarations.{subcomponent_section_builders, subcomponents_builders}
use Rattle.aadl_grammar.proofs.ProductionTrees.Declarations.{connection_list_builders, connection_section_builders}
use Rattle.aadl_grammar.proofs.ProductionTrees.Declarations.{connections_builders, property_section_builders}
use Rattle.aadl_grammar.proofs.ProductionTrees.Declarations.{own_properties_builders, implementation_name_builders}
use Rattle.aadl_grammar.proofs.ProductionTrees.Declarations.{type_end_builders, implementation_end_builders}
use Rattle.aadl_grammar.proofs.ProductionTrees.Declarations.{package_end_builders, after_category_builders}
use Rattle.aadl_grammar.proofs.ProductionTrees.Declarations.{declarations_builders, more_names_builders, withs_builders}
use Rattle.aadl_grammar.proofs.ProductionTrees.Declarations.{a_package_builders}

abbrev pub builders : (y : Symbol) → Builders y (rows y)
builders (s.only m) = only_builders m
builders s.identifier = identifier_builders
builders s.name = name_builders
builders s.names = names_builders
builders s.path = path_builders
builders s.paths = paths_builders
builders s.more_identifiers = more_identifiers_builders
builders s.reference = reference_builders
builders s.dot_identifier = dot_identifier_builders
builders s.figure = figure_builders
builders s.unit = unit_builders
builders s.quantity = quantity_builders
builders s.upper = upper_builders
builders s.value = value_builders
builders s.path_group = path_group_builders
builders s.reference_group = reference_group_builders
builders s.values = values_builders
builders s.more_values = more_values_builders
builders s.operator = operator_builders
builders s.constant = constant_builders
builders s.applies = applies_builders
builders s.more_paths = more_paths_builders
builders s.association = association_builders
builders s.associations = associations_builders
builders s.properties = properties_builders
builders s.primary = primary_builders
builders s.fresh = fresh_builders
builders s.factor = factor_builders
builders s.term = term_builders
builders s.factors = factors_builders
builders s.sum = sum_builders
builders s.terms = terms_builders
builders s.compared = compared_builders
builders s.relation = relation_builders
builders s.relations = relations_builders
builders s.after_and = after_and_builders
builders s.after_or = after_or_builders
builders s.expression = expression_builders
builders s.test = test_builders
builders s.whole_number = whole_number_builders
builders s.bound = bound_builders
builders s.after_target = after_target_builders
builders s.loop_head = loop_head_builders
builders s.action = action_builders
builders s.actions = actions_builders
builders s.mores = mores_builders
builders s.after_semicolon = after_semicolon_builders
builders s.elsifs = elsifs_builders
builders s.otherwise = otherwise_builders
builders s.end_if = end_if_builders
builders s.closing_if = closing_if_builders
builders s.block = block_builders
builders s.body = body_builders
builders s.variable = variable_builders
builders s.variable_list = variable_list_builders
builders s.variables = variables_builders
builders s.initial = initial_builders
builders s.complete = complete_builders
builders s.state = state_builders
builders s.state_list = state_list_builders
builders s.states = states_builders
builders s.guard = guard_builders
builders s.guarded = guarded_builders
builders s.after_word = after_word_builders
builders s.effect = effect_builders
builders s.transition = transition_builders
builders s.transition_list = transition_list_builders
builders s.transitions = transitions_builders
builders s.content = content_builders
builders s.annex = annex_builders
builders s.annexes = annexes_builders
builders s.direction = direction_builders
builders s.category = category_builders
builders s.data_type = data_type_builders
builders s.feature = feature_builders
builders s.subcomponent = subcomponent_builders
builders s.connection_end = connection_end_builders
builders s.connection = connection_builders
builders s.feature_list = feature_list_builders
builders s.feature_section = feature_section_builders
builders s.features = features_builders
builders s.subcomponent_list = subcomponent_list_builders
builders s.subcomponent_section = subcomponent_section_builders
builders s.subcomponents = subcomponents_builders
builders s.connection_list = connection_list_builders
builders s.connection_section = connection_section_builders
builders s.connections = connections_builders
builders s.property_section = property_section_builders
builders s.own_properties = own_properties_builders
builders s.implementation_name = implementation_name_builders
builders s.type_end = type_end_builders
builders s.implementation_end = implementation_end_builders
builders s.package_end = package_end_builders
builders s.after_category = after_category_builders
builders s.declarations = declarations_builders
builders s.more_names = more_names_builders
builders s.withs = withs_builders
builders s.a_package = a_package_builders

abbrev pub Empty : Bool → Symbol → Type 0
Empty true y = TreeOf y
Empty false y = NoPlace

-- the tree of an omitted symbol
abbrev pub empty : (y : Symbol) → Empty (can_omit y) y
empty (s.only m) = tt
empty s.identifier = tt
empty s.name = tt
empty s.names = []
empty s.path = tt
empty s.paths = []
empty s.more_identifiers = []
empty s.reference = tt
empty s.dot_identifier = None
empty s.figure = tt
empty s.unit = None
empty s.quantity = tt
empty s.upper = None
empty s.value = tt
empty s.path_group = tt
empty s.reference_group = tt
empty s.values = v.no_values
empty s.more_values = v.no_values
empty s.operator = tt
empty s.constant = false
empty s.applies = []
empty s.more_paths = []
empty s.association = tt
empty s.associations = v.no_associations
empty s.properties = v.no_associations
empty s.primary = tt
empty s.fresh = false
empty s.factor = tt
empty s.term = tt
empty s.factors = e.no_factors
empty s.sum = tt
empty s.terms = e.no_terms
empty s.compared = None
empty s.relation = tt
empty s.relations = e.no_relations
empty s.after_and = tt
empty s.after_or = tt
empty s.expression = tt
empty s.test = tt
empty s.whole_number = tt
empty s.bound = tt
empty s.after_target = tt
empty s.loop_head = tt
empty s.action = tt
empty s.actions = tt
empty s.mores = a.no_mores
empty s.after_semicolon = a.no_block
empty s.elsifs = a.no_elsifs
empty s.otherwise = a.no_otherwise
empty s.end_if = tt
empty s.closing_if = tt
empty s.block = tt
empty s.body = a.no_block
empty s.variable = tt
empty s.variable_list = []
empty s.variables = None
empty s.initial = false
empty s.complete = false
empty s.state = tt
empty s.state_list = []
empty s.states = None
empty s.guard = None
empty s.guarded = tt
empty s.after_word = tt
empty s.effect = None
empty s.transition = tt
empty s.transition_list = []
empty s.transitions = None
empty s.content = tt
empty s.annex = tt
empty s.annexes = []
empty s.direction = tt
empty s.category = tt
empty s.data_type = None
empty s.feature = tt
empty s.subcomponent = tt
empty s.connection_end = tt
empty s.connection = tt
empty s.feature_list = []
empty s.feature_section = tt
empty s.features = []
empty s.subcomponent_list = []
empty s.subcomponent_section = tt
empty s.subcomponents = []
empty s.connection_list = []
empty s.connection_section = tt
empty s.connections = []
empty s.property_section = tt
empty s.own_properties = v.no_associations
empty s.implementation_name = tt
empty s.type_end = tt
empty s.implementation_end = tt
empty s.package_end = tt
empty s.after_category = tt
empty s.declarations = []
empty s.more_names = []
empty s.withs = []
empty s.a_package = tt
