-- All symbols together: a row of its symbol builds each tree that terminals spell, unless the symbol is omitted; then
-- the empty list spells its tree.
use Rattle.std.proofs.Common.{◌≡◌, ◌⊎◌, Bool, true, false, refl, List, inl}
use Rattle.aadl_tree.specs.Terminals.{PlainTerminal}
use Rattle.aadl_tree.specs.SpellingParts.{Spells}
use Rattle.aadl_grammar.specs.proof.GrammarSymbols.{Symbol}
use Rattle.aadl_grammar.specs.proof.GrammarSymbols as s
use Rattle.aadl_grammar.specs.proof.ParseTable.{rows, can_omit}
use Rattle.aadl_grammar.specs.proof.SymbolTrees.{NoPlace, TreeOf, parts}
use Rattle.aadl_grammar.proofs.DerivationTrees.TreeBuilders.{AllGive, InRows, uses}
use Rattle.aadl_grammar.proofs.ProductionTrees.AllSymbols.{builders, Empty, empty}
use Rattle.aadl_grammar.proofs.ProductionSoundness.NamesAndValues.{only_give, identifier_give, name_give, names_give}
use Rattle.aadl_grammar.proofs.ProductionSoundness.NamesAndValues.{path_give, paths_give, more_identifiers_give}
use Rattle.aadl_grammar.proofs.ProductionSoundness.NamesAndValues.{reference_give, dot_identifier_give, figure_give}
use Rattle.aadl_grammar.proofs.ProductionSoundness.NamesAndValues.{unit_give, quantity_give, upper_give, value_give}
use Rattle.aadl_grammar.proofs.ProductionSoundness.NamesAndValues.{path_group_give, reference_group_give, values_give}
use Rattle.aadl_grammar.proofs.ProductionSoundness.NamesAndValues.{more_values_give, operator_give, constant_give}
use Rattle.aadl_grammar.proofs.ProductionSoundness.NamesAndValues.{applies_give, more_paths_give, association_give}
use Rattle.aadl_grammar.proofs.ProductionSoundness.NamesAndValues.{associations_give, properties_give}
use Rattle.aadl_grammar.proofs.ProductionSoundness.Expressions.{primary_give, fresh_give, factor_give, term_give}
use Rattle.aadl_grammar.proofs.ProductionSoundness.Expressions.{factors_give, sum_give, terms_give, compared_give}
use Rattle.aadl_grammar.proofs.ProductionSoundness.Expressions.{relation_give, relations_give, after_and_give}
use Rattle.aadl_grammar.proofs.ProductionSoundness.Expressions.{after_or_give, expression_give}
use Rattle.aadl_grammar.proofs.ProductionSoundness.Actions.{test_give, whole_number_give, bound_give, after_target_give}
use Rattle.aadl_grammar.proofs.ProductionSoundness.Actions.{loop_head_give, action_give, actions_give, mores_give}
use Rattle.aadl_grammar.proofs.ProductionSoundness.Actions.{after_semicolon_give, elsifs_give, otherwise_give}
use Rattle.aadl_grammar.proofs.ProductionSoundness.Actions.{end_if_give, closing_if_give, block_give, body_give}
use Rattle.aadl_grammar.proofs.ProductionSoundness.Annexes.{variable_give, variable_list_give, variables_give}
use Rattle.aadl_grammar.proofs.ProductionSoundness.Annexes.{initial_give, complete_give, state_give, state_list_give}
use Rattle.aadl_grammar.proofs.ProductionSoundness.Annexes.{states_give, guard_give, guarded_give, after_word_give}
use Rattle.aadl_grammar.proofs.ProductionSoundness.Annexes.{effect_give, transition_give, transition_list_give}
use Rattle.aadl_grammar.proofs.ProductionSoundness.Annexes.{transitions_give, content_give, annex_give, annexes_give}
use Rattle.aadl_grammar.proofs.ProductionSoundness.Declarations.{direction_give, category_give, data_type_give}
use Rattle.aadl_grammar.proofs.ProductionSoundness.Declarations.{feature_give, subcomponent_give, connection_end_give}
use Rattle.aadl_grammar.proofs.ProductionSoundness.Declarations.{connection_give, feature_list_give}
use Rattle.aadl_grammar.proofs.ProductionSoundness.Declarations.{feature_section_give, features_give}
use Rattle.aadl_grammar.proofs.ProductionSoundness.Declarations.{subcomponent_list_give, subcomponent_section_give}
use Rattle.aadl_grammar.proofs.ProductionSoundness.Declarations.{subcomponents_give, connection_list_give}
use Rattle.aadl_grammar.proofs.ProductionSoundness.Declarations.{connection_section_give, connections_give}
use Rattle.aadl_grammar.proofs.ProductionSoundness.Declarations.{property_section_give, own_properties_give}
use Rattle.aadl_grammar.proofs.ProductionSoundness.Declarations.{implementation_name_give, type_end_give}
use Rattle.aadl_grammar.proofs.ProductionSoundness.Declarations.{implementation_end_give, package_end_give}
use Rattle.aadl_grammar.proofs.ProductionSoundness.Declarations.{after_category_give, declarations_give}
use Rattle.aadl_grammar.proofs.ProductionSoundness.Declarations.{more_names_give, withs_give, a_package_give}
use Rattle.aadl_grammar.proofs.ProductionCompleteness.NamesAndValues.{identifier_opens, name_opens, names_opens}
use Rattle.aadl_grammar.proofs.ProductionCompleteness.NamesAndValues.{path_opens, paths_opens, more_identifiers_opens}
use Rattle.aadl_grammar.proofs.ProductionCompleteness.NamesAndValues.{reference_opens, dot_identifier_opens}
use Rattle.aadl_grammar.proofs.ProductionCompleteness.NamesAndValues.{figure_opens, unit_opens, quantity_opens}
use Rattle.aadl_grammar.proofs.ProductionCompleteness.NamesAndValues.{upper_opens, value_opens, path_group_opens}
use Rattle.aadl_grammar.proofs.ProductionCompleteness.NamesAndValues.{reference_group_opens, values_opens}
use Rattle.aadl_grammar.proofs.ProductionCompleteness.NamesAndValues.{more_values_opens, operator_opens, constant_opens}
use Rattle.aadl_grammar.proofs.ProductionCompleteness.NamesAndValues.{applies_opens, more_paths_opens}
use Rattle.aadl_grammar.proofs.ProductionCompleteness.NamesAndValues.{association_opens, associations_opens}
use Rattle.aadl_grammar.proofs.ProductionCompleteness.NamesAndValues.{properties_opens}
use Rattle.aadl_grammar.proofs.ProductionCompleteness.Expressions.{primary_opens, fresh_opens, factor_opens, term_opens}
use Rattle.aadl_grammar.proofs.ProductionCompleteness.Expressions.{factors_opens, sum_opens, terms_opens}
use Rattle.aadl_grammar.proofs.ProductionCompleteness.Expressions.{compared_opens, relation_opens, relations_opens}
use Rattle.aadl_grammar.proofs.ProductionCompleteness.Expressions.{after_and_opens, after_or_opens, expression_opens}
use Rattle.aadl_grammar.proofs.ProductionCompleteness.Actions.{test_opens, whole_number_opens, bound_opens}
use Rattle.aadl_grammar.proofs.ProductionCompleteness.Actions.{after_target_opens, loop_head_opens, action_opens}
use Rattle.aadl_grammar.proofs.ProductionCompleteness.Actions.{actions_opens, mores_opens, after_semicolon_opens}
use Rattle.aadl_grammar.proofs.ProductionCompleteness.Actions.{elsifs_opens, otherwise_opens, end_if_opens}
use Rattle.aadl_grammar.proofs.ProductionCompleteness.Actions.{closing_if_opens, block_opens, body_opens}
use Rattle.aadl_grammar.proofs.ProductionCompleteness.Annexes.{variable_opens, variable_list_opens, variables_opens}
use Rattle.aadl_grammar.proofs.ProductionCompleteness.Annexes.{initial_opens, complete_opens, state_opens}
use Rattle.aadl_grammar.proofs.ProductionCompleteness.Annexes.{state_list_opens, states_opens, guard_opens}
use Rattle.aadl_grammar.proofs.ProductionCompleteness.Annexes.{guarded_opens, after_word_opens, effect_opens}
use Rattle.aadl_grammar.proofs.ProductionCompleteness.Annexes.{transition_opens, transition_list_opens}
use Rattle.aadl_grammar.proofs.ProductionCompleteness.Annexes.{transitions_opens, content_opens, annex_opens}
use Rattle.aadl_grammar.proofs.ProductionCompleteness.Annexes.{annexes_opens}
use Rattle.aadl_grammar.proofs.ProductionCompleteness.Declarations.{direction_opens, category_opens, data_type_opens}
use Rattle.aadl_grammar.proofs.ProductionCompleteness.Declarations.{feature_opens, subcomponent_opens}
use Rattle.aadl_grammar.proofs.ProductionCompleteness.Declarations.{connection_end_opens, connection_opens}
use Rattle.aadl_grammar.proofs.ProductionCompleteness.Declarations.{feature_list_opens, feature_section_opens}
use Rattle.aadl_grammar.proofs.ProductionCompleteness.Declarations.{features_opens, subcomponent_list_opens}
use Rattle.aadl_grammar.proofs.ProductionCompleteness.Declarations.{subcomponent_section_opens, subcomponents_opens}
use Rattle.aadl_grammar.proofs.ProductionCompleteness.Declarations.{connection_list_opens, connection_section_opens}
use Rattle.aadl_grammar.proofs.ProductionCompleteness.Declarations.{connections_opens, property_section_opens}
use Rattle.aadl_grammar.proofs.ProductionCompleteness.Declarations.{own_properties_opens, implementation_name_opens}
use Rattle.aadl_grammar.proofs.ProductionCompleteness.Declarations.{type_end_opens, implementation_end_opens}
use Rattle.aadl_grammar.proofs.ProductionCompleteness.Declarations.{package_end_opens, after_category_opens}
use Rattle.aadl_grammar.proofs.ProductionCompleteness.Declarations.{declarations_opens, more_names_opens, withs_opens}
use Rattle.aadl_grammar.proofs.ProductionCompleteness.Declarations.{a_package_opens}

-- the symbol is omitted
abbrev pub Omitted : (b : Bool) (y : Symbol) → Empty b y → TreeOf y → List PlainTerminal → List PlainTerminal → Type 0
Omitted true y e t ks rest = (t ≡ e) × (ks ≡ rest)
Omitted false y e t ks rest = ⊥

abbrev pub Opened : (y : Symbol) → TreeOf y → List PlainTerminal → List PlainTerminal → Type 0
Opened y t ks rest = InRows y (rows y) (builders y) t ks rest ⊎ Omitted (can_omit y) y (empty y) t ks rest

pub opens : (y : Symbol) (t : TreeOf y) (ks rest : List PlainTerminal) → Spells (parts y t) ks rest → Opened y t ks rest
opens (s.only m) t ks rest (more, e, sp) = inl (inl (uses tt tt more e sp))
opens s.identifier t ks rest sp = inl (identifier_opens t ks rest sp)
opens s.name t ks rest sp = inl (name_opens t ks rest sp)
opens s.names t ks rest sp = names_opens t ks rest sp
opens s.path t ks rest sp = inl (path_opens t ks rest sp)
opens s.paths t ks rest sp = paths_opens t ks rest sp
opens s.more_identifiers t ks rest sp = more_identifiers_opens t ks rest sp
opens s.reference t ks rest sp = inl (reference_opens t ks rest sp)
opens s.dot_identifier t ks rest sp = dot_identifier_opens t ks rest sp
opens s.figure t ks rest sp = inl (figure_opens t ks rest sp)
opens s.unit t ks rest sp = unit_opens t ks rest sp
opens s.quantity t ks rest sp = inl (quantity_opens t ks rest sp)
opens s.upper t ks rest sp = upper_opens t ks rest sp
opens s.value t ks rest sp = inl (value_opens t ks rest sp)
opens s.path_group t ks rest sp = inl (path_group_opens t ks rest sp)
opens s.reference_group t ks rest sp = inl (reference_group_opens t ks rest sp)
opens s.values t ks rest sp = values_opens t ks rest sp
opens s.more_values t ks rest sp = more_values_opens t ks rest sp
opens s.operator t ks rest sp = inl (operator_opens t ks rest sp)
opens s.constant t ks rest sp = constant_opens t ks rest sp
opens s.applies t ks rest sp = applies_opens t ks rest sp
opens s.more_paths t ks rest sp = more_paths_opens t ks rest sp
opens s.association t ks rest sp = inl (association_opens t ks rest sp)
opens s.associations t ks rest sp = associations_opens t ks rest sp
opens s.properties t ks rest sp = properties_opens t ks rest sp
opens s.primary t ks rest sp = inl (primary_opens t ks rest sp)
opens s.fresh t ks rest sp = fresh_opens t ks rest sp
opens s.factor t ks rest sp = inl (factor_opens t ks rest sp)
opens s.term t ks rest sp = inl (term_opens t ks rest sp)
opens s.factors t ks rest sp = factors_opens t ks rest sp
opens s.sum t ks rest sp = inl (sum_opens t ks rest sp)
opens s.terms t ks rest sp = terms_opens t ks rest sp
opens s.compared t ks rest sp = compared_opens t ks rest sp
opens s.relation t ks rest sp = inl (relation_opens t ks rest sp)
opens s.relations t ks rest sp = relations_opens t ks rest sp
opens s.after_and t ks rest sp = inl (after_and_opens t ks rest sp)
opens s.after_or t ks rest sp = inl (after_or_opens t ks rest sp)
opens s.expression t ks rest sp = inl (expression_opens t ks rest sp)
opens s.test t ks rest sp = inl (test_opens t ks rest sp)
opens s.whole_number t ks rest sp = inl (whole_number_opens t ks rest sp)
opens s.bound t ks rest sp = inl (bound_opens t ks rest sp)
opens s.after_target t ks rest sp = inl (after_target_opens t ks rest sp)
opens s.loop_head t ks rest sp = inl (loop_head_opens t ks rest sp)
opens s.action t ks rest sp = inl (action_opens t ks rest sp)
opens s.actions t ks rest sp = inl (actions_opens t ks rest sp)
opens s.mores t ks rest sp = mores_opens t ks rest sp
opens s.after_semicolon t ks rest sp = after_semicolon_opens t ks rest sp
opens s.elsifs t ks rest sp = elsifs_opens t ks rest sp
opens s.otherwise t ks rest sp = otherwise_opens t ks rest sp
opens s.end_if t ks rest sp = inl (end_if_opens t ks rest sp)
opens s.closing_if t ks rest sp = inl (closing_if_opens t ks rest sp)
opens s.block t ks rest sp = inl (block_opens t ks rest sp)
opens s.body t ks rest sp = body_opens t ks rest sp
opens s.variable t ks rest sp = inl (variable_opens t ks rest sp)
opens s.variable_list t ks rest sp = variable_list_opens t ks rest sp
opens s.variables t ks rest sp = variables_opens t ks rest sp
opens s.initial t ks rest sp = initial_opens t ks rest sp
opens s.complete t ks rest sp = complete_opens t ks rest sp
opens s.state t ks rest sp = inl (state_opens t ks rest sp)
opens s.state_list t ks rest sp = state_list_opens t ks rest sp
opens s.states t ks rest sp = states_opens t ks rest sp
opens s.guard t ks rest sp = guard_opens t ks rest sp
opens s.guarded t ks rest sp = inl (guarded_opens t ks rest sp)
opens s.after_word t ks rest sp = inl (after_word_opens t ks rest sp)
opens s.effect t ks rest sp = effect_opens t ks rest sp
opens s.transition t ks rest sp = inl (transition_opens t ks rest sp)
opens s.transition_list t ks rest sp = transition_list_opens t ks rest sp
opens s.transitions t ks rest sp = transitions_opens t ks rest sp
opens s.content t ks rest sp = inl (content_opens t ks rest sp)
opens s.annex t ks rest sp = inl (annex_opens t ks rest sp)
opens s.annexes t ks rest sp = annexes_opens t ks rest sp
opens s.direction t ks rest sp = inl (direction_opens t ks rest sp)
opens s.category t ks rest sp = inl (category_opens t ks rest sp)
opens s.data_type t ks rest sp = data_type_opens t ks rest sp
opens s.feature t ks rest sp = inl (feature_opens t ks rest sp)
opens s.subcomponent t ks rest sp = inl (subcomponent_opens t ks rest sp)
opens s.connection_end t ks rest sp = inl (connection_end_opens t ks rest sp)
opens s.connection t ks rest sp = inl (connection_opens t ks rest sp)
opens s.feature_list t ks rest sp = feature_list_opens t ks rest sp
opens s.feature_section t ks rest sp = inl (feature_section_opens t ks rest sp)
opens s.features t ks rest sp = features_opens t ks rest sp
opens s.subcomponent_list t ks rest sp = subcomponent_list_opens t ks rest sp
opens s.subcomponent_section t ks rest sp = inl (subcomponent_section_opens t ks rest sp)
opens s.subcomponents t ks rest sp = subcomponents_opens t ks rest sp
opens s.connection_list t ks rest sp = connection_list_opens t ks rest sp
opens s.connection_section t ks rest sp = inl (connection_section_opens t ks rest sp)
opens s.connections t ks rest sp = connections_opens t ks rest sp
opens s.property_section t ks rest sp = inl (property_section_opens t ks rest sp)
opens s.own_properties t ks rest sp = own_properties_opens t ks rest sp
opens s.implementation_name t ks rest sp = inl (implementation_name_opens t ks rest sp)
opens s.type_end t ks rest sp = inl (type_end_opens t ks rest sp)
opens s.implementation_end t ks rest sp = inl (implementation_end_opens t ks rest sp)
opens s.package_end t ks rest sp = inl (package_end_opens t ks rest sp)
opens s.after_category t ks rest sp = inl (after_category_opens t ks rest sp)
opens s.declarations t ks rest sp = declarations_opens t ks rest sp
opens s.more_names t ks rest sp = more_names_opens t ks rest sp
opens s.withs t ks rest sp = withs_opens t ks rest sp
opens s.a_package t ks rest sp = inl (a_package_opens t ks rest sp)

pub all_give : (y : Symbol) → AllGive y (rows y) (builders y)
all_give (s.only m) = only_give m
all_give s.identifier = identifier_give
all_give s.name = name_give
all_give s.names = names_give
all_give s.path = path_give
all_give s.paths = paths_give
all_give s.more_identifiers = more_identifiers_give
all_give s.reference = reference_give
all_give s.dot_identifier = dot_identifier_give
all_give s.figure = figure_give
all_give s.unit = unit_give
all_give s.quantity = quantity_give
all_give s.upper = upper_give
all_give s.value = value_give
all_give s.path_group = path_group_give
all_give s.reference_group = reference_group_give
all_give s.values = values_give
all_give s.more_values = more_values_give
all_give s.operator = operator_give
all_give s.constant = constant_give
all_give s.applies = applies_give
all_give s.more_paths = more_paths_give
all_give s.association = association_give
all_give s.associations = associations_give
all_give s.properties = properties_give
all_give s.primary = primary_give
all_give s.fresh = fresh_give
all_give s.factor = factor_give
all_give s.term = term_give
all_give s.factors = factors_give
all_give s.sum = sum_give
all_give s.terms = terms_give
all_give s.compared = compared_give
all_give s.relation = relation_give
all_give s.relations = relations_give
all_give s.after_and = after_and_give
all_give s.after_or = after_or_give
all_give s.expression = expression_give
all_give s.test = test_give
all_give s.whole_number = whole_number_give
all_give s.bound = bound_give
all_give s.after_target = after_target_give
all_give s.loop_head = loop_head_give
all_give s.action = action_give
all_give s.actions = actions_give
all_give s.mores = mores_give
all_give s.after_semicolon = after_semicolon_give
all_give s.elsifs = elsifs_give
all_give s.otherwise = otherwise_give
all_give s.end_if = end_if_give
all_give s.closing_if = closing_if_give
all_give s.block = block_give
all_give s.body = body_give
all_give s.variable = variable_give
all_give s.variable_list = variable_list_give
all_give s.variables = variables_give
all_give s.initial = initial_give
all_give s.complete = complete_give
all_give s.state = state_give
all_give s.state_list = state_list_give
all_give s.states = states_give
all_give s.guard = guard_give
all_give s.guarded = guarded_give
all_give s.after_word = after_word_give
all_give s.effect = effect_give
all_give s.transition = transition_give
all_give s.transition_list = transition_list_give
all_give s.transitions = transitions_give
all_give s.content = content_give
all_give s.annex = annex_give
all_give s.annexes = annexes_give
all_give s.direction = direction_give
all_give s.category = category_give
all_give s.data_type = data_type_give
all_give s.feature = feature_give
all_give s.subcomponent = subcomponent_give
all_give s.connection_end = connection_end_give
all_give s.connection = connection_give
all_give s.feature_list = feature_list_give
all_give s.feature_section = feature_section_give
all_give s.features = features_give
all_give s.subcomponent_list = subcomponent_list_give
all_give s.subcomponent_section = subcomponent_section_give
all_give s.subcomponents = subcomponents_give
all_give s.connection_list = connection_list_give
all_give s.connection_section = connection_section_give
all_give s.connections = connections_give
all_give s.property_section = property_section_give
all_give s.own_properties = own_properties_give
all_give s.implementation_name = implementation_name_give
all_give s.type_end = type_end_give
all_give s.implementation_end = implementation_end_give
all_give s.package_end = package_end_give
all_give s.after_category = after_category_give
all_give s.declarations = declarations_give
all_give s.more_names = more_names_give
all_give s.withs = withs_give
all_give s.a_package = a_package_give

-- the empty list spells the tree of an omitted symbol
abbrev pub Nothing : (b : Bool) (y : Symbol) → Empty b y → Type 0
Nothing true y e = (ks : List PlainTerminal) → Spells (parts y e) ks ks
Nothing false y e = NoPlace

pub nothing : (y : Symbol) → Nothing (can_omit y) y (empty y)
nothing s.names = λ ks. refl
nothing s.paths = λ ks. refl
nothing s.more_identifiers = λ ks. refl
nothing s.dot_identifier = λ ks. refl
nothing s.unit = λ ks. refl
nothing s.upper = λ ks. refl
nothing s.values = λ ks. refl
nothing s.more_values = λ ks. refl
nothing s.constant = λ ks. refl
nothing s.applies = λ ks. refl
nothing s.more_paths = λ ks. refl
nothing s.associations = λ ks. refl
nothing s.properties = λ ks. refl
nothing s.fresh = λ ks. refl
nothing s.factors = λ ks. refl
nothing s.terms = λ ks. refl
nothing s.compared = λ ks. refl
nothing s.relations = λ ks. refl
nothing s.mores = λ ks. inl refl
nothing s.after_semicolon = λ ks. refl
nothing s.elsifs = λ ks. refl
nothing s.otherwise = λ ks. refl
nothing s.body = λ ks. refl
nothing s.variable_list = λ ks. refl
nothing s.variables = λ ks. refl
nothing s.initial = λ ks. refl
nothing s.complete = λ ks. refl
nothing s.state_list = λ ks. refl
nothing s.states = λ ks. refl
nothing s.guard = λ ks. refl
nothing s.effect = λ ks. refl
nothing s.transition_list = λ ks. refl
nothing s.transitions = λ ks. refl
nothing s.annexes = λ ks. refl
nothing s.data_type = λ ks. refl
nothing s.feature_list = λ ks. refl
nothing s.features = λ ks. inl refl
nothing s.subcomponent_list = λ ks. refl
nothing s.subcomponents = λ ks. inl refl
nothing s.connection_list = λ ks. refl
nothing s.connections = λ ks. inl refl
nothing s.own_properties = λ ks. inl refl
nothing s.declarations = λ ks. refl
nothing s.more_names = λ ks. refl
nothing s.withs = λ ks. refl
nothing s.identifier = tt
nothing _ = tt
