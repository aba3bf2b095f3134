-- How each symbol may begin, and whether it may be omitted.
use Rattle.std.specs.Prelude.{◌≢◌, Bool, true, false, List, [], ◌∷◌, ◌++◌}
use Rattle.aadl_tree.specs.declared.mark.Mark.{Mark}
use Rattle.aadl_grammar.specs.proof.GrammarSymbols.{Class, a_word, a_whole, a_real, a_quoted, an_unread, the, Symbol}
use Rattle.aadl_grammar.specs.proof.GrammarSymbols.{Row}
use Rattle.aadl_tree.specs.declared.mark.Mark.TheVariants as k
use Rattle.aadl_grammar.specs.proof.GrammarSymbols as s

-- after a terminal of the class
abbrev pub by : Class → List Symbol → Row
by c f = record { first = c; wanted = f }

-- after a keyword or a symbol
abbrev pub on : Mark → List Symbol → Row
on m f = by (the m) f

-- the same beginnings, with more symbols expected after them
abbrev pub behind : List Symbol → List Row → List Row
behind more [] = []
behind more (r ∷ rs) = by r.first (r.wanted ++ more) ∷ behind more rs

abbrev pub figure_rows : List Row
figure_rows = by a_whole [] ∷ by a_real [] ∷ []

abbrev pub quantity_rows : List Row
quantity_rows =
    on k.Plus (s.figure ∷ s.unit ∷ []) ∷ on k.Minus (s.figure ∷ s.unit ∷ []) ∷ behind (s.unit ∷ []) figure_rows

abbrev pub reference_rows : List Row
reference_rows = by a_word (s.names ∷ s.dot_identifier ∷ []) ∷ []

abbrev pub value_rows : List Row
value_rows =
    by a_quoted [] ∷ by a_word (s.names ∷ s.dot_identifier ∷ []) ∷ on k.ParenOpen (s.values ∷ s.only k.ParenClose ∷ [])
    ∷ on k.BracketOpen (s.associations ∷ s.only k.BracketClose ∷ []) ∷ on k.Reference (s.path_group ∷ [])
    ∷ on k.Classifier (s.reference_group ∷ [])
    ∷ behind (s.upper ∷ []) quantity_rows

abbrev pub association_rows : List Row
association_rows = by a_word (s.names ∷ s.operator ∷ s.constant ∷ s.value ∷ s.applies ∷ s.only k.Semicolon ∷ []) ∷ []

abbrev pub primary_rows : List Row
primary_rows =
    by a_whole [] ∷ on k.True [] ∷ on k.False [] ∷ by a_word (s.fresh ∷ [])
    ∷ on k.ParenOpen (s.expression ∷ s.only k.ParenClose ∷ []) ∷ []

abbrev pub factor_rows : List Row
factor_rows = on k.Abs (s.primary ∷ []) ∷ on k.Not (s.primary ∷ []) ∷ behind [] primary_rows

abbrev pub term_rows : List Row
term_rows = behind (s.factors ∷ []) factor_rows

abbrev pub sum_rows : List Row
sum_rows = on k.Plus (s.term ∷ s.terms ∷ []) ∷ on k.Minus (s.term ∷ s.terms ∷ []) ∷ behind (s.terms ∷ []) term_rows

abbrev pub relation_rows : List Row
relation_rows = behind (s.compared ∷ []) sum_rows

abbrev pub expression_rows : List Row
expression_rows = behind (s.relations ∷ []) relation_rows

abbrev pub action_rows : List Row
action_rows =
    by a_word (s.after_target ∷ []) ∷ on k.If (s.test ∷ s.actions ∷ s.elsifs ∷ s.otherwise ∷ s.end_if ∷ [])
    ∷ on k.For (s.loop_head ∷ s.block ∷ []) ∷ []

abbrev pub actions_rows : List Row
actions_rows = behind (s.mores ∷ []) action_rows

abbrev pub block_rows : List Row
block_rows = on k.BraceOpen (s.body ∷ s.only k.BraceClose ∷ []) ∷ []

abbrev pub variable_rows : List Row
variable_rows =
    by a_word (s.more_identifiers ∷ s.only k.Colon ∷ s.reference ∷ s.properties ∷ s.only k.Semicolon ∷ []) ∷ []

abbrev pub state_rows : List Row
state_rows =
    by a_word (s.more_identifiers ∷ s.only k.Colon ∷ s.initial ∷ s.complete ∷ s.only k.State
    ∷ s.only k.Semicolon ∷ []) ∷ []

abbrev pub transition_rows : List Row
transition_rows = by a_word (s.after_word ∷ s.identifier ∷ s.effect ∷ s.only k.Semicolon ∷ []) ∷ []

abbrev pub annex_rows : List Row
annex_rows = on k.Annex (s.identifier ∷ s.content ∷ s.only k.Semicolon ∷ []) ∷ []

abbrev pub feature_rows : List Row
feature_rows =
    by a_word (s.only k.Colon ∷ s.direction ∷ s.only k.Data ∷ s.only k.Port ∷ s.data_type ∷ s.properties
    ∷ s.only k.Semicolon ∷ []) ∷ []

abbrev pub subcomponent_rows : List Row
subcomponent_rows = by a_word (s.only k.Colon ∷ s.category ∷ s.reference ∷ s.properties ∷ s.only k.Semicolon ∷ []) ∷ []

abbrev pub connection_rows : List Row
connection_rows =
    by a_word (s.only k.Colon ∷ s.only k.Port ∷ s.connection_end ∷ s.only k.Arrow ∷ s.connection_end ∷ s.properties
    ∷ s.only k.Semicolon ∷ []) ∷ []

-- `none ;`, or the content of the section
abbrev pub section_rows : List Row → List Row
section_rows rs = on k.Nothing (s.only k.Semicolon ∷ []) ∷ rs

-- a type from its name on, or an implementation from `implementation` on
abbrev pub after_category_rows : List Row
after_category_rows =
    by a_word (s.features ∷ s.own_properties ∷ s.annexes ∷ s.type_end ∷ [])
    ∷ on k.Implementation (s.implementation_name ∷ s.subcomponents ∷ s.connections ∷ s.own_properties ∷ s.annexes
    ∷ s.implementation_end ∷ []) ∷ []

abbrev pub declarations_rows : List Row
declarations_rows =
    on k.System (s.after_category ∷ s.declarations ∷ []) ∷ on k.Process (s.after_category ∷ s.declarations ∷ [])
    ∷ on k.Thread (s.after_category ∷ s.declarations ∷ []) ∷ []

-- the beginnings of a symbol
abbrev pub rows : Symbol → List Row
rows (s.only m) = on m [] ∷ []
rows s.identifier = by a_word [] ∷ []
rows s.name = by a_word (s.names ∷ []) ∷ []
rows s.names = on k.Scope (s.name ∷ []) ∷ []
rows s.path = by a_word (s.paths ∷ []) ∷ []
rows s.paths = on k.Dot (s.path ∷ []) ∷ []
rows s.more_identifiers = on k.Comma (s.identifier ∷ s.more_identifiers ∷ []) ∷ []
rows s.reference = reference_rows
rows s.dot_identifier = on k.Dot (s.identifier ∷ []) ∷ []
rows s.figure = figure_rows
rows s.unit = by a_word [] ∷ []
rows s.quantity = quantity_rows
rows s.upper = on k.Range (s.quantity ∷ []) ∷ []
rows s.value = value_rows
rows s.path_group = on k.ParenOpen (s.path ∷ s.only k.ParenClose ∷ []) ∷ []
rows s.reference_group = on k.ParenOpen (s.reference ∷ s.only k.ParenClose ∷ []) ∷ []
rows s.values = behind (s.more_values ∷ []) value_rows
rows s.more_values = on k.Comma (s.value ∷ s.more_values ∷ []) ∷ []
rows s.operator = on k.Becomes [] ∷ on k.Appends [] ∷ []
rows s.constant = on k.Constant [] ∷ []
rows s.applies = on k.Applies (s.only k.To ∷ s.path ∷ s.more_paths ∷ []) ∷ []
rows s.more_paths = on k.Comma (s.path ∷ s.more_paths ∷ []) ∷ []
rows s.association = association_rows
rows s.associations = behind (s.associations ∷ []) association_rows
rows s.properties = on k.BraceOpen (s.association ∷ s.associations ∷ s.only k.BraceClose ∷ []) ∷ []
rows s.primary = primary_rows
rows s.fresh = on k.Tick (s.only k.Fresh ∷ []) ∷ []
rows s.factor = factor_rows
rows s.term = term_rows
rows s.factors =
    on k.Star (s.factor ∷ s.factors ∷ []) ∷ on k.Slash (s.factor ∷ s.factors ∷ [])
    ∷ on k.Mod (s.factor ∷ s.factors ∷ []) ∷ on k.Rem (s.factor ∷ s.factors ∷ []) ∷ []
rows s.sum = sum_rows
rows s.terms = on k.Plus (s.term ∷ s.terms ∷ []) ∷ on k.Minus (s.term ∷ s.terms ∷ []) ∷ []
rows s.compared =
    on k.Equal (s.sum ∷ []) ∷ on k.NotEqual (s.sum ∷ []) ∷ on k.Less (s.sum ∷ []) ∷ on k.LessOrEqual (s.sum ∷ [])
    ∷ on k.Greater (s.sum ∷ [])
    ∷ on k.GreaterOrEqual (s.sum ∷ []) ∷ []
rows s.relation = relation_rows
rows s.relations =
    on k.And (s.after_and ∷ s.relations ∷ []) ∷ on k.Or (s.after_or ∷ s.relations ∷ [])
    ∷ on k.Xor (s.relation ∷ s.relations ∷ []) ∷ []
rows s.after_and = on k.Then (s.relation ∷ []) ∷ behind [] relation_rows
rows s.after_or = on k.Else (s.relation ∷ []) ∷ behind [] relation_rows
rows s.expression = expression_rows
rows s.test = on k.ParenOpen (s.expression ∷ s.only k.ParenClose ∷ []) ∷ []
rows s.whole_number = by a_whole [] ∷ []
rows s.bound = by a_whole [] ∷ on k.Minus (s.whole_number ∷ []) ∷ []
rows s.after_target = on k.Assign (s.expression ∷ []) ∷ on k.Bang (s.test ∷ []) ∷ []
rows s.loop_head =
    on k.ParenOpen (s.identifier ∷ s.only k.Colon ∷ s.reference ∷ s.only k.In ∷ s.bound ∷ s.only k.Range ∷ s.bound
    ∷ s.only k.ParenClose ∷ []) ∷ []
rows s.action = action_rows
rows s.actions = actions_rows
rows s.mores = on k.Semicolon (s.after_semicolon ∷ []) ∷ []
rows s.after_semicolon = behind [] actions_rows
rows s.elsifs = on k.Elsif (s.test ∷ s.actions ∷ s.elsifs ∷ []) ∷ []
rows s.otherwise = on k.Else (s.actions ∷ []) ∷ []
rows s.end_if = on k.End (s.closing_if ∷ []) ∷ []
rows s.closing_if = on k.If [] ∷ []
rows s.block = block_rows
rows s.body = behind [] actions_rows
rows s.variable = variable_rows
rows s.variable_list = behind (s.variable_list ∷ []) variable_rows
rows s.variables = on k.Variables (s.variable_list ∷ []) ∷ []
rows s.initial = on k.Initial [] ∷ []
rows s.complete = on k.Complete [] ∷ []
rows s.state = state_rows
rows s.state_list = behind (s.state_list ∷ []) state_rows
rows s.states = on k.States (s.state_list ∷ []) ∷ []
rows s.guard = on k.On (s.only k.Dispatch ∷ []) ∷ on k.Otherwise [] ∷ behind [] expression_rows
rows s.guarded = on k.GuardOpen (s.guard ∷ s.only k.GuardClose ∷ []) ∷ []
rows s.after_word =
    on k.Colon (s.identifier ∷ s.guarded ∷ []) ∷ on k.GuardOpen (s.guard ∷ s.only k.GuardClose ∷ []) ∷ []
rows s.effect = behind [] block_rows
rows s.transition = transition_rows
rows s.transition_list = behind (s.transition_list ∷ []) transition_rows
rows s.transitions = on k.Transitions (s.transition_list ∷ []) ∷ []
rows s.content =
    by an_unread [] ∷ on k.AnnexOpen (s.variables ∷ s.states ∷ s.transitions ∷ s.only k.AnnexClose ∷ []) ∷ []
rows s.annex = annex_rows
rows s.annexes = behind (s.annexes ∷ []) annex_rows
rows s.direction = on k.In [] ∷ on k.Out [] ∷ []
rows s.category = on k.System [] ∷ on k.Process [] ∷ on k.Thread [] ∷ []
rows s.data_type = behind [] reference_rows
rows s.feature = feature_rows
rows s.feature_list = behind (s.feature_list ∷ []) feature_rows
rows s.feature_section = section_rows (behind (s.feature_list ∷ []) feature_rows)
rows s.features = on k.Features (s.feature_section ∷ []) ∷ []
rows s.subcomponent = subcomponent_rows
rows s.subcomponent_list = behind (s.subcomponent_list ∷ []) subcomponent_rows
rows s.subcomponent_section = section_rows (behind (s.subcomponent_list ∷ []) subcomponent_rows)
rows s.subcomponents = on k.Subcomponents (s.subcomponent_section ∷ []) ∷ []
rows s.connection_end = by a_word (s.dot_identifier ∷ []) ∷ []
rows s.connection = connection_rows
rows s.connection_list = behind (s.connection_list ∷ []) connection_rows
rows s.connection_section = section_rows (behind (s.connection_list ∷ []) connection_rows)
rows s.connections = on k.Connections (s.connection_section ∷ []) ∷ []
rows s.property_section = section_rows (behind (s.associations ∷ []) association_rows)
rows s.own_properties = on k.Properties (s.property_section ∷ []) ∷ []
rows s.implementation_name = by a_word (s.only k.Dot ∷ s.identifier ∷ []) ∷ []
rows s.type_end = on k.End (s.identifier ∷ s.only k.Semicolon ∷ []) ∷ []
rows s.implementation_end = on k.End (s.implementation_name ∷ s.only k.Semicolon ∷ []) ∷ []
rows s.package_end = on k.End (s.name ∷ s.only k.Semicolon ∷ []) ∷ []
rows s.after_category = after_category_rows
rows s.declarations = declarations_rows
rows s.more_names = on k.Comma (s.name ∷ s.more_names ∷ []) ∷ []
rows s.withs = on k.With (s.name ∷ s.more_names ∷ s.only k.Semicolon ∷ s.withs ∷ []) ∷ []
rows s.a_package = on k.Package (s.name ∷ s.only k.Public ∷ s.withs ∷ s.declarations ∷ s.package_end ∷ []) ∷ []

-- the symbol may be omitted
abbrev pub can_omit : Symbol → Bool
can_omit s.names = true
can_omit s.paths = true
can_omit s.more_identifiers = true
can_omit s.dot_identifier = true
can_omit s.unit = true
can_omit s.upper = true
can_omit s.values = true
can_omit s.more_values = true
can_omit s.constant = true
can_omit s.applies = true
can_omit s.more_paths = true
can_omit s.associations = true
can_omit s.properties = true
can_omit s.fresh = true
can_omit s.factors = true
can_omit s.terms = true
can_omit s.compared = true
can_omit s.relations = true
can_omit s.mores = true
can_omit s.after_semicolon = true
can_omit s.elsifs = true
can_omit s.otherwise = true
can_omit s.body = true
can_omit s.variable_list = true
can_omit s.variables = true
can_omit s.initial = true
can_omit s.complete = true
can_omit s.state_list = true
can_omit s.states = true
can_omit s.guard = true
can_omit s.effect = true
can_omit s.transition_list = true
can_omit s.transitions = true
can_omit s.annexes = true
can_omit s.data_type = true
can_omit s.feature_list = true
can_omit s.features = true
can_omit s.subcomponent_list = true
can_omit s.subcomponents = true
can_omit s.connection_list = true
can_omit s.connections = true
can_omit s.own_properties = true
can_omit s.declarations = true
can_omit s.more_names = true
can_omit s.withs = true
can_omit _ = false

-- no row has the class
abbrev pub Differ : Class → List Row → Type 0
Differ c [] = Unit {0}
Differ c (r ∷ rs) = (r.first ≢ c) × Differ c rs

-- the rows have pairwise distinct classes
abbrev pub Decides : List Row → Type 0
Decides [] = Unit {0}
Decides (r ∷ rs) = Differ r.first rs × Decides rs
