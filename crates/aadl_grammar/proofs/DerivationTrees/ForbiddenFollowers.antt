-- The table of forbidden followers: terminals that may not follow a symbol because they would still belong to it.
-- Checks of all rows prove that none of them follows.
use Rattle.std.proofs.Common.{◌≡◌, ℕ, Bool, true, false, cond, not, ◌&&◌, ◌||◌, ◌==◌, List, [], ◌∷◌, ◌++◌, refl}
use Rattle.aadl_tree.specs.declared.mark.Mark.TheVariants as k
use Rattle.aadl_grammar.specs.proof.GrammarSymbols.{Class, a_word, the, Symbol, Row}
use Rattle.aadl_grammar.specs.proof.GrammarSymbols as s
use Rattle.aadl_grammar.specs.proof.ParseTable.{rows, can_omit}
use Rattle.aadl_grammar.specs.proof.StackMachine.{class_number}

abbrev pub among : ℕ → List Class → Bool
among n [] = false
among n (c ∷ cs) = n == class_number c || among n cs

abbrev pub firsts : List Row → List Class
firsts [] = []
firsts (r ∷ rs) = r.first ∷ firsts rs

-- the classes that the symbols begin with, past symbols that may be omitted
abbrev pub first_of : List Symbol → List Class
first_of [] = []
first_of (x ∷ f) = firsts (rows x) ++ cond (can_omit x) (first_of f) []

abbrev pub nullable : List Symbol → Bool
nullable [] = true
nullable (x ∷ f) = can_omit x && nullable f

abbrev after_reference : List Class
after_reference = the k.Dot ∷ the k.Scope ∷ []

abbrev after_value : List Class
after_value = a_word ∷ the k.Range ∷ the k.Dot ∷ the k.Scope ∷ []

abbrev after_term : List Class
after_term = the k.Tick ∷ the k.Star ∷ the k.Slash ∷ the k.Mod ∷ the k.Rem ∷ []

abbrev after_sum : List Class
after_sum = the k.Plus ∷ the k.Minus ∷ after_term

abbrev after_relation : List Class
after_relation =
    the k.Equal ∷ the k.NotEqual ∷ the k.Less ∷ the k.LessOrEqual ∷ the k.Greater ∷ the k.GreaterOrEqual ∷ after_sum

abbrev after_expression : List Class
after_expression = the k.And ∷ the k.Or ∷ the k.Xor ∷ after_relation

abbrev after_actions : List Class
after_actions = a_word ∷ the k.If ∷ the k.For ∷ the k.Semicolon ∷ after_expression

-- the classes that may not follow a symbol, since they would still belong to it
unfoldable pub forbidden_after : Symbol → List Class
forbidden_after s.name = the k.Scope ∷ []
forbidden_after s.names = the k.Scope ∷ []
forbidden_after s.path = the k.Dot ∷ []
forbidden_after s.paths = the k.Dot ∷ []
forbidden_after s.more_identifiers = the k.Comma ∷ []
forbidden_after s.reference = after_reference
forbidden_after s.dot_identifier = the k.Dot ∷ []
forbidden_after s.unit = a_word ∷ []
forbidden_after s.quantity = a_word ∷ []
forbidden_after s.upper = a_word ∷ the k.Range ∷ []
forbidden_after s.value = after_value
forbidden_after s.values = the k.Comma ∷ firsts (rows s.value) ++ after_value
forbidden_after s.more_values = the k.Comma ∷ after_value
forbidden_after s.constant = the k.Constant ∷ []
forbidden_after s.applies = the k.Applies ∷ the k.Comma ∷ the k.Dot ∷ []
forbidden_after s.more_paths = the k.Comma ∷ the k.Dot ∷ []
forbidden_after s.associations = a_word ∷ []
forbidden_after s.properties = the k.BraceOpen ∷ []
forbidden_after s.primary = the k.Tick ∷ []
forbidden_after s.fresh = the k.Tick ∷ []
forbidden_after s.factor = the k.Tick ∷ []
forbidden_after s.term = after_term
forbidden_after s.factors = after_term
forbidden_after s.sum = after_sum
forbidden_after s.terms = after_sum
forbidden_after s.compared = after_relation
forbidden_after s.relation = after_relation
forbidden_after s.relations = after_expression
forbidden_after s.after_and = after_relation
forbidden_after s.after_or = after_relation
forbidden_after s.expression = after_expression
forbidden_after s.after_target = after_expression
forbidden_after s.action = after_expression
forbidden_after s.actions = after_actions
forbidden_after s.mores = after_actions
forbidden_after s.after_semicolon = after_actions
forbidden_after s.body = after_actions
forbidden_after s.elsifs = the k.Elsif ∷ after_actions
forbidden_after s.otherwise = the k.Else ∷ after_actions
forbidden_after s.variable_list = a_word ∷ []
forbidden_after s.variables = the k.Variables ∷ a_word ∷ []
forbidden_after s.initial = the k.Initial ∷ []
forbidden_after s.complete = the k.Complete ∷ []
forbidden_after s.state_list = a_word ∷ []
forbidden_after s.states = the k.States ∷ a_word ∷ []
forbidden_after s.guard = firsts (rows s.guard) ++ after_expression
forbidden_after s.effect = the k.BraceOpen ∷ []
forbidden_after s.transition_list = a_word ∷ []
forbidden_after s.transitions = the k.Transitions ∷ a_word ∷ []
forbidden_after s.annexes = the k.Annex ∷ []
forbidden_after s.data_type = a_word ∷ after_reference
forbidden_after s.feature_list = a_word ∷ []
forbidden_after s.feature_section = a_word ∷ []
forbidden_after s.features = the k.Features ∷ a_word ∷ []
forbidden_after s.subcomponent_list = a_word ∷ []
forbidden_after s.subcomponent_section = a_word ∷ []
forbidden_after s.subcomponents = the k.Subcomponents ∷ a_word ∷ []
forbidden_after s.connection_end = the k.Dot ∷ []
forbidden_after s.connection_list = a_word ∷ []
forbidden_after s.connection_section = a_word ∷ []
forbidden_after s.connections = the k.Connections ∷ a_word ∷ []
forbidden_after s.property_section = a_word ∷ []
forbidden_after s.own_properties = the k.Properties ∷ a_word ∷ []
forbidden_after s.declarations = firsts (rows s.declarations)
forbidden_after s.more_names = the k.Comma ∷ the k.Scope ∷ []
forbidden_after s.withs = the k.With ∷ []
forbidden_after _ = []

-- no class is in both lists
abbrev pub apart : List Class → List Class → Bool
apart [] ds = true
apart (c ∷ cs) ds = not (among (class_number c) ds) && apart cs ds

-- each class of the first list is in the second
abbrev pub covers : List Class → List Class → Bool
covers [] ds = true
covers (c ∷ cs) ds = among (class_number c) ds && covers cs ds

abbrev pub distinct : List Class → Bool
distinct [] = true
distinct (c ∷ cs) = not (among (class_number c) cs) && distinct cs

-- The follower of each symbol of the list determines where the symbol ends; the first list has the classes that may
-- not follow the last one.
abbrev pub settled : List Class → List Symbol → Bool
settled outer [] = true
settled outer (x ∷ f) = apart (first_of f) (forbidden_after x)
    && ((not (nullable f) || covers (forbidden_after x) outer) && settled outer f)

abbrev pub rows_settled : List Class → List Row → Bool
rows_settled outer [] = true
rows_settled outer (r ∷ rs) = settled outer r.wanted && rows_settled outer rs

abbrev pub omits_settled : Bool → Symbol → Bool
omits_settled false x = true
omits_settled true x = covers (firsts (rows x)) (forbidden_after x)

pub distinct_firsts : (x : Symbol) → distinct (firsts (rows x)) ≡ true
distinct_firsts s.identifier = refl
distinct_firsts _ = refl

pub settled_rows : (x : Symbol) → rows_settled (forbidden_after x) (rows x) ≡ true
unfolding forbidden_after
settled_rows s.identifier = refl
settled_rows _ = refl

pub settled_omits : (x : Symbol) → omits_settled (can_omit x) x ≡ true
unfolding forbidden_after
settled_omits s.identifier = refl
settled_omits _ = refl
