-- The type of the tree of each symbol, and the parts that spell the tree.
use Rattle.std.proofs.Common.{◌⊎◌, ℕ, ℤ, Bool, true, false, List, [], ◌∷◌, ◌++◌, Option, Some, None, flat_map, inl, inr}
use Rattle.aadl_tree.specs.declared.mark.Mark.{Mark}
use Rattle.aadl_tree.specs.declared.mark.Mark.TheVariants as k
use Rattle.aadl_tree.specs.declared.expressions.LogicOperator.TheVariants as logic
use Rattle.aadl_tree.specs.declared.expressions.RelationOperator.{RelationOperator}
use Rattle.aadl_tree.specs.declared.values.AssociationOperator.{AssociationOperator}
use Rattle.aadl_tree.specs.declared.declarations.Category.{Category}
use Rattle.aadl_tree.specs.declared.declarations.Direction.{Direction}
use Rattle.aadl_tree.specs.declared.actions.Bound.{Bound}
use Rattle.aadl_tree.specs.Terminals.{PlainTerminal, word, whole, real, quoted, unread, mark}
use Rattle.aadl_tree.specs.SpellingParts.{SpellingPart, token, may, plain, marked_if, parts_if}
use Rattle.aadl_tree.specs.SpellingParts as p
use Rattle.aadl_tree.specs.Names as n
use Rattle.aadl_tree.specs.Values as v
use Rattle.aadl_tree.specs.Expressions as e
use Rattle.aadl_tree.specs.Actions as a
use Rattle.aadl_tree.specs.Annexes as x
use Rattle.aadl_tree.specs.Declarations as d
use Rattle.aadl_grammar.specs.proof.GrammarSymbols.{Class, a_word, a_whole, a_real, a_quoted, an_unread, the, Symbol}
use Rattle.aadl_grammar.specs.proof.GrammarSymbols as s

abbrev pub NoPlace : Type 0
NoPlace = Unit {0}

-- the content of a terminal of the class
abbrev pub Content : Class → Type 0
Content a_word = List ℕ
Content a_whole = ℤ
Content a_real = List ℕ
Content a_quoted = List ℕ
Content an_unread = List ℕ
Content (the m) = NoPlace

abbrev pub kind_with : (c : Class) → Content c → PlainTerminal
kind_with a_word w = word w
kind_with a_whole w = whole w
kind_with a_real w = real w
kind_with a_quoted w = quoted w
kind_with an_unread w = unread w
kind_with (the m) w = mark m

abbrev pub identifier_of : List ℕ → n.Identifier NoPlace
identifier_of w = record { at = tt; spelling = w }

-- the parts between the parentheses of a loop
pub record LoopHead : Type 0 where
  pub counter : n.Identifier NoPlace
  pub data_type : n.Reference NoPlace
  pub low : Bound
  pub high : Bound

-- a declaration without its category
pub data DeclarationRest : Type 0 where
  type_rest : n.Identifier NoPlace → List (d.Feature NoPlace) → v.Associations NoPlace → List (x.Annex NoPlace)
      → n.Identifier NoPlace → DeclarationRest
  implementation_rest : d.ImplementationName NoPlace → List (d.Subcomponent NoPlace) → List (d.Connection NoPlace)
      → v.Associations NoPlace
      → List (x.Annex NoPlace) → d.ImplementationName NoPlace → DeclarationRest

abbrev pub declaration_of : Category → DeclarationRest → d.Declaration NoPlace
declaration_of c (type_rest name features own annexes end_name) =
    d.type (record {
      at = tt;
      category = c;
      name = name;
      features = features;
      properties = own;
      annexes = annexes;
      end_name = end_name;
    })
declaration_of c (implementation_rest name subs links own annexes end_name) =
    d.implementation (record {
      at = tt;
      category = c;
      name = name;
      subcomponents = subs;
      connections = links;
      properties = own;
      annexes = annexes;
      end_name = end_name;
    })

abbrev pub rest_parts : DeclarationRest → List (SpellingPart NoPlace)
rest_parts (type_rest name features own annexes end_name) =
    n.identifier_parts name ++ (d.section_parts p.feature_section (flat_map d.feature_parts features)
    ++ (d.section_parts p.property_section (v.associations_parts own)
    ++ (flat_map x.annex_parts annexes ++ d.ending_parts (n.identifier_parts end_name))))
rest_parts (implementation_rest name subs links own annexes end_name) =
    plain k.Implementation ∷ (d.implementation_name_parts name
    ++ (d.section_parts p.subcomponent_section (flat_map d.subcomponent_parts subs)
    ++ (d.section_parts p.connection_section (flat_map d.connection_parts links)
    ++ (d.section_parts p.property_section (v.associations_parts own)
    ++ (flat_map x.annex_parts annexes ++ d.ending_parts (d.implementation_name_parts end_name))))))

-- the content of a section, after its keyword
abbrev pub section_rest : List (SpellingPart NoPlace) → List (SpellingPart NoPlace)
section_rest [] = plain k.Nothing ∷ (plain k.Semicolon ∷ [])
section_rest (q ∷ qs) = q ∷ qs

abbrev pub compared_parts : Option (RelationOperator × e.Sum NoPlace) → List (SpellingPart NoPlace)
compared_parts None = []
compared_parts (Some c) = plain (e.relation_mark c.0) ∷ e.sum_parts c.1

abbrev pub relation_of : e.Sum NoPlace → Option (RelationOperator × e.Sum NoPlace) → e.Relation NoPlace
relation_of y None = e.single y
relation_of y (Some c) = e.compared y c.0 c.1

-- a relation after `and` or `or`, with the mark `then` or `else` before it if the flag is true
abbrev pub after_parts : Mark → Bool × e.Relation NoPlace → List (SpellingPart NoPlace)
after_parts m (true, y) = plain m ∷ e.relation_parts y
after_parts m (false, y) = e.relation_parts y

abbrev pub and_join : Bool × e.Relation NoPlace → e.Relations NoPlace → e.Relations NoPlace
and_join (true, y) z = e.join logic.AndThen y z
and_join (false, y) z = e.join logic.And y z

abbrev pub or_join : Bool × e.Relation NoPlace → e.Relations NoPlace → e.Relations NoPlace
or_join (true, y) z = e.join logic.OrElse y z
or_join (false, y) z = e.join logic.Or y z

abbrev pub after_target_parts : e.Expression NoPlace ⊎ e.Expression NoPlace → List (SpellingPart NoPlace)
after_target_parts (inl y) = plain k.Assign ∷ e.expression_parts y
after_target_parts (inr y) = plain k.Bang ∷ a.test_parts y

abbrev pub act : List ℕ → e.Expression NoPlace ⊎ e.Expression NoPlace → a.Action NoPlace
act w (inl y) = a.assign (identifier_of w) y
act w (inr y) = a.send (identifier_of w) y

abbrev pub head_parts : LoopHead → List (SpellingPart NoPlace)
head_parts t =
    plain k.ParenOpen ∷ (n.identifier_parts t.counter ++ (plain k.Colon ∷ (n.reference_parts t.data_type ++ (plain k.In
    ∷ (a.bound_parts t.low ++ (plain k.Range ∷ (a.bound_parts t.high ++ plain k.ParenClose ∷ [])))))))

-- the actions of a body, possibly empty
abbrev pub body_parts : a.Block NoPlace → List (SpellingPart NoPlace)
body_parts a.no_block = []
body_parts (a.block y) = a.actions_parts y

abbrev pub more_of : a.Block NoPlace → a.Mores NoPlace
more_of a.no_block = a.no_mores
more_of (a.block (a.actions y z)) = a.more y z

abbrev pub guarded_parts : Option (x.Guard NoPlace) → List (SpellingPart NoPlace)
guarded_parts g = plain k.GuardOpen ∷ (parts_if x.guard_parts g ++ plain k.GuardClose ∷ [])

-- from the first word of a transition up to its target: the word is the source or the label
abbrev pub after_word_parts : Option (n.Identifier NoPlace) × Option (x.Guard NoPlace) → List (SpellingPart NoPlace)
after_word_parts (None, g) = guarded_parts g
after_word_parts (Some y, g) = plain k.Colon ∷ (n.identifier_parts y ++ guarded_parts g)

abbrev pub transition_of : n.Identifier NoPlace → Option (n.Identifier NoPlace) × Option (x.Guard NoPlace)
    → n.Identifier NoPlace
    → Option (a.Block NoPlace) → x.Transition NoPlace
transition_of first (None, g) target effect =
    record { label = None; source = first; guard = g; target = target; effect = effect }
transition_of first (Some y, g) target effect =
    record { label = Some first; source = y; guard = g; target = target; effect = effect }

abbrev pub TreeOf : Symbol → Type 0
TreeOf (s.only m) = NoPlace
TreeOf s.identifier = n.Identifier NoPlace
TreeOf s.name = n.Name NoPlace
TreeOf s.names = List (n.Identifier NoPlace)
TreeOf s.path = n.Path NoPlace
TreeOf s.paths = List (n.Identifier NoPlace)
TreeOf s.more_identifiers = List (n.Identifier NoPlace)
TreeOf s.reference = n.Reference NoPlace
TreeOf s.dot_identifier = Option (n.Identifier NoPlace)
TreeOf s.figure = v.UnsignedNumber
TreeOf s.unit = Option (n.Identifier NoPlace)
TreeOf s.quantity = v.Quantity NoPlace
TreeOf s.upper = Option (v.Quantity NoPlace)
TreeOf s.value = v.Value NoPlace
TreeOf s.path_group = n.Path NoPlace
TreeOf s.reference_group = n.Reference NoPlace
TreeOf s.values = v.Values NoPlace
TreeOf s.more_values = v.Values NoPlace
TreeOf s.operator = AssociationOperator
TreeOf s.constant = Bool
TreeOf s.applies = List (n.Path NoPlace)
TreeOf s.more_paths = List (n.Path NoPlace)
TreeOf s.association = v.Association NoPlace
TreeOf s.associations = v.Associations NoPlace
TreeOf s.properties = v.Associations NoPlace
TreeOf s.primary = e.Primary NoPlace
TreeOf s.fresh = Bool
TreeOf s.factor = e.Factor NoPlace
TreeOf s.term = e.Term NoPlace
TreeOf s.factors = e.Factors NoPlace
TreeOf s.sum = e.Sum NoPlace
TreeOf s.terms = e.Terms NoPlace
TreeOf s.compared = Option (RelationOperator × e.Sum NoPlace)
TreeOf s.relation = e.Relation NoPlace
TreeOf s.relations = e.Relations NoPlace
TreeOf s.after_and = Bool × e.Relation NoPlace
TreeOf s.after_or = Bool × e.Relation NoPlace
TreeOf s.expression = e.Expression NoPlace
TreeOf s.test = e.Expression NoPlace
TreeOf s.whole_number = ℤ
TreeOf s.bound = Bound
TreeOf s.after_target = e.Expression NoPlace ⊎ e.Expression NoPlace
TreeOf s.loop_head = LoopHead
TreeOf s.action = a.Action NoPlace
TreeOf s.actions = a.Actions NoPlace
TreeOf s.mores = a.Mores NoPlace
TreeOf s.after_semicolon = a.Block NoPlace
TreeOf s.elsifs = a.Elsifs NoPlace
TreeOf s.otherwise = a.Otherwise NoPlace
TreeOf s.end_if = NoPlace
TreeOf s.closing_if = NoPlace
TreeOf s.block = a.Block NoPlace
TreeOf s.body = a.Block NoPlace
TreeOf s.variable = x.VariableDeclaration NoPlace
TreeOf s.variable_list = List (x.VariableDeclaration NoPlace)
TreeOf s.variables = Option (List (x.VariableDeclaration NoPlace))
TreeOf s.initial = Bool
TreeOf s.complete = Bool
TreeOf s.state = x.StateDeclaration NoPlace
TreeOf s.state_list = List (x.StateDeclaration NoPlace)
TreeOf s.states = Option (List (x.StateDeclaration NoPlace))
TreeOf s.guard = Option (x.Guard NoPlace)
TreeOf s.guarded = Option (x.Guard NoPlace)
TreeOf s.after_word = Option (n.Identifier NoPlace) × Option (x.Guard NoPlace)
TreeOf s.effect = Option (a.Block NoPlace)
TreeOf s.transition = x.Transition NoPlace
TreeOf s.transition_list = List (x.Transition NoPlace)
TreeOf s.transitions = Option (List (x.Transition NoPlace))
TreeOf s.content = x.AnnexContent NoPlace
TreeOf s.annex = x.Annex NoPlace
TreeOf s.annexes = List (x.Annex NoPlace)
TreeOf s.direction = Direction
TreeOf s.category = Category
TreeOf s.data_type = Option (n.Reference NoPlace)
TreeOf s.feature = d.Feature NoPlace
TreeOf s.subcomponent = d.Subcomponent NoPlace
TreeOf s.connection_end = d.ConnectionEnd NoPlace
TreeOf s.connection = d.Connection NoPlace
TreeOf s.feature_list = List (d.Feature NoPlace)
TreeOf s.feature_section = List (d.Feature NoPlace)
TreeOf s.features = List (d.Feature NoPlace)
TreeOf s.subcomponent_list = List (d.Subcomponent NoPlace)
TreeOf s.subcomponent_section = List (d.Subcomponent NoPlace)
TreeOf s.subcomponents = List (d.Subcomponent NoPlace)
TreeOf s.connection_list = List (d.Connection NoPlace)
TreeOf s.connection_section = List (d.Connection NoPlace)
TreeOf s.connections = List (d.Connection NoPlace)
TreeOf s.property_section = v.Associations NoPlace
TreeOf s.own_properties = v.Associations NoPlace
TreeOf s.implementation_name = d.ImplementationName NoPlace
TreeOf s.type_end = n.Identifier NoPlace
TreeOf s.implementation_end = d.ImplementationName NoPlace
TreeOf s.package_end = n.Name NoPlace
TreeOf s.after_category = DeclarationRest
TreeOf s.declarations = List (d.Declaration NoPlace)
TreeOf s.more_names = List (n.Name NoPlace)
TreeOf s.withs = List (d.With NoPlace)
TreeOf s.a_package = d.PackageTree NoPlace

abbrev pub parts : (y : Symbol) → TreeOf y → List (SpellingPart NoPlace)
parts (s.only m) t = plain m ∷ []
parts s.identifier t = n.identifier_parts t
parts s.name t = n.name_parts t
parts s.names t = flat_map (p.behind k.Scope n.identifier_parts) t
parts s.path t = n.path_parts t
parts s.paths t = flat_map (p.behind k.Dot n.identifier_parts) t
parts s.more_identifiers t = flat_map (p.behind k.Comma n.identifier_parts) t
parts s.reference t = n.reference_parts t
parts s.dot_identifier t = parts_if (p.behind k.Dot n.identifier_parts) t
parts s.figure t = v.figure_parts t
parts s.unit t = parts_if n.identifier_parts t
parts s.quantity t = v.quantity_parts t
parts s.upper t = parts_if (p.behind k.Range v.quantity_parts) t
parts s.value t = v.value_parts t
parts s.path_group t = plain k.ParenOpen ∷ (n.path_parts t ++ plain k.ParenClose ∷ [])
parts s.reference_group t = plain k.ParenOpen ∷ (n.reference_parts t ++ plain k.ParenClose ∷ [])
parts s.values t = v.values_parts t
parts s.more_values t = v.more_values_parts t
parts s.operator t = plain (v.association_mark t) ∷ []
parts s.constant t = marked_if k.Constant t
parts s.applies t = v.applies_parts t
parts s.more_paths t = flat_map (p.behind k.Comma n.path_parts) t
parts s.association t = v.association_parts t
parts s.associations t = v.associations_parts t
parts s.properties t = v.properties_parts t
parts s.primary t = e.primary_parts t
parts s.fresh t = e.fresh_parts t
parts s.factor t = e.factor_parts t
parts s.term t = e.term_parts t
parts s.factors t = e.factors_parts t
parts s.sum t = e.sum_parts t
parts s.terms t = e.terms_parts t
parts s.compared t = compared_parts t
parts s.relation t = e.relation_parts t
parts s.relations t = e.relations_parts t
parts s.after_and t = after_parts k.Then t
parts s.after_or t = after_parts k.Else t
parts s.expression t = e.expression_parts t
parts s.test t = a.test_parts t
parts s.whole_number t = token (whole t) [] ∷ []
parts s.bound t = a.bound_parts t
parts s.after_target t = after_target_parts t
parts s.loop_head t = head_parts t
parts s.action t = a.action_parts t
parts s.actions t = a.actions_parts t
parts s.mores t = a.mores_parts t ++ may p.last_semicolon ∷ []
parts s.after_semicolon t = body_parts t
parts s.elsifs t = a.elsifs_parts t
parts s.otherwise t = a.otherwise_parts t
parts s.end_if t = plain k.End ∷ (plain k.If ∷ [])
parts s.closing_if t = plain k.If ∷ []
parts s.block t = a.block_parts t
parts s.body t = body_parts t
parts s.variable t = x.variable_parts t
parts s.variable_list t = flat_map x.variable_parts t
parts s.variables t = parts_if (x.declared_parts k.Variables x.variable_parts) t
parts s.initial t = marked_if k.Initial t
parts s.complete t = marked_if k.Complete t
parts s.state t = x.state_parts t
parts s.state_list t = flat_map x.state_parts t
parts s.states t = parts_if (x.declared_parts k.States x.state_parts) t
parts s.guard t = parts_if x.guard_parts t
parts s.guarded t = guarded_parts t
parts s.after_word t = after_word_parts t
parts s.effect t = parts_if a.block_parts t
parts s.transition t = x.transition_parts t
parts s.transition_list t = flat_map x.transition_parts t
parts s.transitions t = parts_if (x.declared_parts k.Transitions x.transition_parts) t
parts s.content t = x.content_parts t
parts s.annex t = x.annex_parts t
parts s.annexes t = flat_map x.annex_parts t
parts s.direction t = plain (d.direction_mark t) ∷ []
parts s.category t = plain (d.category_mark t) ∷ []
parts s.data_type t = parts_if n.reference_parts t
parts s.feature t = d.feature_parts t
parts s.subcomponent t = d.subcomponent_parts t
parts s.connection_end t = d.end_parts t
parts s.connection t = d.connection_parts t
parts s.feature_list t = flat_map d.feature_parts t
parts s.feature_section t = section_rest (flat_map d.feature_parts t)
parts s.features t = d.section_parts p.feature_section (flat_map d.feature_parts t)
parts s.subcomponent_list t = flat_map d.subcomponent_parts t
parts s.subcomponent_section t = section_rest (flat_map d.subcomponent_parts t)
parts s.subcomponents t = d.section_parts p.subcomponent_section (flat_map d.subcomponent_parts t)
parts s.connection_list t = flat_map d.connection_parts t
parts s.connection_section t = section_rest (flat_map d.connection_parts t)
parts s.connections t = d.section_parts p.connection_section (flat_map d.connection_parts t)
parts s.property_section t = section_rest (v.associations_parts t)
parts s.own_properties t = d.section_parts p.property_section (v.associations_parts t)
parts s.implementation_name t = d.implementation_name_parts t
parts s.type_end t = d.ending_parts (n.identifier_parts t)
parts s.implementation_end t = d.ending_parts (d.implementation_name_parts t)
parts s.package_end t = d.ending_parts (n.name_parts t)
parts s.after_category t = rest_parts t
parts s.declarations t = flat_map d.declaration_parts t
parts s.more_names t = flat_map (p.behind k.Comma n.name_parts) t
parts s.withs t = flat_map d.with_parts t
parts s.a_package t = d.package_parts t

-- the trees of a list of symbols, and the parts that spell them
abbrev pub Trees : List Symbol → Type 0
Trees [] = NoPlace
Trees (y ∷ f) = TreeOf y × Trees f

abbrev pub parts_all : (f : List Symbol) → Trees f → List (SpellingPart NoPlace)
parts_all [] ts = []
parts_all (y ∷ []) ts = parts y ts.0
parts_all (y ∷ z ∷ f) ts = parts y ts.0 ++ parts_all (z ∷ f) ts.1
