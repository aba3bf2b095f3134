-- Only the listed keywords can occur, outside and inside annexes: an invariant of all symbols that can be expected
-- there.
use Rattle.std.proofs.Common.{◌≡◌, Bool, true, false, not, ◌&&◌, ◌||◌, List, refl, subst}
use Rattle.std.specs.Prelude.{Contains}
use Rattle.std.specs.List.{list_all}
use Rattle.std.proofs.lemmas.Bool.{false_from_ne_true}
use Rattle.list_lemmas.proofs.Elements.{passes_by_list_all}
use Rattle.aadl_tree.specs.declared.mark.Mark.{Mark}
use Rattle.aadl_tree.specs.declared.mark.Mark.TheVariants as k
use Rattle.aadl_tree.specs.KeywordsAndSymbols.{keywords_outside, keywords_inside}
use Rattle.aadl_grammar.specs.proof.GrammarSymbols.{Class, the, Symbol, Row}
use Rattle.aadl_grammar.specs.proof.GrammarSymbols as s
use Rattle.aadl_grammar.specs.proof.ParseTable.{rows}
use Rattle.aadl_grammar.specs.proof.StackMachine.{whole_package, annex_body}
use Rattle.aadl_grammar.specs.proof.ReachableKeywords.{is_word, Stands, at_first, later, CanCome}
use Rattle.aadl_grammar.proofs.KeywordListMembership.{or_not, or_false, listed, is_listed}
use Rattle.aadl_grammar.proofs.RoutesToKeywords.{is_the, the_mark}

-- a keyword or symbol that is possible with these keywords
abbrev fine_mark : List Mark → Mark → Bool
fine_mark keywords m = listed keywords m || not (is_word m)

abbrev fine : List Mark → Class → Bool
fine keywords (the m) = fine_mark keywords m
fine keywords _ = true

-- the symbols of a row satisfy the test, except the inside of an annex
abbrev row_stays : (Symbol → Bool) → Row → Bool
row_stays side r = list_all side r.wanted || is_the k.AnnexOpen r.first

abbrev Stays : (Symbol → Bool) → Type 0
Stays side = (x : Symbol) → (list_all (row_stays side) (rows x) || not (side x)) ≡ true

abbrev Fine : List Mark → (Symbol → Bool) → Type 0
Fine keywords side = (x : Symbol) → (list_all (λ r. fine keywords r.first) (rows x) || not (side x)) ≡ true

not_annex : (c : Class) → (c ≡ the k.AnnexOpen → ⊥) → is_the k.AnnexOpen c ≡ false
not_annex c never = false_from_ne_true (is_the k.AnnexOpen c) (λ e. never (the_mark k.AnnexOpen c e))

passing : (side : Symbol → Bool) → Stays side → (first : List Symbol) → list_all side first ≡ true → (x : Symbol)
    → Stands first x → side x ≡ true
passing side stays first e _ (at_first x among) = passes_by_list_all side first x e among
passing side stays first e _ (later x y row stands among other wanted) =
    let here = passing side stays first e x stands in
    let row_passes = passes_by_list_all (row_stays side) (rows x) row (or_not _ (side x) (stays x) here) among in
    passes_by_list_all side row.wanted y (or_false _ _ row_passes (not_annex row.first other)) wanted

word_is_listed : (keywords : List Mark) (m : Mark) → is_word m ≡ true → fine_mark keywords m ≡ true
    → Contains keywords m
word_is_listed keywords m e f = is_listed keywords m (or_not _ (is_word m) f e)

pub listed_if_it_comes : (keywords : List Mark) (side : Symbol → Bool) → Stays side → Fine keywords side
    → (first : List Symbol) → list_all side first ≡ true → (m : Mark)
    → is_word m ≡ true → CanCome first m → Contains keywords m
listed_if_it_comes keywords side stays fines first e m is_one comes =
    let here = passing side stays first e comes.symbol comes.stands in
    let first_is_fine =
    passes_by_list_all (λ r. fine keywords r.first) (rows comes.symbol) comes.row
    (or_not _ (side comes.symbol) (fines comes.symbol) here) comes.among in
    word_is_listed keywords m is_one (subst (λ c. fine keywords c ≡ true) comes.begins first_is_fine)

either : (b : Bool) → ((b && true) || not b) ≡ true
either true = refl
either false = refl

-- the symbols outside annexes
pub outside : Symbol → Bool
outside (s.only m) = fine_mark keywords_outside m
outside s.more_identifiers = false
outside s.primary = false
outside s.fresh = false
outside s.factor = false
outside s.term = false
outside s.factors = false
outside s.sum = false
outside s.terms = false
outside s.compared = false
outside s.relation = false
outside s.relations = false
outside s.after_and = false
outside s.after_or = false
outside s.expression = false
outside s.test = false
outside s.whole_number = false
outside s.bound = false
outside s.after_target = false
outside s.loop_head = false
outside s.action = false
outside s.actions = false
outside s.mores = false
outside s.after_semicolon = false
outside s.elsifs = false
outside s.otherwise = false
outside s.end_if = false
outside s.closing_if = false
outside s.block = false
outside s.body = false
outside s.variable = false
outside s.variable_list = false
outside s.variables = false
outside s.initial = false
outside s.complete = false
outside s.state = false
outside s.state_list = false
outside s.states = false
outside s.guard = false
outside s.guarded = false
outside s.after_word = false
outside s.effect = false
outside s.transition = false
outside s.transition_list = false
outside s.transitions = false
outside s.annex = false
outside s.feature = false
outside s.subcomponent = false
outside s.connection = false
outside _ = true

pub outside_first : list_all outside whole_package ≡ true
unfolding outside
outside_first = refl

pub outside_stays : Stays outside
unfolding outside
outside_stays (s.only m) = refl
outside_stays s.identifier = refl
outside_stays _ = refl

pub outside_fine : Fine keywords_outside outside
unfolding outside
outside_fine (s.only m) = either (fine_mark keywords_outside m)
outside_fine s.identifier = refl
outside_fine _ = refl

-- the symbols inside annexes
pub inside : Symbol → Bool
inside (s.only m) = fine_mark keywords_inside m
inside s.action = false
inside s.variable = false
inside s.state = false
inside s.transition = false
inside s.content = false
inside s.annex = false
inside s.annexes = false
inside s.direction = false
inside s.category = false
inside s.data_type = false
inside s.feature = false
inside s.feature_list = false
inside s.feature_section = false
inside s.features = false
inside s.subcomponent = false
inside s.subcomponent_list = false
inside s.subcomponent_section = false
inside s.subcomponents = false
inside s.connection_end = false
inside s.connection = false
inside s.connection_list = false
inside s.connection_section = false
inside s.connections = false
inside s.property_section = false
inside s.own_properties = false
inside s.implementation_name = false
inside s.type_end = false
inside s.implementation_end = false
inside s.package_end = false
inside s.after_category = false
inside s.declarations = false
inside s.more_names = false
inside s.withs = false
inside s.a_package = false
inside _ = true

pub inside_first : list_all inside annex_body ≡ true
unfolding inside
inside_first = refl

pub inside_stays : Stays inside
unfolding inside
inside_stays (s.only m) = refl
inside_stays s.identifier = refl
inside_stays _ = refl

pub inside_fine : Fine keywords_inside inside
unfolding inside
inside_fine (s.only m) = either (fine_mark keywords_inside m)
inside_fine s.identifier = refl
inside_fine _ = refl
