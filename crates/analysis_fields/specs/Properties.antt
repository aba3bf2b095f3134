-- The meaning of the field of properties: names with their formulas, or its first fault.
use Rattle.std.specs.Prelude.{ℕ, zero, suc, ◌+◌, nat_le, bytes_eq, codes, List, [], ◌∷◌, ◌++◌, length, sum_by, position}
use Rattle.std.specs.Prelude.{Bool, true, false, ◌&&◌, Option, Some, None, option_and_then, option_map, unwrap_or}
use Rattle.std.specs.Prelude.{slice_get, Result, Ok, Err, if◌then◌else◌}
use Rattle.std.specs.List.{list_all}
use Rattle.serde_json.specs.Data.{Data}
use Rattle.serde_json.specs.Find.{as_str, as_array}
use Rattle.pals_base.specs.declared.behaviour.VarDecl.{VarDecl}
use Rattle.pals_base.specs.Names.{is_word}
use Rattle.pals_model.specs.declared.design.Component.{Component}
use Rattle.pals_model.specs.declared.design.DesignParts.{DesignParts}
use Rattle.pals_runs.specs.declared.forms.Compare.{Compare}
use Rattle.pals_runs.specs.declared.forms.Compare.TheVariants.{Eq, Ne, Lt, Le, Gt, Ge}
use Rattle.pals_runs.specs.Formula.{Formula, Var, Halted, Not, And, Or, Previous, Once, Historically, Since}
use Rattle.scenario_values.specs.declared.fault.ScenarioFault.{ScenarioFault}
use Rattle.scenario_values.specs.declared.fault.ScenarioFault.TheVariants.{WrongKind, Unknown, OutOfRange}
use Rattle.analysis_fields.specs.declared.formulas.FormulaWord.{FormulaWord}
use Rattle.analysis_fields.specs.declared.limits.TheConstants.{PROPERTIES, FORMS, LEVELS}
use Rattle.scenario_values.specs.ResultCombinators.{◌>>=◌, given, only_if, through}
use Rattle.scenario_values.specs.FaultPlaces.{inside}
use Rattle.analysis_fields.specs.NamedFormulas.{PropertyValue}
use Rattle.scenario_values.specs.FieldValues.{values_in, elements, entries, text, number, is_whole}
use Rattle.scenario_values.specs.NameLookup.{node_at}
use Rattle.analysis_fields.specs.declared.formulas.FormulaWord.TheVariants as role

-- ---- words
abbrev pub role_of : List ℕ → Option FormulaWord
role_of word =
    if bytes_eq word (codes "var") then Some role.Var else if bytes_eq word (codes "halted") then Some role.Halted
    else if bytes_eq word (codes "not") then Some role.Not else if bytes_eq word (codes "previous") then Some
    role.Previous
    else if bytes_eq word (codes "once") then Some role.Once else if bytes_eq word (codes "historically") then Some
    role.Historically
    else if bytes_eq word (codes "and") then Some role.And else if bytes_eq word (codes "or") then Some role.Or
    else if bytes_eq word (codes "since") then Some role.Since else None

abbrev pub compare_of : List ℕ → Option Compare
compare_of word =
    if bytes_eq word (codes "=") then Some Eq else if bytes_eq word (codes "!=") then Some Ne
    else if bytes_eq word (codes "<") then Some Lt else if bytes_eq word (codes "<=") then Some Le
    else if bytes_eq word (codes ">") then Some Gt else if bytes_eq word (codes ">=") then Some Ge else None

-- whether all values after the word are formulas
abbrev pub has_parts : FormulaWord → Bool
has_parts role.Var = false
has_parts role.Halted = false
has_parts r = true

abbrev pub role_in : List Data → Option FormulaWord
role_in [] = None
role_in (d ∷ ds) = option_and_then role_of (as_str d)

-- ---- size
abbrev pub rest_of : List Data → List Data
rest_of [] = []
rest_of (d ∷ ds) = ds

-- a list that begins with a word that formulas follow
abbrev pub begins_parts : List Data → Bool
begins_parts ds = unwrap_or (option_map has_parts (role_in ds)) false

abbrev pub parts_among : List Data → List Data
parts_among ds = if begins_parts ds then rest_of ds else []

-- the values inside a value at which a formula may occur: all values after such a word
unfoldable pub parts_of : Data → List Data
parts_of d = unwrap_or (option_map (λ ds. parts_among (values_in ds)) (as_array d)) []

-- at most n levels of formulas
unfoldable pub is_shallow : ℕ → Data → Bool
is_shallow zero d = false
is_shallow (suc n) d = list_all (is_shallow n) (parts_of d)

-- the formulas in the first n levels
unfoldable pub forms_in : ℕ → Data → ℕ
forms_in zero d = 0
forms_in (suc n) d = 1 + sum_by (forms_in n) (parts_of d)

-- ---- formulas without parts
abbrev pub vars_in : Option Component → List VarDecl
vars_in None = []
vars_in (Some c) = c.behaviour.vars

unfoldable pub variable_at : List ℕ → DesignParts → ℕ → List ℕ → Result ℕ ScenarioFault
variable_at place design node name =
    given (Unknown place) (position (λ (v : VarDecl). bytes_eq name v.name)
    (vars_in (slice_get design.components node)))

unfoldable pub var_form : DesignParts → List ℕ → List Data → Result Formula ScenarioFault
var_form design place (path ∷ name ∷ op ∷ value ∷ []) =
    text place path >>= λ p. text place name >>= λ n.
    given (WrongKind place) (option_and_then compare_of (as_str op)) >>= λ compare.
    only_if (is_whole value) (WrongKind place)
    (node_at place design p >>= λ node. variable_at place design node n >>= λ variable. number place value >>= λ z.
    Ok (Var node variable compare z))
var_form design place ds = Err (WrongKind place)

unfoldable pub halted_form : DesignParts → List ℕ → List Data → Result Formula ScenarioFault
halted_form design place (path ∷ []) = text place path >>= λ p. node_at place design p >>= λ node. Ok (Halted node)
halted_form design place ds = Err (WrongKind place)

-- ---- formulas with subformulas
abbrev pub of_one : FormulaWord → Formula → Formula
of_one role.Previous f = Previous f
of_one role.Once f = Once f
of_one role.Historically f = Historically f
of_one r f = Not f

abbrev pub of_two : FormulaWord → Formula → Formula → Formula
of_two role.Or f g = Or f g
of_two role.Since f g = Since f g
of_two r f g = And f g

abbrev pub one_part : (Data → Result Formula ScenarioFault) → List ℕ → FormulaWord → List Data
    → Result Formula ScenarioFault
one_part read place r (d ∷ []) = read d >>= λ f. Ok (of_one r f)
one_part read place r ds = Err (WrongKind place)

abbrev pub two_parts : (Data → Result Formula ScenarioFault) → List ℕ → FormulaWord → List Data
    → Result Formula ScenarioFault
two_parts read place r (d ∷ e ∷ []) = read d >>= λ f. read e >>= λ g. Ok (of_two r f g)
two_parts read place r ds = Err (WrongKind place)

-- the formula of a word and the values after it
abbrev pub form_of : (Data → Result Formula ScenarioFault) → DesignParts → List ℕ → FormulaWord → List Data
    → Result Formula ScenarioFault
form_of read design place role.Var ds = var_form design place ds
form_of read design place role.Halted ds = halted_form design place ds
form_of read design place role.And ds = two_parts read place role.And ds
form_of read design place role.Or ds = two_parts read place role.Or ds
form_of read design place role.Since ds = two_parts read place role.Since ds
form_of read design place r ds = one_part read place r ds

-- the formula of a value with at most n levels
unfoldable pub formula_in : ℕ → DesignParts → List ℕ → Data → Result Formula ScenarioFault
formula_in zero design place d = Err (OutOfRange place)
formula_in (suc n) design place d =
    elements place d >>= λ ds. given (WrongKind place) (role_in ds) >>= λ r.
    form_of (formula_in n design place) design place r (rest_of ds)

-- ---- properties
-- the size of a property is checked before everything else
unfoldable pub is_small : Data → Bool
is_small d = is_shallow LEVELS d && nat_le (forms_in LEVELS d) FORMS

unfoldable pub property_in : DesignParts → List ℕ × Data → Result PropertyValue ScenarioFault
property_in design entry =
    let place = inside (codes "properties") entry.0 in
    only_if (is_small entry.1) (OutOfRange place)
    (formula_in LEVELS design place entry.1 >>= λ f. Ok (record { name = entry.0; form = f }))

abbrev pub with_property : DesignParts → List PropertyValue → List ℕ × Data → Result (List PropertyValue) ScenarioFault
with_property design properties entry = property_in design entry >>= λ p. Ok (properties ++ p ∷ [])

-- a number of properties within the limit, whose names are words
abbrev pub are_named : List (List ℕ × Data) → Bool
are_named es = nat_le 1 (length es) && nat_le (length es) PROPERTIES && list_all (λ e. is_word e.0) es

unfoldable pub properties_in : DesignParts → Data → Result (List PropertyValue) ScenarioFault
properties_in design d =
    entries (codes "properties") d >>= λ es.
    only_if (are_named es) (OutOfRange (codes "properties")) (through (with_property design) [] es)
