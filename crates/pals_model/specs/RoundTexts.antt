-- The texts of values and of rounds. A text is a list of lines, each with its line end.
use Rattle.std.specs.Prelude.{ℕ, nat_eq, ℤ, codes, decimal, List, [], ◌∷◌, ◌++◌, length, map, filter, flat_map, zip}
use Rattle.std.specs.Prelude.{take, Option, Some, None, slice_get, slice_index_or, if◌then◌else◌, Bool}
use Rattle.std.specs.List.{enumerate_from}
use Rattle.std.specs.Fmt.{signed_decimal}
use Rattle.pals_base.specs.declared.basic_types.PortValue.{PortValue}
use Rattle.pals_base.specs.declared.basic_types.PortValue.TheVariants.{Absent, Present}
use Rattle.pals_base.specs.declared.basic_types.Trap.{Trap}
use Rattle.pals_base.specs.declared.basic_types.Trap.TheVariants.{Overflow, ZeroDivisor}
use Rattle.pals_base.specs.declared.frames.Frame.{Frame}
use Rattle.pals_base.specs.declared.behaviour.Kind.{Kind}
use Rattle.pals_base.specs.declared.behaviour.Kind.TheVariants.{Integer, Boolean}
use Rattle.pals_base.specs.declared.behaviour.VarDecl.{VarDecl}
use Rattle.pals_base.specs.declared.behaviour.StateDecl.{StateDecl}
use Rattle.pals_base.specs.declared.behaviour.BehaviourParts.{BehaviourParts}
use Rattle.pals_base.specs.ExpressionValues.{is_true}
use Rattle.pals_base.specs.UpwardNumbers.{upwards}
use Rattle.pals_model.specs.declared.design.Component.{Component}
use Rattle.pals_model.specs.declared.design.Tap.{Tap}
use Rattle.pals_model.specs.declared.design.DesignParts.{DesignParts}
use Rattle.pals_model.specs.declared.environment.Env.{Env}
use Rattle.pals_model.specs.declared.part.Part.{Part}
use Rattle.pals_model.specs.PortKindsAndRates.{out_kind}
use Rattle.pals_model.specs.Composition.{part}

-- the end of a line: LF
abbrev pub line_end : List ℕ
line_end = 10 ∷ []

-- the text of lines, none of which has a line end inside
abbrev pub text_of : List (List ℕ) → List ℕ
text_of lines = flat_map (λ line. line ++ line_end) lines

-- ---- values
-- numbers in decimal, Booleans by their names
abbrev pub value_text : Kind → ℤ → List ℕ
value_text Integer v = signed_decimal v
value_text Boolean v = if is_true v then codes "true" else codes "false"

abbrev pub port_text : Kind → PortValue → List ℕ
port_text kind Absent = codes "_"
port_text kind (Present v) = value_text kind v

-- the texts of values with commas between them
abbrev pub with_commas : List (List ℕ) → List ℕ
with_commas [] = []
with_commas (text ∷ []) = text
with_commas (text ∷ next ∷ texts) = text ++ codes "," ++ with_commas (next ∷ texts)

abbrev pub tuple_text : Kind → List PortValue → List ℕ
tuple_text kind tuple = codes "(" ++ with_commas (map (port_text kind) tuple) ++ codes ")"

-- ---- the line of a component
abbrev pub state_name : Option StateDecl → List ℕ
state_name None = []
state_name (Some s) = s.name

-- the state's name, or the trap that halted the component
abbrev pub state_text : BehaviourParts → Frame → Option Trap → List ℕ
state_text b frame None = state_name (slice_get b.states frame.state)
state_text b frame (Some Overflow) = codes "halted(overflow)"
state_text b frame (Some ZeroDivisor) = codes "halted(zero-divisor)"

-- a variable's name and value, after a space
abbrev pub variable_text : VarDecl → ℤ → List ℕ
variable_text var value = codes " " ++ var.name ++ codes "=" ++ value_text var.kind value

-- each variable with its value
abbrev pub vars_text : List VarDecl → List ℤ → List ℕ
vars_text vars values = flat_map (λ p. variable_text p.0 p.1) (zip vars values)

-- the line of a component that is shown by this name
abbrev pub component_line : List ℕ → BehaviourParts → Frame → List ℕ
component_line name b frame = name ++ codes " " ++ state_text b frame frame.halt ++ vars_text b.vars frame.vars

-- ---- the line of a root out port
abbrev pub tap_line : Kind → Tap → List PortValue → List ℕ
tap_line kind tap tuple = codes "out " ++ tap.name ++ codes " " ++ tuple_text kind tuple

-- how many of the first n taps belong to the node: the position of a tap among the taps of its source
abbrev pub taps_before : List Tap → ℕ → ℕ → ℕ
taps_before taps n node = length (filter (λ tap. nat_eq tap.source.0 node) (take n taps))

-- ---- rows
abbrev pub round_line : ℕ → List ℕ
round_line round = codes "round " ++ decimal round

-- the line of a component that has a part, and none else
abbrev pub part_lines : Component → Option Part → List (List ℕ)
part_lines c None = []
part_lines c (Some part) = component_line c.path c.behaviour part.frame ∷ []

-- the line of a root out port whose source has a part, and none else
abbrev pub tap_lines : DesignParts → ℕ → Tap → Option Part → List (List ℕ)
tap_lines design number tap None = []
tap_lines design number tap (Some part) =
    tap_line (out_kind (slice_get design.components tap.source.0) tap.out_port) tap
    (slice_index_or part.outs (taps_before design.taps number tap.source.0) []) ∷ []

-- the row of a round, from the parts of those components that are shown: the round, a line for each of these
-- components, and one for each root out port of theirs
abbrev pub row_lines : DesignParts → (ℕ → Option Part) → ℕ → List (List ℕ)
row_lines design part_of round =
    round_line round
    ∷ flat_map (λ numbered. part_lines numbered.1 (part_of numbered.0)) (enumerate_from 0 design.components)
    ++ flat_map (λ numbered. tap_lines design numbered.0 numbered.1 (part_of numbered.1.source.0))
    (enumerate_from 0 design.taps)

-- ---- the rounds of the composition
abbrev pub composed_lines : DesignParts → Env → ℕ → List (List ℕ)
composed_lines design env round = row_lines design (λ node. Some (part design env node round)) round

-- the row of a round
abbrev pub row : DesignParts → Env → ℕ → List ℕ
row design env round = text_of (composed_lines design env round)

-- the lines of the first n rounds
abbrev pub report_lines : DesignParts → Env → ℕ → List (List ℕ)
report_lines design env n = flat_map (composed_lines design env) (upwards 0 n)

-- the report of the first n rounds
abbrev pub report : DesignParts → Env → ℕ → List ℕ
report design env n = text_of (report_lines design env n)

abbrev pub is_line_feed : ℕ → Bool
is_line_feed byte = nat_eq byte 10
