-- The listing of a design's step code: a text of lines, each of words with one space between each two. A line on a
-- component is indented by one space, and an instruction by two: such a line begins with one or two empty words.
use Rattle.std.specs.Prelude.{ℕ, ◌-◌, codes, decimal, List, [], ◌∷◌, ◌++◌, length, map, flat_map, zip, Option, Some}
use Rattle.std.specs.Prelude.{None, slice_get}
use Rattle.std.specs.List.{enumerate_from}
use Rattle.std.specs.Fmt.{signed_decimal}
use Rattle.pals_base.specs.declared.behaviour.Kind.{Kind}
use Rattle.pals_base.specs.declared.behaviour.Kind.TheVariants.{Integer, Boolean}
use Rattle.pals_base.specs.declared.behaviour.PortDecl.{PortDecl}
use Rattle.pals_base.specs.declared.behaviour.VarDecl.{VarDecl}
use Rattle.pals_base.specs.declared.behaviour.StateDecl.{StateDecl}
use Rattle.pals_base.specs.declared.behaviour.BehaviourParts.{BehaviourParts}
use Rattle.pals_base.specs.PeriodBoundAndReleases.{sent_steps, release_offset}
use Rattle.pals_model.specs.declared.design.Component.{Component}
use Rattle.pals_model.specs.declared.design.DesignParts.{DesignParts}
use Rattle.pals_model.specs.ComponentAndLinkNames.{port_name}
use Rattle.pals_model.specs.RoundTexts.{state_name, text_of}
use Rattle.pals_runs.specs.JournalLines.{spaced}
use Rattle.pals_report.specs.CheckReports.{link_line, feed_line, tap_line}
use Rattle.step_code.specs.declared.instr.Instr.{Instr}
use Rattle.step_code.specs.declared.instr.Instr.TheVariants as instr
use Rattle.step_code.specs.declared.instr.CodeParts.{CodeParts}
use Rattle.step_code.specs.SuccessorsAndWeights.{weight_of}
use Rattle.step_code.specs.CappedWeights.{capped}

-- a line on a component
abbrev pub indented : List (List ℕ) → List ℕ
indented words = spaced ([] ∷ words)

abbrev pub kind_word : Kind → List ℕ
kind_word Integer = codes "Integer"
kind_word Boolean = codes "Boolean"

-- ---- the design: its period and its bounds, in nanoseconds
abbrev pub range_line : List ℕ → ℕ → ℕ → List ℕ
range_line word least most = spaced (word ∷ decimal least ∷ decimal most ∷ [])

abbrev pub period_and_bounds_lines : DesignParts → List (List ℕ)
period_and_bounds_lines design =
    spaced (codes "pals-code" ∷ decimal 1 ∷ [])
    ∷ spaced (codes "period" ∷ decimal design.period ∷ [])
    ∷ spaced (codes "skew" ∷ decimal design.gamma.eps ∷ [])
    ∷ range_line (codes "execution") design.gamma.alpha_min design.gamma.alpha_max
    ∷ range_line (codes "network") design.gamma.mu_min design.gamma.mu_max ∷ []

-- ---- a component: its rate, how many of its steps a message carries, when it may send, its ports and variables
abbrev pub number_line : List ℕ → ℕ → List ℕ
number_line word number = indented (word ∷ decimal number ∷ [])

abbrev pub rate_lines : DesignParts → Component → List (List ℕ)
rate_lines design c =
    spaced (codes "component" ∷ c.path ∷ [])
    ∷ number_line (codes "rate") c.rate
    ∷ number_line (codes "sent") (sent_steps design.gamma design.period c.rate)
    ∷ number_line (codes "release") (release_offset design.gamma design.period c.rate) ∷ []

abbrev pub port_line : List ℕ → PortDecl → List ℕ
port_line word port = indented (word ∷ port.name ∷ kind_word port.kind ∷ [])

abbrev pub variable_line : VarDecl → List ℕ
variable_line v = indented (codes "var" ∷ v.name ∷ kind_word v.kind ∷ signed_decimal v.first ∷ [])

abbrev pub declared_lines : BehaviourParts → List (List ℕ)
declared_lines b =
    map (port_line (codes "in")) b.ins ++ map (port_line (codes "out")) b.outs ++ map variable_line b.vars

-- ---- states: where the steps of a complete one begin; no step begins in another
abbrev pub entry_words : Option ℕ → List (List ℕ)
entry_words None = codes "passing" ∷ []
entry_words (Some place) = codes "entry" ∷ decimal place ∷ []

abbrev pub state_line : StateDecl → Option ℕ → List ℕ
state_line state entry = indented (codes "state" ∷ state.name ∷ entry_words entry)

abbrev pub state_lines : List StateDecl → List (Option ℕ) → List (List ℕ)
state_lines states entries = map (λ p. state_line p.0 p.1) (zip states entries)

-- ---- instructions
-- a slot has the name of its variable; the slots of loops follow, and have `#` and a number from 0
abbrev pub slot_word : Option VarDecl → ℕ → List ℕ
slot_word None number = codes "#" ++ decimal number
slot_word (Some v) number = v.name

abbrev pub slot_name : List VarDecl → ℕ → List ℕ
slot_name vars slot = slot_word (slice_get vars slot) (slot - length vars)

abbrev pub mnemonic : Instr → List ℕ
mnemonic (instr.Push n) = codes "Push"
mnemonic (instr.Load slot) = codes "Load"
mnemonic (instr.Store slot) = codes "Store"
mnemonic (instr.Port port) = codes "Port"
mnemonic (instr.Fresh port) = codes "Fresh"
mnemonic instr.Neg = codes "Neg"
mnemonic instr.Abs = codes "Abs"
mnemonic instr.Not = codes "Not"
mnemonic instr.Add = codes "Add"
mnemonic instr.Sub = codes "Sub"
mnemonic instr.Mul = codes "Mul"
mnemonic instr.Quot = codes "Quot"
mnemonic instr.Mod = codes "Mod"
mnemonic instr.Rem = codes "Rem"
mnemonic instr.Eq = codes "Eq"
mnemonic instr.Ne = codes "Ne"
mnemonic instr.Lt = codes "Lt"
mnemonic instr.Le = codes "Le"
mnemonic instr.Gt = codes "Gt"
mnemonic instr.Ge = codes "Ge"
mnemonic instr.And = codes "And"
mnemonic instr.Or = codes "Or"
mnemonic instr.Xor = codes "Xor"
mnemonic (instr.Jump to) = codes "Jump"
mnemonic (instr.JumpZero to) = codes "JumpZero"
mnemonic (instr.LoopStart slot low high exit) = codes "LoopStart"
mnemonic (instr.LoopNext slot high to) = codes "LoopNext"
mnemonic (instr.Emit port) = codes "Emit"
mnemonic (instr.End state) = codes "End"

-- the rest of the line: numbers, and their names in the behaviour
abbrev pub slot_words : BehaviourParts → ℕ → List (List ℕ)
slot_words b slot = decimal slot ∷ slot_name b.vars slot ∷ []

abbrev pub operands : BehaviourParts → Instr → List (List ℕ)
operands b (instr.Push n) = signed_decimal n ∷ []
operands b (instr.Load slot) = slot_words b slot
operands b (instr.Store slot) = slot_words b slot
operands b (instr.Port port) = decimal port ∷ port_name (slice_get b.ins port) ∷ []
operands b (instr.Fresh port) = decimal port ∷ port_name (slice_get b.ins port) ∷ []
operands b (instr.Jump to) = decimal to ∷ []
operands b (instr.JumpZero to) = decimal to ∷ []
operands b (instr.LoopStart slot low high exit) =
    decimal slot ∷ slot_name b.vars slot ∷ signed_decimal low ∷ signed_decimal high ∷ decimal exit ∷ []
operands b (instr.LoopNext slot high to) = decimal slot ∷ slot_name b.vars slot ∷ signed_decimal high ∷ decimal to ∷ []
operands b (instr.Emit port) = decimal port ∷ port_name (slice_get b.outs port) ∷ []
operands b (instr.End state) = decimal state ∷ state_name (slice_get b.states state) ∷ []
operands b other = []

-- an instruction at its place
abbrev pub instr_line : BehaviourParts → ℕ → Instr → List ℕ
instr_line b place i = spaced ([] ∷ [] ∷ decimal place ∷ mnemonic i ∷ operands b i)

abbrev pub instr_lines : BehaviourParts → List Instr → List (List ℕ)
instr_lines b instrs = map (λ numbered. instr_line b numbered.0 numbered.1) (enumerate_from 0 instrs)

-- ---- the code of a component: slots of loops, states, how many instructions a step takes at most, and all instructions
abbrev pub initial_line : BehaviourParts → List ℕ
initial_line b = indented (codes "initial" ∷ state_name (slice_get b.states b.initial) ∷ [])

abbrev pub code_lines : BehaviourParts → CodeParts → List (List ℕ)
code_lines b code =
    number_line (codes "loops") code.loops
    ∷ state_lines b.states code.entries
    ++ initial_line b
    ∷ number_line (codes "most") (capped (weight_of code))
    ∷ number_line (codes "code") (length code.instrs)
    ∷ instr_lines b code.instrs

abbrev pub component_lines : DesignParts → Component → CodeParts → List (List ℕ)
component_lines design c code = rate_lines design c ++ declared_lines c.behaviour ++ code_lines c.behaviour code

-- ---- the whole: the design, its components with their codes, links, feeds and taps as the check report has them
abbrev pub lines_of_all : DesignParts → List Component → List CodeParts → List (List ℕ)
lines_of_all design components programs = flat_map (λ p. component_lines design p.0 p.1) (zip components programs)

abbrev pub listing_lines : DesignParts → List CodeParts → List (List ℕ)
listing_lines design programs =
    period_and_bounds_lines design ++ lines_of_all design design.components programs
    ++ map (link_line design) design.links
    ++ map (feed_line design) design.feeds ++ map (tap_line design) design.taps ++ codes "end" ∷ []

abbrev pub listing : DesignParts → List CodeParts → List ℕ
listing design programs = text_of (listing_lines design programs)
