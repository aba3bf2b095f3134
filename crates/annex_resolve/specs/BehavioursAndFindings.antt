-- The behaviour of an annex, and its violations.
use Rattle.std.specs.Prelude.{ℕ, ◌-◌, nat_eq, slice_get, position, take, Bool, true, false, not, ◌&&◌, ◌||◌, ◌==◌, List}
use Rattle.std.specs.Prelude.{[], ◌++◌, length, map, filter, flat_map, Option, Some, None, if◌then◌else◌}
use Rattle.std.specs.List.{list_any, list_all, enumerate_from}
use Rattle.std.specs.Option.{unwrap_or}
use Rattle.pals_base.specs.declared.behaviour.StateDecl.{StateDecl}
use Rattle.pals_base.specs.declared.behaviour.BehaviourParts.{BehaviourParts}
use Rattle.pals_base.specs.declared.behaviour.Kind.TheVariants.{Boolean}
use Rattle.pals_base.specs.SingleStep.{is_complete, leaving}
use Rattle.pals_base.specs.BehaviourRules.{dispatch_count}
use Rattle.pals_base.specs.UpwardNumbers.{upwards}
use Rattle.aadl_tree.specs.Names.{Identifier, same_name, identifiers, listed_in}
use Rattle.aadl_tree.specs.Annexes.{StateDeclaration, Guard, dispatch, otherwise, when, Transition, AnnexTree}
use Rattle.aadl_tree.specs.Actions.{Block}
use Rattle.annex_resolve.specs.declared.scope.Scope.{Scope}
use Rattle.annex_resolve.specs.declared.ports_and_variables.DeclaredValues.{DeclaredValues}
use Rattle.annex_resolve.specs.declared.states.StateAt.{StateAt}
use Rattle.annex_resolve.specs.declared.outgoing_transitions.Departure.{Departure}
use Rattle.annex_resolve.specs.declared.outgoing_transitions.GuardCase.{GuardCase}
use Rattle.annex_resolve.specs.declared.outgoing_transitions.GuardCase.TheVariants.{Dispatch, Otherwise, Always}
use Rattle.annex_resolve.specs.declared.outgoing_transitions.GuardCase.TheVariants.{Guarded}
use Rattle.annex_resolve.specs.declared.violation.Violation.{Violation}
use Rattle.annex_resolve.specs.declared.violation.TheConstants.{NO_INITIAL, DISPATCH_COUNT, NO_OTHERWISE}
use Rattle.annex_resolve.specs.declared.violation.TheConstants.{CYCLE_WITHOUT_COMPLETE}
use Rattle.annex_resolve.specs.FindingRecords.{found_if}
use Rattle.annex_resolve.specs.ExpressionTypesAndFindings.{whole_types}
use Rattle.annex_resolve.specs.ResolvedTrees.{expression_of, block_of}
use Rattle.annex_resolve.specs.ActionFindings.{block_findings}
use Rattle.annex_resolve.specs.IncompleteStateCycles.{is_on_cycle}
use Rattle.pals_base.specs.ExpressionAndActionTrees as plain

-- ---- states
abbrev pub state_at : StateDeclaration ℕ → Identifier ℕ → StateAt
state_at x name = record { at = name.at; name = name.spelling; initial = x.initial; complete = x.complete }

abbrev pub states_in : StateDeclaration ℕ → List StateAt
states_in x = map (state_at x) (identifiers x.names)

abbrev pub states_of : AnnexTree ℕ → List StateAt
states_of annex = flat_map states_in (listed_in annex.states)

abbrev pub declared : StateAt → StateDecl
declared s = record { name = s.name; complete = s.complete }

-- the number of the first element that passes, or the length of the list
abbrev pub first_number : {X : Type 0} → (X → Bool) → List X → ℕ
first_number test xs = unwrap_or (position test xs) (length xs)

-- the number of the state with a name; of two states with one name the first takes precedence
abbrev pub state_number : List StateAt → List ℕ → ℕ
state_number states name = first_number (λ s. same_name s.name name) states

abbrev pub first_initial : List StateAt → ℕ
first_initial states = first_number (λ s. s.initial) states

-- ---- transitions
abbrev pub trigger_of : Scope → Option (Guard ℕ) → plain.Trigger
trigger_of scope None = plain.Always
trigger_of scope (Some dispatch) = plain.Dispatch
trigger_of scope (Some otherwise) = plain.Always
trigger_of scope (Some (when e)) = plain.When (expression_of scope e)

abbrev pub effect_of : Scope → Option (Block ℕ) → plain.Actions
effect_of scope None = plain.Nothing
effect_of scope (Some x) = block_of scope x

abbrev pub edge_of : Scope → List StateAt → Transition ℕ → plain.Edge
edge_of scope states t = record {
  source = state_number states t.source.spelling;
  target = state_number states t.target.spelling;
  trigger = trigger_of scope t.guard;
  actions = effect_of scope t.effect;
}

-- a guard is a Boolean
abbrev pub guard_types : Scope → Option (Guard ℕ) → List Violation
guard_types scope None = []
guard_types scope (Some dispatch) = []
guard_types scope (Some otherwise) = []
guard_types scope (Some (when e)) = whole_types scope (Some Boolean) e

abbrev pub effect_findings : Scope → Option (Block ℕ) → List Violation
effect_findings scope None = []
effect_findings scope (Some x) = block_findings scope 1 x

abbrev pub transition_findings : Scope → Transition ℕ → List Violation
transition_findings scope t = guard_types scope t.guard ++ effect_findings scope t.effect

-- ---- the behaviour, for the ports and variables of its scope
abbrev pub transitions_of : AnnexTree ℕ → List (Transition ℕ)
transitions_of annex = listed_in annex.transitions

abbrev pub parts_by : DeclaredValues → List StateAt → List plain.Edge → BehaviourParts
parts_by values states edges = record {
  ins = values.ins;
  outs = values.outs;
  vars = values.vars;
  states = map declared states;
  initial = first_initial states;
  transitions = edges;
}

abbrev pub behaviour_of : DeclaredValues → Scope → AnnexTree ℕ → BehaviourParts
behaviour_of values scope annex =
    parts_by values (states_of annex) (map (edge_of scope (states_of annex)) (transitions_of annex))

-- ---- exactly one state is initial, and it is complete
abbrev pub has_initial : List StateAt → Bool
has_initial states =
    (length (filter (λ s. s.initial) states) == 1) && list_all (λ s. s.complete) (filter (λ s. s.initial) states)

-- ---- one transition at the dispatch leaves each complete state, and none another
abbrev pub breaks_dispatch : BehaviourParts → ℕ → Bool
breaks_dispatch b n = not (nat_eq (dispatch_count (leaving b n)) (if is_complete b n then 1 else 0))

-- ---- a step can always leave a state that is not complete
abbrev pub guard_case_of : Option (Guard ℕ) → GuardCase
guard_case_of None = Always
guard_case_of (Some dispatch) = Dispatch
guard_case_of (Some otherwise) = Otherwise
guard_case_of (Some (when e)) = Guarded

-- the source of a transition, and the kind of its guard
abbrev pub departure_of : List StateAt → Transition ℕ → Departure
departure_of states t = record { source = state_number states t.source.spelling; way = guard_case_of t.guard }

-- the kinds of guards from a state, in the order of the text
abbrev pub guard_cases_from : ℕ → List Departure → List GuardCase
guard_cases_from n legs = map (λ leg. leg.way) (filter (λ leg. nat_eq leg.source n) legs)

abbrev pub is_otherwise : GuardCase → Bool
is_otherwise Dispatch = false
is_otherwise Otherwise = true
is_otherwise Always = false
is_otherwise Guarded = false

abbrev pub is_guarded : GuardCase → Bool
is_guarded Dispatch = false
is_guarded Otherwise = false
is_guarded Always = false
is_guarded Guarded = true

abbrev pub is_open : Option GuardCase → Bool
is_open None = true
is_open (Some way) = is_guarded way

-- there is no transition, or the last one has a condition, or one before the last is `otherwise`
abbrev pub lacks_otherwise : List GuardCase → Bool
lacks_otherwise ways = is_open (slice_get ways (length ways - 1)) || list_any is_otherwise (take (length ways - 1) ways)

-- ---- all
-- a state by its number, with the marks of the states on a cycle
abbrev pub state_rules : BehaviourParts → List Departure → List Bool → ℕ × StateAt → List Violation
state_rules b legs cyclic (n, s) =
    found_if (breaks_dispatch b n) s.at DISPATCH_COUNT s.name
    ++ (if s.complete then []
    else found_if (lacks_otherwise (guard_cases_from n legs)) s.at NO_OTHERWISE s.name
    ++ found_if (unwrap_or (slice_get cyclic n) false) s.at CYCLE_WITHOUT_COMPLETE s.name)

-- the marks of all states
abbrev pub cycles_of : BehaviourParts → List Bool
cycles_of b = map (is_on_cycle b) (upwards 0 (length b.states))

-- the violations of states, in an annex that begins at a position
abbrev pub rule_findings : ℕ → BehaviourParts → List StateAt → List (Transition ℕ) → List Violation
rule_findings at b states ts =
    found_if (not (has_initial states)) at NO_INITIAL []
    ++ flat_map (state_rules b (map (departure_of states) ts) (cycles_of b)) (enumerate_from 0 states)

abbrev pub annex_findings : DeclaredValues → Scope → ℕ → AnnexTree ℕ → List Violation
annex_findings values scope at annex =
    flat_map (transition_findings scope) (transitions_of annex)
    ++ rule_findings at (behaviour_of values scope annex) (states_of annex) (transitions_of annex)
