-- Rings: designs whose components send to one another in a circle.
use Rattle.std.specs.Prelude.{ℕ, suc, ◌-◌, ◌%◌, zero, nat_lt, ℤ, pos, ◌+ℤ◌, true, if◌then◌else◌, codes, List, [], ◌∷◌}
use Rattle.std.specs.Prelude.{◌++◌, map, fold, Option, Some, None, slice_index_or}
use Rattle.std.specs.Fmt.{decimal}
use Rattle.pals_base.specs.declared.basic_types.NodeNo.{NodeNo}
use Rattle.pals_base.specs.declared.period_bound_and_releases.Gamma.{Gamma}
use Rattle.pals_base.specs.declared.allowed_adaptors.Adaptor.{Adaptor}
use Rattle.pals_base.specs.declared.allowed_adaptors.Adaptor.TheVariants.{Repeat, Last}
use Rattle.pals_base.specs.declared.behaviour.Kind.TheVariants.{Integer}
use Rattle.pals_base.specs.declared.behaviour.Op.TheVariants.{Add, Mul, Mod}
use Rattle.pals_base.specs.declared.behaviour.PortDecl.{PortDecl}
use Rattle.pals_base.specs.declared.behaviour.VarDecl.{VarDecl}
use Rattle.pals_base.specs.declared.behaviour.StateDecl.{StateDecl}
use Rattle.pals_base.specs.declared.behaviour.BehaviourParts.{BehaviourParts}
use Rattle.pals_base.specs.UpwardNumbers.{upwards}
use Rattle.pals_base.specs.ExpressionAndActionTrees.{Expression, Literal, Variable, PortRead, Chain, NoMore, Then}
use Rattle.pals_base.specs.ExpressionAndActionTrees.{Assign, Emit}
use Rattle.pals_base.specs.ExpressionAndActionTrees.{Actions, Nothing, Do, Dispatch, Edge}
use Rattle.pals_model.specs.declared.design.Component.{Component}
use Rattle.pals_model.specs.declared.design.Link.{Link}
use Rattle.pals_model.specs.declared.design.DesignParts.{DesignParts}
use Rattle.pals_model.specs.Composition.{state}
use Rattle.pals_model.specs.ComponentInputs.{no_env}

-- ---- the behaviour of each component
abbrev pub number_port : List ℕ → PortDecl
number_port name = record { name = name; kind = Integer }

abbrev pub ring_variable : VarDecl
ring_variable = record { name = codes "x"; kind = Integer; first = pos 0 }

abbrev pub ring_state : StateDecl
ring_state = record { name = codes "s"; complete = true }

-- 2 * i
abbrev pub twice_input : Expression
twice_input = Chain (Literal (pos 2)) (Then Mul (PortRead 0) NoMore)

-- x + 2 * i + 1
abbrev pub number_sum : Expression
number_sum = Chain (Variable 0) (Then Add twice_input (Then Add (Literal (pos 1)) NoMore))

-- (x + 2 * i + 1) mod 1000
abbrev pub next_number : Expression
next_number = Chain number_sum (Then Mod (Literal (pos 1000)) NoMore)

-- x := (x + 2 * i + 1) mod 1000; o!(x)
abbrev pub ring_actions : Actions
ring_actions = Do (Assign 0 next_number) (Do (Emit 0 (Variable 0)) Nothing)

abbrev pub ring_edge : Edge
ring_edge = record { source = 0; target = 0; trigger = Dispatch; actions = ring_actions }

abbrev pub ring_behaviour : BehaviourParts
ring_behaviour = record {
  ins = number_port (codes "i") ∷ [];
  outs = number_port (codes "o") ∷ [];
  vars = ring_variable ∷ [];
  states = ring_state ∷ [];
  initial = 0;
  transitions = ring_edge ∷ [];
}

-- ---- components
-- 1, 2 or 4 steps in a round, so a period of 20, 10 or 5 ms
abbrev pub rate_by : ℕ → ℕ
rate_by zero = 1
rate_by (suc zero) = 2
rate_by (suc (suc rest)) = 4

-- by the component's number modulo 3
abbrev pub ring_rate : ℕ → ℕ
ring_rate number = rate_by (number % 3)

abbrev pub ring_path : ℕ → List ℕ
ring_path number = codes "p.t" ++ decimal number

abbrev pub ring_component : ℕ → Component
ring_component number = record { path = ring_path number; rate = ring_rate number; behaviour = ring_behaviour }

-- ---- links
-- the first value of a source of a lower rate is repeated, and of one of a higher rate the last counts
abbrev pub ring_adaptor : ℕ → ℕ → Option Adaptor
ring_adaptor source target =
    if nat_lt source target then Some Repeat else (if nat_lt target source then Some Last else None)

-- the component before one in the circle of n
abbrev pub before_in : ℕ → ℕ → ℕ
before_in n zero = n - 1
before_in n (suc number) = number

abbrev numbered : ℕ → NodeNo
numbered number = record { 0 = number }

-- the link into a component, from the one before it
abbrev pub ring_link : ℕ → ℕ → Link
ring_link n number = record {
  source = numbered (before_in n number);
  out_port = 0;
  target = numbered number;
  in_port = 0;
  adaptor = ring_adaptor (ring_rate (before_in n number)) (ring_rate number);
}

-- ---- the design
abbrev pub ring_bounds : Gamma
ring_bounds = record { eps = 1000000; alpha_min = 0; alpha_max = 3000000; mu_min = 1000000; mu_max = 4000000 }

-- the ring of n components, each of which sends to the next one, and the last to the first
abbrev pub ring : ℕ → DesignParts
ring n = record {
  period = 20000000;
  gamma = ring_bounds;
  components = map ring_component (upwards 0 n);
  links = map (ring_link n) (upwards 0 n);
  feeds = [];
  taps = [];
  ignored = [];
}

-- ---- its result
-- the number x of a component after some rounds
abbrev pub ring_number : ℕ → ℕ → ℕ → ℤ
ring_number n rounds node = slice_index_or (state (ring n) no_env node rounds).vars 0 (pos 0)

-- the sum of all of them
abbrev pub ring_sum : ℕ → ℕ → ℤ
ring_sum n rounds = fold ◌+ℤ◌ (pos 0) (map (ring_number n rounds) (upwards 0 n))
