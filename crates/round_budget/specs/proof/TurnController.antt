-- A turn controller: a main component moves a left, a right and a tail surface, which step once, twice and
-- four times a round.
use Rattle.std.specs.Prelude.{ℕ, pos, true, false, codes, List, [], ◌∷◌, Option, Some, None}
use Rattle.pals_base.specs.declared.basic_types.NodeNo.{NodeNo}
use Rattle.pals_base.specs.declared.period_bound_and_releases.Gamma.{Gamma}
use Rattle.pals_base.specs.declared.allowed_adaptors.Adaptor.{Adaptor}
use Rattle.pals_base.specs.declared.allowed_adaptors.Adaptor.TheVariants.{Repeat, Last, Average}
use Rattle.pals_base.specs.declared.behaviour.Kind.TheVariants.{Integer}
use Rattle.pals_base.specs.declared.behaviour.Op.{Op}
use Rattle.pals_base.specs.declared.behaviour.Op.TheVariants.{Add, Sub, Lt, Gt}
use Rattle.pals_base.specs.declared.behaviour.PortDecl.{PortDecl}
use Rattle.pals_base.specs.declared.behaviour.VarDecl.{VarDecl}
use Rattle.pals_base.specs.declared.behaviour.StateDecl.{StateDecl}
use Rattle.pals_base.specs.declared.behaviour.BehaviourParts.{BehaviourParts}
use Rattle.pals_base.specs.ExpressionAndActionTrees.{Expression, Literal, Variable, PortRead, Chain, NoMore, Then}
use Rattle.pals_base.specs.ExpressionAndActionTrees.{Assign, Emit}
use Rattle.pals_base.specs.ExpressionAndActionTrees.{Actions, Nothing, Do, Dispatch, Always, When, Trigger, Edge}
use Rattle.pals_model.specs.declared.design.Component.{Component}
use Rattle.pals_model.specs.declared.design.Link.{Link}
use Rattle.pals_model.specs.declared.design.DesignParts.{DesignParts}

abbrev port_named : List ℕ → PortDecl
port_named name = record { name = name; kind = Integer }

abbrev variable : List ℕ → VarDecl
variable name = record { name = name; kind = Integer; first = pos 0 }

abbrev state_named : List ℕ → StateDecl
state_named name = record { name = name; complete = true }

abbrev binary : Expression → Op → Expression → Expression
binary a op b = Chain a (Then op b NoMore)

abbrev edge : ℕ → ℕ → Trigger → Actions → Edge
edge source target trigger actions = record { source = source; target = target; trigger = trigger; actions = actions }

-- sum := l + r + t; cmd!(goal)
abbrev main_actions : Actions
main_actions =
    Do (Assign 0 (Chain (PortRead 1) (Then Add (PortRead 2) (Then Add (PortRead 3) NoMore))))
    (Do (Emit 0 (PortRead 0)) Nothing)

abbrev pub main : BehaviourParts
main = record {
  ins = port_named (codes "goal") ∷ port_named (codes "l") ∷ port_named (codes "r") ∷ port_named (codes "t") ∷ [];
  outs = port_named (codes "cmd") ∷ [];
  vars = variable (codes "sum") ∷ [];
  states = state_named (codes "s") ∷ [];
  initial = 0;
  transitions = edge 0 0 Dispatch main_actions ∷ [];
}

abbrev shown : Actions
shown = Do (Emit 0 (Variable 0)) Nothing

-- a := a + 1; angle!(a)
abbrev moved : Op → Actions
moved op = Do (Assign 0 (binary (Variable 0) op (Literal (pos 1)))) shown

abbrev pub surface : BehaviourParts
surface = record {
  ins = port_named (codes "target") ∷ [];
  outs = port_named (codes "angle") ∷ [];
  vars = variable (codes "a") ∷ [];
  states = state_named (codes "s") ∷ record { name = codes "mv"; complete = false } ∷ [];
  initial = 0;
  transitions =
      edge 0 1 Dispatch Nothing
      ∷ edge 1 0 (When (binary (PortRead 0) Gt (Variable 0))) (moved Add)
      ∷ edge 1 0 (When (binary (PortRead 0) Lt (Variable 0))) (moved Sub)
      ∷ edge 1 0 Always shown
      ∷ [];
}

-- ---- the design
abbrev component : List ℕ → ℕ → BehaviourParts → Component
component path rate behaviour = record { path = path; rate = rate; behaviour = behaviour }

abbrev numbered : ℕ → NodeNo
numbered n = record { 0 = n }

abbrev link : ℕ → ℕ → ℕ → Option Adaptor → Link
link source target in_port adaptor =
    record { source = numbered source; out_port = 0; target = numbered target; in_port = in_port; adaptor = adaptor }

abbrev bounds : Gamma
bounds = record { eps = 1000000; alpha_min = 0; alpha_max = 3000000; mu_min = 1000000; mu_max = 4000000 }

abbrev pub turn : DesignParts
turn = record {
  period = 20000000;
  gamma = bounds;
  components =
      component (codes "p.m") 1 main ∷ component (codes "p.l") 1 surface ∷ component (codes "p.r") 2 surface
      ∷ component (codes "p.t") 4 surface ∷ [];
  links =
      link 1 0 1 None ∷ link 2 0 2 (Some Last) ∷ link 3 0 3 (Some Average)
      ∷ link 0 1 0 None ∷ link 0 2 0 (Some Repeat) ∷ link 0 3 0 (Some Repeat) ∷ [];
  feeds = record { name = codes "goal"; target = numbered 0; in_port = 0; adaptor = None } ∷ [];
  taps = [];
  ignored = [];
}
