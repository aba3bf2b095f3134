-- Two counters, each of which counts on from the other's last value.
use Rattle.std.specs.Prelude.{◌≡◌, ℕ, pos, true, codes, List, [], ◌∷◌, ◌++◌, None}
use Rattle.pals_base.specs.declared.basic_types.NodeNo.{NodeNo}
use Rattle.pals_base.specs.declared.period_bound_and_releases.Gamma.{Gamma}
use Rattle.pals_base.specs.declared.behaviour.Kind.TheVariants.{Integer}
use Rattle.pals_base.specs.declared.behaviour.Op.TheVariants.{Add}
use Rattle.pals_base.specs.declared.behaviour.PortDecl.{PortDecl}
use Rattle.pals_base.specs.declared.behaviour.VarDecl.{VarDecl}
use Rattle.pals_base.specs.declared.behaviour.StateDecl.{StateDecl}
use Rattle.pals_base.specs.declared.behaviour.BehaviourParts.{BehaviourParts}
use Rattle.pals_base.specs.ExpressionAndActionTrees.{Literal, Variable, PortRead, Chain, NoMore, Then, Assign, Emit}
use Rattle.pals_base.specs.ExpressionAndActionTrees.{Actions, Nothing}
use Rattle.pals_base.specs.ExpressionAndActionTrees.{Do, Dispatch, Edge}
use Rattle.pals_model.specs.declared.design.Component.{Component}
use Rattle.pals_model.specs.declared.design.Link.{Link}
use Rattle.pals_model.specs.declared.design.DesignParts.{DesignParts}
use Rattle.pals_model.specs.RoundTexts.{line_end, report}
use Rattle.pals_model.specs.ComponentInputs.{no_env}

-- ---- a counter
abbrev port_named : List ℕ → PortDecl
port_named name = record { name = name; kind = Integer }

abbrev variable : VarDecl
variable = record { name = codes "x"; kind = Integer; first = pos 0 }

abbrev only_state : StateDecl
only_state = record { name = codes "s"; complete = true }

-- x := x + i + 1; o!(x)
abbrev counting : Actions
counting =
    Do (Assign 0 (Chain (Variable 0) (Then Add (PortRead 0) (Then Add (Literal (pos 1)) NoMore))))
    (Do (Emit 0 (Variable 0)) Nothing)

abbrev on_dispatch : Edge
on_dispatch = record { source = 0; target = 0; trigger = Dispatch; actions = counting }

abbrev counter : BehaviourParts
counter = record {
  ins = port_named (codes "i") ∷ [];
  outs = port_named (codes "o") ∷ [];
  vars = variable ∷ [];
  states = only_state ∷ [];
  initial = 0;
  transitions = on_dispatch ∷ [];
}

-- ---- the design
abbrev counter_at : List ℕ → Component
counter_at path = record { path = path; rate = 1; behaviour = counter }

abbrev numbered : ℕ → NodeNo
numbered n = record { 0 = n }

abbrev linked : ℕ → ℕ → Link
linked source target =
    record { source = numbered source; out_port = 0; target = numbered target; in_port = 0; adaptor = None }

abbrev counter_bounds : Gamma
counter_bounds = record { eps = 1000000; alpha_min = 0; alpha_max = 3000000; mu_min = 1000000; mu_max = 4000000 }

abbrev pub two_counters : DesignParts
two_counters = record {
  period = 9000000;
  gamma = counter_bounds;
  components = counter_at (codes "p.a") ∷ counter_at (codes "p.b") ∷ [];
  links = linked 1 0 ∷ linked 0 1 ∷ [];
  feeds = [];
  taps = [];
  ignored = [];
}

-- ---- its first rounds
abbrev line : List ℕ → List ℕ
line text = text ++ line_end

abbrev pub counted : List ℕ
counted =
    line (codes "round 0") ++ line (codes "p.a s x=1") ++ line (codes "p.b s x=1")
    ++ line (codes "round 1") ++ line (codes "p.a s x=3") ++ line (codes "p.b s x=3")
    ++ line (codes "round 2") ++ line (codes "p.a s x=7") ++ line (codes "p.b s x=7")

abbrev pub CountersCount : Type 0
CountersCount = report two_counters no_env 3 ≡ counted
