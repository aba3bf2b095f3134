-- Values that fit their kinds: a Boolean is 0 or 1.
use Rattle.std.specs.Prelude.{◌≡◌, ◌⊎◌, ℕ, ℤ, pos, List, All, Some, slice_get, slice_index_or}
use Rattle.pals_base.specs.declared.frames.Frame.{Frame}
use Rattle.pals_base.specs.declared.basic_types.PortValue.{PortValue}
use Rattle.pals_base.specs.declared.basic_types.PortValue.TheVariants.{Absent, Present}
use Rattle.pals_base.specs.declared.behaviour.Kind.{Kind}
use Rattle.pals_base.specs.declared.behaviour.Kind.TheVariants.{Integer, Boolean}
use Rattle.pals_base.specs.declared.behaviour.PortDecl.{PortDecl}
use Rattle.pals_base.specs.declared.behaviour.VarDecl.{VarDecl}
use Rattle.pals_base.specs.declared.behaviour.BehaviourParts.{BehaviourParts}
use Rattle.pals_model.specs.declared.design.Link.{Link}
use Rattle.pals_model.specs.declared.design.DesignParts.{DesignParts}
use Rattle.pals_model.specs.declared.environment.Env.{Env}
use Rattle.pals_model.specs.ComponentInputs.{root_inputs, values_at}
use Rattle.pals_model.specs.PortKindsAndRates.{out_kind, root_kind}

-- ---- values
abbrev pub Fits : Kind → ℤ → Type 0
Fits Integer v = Unit {0}
Fits Boolean v = (v ≡ pos 0) ⊎ (v ≡ pos 1)

-- an absent value fits each kind
abbrev pub PortFits : Kind → PortValue → Type 0
PortFits kind Absent = Unit {0}
PortFits kind (Present v) = Fits kind v

abbrev pub TupleFits : Kind → List PortValue → Type 0
TupleFits kind tuple = All (PortFits kind) tuple

-- ---- of a behaviour
-- each variable fits its kind
abbrev pub VarsFit : BehaviourParts → List ℤ → Type 0
VarsFit b vars = (x : ℕ) (v : VarDecl) → slice_get b.vars x ≡ Some v → Fits v.kind (slice_index_or vars x (pos 0))

-- each held input fits its in port's kind
abbrev pub HeldFit : BehaviourParts → List ℤ → Type 0
HeldFit b held =
    (p : ℕ) (port : PortDecl) → slice_get b.ins p ≡ Some port → Fits port.kind (slice_index_or held p (pos 0))

-- the values of one step at ports of these types
abbrev pub PortsFit : List PortDecl → List PortValue → Type 0
PortsFit ports values =
    (p : ℕ) (port : PortDecl) → slice_get ports p ≡ Some port → PortFits port.kind (slice_index_or values p Absent)

pub record FrameFits (b : BehaviourParts) (frame : Frame) : Type 0 where
  pub vars : VarsFit b frame.vars
  pub held : HeldFit b frame.held

-- ---- of a design
-- the kind of a link's messages
abbrev pub link_kind : DesignParts → Link → Kind
link_kind design link = out_kind (slice_get design.components link.source.0) link.out_port

-- in each round the value of each root in port fits its kind
abbrev pub EnvFits : DesignParts → Env → Type 0
EnvFits design env = (round number : ℕ) (name : List ℕ) → slice_get (root_inputs design) number ≡ Some name
    → PortFits (root_kind design name) (slice_index_or (values_at env round) number Absent)
