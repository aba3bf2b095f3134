-- Laws of the kinds of values in rounds that are voted on.
use Rattle.std.specs.Prelude.{◌≡◌, ℕ, Bool, List, [], All, Some, slice_get, slice_index_or}
use Rattle.pals_model.specs.declared.design.Component.{Component}
use Rattle.pals_model.specs.declared.design.Link.{Link}
use Rattle.pals_model.specs.declared.design.Tap.{Tap}
use Rattle.pals_model.specs.declared.design.DesignParts.{DesignParts}
use Rattle.pals_model.specs.declared.environment.Env.{Env}
use Rattle.pals_model.specs.PortKindsAndRates.{out_kind}
use Rattle.pals_model.specs.DesignRules.{IsDesign}
use Rattle.pals_model.specs.proof.ValuesFitKinds.{FrameFits, TupleFits, link_kind, EnvFits}
use Rattle.pals_runs.specs.declared.replica_faults.VoteFault.{VoteFault}
use Rattle.triple_vote.specs.VotedComposition.{VotedConfiguration, voted_composition, voted_tap}

-- ---- faults
-- what a fault sends in place of its replica's own message fits the kind of the link
abbrev pub FaultFits : DesignParts → VoteFault → Type 0
FaultFits design f =
    (link : Link) → slice_get design.links f.link.0 ≡ Some link → TupleFits (link_kind design link) f.values

abbrev pub FaultsFit : DesignParts → (ℕ → List VoteFault) → Type 0
FaultsFit design faults = (round : ℕ) → All (FaultFits design) (faults round)

-- ---- after some rounds
pub record VotedFits (design : DesignParts) (voted : VotedConfiguration) : Type 0 where
  -- the frame of each replica of a component
  pub frames : (node : ℕ) (c : Component) → slice_get design.components node ≡ Some c
      → All (FrameFits c.behaviour) (slice_index_or voted.frames node [])
  -- the message that each replica of a link's target received on it
  pub received : (number : ℕ) (link : Link) → slice_get design.links number ≡ Some link
      → All (TupleFits (link_kind design link)) (slice_index_or voted.received number [])

-- however many replicas are at fault
abbrev pub VotesFit : Type 0
VotesFit =
    (design : DesignParts) (env : Env) (replicated : List Bool) (faults : ℕ → List VoteFault) (rounds : ℕ)
    → IsDesign design → EnvFits design env → FaultsFit design faults
    → VotedFits design (voted_composition design env replicated faults rounds)

-- so do the values of each root out port
abbrev pub ShownFit : Type 0
ShownFit =
    (design : DesignParts) (env : Env) (replicated : List Bool) (faults : ℕ → List VoteFault) (tap : Tap) (round : ℕ)
    → IsDesign design → EnvFits design env → FaultsFit design faults
    → TupleFits (out_kind (slice_get design.components tap.source.0) tap.out_port)
    (voted_tap design env replicated faults tap round)
