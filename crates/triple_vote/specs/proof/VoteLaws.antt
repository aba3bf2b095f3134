-- The claims on votes: what two agree on wins, and where no two replicas are at fault all is as in the composition.
use Rattle.std.specs.Prelude.{◌≡◌, ◌≢◌, ℕ, suc, ◌<◌, Bool, false, List, [], ◌∷◌, length, map, All, Contains, Some}
use Rattle.std.specs.Prelude.{slice_get}
use Rattle.pals_base.specs.declared.basic_types.PortValue.{PortValue}
use Rattle.pals_base.specs.declared.basic_types.PortValue.TheVariants.{Absent}
use Rattle.pals_base.specs.declared.frames.Frame.{Frame}
use Rattle.pals_model.specs.declared.design.Link.{Link}
use Rattle.pals_model.specs.declared.design.Tap.{Tap}
use Rattle.pals_model.specs.declared.design.DesignParts.{DesignParts}
use Rattle.pals_model.specs.declared.environment.Env.{Env}
use Rattle.pals_model.specs.PortKindsAndRates.{rate_of}
use Rattle.pals_model.specs.Composition.{Configuration, comp, state, msg, steps_of_round, tuple_of}
use Rattle.pals_model.specs.DesignRules.{IsDesign}
use Rattle.pals_runs.specs.declared.replica_faults.VoteFault.{VoteFault}
use Rattle.pals_model.specs.RoundTexts.{report}
use Rattle.triple_vote.specs.Votes.{vote}
use Rattle.triple_vote.specs.VotedComposition.{source_in, is_replicated, copies_of, VotedConfiguration, frame_at}
use Rattle.triple_vote.specs.VotedComposition.{received_at}
use Rattle.triple_vote.specs.VotedComposition.{voted_composition, voted_tap}
use Rattle.triple_vote.specs.VotedText.{voted_report, tripled_report}
use Rattle.triple_vote.specs.OutvotedFaults.{AreOutvoted}
use Rattle.triple_vote.specs.proof.VotedStates.{voted_state_after}

-- ---- the vote of three: what two agree on wins, and where no two agree it is absent
pub record VotesOfThree : Type 0 where
  pub first_two : (x z : PortValue) → vote x x z ≡ x
  pub outer_two : (x y : PortValue) → vote x y x ≡ x
  pub last_two : (x y : PortValue) → vote x y y ≡ y
  pub no_two : (x y z : PortValue) → x ≢ y → x ≢ z → y ≢ z → vote x y z ≡ Absent

-- ---- faults
-- the values of a fault are as many as the steps of its source, from which its link goes
pub record IsFault (design : DesignParts) (f : VoteFault) : Type 0 where
  pub source : source_in (slice_get design.links f.link.0) ≡ f.source.0
  pub values : length f.values ≡ rate_of design f.source.0

abbrev pub AreFaults : DesignParts → (ℕ → List VoteFault) → Type 0
AreFaults design faults = (round : ℕ) → All (IsFault design) (faults round)

-- of each component at most one replica is named, in whatever rounds
abbrev pub NameOneEach : (ℕ → List VoteFault) → Type 0
NameOneEach faults =
    (m n : ℕ) (f g : VoteFault) → Contains (faults m) f → Contains (faults n) g → f.source.0 ≡ g.source.0
    → f.replica ≡ g.replica

-- if so, no two replicas are at fault towards one reader in one round
abbrev pub OneNamedIsOutvoted : Type 0
OneNamedIsOutvoted =
    (design : DesignParts) (faults : ℕ → List VoteFault) → AreFaults design faults → NameOneEach faults
    → AreOutvoted faults

-- ---- with at most one at fault, nothing shows it
-- each replica is in its component's state of the composition
abbrev pub ReplicasAreStates : Type 0
ReplicasAreStates =
    (design : DesignParts) (env : Env) (replicated : List Bool) (faults : ℕ → List VoteFault) → IsDesign design
    → AreFaults design faults → AreOutvoted faults
    → (node replica rounds : ℕ) → node < length design.components → replica < copies_of replicated node
    → frame_at (voted_composition design env replicated faults rounds) node replica ≡ state design env node rounds

-- each replica receives the message of the composition
abbrev pub ReceivedAreMessages : Type 0
ReceivedAreMessages =
    (design : DesignParts) (env : Env) (replicated : List Bool) (faults : ℕ → List VoteFault) → IsDesign design
    → AreFaults design faults → AreOutvoted faults
    → (l target round : ℕ) (link : Link) → slice_get design.links l ≡ Some link
    → target < copies_of replicated link.target.0
    → received_at (voted_composition design env replicated faults (suc round)) l target ≡ msg design env l round

-- each root out port shows the tuple of the composition
abbrev pub TapsShowTuples : Type 0
TapsShowTuples =
    (design : DesignParts) (env : Env) (replicated : List Bool) (faults : ℕ → List VoteFault) → IsDesign design
    → AreFaults design faults → AreOutvoted faults
    → (n round : ℕ) (tap : Tap) → slice_get design.taps n ≡ Some tap
    → voted_tap design env replicated faults tap round
    ≡ tuple_of (steps_of_round design env round) tap.source.0 tap.out_port

-- so the report is that of the composition, with each line of a replicated component three times
abbrev pub ReportIsThrice : Type 0
ReportIsThrice =
    (design : DesignParts) (env : Env) (replicated : List Bool) (faults : ℕ → List VoteFault) (n : ℕ) → IsDesign design
    → AreFaults design faults → AreOutvoted faults
    → voted_report design env replicated faults n ≡ tripled_report design env replicated n

-- which without replicas is the report of the composition
abbrev pub ThriceWithoutReplicas : Type 0
ThriceWithoutReplicas =
    (design : DesignParts) (env : Env) (replicated : List Bool) (n : ℕ)
    → ((node : ℕ) → is_replicated replicated node ≡ false)
    → tripled_report design env replicated n ≡ report design env n

-- ---- without replicas it is the composition, whatever the faults
abbrev pub unreplicated : Configuration → VotedConfiguration
unreplicated c =
    record {
      frames = map (λ (frame : Frame). frame ∷ []) c.frames;
      received = map (λ (message : List PortValue). message ∷ []) c.messages;
    }

abbrev pub NoReplicasAreComposition : Type 0
NoReplicasAreComposition =
    (design : DesignParts) (env : Env) (replicated : List Bool) (faults : ℕ → List VoteFault) (rounds : ℕ)
    → IsDesign design
    → ((node : ℕ) → is_replicated replicated node ≡ false)
    → voted_composition design env replicated faults rounds ≡ unreplicated (comp design env rounds)

-- ---- what contracts see after a number of rounds
pub record StandsAt (design : DesignParts) (env : Env) (replicated : List Bool) (faults : ℕ → List VoteFault)
    (rounds : ℕ) : Type 0 where
  pub design_is : (voted_state_after design env replicated faults rounds).design ≡ design
  pub replicated_is : (voted_state_after design env replicated faults rounds).replicated ≡ replicated
  pub voted_is : (voted_state_after design env replicated faults rounds).voted
      ≡ voted_composition design env replicated faults rounds

abbrev pub StandsAtVotes : Type 0
StandsAtVotes =
    (design : DesignParts) (env : Env) (replicated : List Bool) (faults : ℕ → List VoteFault) (rounds : ℕ)
    → StandsAt design env replicated faults rounds

-- and the values of each root out port in the last of them
abbrev pub ShowsVotes : Type 0
ShowsVotes =
    (design : DesignParts) (env : Env) (replicated : List Bool) (faults : ℕ → List VoteFault) (round : ℕ)
    → (voted_state_after design env replicated faults (suc round)).shown
    ≡ map (λ tap. voted_tap design env replicated faults tap round) design.taps
