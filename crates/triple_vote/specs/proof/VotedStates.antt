-- What contracts see of the rounds that are voted on.
use Rattle.std.specs.Prelude.{ℕ, zero, suc, Bool, List, map, replicate, refl}
use Rattle.std.specs.Coded.{Coded, code_by, coded×, coded_bool, coded_list}
use Rattle.pals_base.specs.contracts.frames.Frame.{the_row as frames}
use Rattle.pals_base.specs.contracts.basic_types.PortValue.{the_row as ports}
use Rattle.pals_model.specs.contracts.design.DesignParts.{the_row as design_parts}
use Rattle.pals_base.specs.declared.frames.Frame.{Frame}
use Rattle.pals_base.specs.declared.basic_types.PortValue.{PortValue}
use Rattle.pals_base.specs.declared.basic_types.PortValue.TheVariants.{Absent}
use Rattle.pals_model.specs.declared.design.Tap.{Tap}
use Rattle.pals_model.specs.declared.design.DesignParts.{DesignParts}
use Rattle.pals_model.specs.declared.environment.Env.{Env}
use Rattle.pals_model.specs.ComponentInputs.{values_at}
use Rattle.pals_model.specs.PortKindsAndRates.{rate_of}
use Rattle.pals_runs.specs.declared.replica_faults.VoteFault.{VoteFault}
use Rattle.triple_vote.specs.VotedComposition.{VotedConfiguration, voted_opening, next_voted, voted_tap_by}

-- a design, which of its components have replicas, the configuration after some rounds, and the values of the root out
-- ports in the last
pub record VotedState : Type 0 where
  pub design : DesignParts
  pub replicated : List Bool
  pub voted : VotedConfiguration
  pub shown : List (List PortValue)

-- a state is stored as its parts
abbrev pub voted_code : Coded VotedState
voted_code =
    code_by (DesignParts × (List Bool × (List (List Frame) × (List (List (List PortValue)) × List (List PortValue)))))
    (coded× design_parts.coded
    (coded× (coded_list coded_bool)
    (coded× (coded_list (coded_list frames.coded))
    (coded× (coded_list (coded_list (coded_list ports.coded))) (coded_list (coded_list ports.coded))))))
    (λ s. (s.design, (s.replicated, (s.voted.frames, (s.voted.received, s.shown)))))
    (λ p. record {
      design = p.0;
      replicated = p.1.0;
      voted = record { frames = p.1.1.0; received = p.1.1.1.0 };
      shown = p.1.1.1.1;
    })
    (λ _. refl)

-- before the first round
abbrev pub voted_begun : DesignParts → List Bool → VotedState
voted_begun design replicated = record {
  design = design;
  replicated = replicated;
  voted = voted_opening design replicated;
  shown = map (λ (tap : Tap). replicate (rate_of design tap.source.0) Absent) design.taps;
}

-- one round further, with these values of the root in ports and these faults
abbrev pub voted_advanced : VotedState → List PortValue → List VoteFault → VotedState
voted_advanced s values faults = record {
  design = s.design;
  replicated = s.replicated;
  voted = next_voted s.design s.replicated values faults s.voted;
  shown = map (voted_tap_by s.design s.replicated values s.voted) s.design.taps;
}

-- after a number of rounds of an environment, with the faults of each round
abbrev pub voted_state_after : DesignParts → Env → List Bool → (ℕ → List VoteFault) → ℕ → VotedState
voted_state_after design env replicated faults zero = voted_begun design replicated
voted_state_after design env replicated faults (suc round) =
    voted_advanced (voted_state_after design env replicated faults round) (values_at env round) (faults round)
