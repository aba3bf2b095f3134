-- What contracts see of a product.
use Rattle.std.specs.Prelude.{ℕ, zero, suc, List, map, length, replicate, refl}
use Rattle.std.specs.List.{enumerate_from}
use Rattle.std.specs.Coded.{Coded, code_by, coded×, coded_list}
use Rattle.pals_base.specs.contracts.frames.Frame.{the_row as frames}
use Rattle.pals_base.specs.contracts.basic_types.PortValue.{the_row as ports}
use Rattle.pals_model.specs.contracts.design.DesignParts.{the_row as design_parts}
use Rattle.pals_model.specs.contracts.part.Part.{the_row as parts}
use Rattle.pals_base.specs.declared.frames.Frame.{Frame}
use Rattle.pals_base.specs.declared.basic_types.PortValue.{PortValue}
use Rattle.pals_base.specs.declared.basic_types.PortValue.TheVariants.{Absent}
use Rattle.pals_base.specs.SingleStep.{initial}
use Rattle.pals_base.specs.StepSequences.{Stepped}
use Rattle.pals_base.specs.UpwardNumbers.{upwards}
use Rattle.pals_model.specs.declared.design.Component.{Component}
use Rattle.pals_model.specs.declared.design.DesignParts.{DesignParts}
use Rattle.pals_model.specs.declared.part.Part.{Part}
use Rattle.pals_model.specs.declared.environment.Env.{Env}
use Rattle.pals_model.specs.ComponentInputs.{values_at}
use Rattle.pals_model.specs.Composition.{Configuration, part_of, opening, next, all_steps}
use Rattle.sync_product.specs.proof.ComponentWiring.{tap_ports}

-- a design, its configuration after some rounds, and the parts of its components in the last of them
pub record ProductState : Type 0 where
  pub design : DesignParts
  pub configuration : Configuration
  pub parts : List Part

-- a state is stored as its parts
abbrev pub state_code : Coded ProductState
state_code =
    code_by (DesignParts × (List Frame × (List (List PortValue) × List Part)))
    (coded× design_parts.coded
    (coded× (coded_list frames.coded) (coded× (coded_list (coded_list ports.coded)) (coded_list parts.coded))))
    (λ s. (s.design, (s.configuration.frames, (s.configuration.messages, s.parts))))
    (λ p. record { design = p.0; configuration = record { frames = p.1.0; messages = p.1.1.0 }; parts = p.1.1.1 })
    (λ _. refl)

-- the parts of all components
abbrev pub parts_of : DesignParts → List Stepped → List Part
parts_of design all = map (part_of design all) (upwards 0 (length design.components))

-- before the first round: each component with its initial frame and no values
abbrev pub opening_part : DesignParts → ℕ → Component → Part
opening_part design node c =
    record {
      frame = initial c.behaviour;
      outs = map (λ (port : ℕ). replicate c.rate Absent) (tap_ports design.taps node);
    }

abbrev pub opening_parts : DesignParts → List Part
opening_parts design = map (λ numbered. opening_part design numbered.0 numbered.1) (enumerate_from 0 design.components)

-- before the first round
abbrev pub begun : DesignParts → ProductState
begun design = record { design = design; configuration = opening design; parts = opening_parts design }

-- one round further, with these values of the root in ports
abbrev pub advanced : ProductState → List PortValue → ProductState
advanced state values = record {
  design = state.design;
  configuration = next state.design values state.configuration;
  parts = parts_of state.design (all_steps state.design values state.configuration);
}

-- the state after a number of rounds of an environment
abbrev pub state_after : DesignParts → Env → ℕ → ProductState
state_after design env zero = begun design
state_after design env (suc round) = advanced (state_after design env round) (values_at env round)
