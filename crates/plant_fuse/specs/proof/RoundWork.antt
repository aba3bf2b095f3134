-- The work of all components within one round, in pairs or by themselves, and its results.
use Rattle.std.specs.Prelude.{◌≡◌, ◌≢◌, ℕ, List, map, Some, None, slice_get, slice_index_or}
use Rattle.pals_base.specs.declared.basic_types.PortValue.{PortValue}
use Rattle.pals_base.specs.declared.frames.Frame.{Frame}
use Rattle.pals_base.specs.Tuples.{column}
use Rattle.pals_model.specs.declared.design.Component.{Component}
use Rattle.pals_model.specs.declared.design.DesignParts.{DesignParts}
use Rattle.pals_model.specs.declared.part.Part.{Part}
use Rattle.pals_model.specs.ComponentInputs.{sources_of}
use Rattle.pals_model.specs.Composition.{no_frame}
use Rattle.pals_runs.specs.declared.plant_pairs.Pair.{Pair}
use Rattle.sync_product.specs.declared.round_inputs.RoundInputs.{RoundInputs}
use Rattle.sync_product.specs.declared.component_stage.Stage.{Stage}
use Rattle.sync_product.specs.proof.ComponentWiring.{tap_ports, IsWired}
use Rattle.sync_product.specs.proof.Rounds.{IsStepped, frames_of}
use Rattle.plant_fuse.specs.declared.pair_steps.PairedComponent.{PairedComponent}
use Rattle.plant_fuse.specs.proof.PartnersAndPairLinks.{partner_of}
use Rattle.plant_fuse.specs.proof.PairSteps.{PairMember, Work, AreMade}

-- ---- a component, and its seat in a pair
abbrev pub pair_member : DesignParts → ℕ → ℕ → Component → PairMember
pair_member design node partner c = record { partner = partner; component = c; sources = sources_of design node c }

-- in a pair, with its frame in these parts
pub record IsPaired (design : DesignParts) (parts : List Part) (node partner : ℕ) (side : PairedComponent) : Type 0
  where
    pub wired_is : IsWired design node side.wired
    pub partner_is : side.partner ≡ partner
    pub from_is : side.from.now ≡ slice_index_or (frames_of parts) node no_frame

-- ---- the results of the round
abbrev pub rows_of : List Stage → List (List (List PortValue))
rows_of stages = map (λ (s : Stage). s.rows) stages

abbrev pub part_of_work : DesignParts → ℕ → Work → Part
part_of_work design node w =
    record { frame = w.to; outs = map (λ port. column port w.rows) (tap_ports design.taps node) }

-- the work of a component, from its frame on, is in its part and its rows
pub record HasWork (design : DesignParts) (frames : List Frame) (parts : List Part) (stages : List Stage) (node : ℕ)
    (w : Work) : Type 0 where
  pub from_is : w.from ≡ slice_index_or frames node no_frame
  pub part_is : slice_get parts node ≡ Some (part_of_work design node w)
  pub rows_are : slice_get (rows_of stages) node ≡ Some w.rows

-- the work of a plant and its controller, hand in hand
pub record IsRun (round : RoundInputs) (frames : List Frame) (parts : List Part) (stages : List Stage)
    (pair : Pair) : Type 0 where
  pub p : Component
  pub c : Component
  pub p_is : slice_get round.design.now.components pair.plant.0 ≡ Some p
  pub c_is : slice_get round.design.now.components pair.controller.0 ≡ Some c
  pub p_work : Work
  pub c_work : Work
  pub p_has : HasWork round.design.now frames parts stages pair.plant.0 p_work
  pub c_has : HasWork round.design.now frames parts stages pair.controller.0 c_work
  pub made :
      AreMade round (pair_member round.design.now pair.plant.0 pair.controller.0 p)
      (pair_member round.design.now pair.controller.0 pair.plant.0 c)
      p.rate p_work c_work

-- the components in no pair, each by itself
abbrev pub AreAlone : RoundInputs → List Pair → List Frame → List Part → List Stage → Type 0
AreAlone round pairs frames parts stages = (node : ℕ) (c : Component) →
    partner_of pairs node ≡ None → slice_get round.design.now.components node ≡ Some c
    → IsStepped round frames parts stages node c

-- and each pair hand in hand
pub record AreRun (round : RoundInputs) (pairs : List Pair) (frames : List Frame) (parts : List Part)
    (stages : List Stage) : Type 0 where
  pub alone : AreAlone round pairs frames parts stages
  pub together : (k : ℕ) (pair : Pair) → slice_get pairs k ≡ Some pair → IsRun round frames parts stages pair

-- ---- the unchanged parts
-- the parts and rows of all components other than two
pub record StayBeside (a b : ℕ) (parts parts' : List Part) (stages stages' : List Stage) : Type 0 where
  pub parts_stay : (k : ℕ) → k ≢ a → k ≢ b → slice_get parts' k ≡ slice_get parts k
  pub rows_stay : (k : ℕ) → k ≢ a → k ≢ b → slice_get (rows_of stages') k ≡ slice_get (rows_of stages) k

-- the steps of a component by itself
pub record IsRunAlone (round : RoundInputs) (frames : List Frame) (node : ℕ) (parts parts' : List Part)
    (stages stages' : List Stage) : Type 0 where
  pub component : Component
  pub component_is : slice_get round.design.now.components node ≡ Some component
  pub stepped : IsStepped round frames parts' stages' node component
  pub others : StayBeside node node parts parts' stages stages'
