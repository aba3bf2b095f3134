-- For the laws of fused and of voted rounds: the values that steps leave on out ports fit the kinds of these ports.
use Rattle.std.proofs.Common.{◌≡◌, ℕ, zero, suc, ◌≤◌, List, [], ◌∷◌, length, slice_get, All, Option, Some, None, refl}
use Rattle.std.proofs.Common.{sym, subst, arith}
use Rattle.std.specs.Prelude.{slice_index_or}
use Rattle.std.proofs.lemmas.Option.{slice_get_within}
use Rattle.pals_base.specs.declared.frames.Frame.{Frame}
use Rattle.pals_base.specs.declared.basic_types.PortValue.{PortValue}
use Rattle.pals_base.specs.declared.basic_types.PortValue.TheVariants.{Absent}
use Rattle.pals_base.specs.declared.behaviour.Kind.TheVariants.{Integer}
use Rattle.pals_base.specs.declared.behaviour.PortDecl.{PortDecl}
use Rattle.pals_base.specs.declared.behaviour.BehaviourParts.{BehaviourParts}
use Rattle.pals_base.specs.SingleStep.{fire, HasShape}
use Rattle.pals_base.specs.BehaviourRules.{IsBehaviour}
use Rattle.pals_base.specs.StepSequences.{outputs, steps}
use Rattle.pals_base.specs.Tuples.{column}
use Rattle.pals_base.proofs.StepTermination.{fires_well}
use Rattle.pals_base.proofs.UpwardNumbers.{get_or-map_upwards}
use Rattle.pals_model.specs.PortKindsAndRates.{kind_of}
use Rattle.pals_model.specs.proof.ValuesFitKinds.{PortFits, TupleFits, PortsFit, FrameFits}
use Rattle.pals_model.proofs.AllElements.{map_all, every}
use Rattle.pals_model.proofs.StepsKeepKinds.{firing_fits, outputs_fit}
use Rattle.pals_model.proofs.AdaptorsKeepKinds.{integer_fits}

-- ---- a port
port_by : (ports : List PortDecl) (values : List PortValue) (p : ℕ) (o : Option PortDecl) → PortsFit ports values
    → slice_get ports p ≡ o
    → PortFits (kind_of o) (slice_index_or values p Absent)
port_by ports values p None fits is = integer_fits (slice_index_or values p Absent)
port_by ports values p (Some port) fits is = fits p port is

pub port_fits : (ports : List PortDecl) (values : List PortValue) (p : ℕ) → PortsFit ports values
    → PortFits (kind_of (slice_get ports p)) (slice_index_or values p Absent)
port_fits ports values p fits = port_by ports values p (slice_get ports p) fits refl

-- ---- the outputs of a step, where all inputs up to it fit
pub output_fits : (b : BehaviourParts) (frame : Frame) (vectors : List (List PortValue)) (step : ℕ) → IsBehaviour b
    → HasShape b frame
    → FrameFits b frame → ((k : ℕ) → k ≤ step → PortsFit b.ins (slice_index_or vectors k []))
    → PortsFit b.outs (slice_index_or (outputs b frame vectors) step [])
output_fits b frame [] step rules shape fits each = λ p port is. tt
output_fits b frame (inputs ∷ vectors) zero rules shape fits each =
    (firing_fits b frame inputs rules shape fits (each 0 (omega arith))).outs_fit
output_fits b frame (inputs ∷ vectors) (suc step) rules shape fits each =
    output_fits b (fire b frame inputs).frame vectors step rules (fires_well b frame inputs rules shape).0
    (firing_fits b frame inputs rules shape fits (each 0 (omega arith))).frame_fits
    (λ k below. each (suc k) (omega arith))

-- ---- the tuple of an out port
tuple_by : (b : BehaviourParts) (frame : Frame) (vectors : List (List PortValue)) (port : ℕ) (o : Option PortDecl)
    → All (PortsFit b.outs) (outputs b frame vectors) → slice_get b.outs port ≡ o
    → TupleFits (kind_of o) (slice_index_or (steps b frame vectors).tuples port [])
tuple_by b frame vectors port None all is =
    every (PortFits Integer) (slice_index_or (steps b frame vectors).tuples port []) integer_fits
tuple_by b frame vectors port (Some named) all is =
    let rows = outputs b frame vectors in
    let here =
    get_or-map_upwards (λ at. column at rows) (length b.outs) port [] (slice_get_within b.outs port named is) in
    subst (TupleFits named.kind) (sym here)
    (map_all (PortsFit b.outs) (PortFits named.kind) (λ (row : List PortValue). slice_index_or row port Absent) rows
    (λ row fits. fits port named is) all)

pub tuple_fits : (b : BehaviourParts) (frame : Frame) (vectors : List (List PortValue)) (port : ℕ) → IsBehaviour b
    → HasShape b frame
    → FrameFits b frame → All (PortsFit b.ins) vectors
    → TupleFits (kind_of (slice_get b.outs port)) (slice_index_or (steps b frame vectors).tuples port [])
tuple_fits b frame vectors port rules shape fits all =
    tuple_by b frame vectors port (slice_get b.outs port) (outputs_fit b frame vectors rules shape fits all) refl
