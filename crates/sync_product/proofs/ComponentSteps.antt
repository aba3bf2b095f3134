-- The parts of the components in a round grow by one when the next component completes its steps.
use Rattle.std.proofs.Common.{◌≡◌, ◌∙◌, ℕ, ◌+◌, ◌<◌, inl, inr, List, length, map, set, slice_get, slice_index_or, Some}
use Rattle.std.proofs.Common.{sym, ap, ap₂, arith}
use Rattle.std.proofs.lemmas.Bool.{cases_lt}
use Rattle.std.proofs.lemmas.List.{map-set, length-map, get_or-map}
use Rattle.pals_base.specs.declared.basic_types.PortValue.{PortValue}
use Rattle.pals_base.specs.declared.frames.Frame.{Frame}
use Rattle.pals_base.specs.StepSequences.{frame_after, outputs}
use Rattle.pals_base.specs.Tuples.{column}
use Rattle.pals_model.specs.declared.design.Component.{Component}
use Rattle.pals_model.specs.declared.part.Part.{Part}
use Rattle.pals_model.specs.declared.port_sources.PortSource.{PortSource}
use Rattle.pals_model.specs.ComponentInputs.{sources_of}
use Rattle.pals_model.specs.Composition.{no_frame}
use Rattle.sync_product.specs.declared.round_inputs.RoundInputs.{RoundInputs}
use Rattle.sync_product.specs.declared.component_stage.Stage.{Stage}
use Rattle.sync_product.specs.proof.ComponentWiring.{tap_ports}
use Rattle.sync_product.specs.proof.Rounds.{IsStepped, frames_of, own_part, own_rows, own_step_inputs, vectors}
use Rattle.sync_product.proofs.ComponentLists.{slice_get-set_same, slice_get-set_other}

pub stepped_more : (round : RoundInputs) (frames : List Frame) (next : List Part) (stages : List Stage) (node : ℕ)
    (item : Component) (part' : Part) (stage' : Stage)
    → node < length next → node < length stages → slice_get round.design.now.components node ≡ Some item
    → part' ≡ own_part round frames node item → stage'.rows ≡ own_rows round frames node item
    → ((k : ℕ) (c : Component) → k < node → slice_get round.design.now.components k ≡ Some c
    → IsStepped round frames next stages k c)
    → (k : ℕ) (c : Component) → k < node + 1 → slice_get round.design.now.components k ≡ Some c
    → IsStepped round frames (set next node part') (set stages node stage') k c
stepped_more round frames next stages node item part' stage' within within' is part_is rows_are so_far k c below is_c =
    elim (cases_lt k node) [
      | inl before ↦
          let old = so_far k c before is_c in
          record {
            part = slice_get-set_other next node k part' before ∙ old.part;
            rows =
                ap (λ l. slice_get l k) (map-set (λ (s : Stage). s.rows) stages node stage')
                ∙ slice_get-set_other (map (λ (s : Stage). s.rows) stages) node k stage'.rows before
                ∙ old.rows;
          }
      | inr past ↦
          let here : node ≡ k = omega arith in
          let found : Some item ≡ Some c = sym is ∙ ap (slice_get round.design.now.components) here ∙ is_c in
          let same : item ≡ c = cc in
          record {
            part =
                sym (ap (slice_get (set next node part')) here)
                ∙ slice_get-set_same next node part' within
                ∙ ap Some (part_is ∙ ap₂ (own_part round frames) here same);
            rows =
                sym (ap (slice_get (map (λ (s : Stage). s.rows) (set stages node stage'))) here)
                ∙ ap (λ l. slice_get l node) (map-set (λ (s : Stage). s.rows) stages node stage')
                ∙ slice_get-set_same (map (λ (s : Stage). s.rows) stages) node stage'.rows
                (omega (arith, length-map stages (λ (s : Stage). s.rows)))
                ∙ ap Some (rows_are ∙ ap₂ (own_rows round frames) here same);
          }
    ]

-- the results of a component's steps, from the inputs of its stage
pub rows_by : (round : RoundInputs) (parts : List Part) (node : ℕ) (item : Component) (part : Part)
    (sources : List PortSource) (rows : List (List PortValue))
    → node < length parts → part ≡ slice_index_or parts node part → sources ≡ sources_of round.design.now node item
    → rows ≡ outputs item.behaviour part.frame (vectors round item sources)
    → rows ≡ own_rows round (frames_of parts) node item
rows_by round parts node item part sources rows within part_is sources_are is =
    is
    ∙ ap (λ ss. outputs item.behaviour part.frame (vectors round item ss)) sources_are
    ∙ ap (λ (f : Frame). outputs item.behaviour f (own_step_inputs round node item))
    (ap (λ (p : Part). p.frame) part_is ∙ sym (get_or-map (λ (p : Part). p.frame) parts node part no_frame within))

pub part_by : (round : RoundInputs) (parts : List Part) (node : ℕ) (item : Component) (part : Part)
    (sources : List PortSource) (taps : List ℕ) (rows : List (List PortValue)) (part' : Part)
    → node < length parts → part ≡ slice_index_or parts node part → sources ≡ sources_of round.design.now node item
    → taps ≡ tap_ports round.design.now.taps node
    → rows ≡ own_rows round (frames_of parts) node item
    → part'.frame ≡ frame_after item.behaviour part.frame (vectors round item sources)
    → part'.outs ≡ map (λ port. column port rows) taps
    → part' ≡ own_part round (frames_of parts) node item
part_by round parts node item part sources taps rows part' within part_is sources_are taps_are rows_are
    frame_is outs_are =
    ap₂ (λ (f : Frame) (os : List (List PortValue)). let p : Part = record { frame = f; outs = os } in p)
    (frame_is
    ∙ ap (λ ss. frame_after item.behaviour part.frame (vectors round item ss)) sources_are
    ∙ ap (λ (f : Frame). frame_after item.behaviour f (own_step_inputs round node item))
    (ap (λ (p : Part). p.frame) part_is ∙ sym (get_or-map (λ (p : Part). p.frame) parts node part no_frame within)))
    (outs_are ∙ ap₂ (λ (rs : List (List PortValue)) (ts : List ℕ). map (λ port. column port rs) ts) rows_are taps_are)
