-- After a pair or a component by itself was run, its parts and rows hold the work of its steps, which stays while
-- others are run.
use Rattle.std.proofs.Common.{◌≡◌, ◌≢◌, ◌∙◌, ℕ, ◌<◌, List, length, map, set, Option, Some, slice_get, slice_index_or}
use Rattle.std.proofs.Common.{sym, ap, ap₂, subst}
use Rattle.std.specs.Option.{option_map}
use Rattle.std.proofs.lemmas.Option.{slice_get-map}
use Rattle.pals_base.specs.declared.basic_types.PortValue.{PortValue}
use Rattle.pals_base.specs.declared.frames.Frame.{Frame}
use Rattle.pals_base.specs.declared.basic_types.NodeNo.{NodeNo}
use Rattle.pals_base.specs.StepSequences.{frame_after, outputs}
use Rattle.pals_base.specs.Tuples.{column}
use Rattle.pals_base.proofs.UpwardNumbers.{slice_get-map_upwards}
use Rattle.pals_model.specs.declared.design.Component.{Component}
use Rattle.pals_model.specs.declared.design.DesignParts.{DesignParts}
use Rattle.pals_model.specs.declared.part.Part.{Part}
use Rattle.pals_model.specs.declared.port_sources.PortSource.{PortSource}
use Rattle.pals_model.specs.Composition.{no_frame}
use Rattle.pals_runs.specs.declared.plant_pairs.Pair.{Pair}
use Rattle.sync_product.specs.declared.round_inputs.RoundInputs.{RoundInputs}
use Rattle.sync_product.specs.declared.component_stage.Stage.{Stage}
use Rattle.sync_product.specs.declared.wiring.WiredComponent.{WiredComponent}
use Rattle.sync_product.specs.proof.ComponentWiring.{IsWired}
use Rattle.sync_product.specs.proof.Rounds.{IsStepped, vectors, own_rows, frames_of}
use Rattle.sync_product.proofs.ComponentLists.{slice_get-set_same, entry_at}
use Rattle.plant_fuse.specs.declared.pair_steps.PairedComponent.{PairedComponent}
use Rattle.plant_fuse.specs.declared.design_tables.Tables.{Tables}
use Rattle.plant_fuse.specs.proof.PartnersAndPairLinks.{partner_of, all_partners}
use Rattle.plant_fuse.specs.proof.DesignTables.{AreTables}
use Rattle.plant_fuse.specs.proof.PairSteps.{PairMember, Work, member_of_pair, side_work, AreMade, AreSidesRun}
use Rattle.plant_fuse.specs.proof.RoundWork.{pair_member, IsPaired, HasWork, IsRun, StayBeside, IsRunAlone}
use Rattle.plant_fuse.proofs.TakenElements.{get_set_other}

seat_is : (design : DesignParts) (parts : List Part) (node partner : ℕ) (side : PairedComponent)
    → IsPaired design parts node partner side
    → member_of_pair side ≡ pair_member design node partner side.wired.component.now
seat_is design parts node partner side is =
    ap₂ (λ n ss. let s : PairMember = record { partner = n; component = side.wired.component.now; sources = ss } in s)
    is.partner_is is.wired_is.sources_are

has_work : (design : DesignParts) (parts next : List Part) (stages : List Stage) (node partner : ℕ)
    (side : PairedComponent) (stage : Stage) (part : Part) → IsPaired design parts node partner side
    → part.outs ≡ map (λ port. column port stage.rows) side.wired.taps.now → slice_get next node ≡ Some part
    → slice_get stages node ≡ Some stage
    → HasWork design (frames_of parts) next stages node (side_work side stage part)
has_work design parts next stages node partner side stage part is shows at_part at_stage = record {
  from_is = is.from_is;
  part_is =
      at_part
      ∙ ap (λ (outs : List (List PortValue)). let p : Part = record { frame = part.frame; outs = outs } in Some p)
      (shows ∙ ap (map (λ port. column port stage.rows)) is.wired_is.taps_are);
  rows_are = slice_get-map (λ (s : Stage). s.rows) stages node ∙ ap (option_map (λ (s : Stage). s.rows)) at_stage;
}

pub pair_is_run : (round : RoundInputs) (parts next : List Part) (stages : List Stage) (pair : Pair)
    (plant controller : PairedComponent) (plant_stage controller_stage : Stage) (plant_part controller_part : Part)
    → IsPaired round.design.now parts pair.plant.0 pair.controller.0 plant
    → IsPaired round.design.now parts pair.controller.0 pair.plant.0 controller
    → slice_get next pair.plant.0 ≡ Some plant_part → slice_get next pair.controller.0 ≡ Some controller_part
    → slice_get stages pair.plant.0 ≡ Some plant_stage → slice_get stages pair.controller.0 ≡ Some controller_stage
    → AreSidesRun round plant controller plant_stage controller_stage plant_part controller_part
    → IsRun round (frames_of parts) next stages pair
pair_is_run round parts next stages pair plant controller plant_stage controller_stage plant_part controller_part
    plant_is controller_is at_p at_c at_ps at_cs run =
    let design = round.design.now in
    let p_work = side_work plant plant_stage plant_part in
    let c_work = side_work controller controller_stage controller_part in
    record {
      p = plant.wired.component.now;
      c = controller.wired.component.now;
      p_is = plant_is.wired_is.component_is;
      c_is = controller_is.wired_is.component_is;
      p_work = p_work;
      c_work = c_work;
      p_has =
          has_work design parts next stages pair.plant.0 pair.controller.0 plant plant_stage plant_part plant_is
          run.plant_shows at_p at_ps;
      c_has =
          has_work design parts next stages pair.controller.0 pair.plant.0 controller controller_stage controller_part
          controller_is run.controller_shows at_c at_cs;
      made =
          subst (λ (s : PairMember). AreMade round s
          (pair_member design pair.controller.0 pair.plant.0 controller.wired.component.now)
          plant.wired.component.now.rate
          p_work c_work)
          (seat_is design parts pair.plant.0 pair.controller.0 plant plant_is)
          (subst (λ (s : PairMember). AreMade round (member_of_pair plant) s plant.wired.component.now.rate p_work
          c_work)
          (seat_is design parts pair.controller.0 pair.plant.0 controller controller_is) run.made);
    }

-- ---- what stays
pub work_stays : (design : DesignParts) (frames : List Frame) (parts parts' : List Part) (stages stages' : List Stage)
    (a b node : ℕ) (w : Work) → StayBeside a b parts parts' stages stages' → node ≢ a → node ≢ b
    → HasWork design frames parts stages node w → HasWork design frames parts' stages' node w
work_stays design frames parts parts' stages stages' a b node w stay not_a not_b has = record {
  from_is = has.from_is;
  part_is = stay.parts_stay node not_a not_b ∙ has.part_is;
  rows_are = stay.rows_stay node not_a not_b ∙ has.rows_are;
}

pub run_stays : (round : RoundInputs) (frames : List Frame) (parts parts' : List Part) (stages stages' : List Stage)
    (a b : ℕ) (pair : Pair) → StayBeside a b parts parts' stages stages'
    → pair.plant.0 ≢ a → pair.plant.0 ≢ b → pair.controller.0 ≢ a → pair.controller.0 ≢ b
    → IsRun round frames parts stages pair → IsRun round frames parts' stages' pair
run_stays round frames parts parts' stages stages' a b pair stay p_a p_b c_a c_b run = record {
  p = run.p;
  c = run.c;
  p_is = run.p_is;
  c_is = run.c_is;
  p_work = run.p_work;
  c_work = run.c_work;
  p_has =
      work_stays round.design.now frames parts parts' stages stages' a b pair.plant.0 run.p_work stay p_a p_b run.p_has;
  c_has =
      work_stays round.design.now frames parts parts' stages stages' a b pair.controller.0 run.c_work stay c_a
      c_b run.c_has;
  made = run.made;
}

pub stepped_stays : (round : RoundInputs) (frames : List Frame) (parts parts' : List Part) (stages stages' : List Stage)
    (a b node : ℕ) (c : Component) → StayBeside a b parts parts' stages stages' → node ≢ a → node ≢ b
    → IsStepped round frames parts stages node c → IsStepped round frames parts' stages' node c
stepped_stays round frames parts parts' stages stages' a b node c stay not_a not_b stepped = record {
  part = stay.parts_stay node not_a not_b ∙ stepped.part;
  rows = stay.rows_stay node not_a not_b ∙ stepped.rows;
}

-- ---- a component by itself
pub alone_is_run : (round : RoundInputs) (parts next : List Part) (stages : List Stage) (node : ℕ)
    (wired : WiredComponent) (from : Frame) (part : Part) (stage : Stage) → IsWired round.design.now node wired
    → from ≡ slice_index_or (frames_of parts) node no_frame → node < length next → node < length stages
    → part.frame ≡ frame_after wired.component.now.behaviour from
    (vectors round wired.component.now wired.sources.now)
    → stage.rows ≡ outputs wired.component.now.behaviour from (vectors round wired.component.now wired.sources.now)
    → part.outs ≡ map (λ port. column port stage.rows) wired.taps.now
    → IsRunAlone round (frames_of parts) node next (set next node part) stages (set stages node stage)
alone_is_run round parts next stages node wired from part stage is from_is in_next in_stages frame_is rows_are
    outs_are =
    let c = wired.component.now in
    let rows_is : stage.rows ≡ own_rows round (frames_of parts) node c =
    rows_are ∙ ap₂ (λ (f : Frame) (ss : List PortSource). outputs c.behaviour f (vectors round c ss)) from_is
    is.sources_are in
    record {
      component = c;
      component_is = is.component_is;
      stepped = record {
        part =
            slice_get-set_same next node part in_next
            ∙ ap₂ (λ (f : Frame) (os : List (List PortValue)). let p : Part = record { frame = f; outs = os } in Some p)
            (frame_is ∙ ap₂ (λ (f : Frame) (ss : List PortSource). frame_after c.behaviour f (vectors round c ss))
            from_is is.sources_are)
            (outs_are ∙ ap₂ (λ (rs : List (List PortValue)) (ts : List ℕ). map (λ port. column port rs) ts) rows_is
            is.taps_are);
        rows =
            slice_get-map (λ (s : Stage). s.rows) (set stages node stage) node
            ∙ ap (option_map (λ (s : Stage). s.rows)) (slice_get-set_same stages node stage in_stages)
            ∙ ap Some rows_is;
      };
      others = record {
        parts_stay = λ k not_a not_b. get_set_other next node k part not_a;
        rows_stay = λ k not_a not_b.
            slice_get-map (λ (s : Stage). s.rows) (set stages node stage) k
            ∙ ap (option_map (λ (s : Stage). s.rows)) (get_set_other stages node k stage not_a)
            ∙ sym (slice_get-map (λ (s : Stage). s.rows) stages k);
      };
    }

-- ---- the partner of a component in the tables
pub partner_entry : (design : DesignParts) (pairs : List Pair) (tables : Tables) (node : ℕ) (partner : Option NodeNo)
    → AreTables design pairs tables → node < length design.components
    → partner ≡ slice_index_or tables.partners node partner → partner ≡ partner_of pairs node
partner_entry design pairs tables node partner are within is =
    entry_at tables.partners (all_partners design pairs) node partner (partner_of pairs node) are.partners_are
    (slice_get-map_upwards (partner_of pairs) (length design.components) node within) is
