-- The state of a product after a round.
use Rattle.std.proofs.Common.{◌≡◌, ◌∙◌, ℕ, ◌<◌, inl, inr, Bool, true, false, cond, nat_eq, List, [], ◌∷◌, length, map}
use Rattle.std.proofs.Common.{All, slice_get, slice_index_or, Some, refl, sym, ap, ap₂, arith}
use Rattle.std.specs.Prelude.{filter}
use Rattle.std.proofs.lemmas.Bool.{eqb-true}
use Rattle.std.proofs.lemmas.List.{length-map}
use Rattle.std.proofs.lemmas.List.Elements.{All-head, All-tail}
use Rattle.std.proofs.lemmas.Option.{slice_get_cases, get_or_from_slice_get}
use Rattle.list_lemmas.proofs.ElementPositions.{slice_get-map_some}
use Rattle.list_lemmas.proofs.ListOperations.{same_from_places}
use Rattle.pals_base.specs.declared.basic_types.PortValue.{PortValue}
use Rattle.pals_base.specs.declared.frames.Frame.{Frame}
use Rattle.pals_base.specs.PeriodBoundAndReleases.{sent_steps}
use Rattle.pals_base.specs.StepSequences.{steps, Stepped}
use Rattle.pals_base.specs.Tuples.{column, columns, cut}
use Rattle.pals_base.specs.UpwardNumbers.{upwards}
use Rattle.pals_base.proofs.ColumnsAndCutTuples.{slice_get-columns}
use Rattle.pals_base.proofs.UpwardNumbers.{length-upwards, slice_get-map_upwards}
use Rattle.pals_model.specs.declared.design.Component.{Component}
use Rattle.pals_model.specs.declared.design.Link.{Link}
use Rattle.pals_model.specs.declared.design.Tap.{Tap}
use Rattle.pals_model.specs.declared.design.DesignParts.{DesignParts}
use Rattle.pals_model.specs.declared.part.Part.{Part}
use Rattle.pals_model.specs.ComponentInputs.{inputs_of}
use Rattle.pals_model.specs.PortKindsAndRates.{rate_in, outs_in}
use Rattle.pals_model.specs.DesignRules.{IsDesign, IsLink, IsTap}
use Rattle.pals_model.specs.Composition.{steps_from, no_frame, part_of, taps_of, tuple_in, message_of}
use Rattle.pals_model.proofs.CompositionLaws.{length-steps_from, steps_from-at}
use Rattle.sync_product.specs.declared.round_inputs.RoundInputs.{RoundInputs}
use Rattle.sync_product.specs.declared.component_stage.Stage.{Stage}
use Rattle.sync_product.specs.proof.ProductSizes.{StageSize, stage_size, stage_size_of, stage_sizes}
use Rattle.sync_product.specs.proof.ComponentWiring.{tap_ports}
use Rattle.sync_product.specs.proof.Rounds.{AreStepped, frames_of, own_part, own_rows, sent_by, sent_from}
use Rattle.sync_product.specs.proof.ProductStates.{ProductState, advanced, parts_of}
use Rattle.sync_product.proofs.ComponentLists.{sized_at, count_of_sized}

-- ---- the steps of the composition
abbrev all_of : RoundInputs → List Frame → List Stepped
all_of round frames =
    steps_from round.design.now round.values.now round.messages.now 0 round.design.now.components frames

all-at : (round : RoundInputs) (frames : List Frame) (node : ℕ) (c : Component)
    → length frames ≡ length round.design.now.components → slice_get round.design.now.components node ≡ Some c
    → slice_get (all_of round frames) node
    ≡ Some (steps c.behaviour (slice_index_or frames node no_frame)
    (inputs_of round.design.now round.values.now round.messages.now node c))
all-at round frames node c size is =
    steps_from-at round.design.now round.values.now round.messages.now 0 round.design.now.components frames node node c
    (omega arith) is size

-- ---- what root out ports show
shown_by : (design : DesignParts) (node : ℕ) (c : Component) (rows : List (List PortValue)) (tap : Tap)
    (rest : List Tap) (b : Bool) → nat_eq tap.source.0 node ≡ b → slice_get design.components node ≡ Some c
    → IsTap design tap
    → map (λ port. column port rows) (tap_ports rest node)
    ≡ map (λ (t : Tap). slice_index_or (columns (length c.behaviour.outs) rows) t.out_port [])
    (filter (λ (t : Tap). nat_eq t.source.0 node) rest)
    → map (λ port. column port rows)
    (map (λ (t : Tap). t.out_port)
    (cond b (tap ∷ filter (λ (t : Tap). nat_eq t.source.0 node) rest)
    (filter (λ (t : Tap). nat_eq t.source.0 node) rest)))
    ≡ map (λ (t : Tap). slice_index_or (columns (length c.behaviour.outs) rows) t.out_port [])
    (cond b (tap ∷ filter (λ (t : Tap). nat_eq t.source.0 node) rest)
    (filter (λ (t : Tap). nat_eq t.source.0 node) rest))
shown_by design node c rows tap rest true here is kept later =
    let from = ap outs_in (ap (slice_get design.components) (eqb-true tap.source.0 node here) ∙ is) in
    let within : tap.out_port < length c.behaviour.outs = omega (arith, kept.source.port_is, from) in
    ap₂ (λ x xs. x ∷ xs) (sym
    (get_or_from_slice_get (columns (length c.behaviour.outs) rows) tap.out_port (column tap.out_port rows) []
    (slice_get-columns (length c.behaviour.outs) rows tap.out_port within))) later
shown_by design node c rows tap rest false here is kept later = later

shown : (design : DesignParts) (node : ℕ) (c : Component) (rows : List (List PortValue)) (taps : List Tap)
    → slice_get design.components node ≡ Some c → All (IsTap design) taps
    → map (λ port. column port rows) (tap_ports taps node)
    ≡ map (λ (t : Tap). slice_index_or (columns (length c.behaviour.outs) rows) t.out_port [])
    (filter (λ (t : Tap). nat_eq t.source.0 node) taps)
shown design node c rows [] is kept = refl
shown design node c rows (tap ∷ rest) is kept =
    let later = shown design node c rows rest is (All-tail (IsTap design) tap rest kept) in
    let chosen = nat_eq tap.source.0 node in
    shown_by design node c rows tap rest chosen refl is (All-head (IsTap design) tap rest kept) later

-- ---- parts
own_part-is : (round : RoundInputs) (frames : List Frame) (node : ℕ) (c : Component) → IsDesign round.design.now
    → length frames ≡ length round.design.now.components → slice_get round.design.now.components node ≡ Some c
    → own_part round frames node c ≡ part_of round.design.now (all_of round frames) node
own_part-is round frames node c rules size is =
    let all = all_of round frames in
    let found = all-at round frames node c size is in
    ap₂ (λ (f : Frame) (os : List (List PortValue)). let p : Part = record { frame = f; outs = os } in p)
    (sym (get_or_from_slice_get (map (λ (s : Stepped). s.frame) all) node _ no_frame
    (slice_get-map_some (λ (s : Stepped). s.frame) all node _ found)))
    (shown round.design.now node c (own_rows round frames node c) round.design.now.taps is rules.taps.each
    ∙ sym (ap (λ o. map (λ (tap : Tap). tuple_in o tap.out_port) (taps_of round.design.now node)) found))

standing_parts : (round : RoundInputs) (frames : List Frame) (parts : List Part) (stages : List Stage)
    → IsDesign round.design.now → length frames ≡ length round.design.now.components
    → length parts ≡ length round.design.now.components
    → AreStepped round frames parts stages → parts ≡ parts_of round.design.now (all_of round frames)
standing_parts round frames parts stages rules size count stepped =
    let design = round.design.now in
    let made = part_of design (all_of round frames) in
    let many : length (map made (upwards 0 (length design.components))) ≡ length design.components =
    length-map (upwards 0 (length design.components)) made ∙ length-upwards 0 (length design.components) in
    same_from_places parts (map made (upwards 0 (length design.components))) (omega arith)
    (λ k within.
    elim (slice_get_cases design.components k).1 [
      | inl found ↦
          (stepped k found.0 found.2).part
          ∙ ap Some (own_part-is round frames k found.0 rules size found.2)
          ∙ sym (slice_get-map_upwards made (length design.components) k found.1)
      | inr past ↦ absurd (omega (arith, past.0))
    ])

standing_frames : (round : RoundInputs) (frames : List Frame) (parts : List Part) (stages : List Stage)
    → length frames ≡ length round.design.now.components → length parts ≡ length round.design.now.components
    → AreStepped round frames parts stages → frames_of parts ≡ map (λ (s : Stepped). s.frame) (all_of round frames)
standing_frames round frames parts stages size count stepped =
    let design = round.design.now in
    let all = all_of round frames in
    let ours = length-map parts (λ (p : Part). p.frame) in
    let theirs = length-map all (λ (s : Stepped). s.frame) in
    let made = length-steps_from design round.values.now round.messages.now 0 design.components frames size in
    same_from_places (frames_of parts) (map (λ (s : Stepped). s.frame) all) (omega arith)
    (λ k within.
    elim (slice_get_cases design.components k).1 [
      | inl found ↦
          slice_get-map_some (λ (p : Part). p.frame) parts k _ (stepped k found.0 found.2).part
          ∙ sym (slice_get-map_some (λ (s : Stepped). s.frame) all k _ (all-at round frames k found.0 size found.2))
      | inr past ↦ absurd (omega (arith, past.0))
    ])

-- ---- messages
message_is : (round : RoundInputs) (frames : List Frame) (parts : List Part) (stages : List Stage) (link : Link)
    → length frames ≡ length round.design.now.components
    → AreStepped round frames parts stages → map stage_size stages ≡ stage_sizes round.design.now
    → IsLink round.design.now link
    → sent_by stages link ≡ message_of round.design.now (all_of round frames) link
message_is round frames parts stages link size stepped fit kept =
    let design = round.design.now in
    let source = link.source.0 in
    let port = link.out_port in
    let rooms = count_of_sized stage_size stages (stage_sizes design) fit in
    let many =
    length-map design.components
    (λ (d : Component). stage_size_of (sent_steps design.gamma design.period d.rate) d) in
    elim (slice_get_cases design.components source).1 [
      | inl found ↦
          elim (slice_get_cases stages source).1 [
            | inl staged ↦
                let c = found.0 in
                let stage = staged.0 in
                let rows = own_rows round frames source c in
                let sent = sent_steps design.gamma design.period c.rate in
                let rows_are : Some stage.rows ≡ Some rows =
                sym (slice_get-map_some (λ (s : Stage). s.rows) stages source stage staged.2)
                ∙ (stepped source c found.2).rows in
                let same : stage.rows ≡ rows = cc in
                let room = sized_at stage_size stages (stage_sizes design) source stage (stage_size_of sent c) fit
                (slice_get-map_some (λ (d : Component). stage_size_of (sent_steps design.gamma design.period d.rate) d)
                design.components source c found.2) (sym staged.3) in
                let within : port < length c.behaviour.outs = omega (arith, kept.source.port_is, ap outs_in found.2) in
                let tuple =
                get_or_from_slice_get (columns (length c.behaviour.outs) rows) port (column port rows) []
                (slice_get-columns (length c.behaviour.outs) rows port within) in
                ap (λ o. sent_from o port) staged.2
                ∙ ap (λ n. cut n (column port stage.rows)) (ap (λ (s : StageSize). s.sent) room)
                ∙ ap (λ rs. cut sent (column port rs)) same
                ∙ sym
                (ap (λ o. cut (sent_steps design.gamma design.period (rate_in o))
                (tuple_in (slice_get (all_of round frames) source) port)) found.2
                ∙ ap (λ o. cut sent (tuple_in o port)) (all-at round frames source c size found.2)
                ∙ ap (cut sent) tuple)
            | inr past ↦ absurd (omega (arith, past.0, kept.source.node_is))
          ]
      | inr past ↦ absurd (omega (arith, past.0, kept.source.node_is))
    ]

standing_messages : (round : RoundInputs) (frames : List Frame) (parts : List Part) (stages : List Stage)
    (links : List Link) → length frames ≡ length round.design.now.components
    → AreStepped round frames parts stages → map stage_size stages ≡ stage_sizes round.design.now
    → All (IsLink round.design.now) links
    → map (sent_by stages) links ≡ map (message_of round.design.now (all_of round frames)) links
standing_messages round frames parts stages [] size stepped fit kept = refl
standing_messages round frames parts stages (link ∷ links) size stepped fit kept =
    ap₂ (λ m ms. m ∷ ms)
    (message_is round frames parts stages link size stepped fit (All-head (IsLink round.design.now) link links kept))
    (standing_messages round frames parts stages links size stepped fit
    (All-tail (IsLink round.design.now) link links kept))

-- ---- the whole
abbrev pub standing : DesignParts → List Frame → List (List PortValue) → List Part → ProductState
standing design frames messages parts =
    record { design = design; configuration = record { frames = frames; messages = messages }; parts = parts }

pub advanced-by : (round : RoundInputs) (before next : List Part) (stages : List Stage)
    (messages : List (List PortValue)) → IsDesign round.design.now
    → length before ≡ length round.design.now.components → length next ≡ length round.design.now.components
    → AreStepped round (frames_of before) next stages → map stage_size stages ≡ stage_sizes round.design.now
    → messages ≡ map (sent_by stages) round.design.now.links
    → standing round.design.now (frames_of next) messages next
    ≡ advanced (standing round.design.now (frames_of before) round.messages.now before) round.values.now
advanced-by round before next stages messages rules size count stepped fit are =
    let design = round.design.now in
    let frames = frames_of before in
    let framed : length frames ≡ length design.components = length-map before (λ (p : Part). p.frame) ∙ size in
    ap (λ fs. standing design fs messages next) (standing_frames round frames next stages framed count stepped)
    ∙ ap (λ ms. standing design (map (λ (s : Stepped). s.frame) (all_of round frames)) ms next)
    (are ∙ standing_messages round frames next stages design.links framed stepped fit rules.links.each)
    ∙ ap (standing design (map (λ (s : Stepped). s.frame) (all_of round frames))
    (map (message_of design (all_of round frames)) design.links))
    (standing_parts round frames next stages rules framed count stepped)
