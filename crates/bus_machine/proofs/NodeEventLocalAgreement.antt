-- Each event of a node preserves the agreement of that node with the composition.
use Rattle.std.proofs.Common.{◌≡◌, inl, inr, ℕ, zero, suc, ◌+◌, ◌-◌, ◌<◌, ◌≤◌, nat_eq, Bool, true, false, List, [], ◌∷◌}
use Rattle.std.proofs.Common.{◌++◌, length, map, replicate, slice_get, Some, None, refl, sym, ap, ap₂, ◌∙◌, subst}
use Rattle.std.proofs.Common.{arith, add-one, length-append}
use Rattle.std.specs.Prelude.{nat_lt, nat_le, not, slice_index_or, if◌then◌else◌}
use Rattle.std.specs.Option.{option_map_or}
use Rattle.std.proofs.lemmas.List.{length-map}
use Rattle.std.proofs.lemmas.Simd.{map-map}
use Rattle.std.proofs.lemmas.Bool.{eqb-true, eqb-false, ltb-true, ltb-false, leb-true, cases_lt, and_parts, not-true}
use Rattle.std.proofs.lemmas.Bool.{false≢true}
use Rattle.std.proofs.lemmas.Option.{slice_get-get_or}
use Rattle.pals_base.specs.declared.basic_types.PortValue.{PortValue}
use Rattle.pals_base.specs.declared.basic_types.PortValue.TheVariants.{Absent}
use Rattle.pals_base.specs.declared.frames.Frame.{Frame}
use Rattle.pals_base.specs.SingleStep.{fire}
use Rattle.pals_base.specs.StepSequences.{Stepped}
use Rattle.pals_base.specs.Tuples.{cut, with_places}
use Rattle.pals_base.specs.UpwardNumbers.{upwards}
use Rattle.pals_base.specs.PeriodBoundAndReleases.{sent_steps}
use Rattle.pals_base.proofs.UpwardNumbers.{map_upwards_more}
use Rattle.pals_model.specs.declared.design.Component.{Component}
use Rattle.pals_model.specs.declared.design.Link.{Link}
use Rattle.pals_model.specs.declared.design.Tap.{Tap}
use Rattle.pals_model.specs.declared.part.Part.{Part}
use Rattle.pals_model.specs.ComponentInputs.{values_at, input_vectors}
use Rattle.pals_model.specs.Composition.{comp, state, msg, part, taps_of, partial_steps}
use Rattle.pals_model.specs.proof.CompositionLaws.{own_steps}
use Rattle.pals_model.specs.proof.CompositionLaws.PartialRounds.{stepped_on}
use Rattle.pals_model.specs.DesignRules.{IsDesign}
use Rattle.pals_model.proofs.PartialRounds.{round_begins, round_goes_on, round_ends}
use Rattle.pals_model.proofs.ShapeLaws.{feed_has_vectors}
use Rattle.pals_model.proofs.CompositionLaws.{state_goes_on, message_from_source, part_from_steps}
use Rattle.pals_runs.specs.declared.phase.Phase.{Phase}
use Rattle.pals_runs.specs.declared.phase.Phase.TheVariants.{Waiting, Running, Between, Holding, Done}
use Rattle.bus_machine.specs.declared.plan.Plan.{Plan}
use Rattle.bus_machine.specs.Plans.{plan_for}
use Rattle.bus_machine.specs.Nodes.{NodeState, at_rest, finished_steps}
use Rattle.bus_machine.specs.NodeEvents.{missing, started, stepped, fired, finished, part_left, after_round, may_send}
use Rattle.bus_machine.specs.NodeEvents.{sent_from, after_send, message_from}
use Rattle.bus_machine.specs.RunParameters.{Run}
use Rattle.bus_machine.specs.Agreement.{IsAtRest, IsUnderWay, IsInRound, IsHeld, PhaseAgrees, PartsAgree, NodeAgrees}
use Rattle.bus_machine.specs.Agreement.{reached}
use Rattle.bus_machine.proofs.ListsAndOldestCopies.{cut_places}
use Rattle.bus_machine.proofs.InputAgreement.{SlotsAgree, vectors_agree}

abbrev as_stepped : Frame → List (List PortValue) → Stepped
as_stepped frame tuples = record { frame = frame; tuples = tuples }

abbrev as_part : Frame → List (List PortValue) → Part
as_part frame outs = record { frame = frame; outs = outs }

-- ---- Start
pub starts : (run : Run) (node : ℕ) (c : Component) (n : NodeState) → slice_get run.design.components node ≡ Some c
    → 1 ≤ c.rate → NodeAgrees run node c n → SlotsAgree run node n → n.phase ≡ Waiting
    → missing (plan_for run.design node c) n ≡ None
    → NodeAgrees run node c (started (plan_for run.design node c) (values_at run.env n.count) n)
starts run node c n is_c rate agree slots waits none =
    let phase = subst (PhaseAgrees run node c n) waits agree.phase in
    let rest = phase.0 in
    let begins : partial_steps run.design run.env node n.count c 0 ≡ record {
      frame =
          state run.design run.env node n.count;
      tuples = replicate (length c.behaviour.outs) (replicate c.rate Absent);
    } =
    round_begins run.design run.env node n.count c in
    record {
      phase = record {
        within = rate;
        under_way = record {
          round = n.count;
          count = add-one n.count;
          reached =
              ap (λ f. as_stepped f (replicate (length c.behaviour.outs) (replicate c.rate Absent))) rest.frame
              ∙ sym begins;
          vectors = vectors_agree run node c n is_c slots agree.slots none;
        };
        finished = ap suc rest.finished ∙ sym (add-one n.count);
      };
      parts = agree.parts;
      rounds = omega (arith, phase.1);
      slots = length-map n.slots _ ∙ agree.slots;
    }

-- ---- Step
pub steps_on : (run : Run) (node : ℕ) (c : Component) (n : NodeState) (steps : ℕ) → NodeAgrees run node c n
    → n.phase ≡ Between steps → NodeAgrees run node c (stepped steps n)
steps_on run node c n steps agree between =
    let phase = subst (PhaseAgrees run node c n) between agree.phase in
    let round = phase.0 in
    record {
      phase = record {
        within = round.within;
        under_way =
            record {
              round = round.under_way.round;
              count = round.under_way.count;
              reached = round.under_way.reached;
              vectors = round.under_way.vectors;
            };
        finished = round.finished;
      };
      parts = agree.parts;
      rounds = agree.rounds;
      slots = agree.slots;
    }

-- ---- Finish
-- the round of a node that runs goes one step further
one_further : (run : Run) (node : ℕ) (c : Component) (n : NodeState) (step : ℕ)
    → slice_get run.design.components node ≡ Some c → IsDesign run.design → step < c.rate
    → (w : IsUnderWay run node c n step)
    → stepped_on c.behaviour step (slice_index_or n.vectors step []) (reached n)
    ≡ partial_steps run.design run.env node w.round c (suc step)
one_further run node c n step is_c design within w =
    let vectors = input_vectors run.design run.env (comp run.design run.env w.round).messages node w.round in
    let count : length vectors ≡ c.rate =
    (feed_has_vectors run.design run.env (comp run.design run.env w.round).messages node w.round c is_c).count in
    let is : slice_get vectors step ≡ Some (slice_index_or n.vectors step []) =
    slice_get-get_or vectors step [] (omega arith) ∙ ap (λ vs. Some (slice_index_or vs step [])) (sym w.vectors) in
    ap (stepped_on c.behaviour step (slice_index_or n.vectors step [])) w.reached
    ∙ sym (round_goes_on run.design run.env node w.round c step (slice_index_or n.vectors step []) design is_c is)

-- what the last step leaves
ended : (run : Run) (node : ℕ) (c : Component) (n : NodeState) (step : ℕ)
    → slice_get run.design.components node ≡ Some c → IsDesign run.design → step < c.rate → c.rate ≤ step + 1
    → (w : IsUnderWay run node c n step)
    → stepped_on c.behaviour step (slice_index_or n.vectors step []) (reached n)
    ≡ own_steps run.design run.env node w.round c
ended run node c n step is_c design within last w =
    let all : suc step ≡ c.rate = omega arith in
    one_further run node c n step is_c design within w ∙ ap (partial_steps run.design run.env node w.round c) all
    ∙ round_ends run.design run.env node w.round c is_c

part_ends : (run : Run) (node : ℕ) (c : Component) (n : NodeState) (step : ℕ)
    (is_c : slice_get run.design.components node ≡ Some c) (w : IsUnderWay run node c n step)
    → stepped_on c.behaviour step (slice_index_or n.vectors step []) (reached n)
    ≡ own_steps run.design run.env node w.round c
    → part_left (plan_for run.design node c) (fired (plan_for run.design node c) step n)
    (with_places step (fired (plan_for run.design node c) step n).outs n.outs)
    ≡ part run.design run.env node w.round
part_ends run node c n step is_c w all =
    ap₂ as_part
    (ap (λ (s : Stepped). s.frame) all)
    (map-map (λ port. slice_index_or (stepped_on c.behaviour step (slice_index_or n.vectors step []) (reached n)).tuples
    port []) (λ (tap : Tap). tap.out_port) (taps_of run.design node)
    ∙ ap (λ (s : Stepped). map (λ (tap : Tap). slice_index_or s.tuples tap.out_port []) (taps_of run.design node)) all)
    ∙ sym (part_from_steps run.design run.env node w.round c is_c)

parts_more : (run : Run) (node : ℕ) (n : NodeState) (p : Part) → PartsAgree run node n
    → p ≡ part run.design run.env node (length n.parts)
    → n.parts ++ p ∷ [] ≡ map (λ round. part run.design run.env node round) (upwards 0 (length (n.parts ++ p ∷ [])))
parts_more run node n p agree is =
    let f : ℕ → Part = λ round. part run.design run.env node round in
    let count : length n.parts + 1 ≡ length (n.parts ++ p ∷ []) = sym (length-append n.parts (p ∷ [])) in
    ap₂ (λ ps q. ps ++ q ∷ []) agree is ∙ sym (map_upwards_more f (length n.parts))
    ∙ ap (λ k. map f (upwards 0 k)) count

rest_agrees : (run : Run) (node : ℕ) (c : Component) (n : NodeState) (b : Bool) → IsAtRest run node n
    → n.count ≤ run.rounds → nat_eq n.count run.rounds ≡ b → PhaseAgrees run node c n (at_rest b)
rest_agrees run node c n true rest most is = (rest, eqb-true n.count run.rounds is)
rest_agrees run node c n false rest most is = (
  rest,
  (let not_all = eqb-false n.count run.rounds is in
      elim (cases_lt n.count run.rounds) [ inl below ↦ below | inr past ↦ absurd (not_all (omega arith)) ]),
)

-- the node after a step that is not the last, and after the last one
abbrev between_steps : Plan → ℕ → NodeState → NodeState
between_steps plan step n =
    record n {
      frame = (fired plan step n).frame;
      outs = with_places step (fired plan step n).outs n.outs;
      phase = Between (step + 1);
    }

abbrev round_ended : Plan → ℕ → ℕ → NodeState → NodeState
round_ended plan rounds step n = record n {
  frame = (fired plan step n).frame;
  outs = with_places step (fired plan step n).outs n.outs;
  phase = after_round rounds n;
  parts = n.parts ++ part_left plan (fired plan step n) (with_places step (fired plan step n).outs n.outs) ∷ [];
}

goes_between : (run : Run) (node : ℕ) (c : Component) (n : NodeState) (step : ℕ)
    → slice_get run.design.components node ≡ Some c → IsDesign run.design → NodeAgrees run node c n
    → IsInRound run node c n step → step + 1 < c.rate
    → NodeAgrees run node c (between_steps (plan_for run.design node c) step n)
goes_between run node c n step is_c design agree round more =
    let w = round.under_way in
    record {
      phase = (
        record {
          within = more;
          under_way = record {
            round = w.round;
            count = w.count;
            reached =
                one_further run node c n step is_c design round.within w
                ∙ ap (partial_steps run.design run.env node w.round c) (sym (add-one step));
            vectors = w.vectors;
          };
          finished = round.finished;
        },
        omega arith,
      );
      parts = agree.parts;
      rounds = agree.rounds;
      slots = agree.slots;
    }

-- the phase after the last step, by whether the round is sent
phase_ends : (run : Run) (node : ℕ) (c : Component) (n : NodeState) (m : NodeState) (sent : Bool) → m.count ≡ n.count
    → n.count ≤ run.rounds → (sent ≡ true → IsAtRest run node m) → (sent ≡ false → IsHeld run node c m)
    → PhaseAgrees run node c m (if sent then at_rest (nat_eq n.count run.rounds) else Holding)
phase_ends run node c n m true same most rests holds =
    rest_agrees run node c m (nat_eq n.count run.rounds) (rests refl) (omega arith)
    (ap (λ count. nat_eq count run.rounds) same)
phase_ends run node c n m false same most rests holds = holds refl

goes_to_end : (run : Run) (node : ℕ) (c : Component) (n : NodeState) (step : ℕ)
    → slice_get run.design.components node ≡ Some c → IsDesign run.design → NodeAgrees run node c n
    → IsInRound run node c n step → c.rate ≤ step + 1
    → NodeAgrees run node c (round_ended (plan_for run.design node c) run.rounds step n)
goes_to_end run node c n step is_c design agree round last =
    let w = round.under_way in
    let after = round_ended (plan_for run.design node c) run.rounds step n in
    let all = ended run node c n step is_c design round.within last w in
    let every : suc step ≡ c.rate = let below = round.within in omega arith in
    let left =
    part_left (plan_for run.design node c) (fired (plan_for run.design node c) step n)
    (with_places step (fired (plan_for run.design node c) step n).outs n.outs) in
    let size : length (n.parts ++ left ∷ []) ≡ n.count = length-append n.parts (left ∷ []) ∙ add-one (length n.parts)
    ∙ round.finished in
    let here : w.round ≡ length n.parts = let one = round.finished in let two = w.count in omega arith in
    let frame : after.frame ≡ state run.design run.env node n.count = ap (λ (s : Stepped). s.frame) all
    ∙ sym (state_goes_on run.design run.env node w.round c is_c)
    ∙ ap (state run.design run.env node) (sym w.count) in
    let held : IsUnderWay run node c after c.rate = record {
      round = w.round;
      count = w.count;
      reached =
          one_further run node c n step is_c design round.within w
          ∙ ap (partial_steps run.design run.env node w.round c) every;
      vectors = w.vectors;
    } in
    record {
      phase =
          phase_ends run node c n after n.sent refl agree.rounds
          (λ sent. record { finished = size; frame = frame; sent = sent })
          (λ unsent. record { under_way = held; finished = size; sent = unsent });
      parts =
          parts_more run node n left agree.parts
          (part_ends run node c n step is_c w all ∙ ap (part run.design run.env node) here);
      rounds = agree.rounds;
      slots = agree.slots;
    }

finishes_by : (run : Run) (node : ℕ) (c : Component) (n : NodeState) (step : ℕ) (b : Bool)
    → slice_get run.design.components node ≡ Some c → IsDesign run.design → NodeAgrees run node c n
    → IsInRound run node c n step → nat_lt (step + 1) c.rate ≡ b
    → NodeAgrees run node c (if b then between_steps (plan_for run.design node c) step n else round_ended
    (plan_for run.design node c) run.rounds step n)
finishes_by run node c n step true is_c design agree round more =
    goes_between run node c n step is_c design agree round (ltb-true (step + 1) c.rate more)
finishes_by run node c n step false is_c design agree round last =
    goes_to_end run node c n step is_c design agree round (ltb-false (step + 1) c.rate last)

pub finishes : (run : Run) (node : ℕ) (c : Component) (n : NodeState) (step : ℕ)
    → slice_get run.design.components node ≡ Some c → IsDesign run.design → NodeAgrees run node c n
    → n.phase ≡ Running step
    → NodeAgrees run node c (finished (plan_for run.design node c) run.rounds step n)
finishes run node c n step is_c design agree runs =
    finishes_by run node c n step (nat_lt (step + 1) c.rate) is_c design agree
    (subst (PhaseAgrees run node c n) runs agree.phase) refl

kept : (b : Bool) (n x y : NodeState) → x.count ≡ n.count → y.count ≡ n.count → x.slots ≡ n.slots → y.slots ≡ n.slots
    → x.sent ≡ n.sent → y.sent ≡ n.sent
    → ((if b then x else y).count ≡ n.count) × ((if b then x else y).slots ≡ n.slots)
    × ((if b then x else y).sent ≡ n.sent)
kept true n x y a b c d e f = (a, c, e)
kept false n x y a b c d e f = (b, d, f)

-- a finish changes neither the count nor the slots, nor whether the round is sent
pub finish_keeps : (plan : Plan) (rounds step : ℕ) (n : NodeState)
    → ((finished plan rounds step n).count ≡ n.count) × ((finished plan rounds step n).slots ≡ n.slots)
    × ((finished plan rounds step n).sent ≡ n.sent)
finish_keeps plan rounds step n =
    kept (nat_lt (step + 1) plan.rate) n (between_steps plan step n) (round_ended plan rounds step n) refl refl refl
    refl refl refl

-- ---- Send
sends_from : (run : Run) (node : ℕ) (c : Component) (n : NodeState) (p : Phase)
    → slice_get run.design.components node ≡ Some c → n.count ≤ run.rounds → PhaseAgrees run node c n p
    → PhaseAgrees run node c (sent_from run.rounds n) (after_send n.count run.rounds p)
sends_from run node c n Waiting is_c most agree =
    (record { finished = agree.0.finished; frame = agree.0.frame; sent = refl }, agree.1)
sends_from run node c n (Running step) is_c most agree =
    let w = agree.under_way in
    record {
      within = agree.within;
      under_way = record { round = w.round; count = w.count; reached = w.reached; vectors = w.vectors };
      finished = agree.finished;
    }
sends_from run node c n (Between steps) is_c most agree =
    let w = agree.0.under_way in (
      record {
        within = agree.0.within;
        under_way = record { round = w.round; count = w.count; reached = w.reached; vectors = w.vectors };
        finished = agree.0.finished;
      },
      agree.1,
    )
sends_from run node c n Holding is_c most agree =
    let w = agree.under_way in
    let frame : n.frame ≡ state run.design run.env node n.count =
    ap (λ (s : Stepped). s.frame) (w.reached ∙ round_ends run.design run.env node w.round c is_c)
    ∙ sym (state_goes_on run.design run.env node w.round c is_c)
    ∙ ap (state run.design run.env node) (sym w.count) in
    rest_agrees run node c (sent_from run.rounds n) (nat_eq n.count run.rounds)
    (record { finished = agree.finished; frame = frame; sent = refl }) most refl
sends_from run node c n Done is_c most agree =
    (record { finished = agree.0.finished; frame = agree.0.frame; sent = refl }, agree.1)

pub sends : (run : Run) (node : ℕ) (c : Component) (n : NodeState) → slice_get run.design.components node ≡ Some c
    → NodeAgrees run node c n → NodeAgrees run node c (sent_from run.rounds n)
sends run node c n is_c agree =
    record {
      phase = sends_from run node c n n.phase is_c agree.rounds agree.phase;
      parts = agree.parts;
      rounds = agree.rounds;
      slots = agree.slots;
    }

-- where a send is allowed, `steps` steps of a round are finished
pub record MaySend (run : Run) (node : ℕ) (c : Component) (n : NodeState) : Type 0 where
  pub steps : ℕ
  pub enough : sent_steps run.design.gamma run.design.period c.rate ≤ steps
  pub within : steps ≤ c.rate
  pub under_way : IsUnderWay run node c n steps
  pub unsent : n.sent ≡ false

enough_steps : (run : Run) (node : ℕ) (c : Component) (n : NodeState) (p : Phase) → PhaseAgrees run node c n p
    → option_map_or (nat_le (sent_steps run.design.gamma run.design.period c.rate)) (finished_steps c.rate p) false
    ≡ true → n.sent ≡ false → MaySend run node c n
enough_steps run node c n Waiting agree some unsent = absurd (false≢true some)
enough_steps run node c n (Running step) agree some unsent =
    record {
      steps = step;
      enough = leb-true _ _ some;
      within = (let below = agree.within in omega arith);
      under_way = agree.under_way;
      unsent = unsent;
    }
enough_steps run node c n (Between steps) agree some unsent =
    record {
      steps = steps;
      enough = leb-true _ _ some;
      within = (let below = agree.0.within in omega arith);
      under_way = agree.0.under_way;
      unsent = unsent;
    }
enough_steps run node c n Holding agree some unsent =
    record {
      steps = c.rate;
      enough = leb-true _ _ some;
      within = omega arith;
      under_way = agree.under_way;
      unsent = unsent;
    }
enough_steps run node c n Done agree some unsent = absurd (false≢true some)

pub may_send_of : (run : Run) (node : ℕ) (c : Component) (n : NodeState) → NodeAgrees run node c n
    → may_send (plan_for run.design node c) n ≡ true → MaySend run node c n
may_send_of run node c n agree may =
    let parts =
    and_parts (not n.sent) (option_map_or (nat_le (sent_steps run.design.gamma run.design.period c.rate))
    (finished_steps c.rate n.phase) false) may in
    enough_steps run node c n n.phase agree.phase parts.1 (not-true n.sent parts.0)

-- the places that are sent do not change in later steps
later_places : (run : Run) (node round : ℕ) (c : Component) (count port left steps : ℕ)
    → slice_get run.design.components node ≡ Some c → IsDesign run.design → count ≤ steps → steps + left ≡ c.rate
    → cut count (slice_index_or (partial_steps run.design run.env node round c steps).tuples port [])
    ≡ cut count (slice_index_or (partial_steps run.design run.env node round c c.rate).tuples port [])
later_places run node round c count port zero steps is_c design below all =
    let same : steps ≡ c.rate = omega arith in
    ap (λ k. cut count (slice_index_or (partial_steps run.design run.env node round c k).tuples port [])) same
later_places run node round c count port (suc left) steps is_c design below all =
    let vectors = input_vectors run.design run.env (comp run.design run.env round).messages node round in
    let inputs = slice_index_or vectors steps [] in
    let size : length vectors ≡ c.rate =
    (feed_has_vectors run.design run.env (comp run.design run.env round).messages node round c is_c).count in
    let is : slice_get vectors steps ≡ Some inputs = slice_get-get_or vectors steps [] (omega arith) in
    let before = partial_steps run.design run.env node round c steps in
    sym (cut_places count steps (fire c.behaviour before.frame inputs).outs before.tuples port below)
    ∙ ap (λ (s : Stepped). cut count (slice_index_or s.tuples port []))
    (sym (round_goes_on run.design run.env node round c steps inputs design is_c is))
    ∙ later_places run node round c count port left (suc steps) is_c design (omega arith) (omega arith)

pub sends_message : (run : Run) (node number : ℕ) (link : Link) (c : Component) (n : NodeState)
    → slice_get run.design.components node ≡ Some c → IsDesign run.design
    → slice_get run.design.links number ≡ Some link → link.source.0 ≡ node
    → (m : MaySend run node c n)
    → message_from (plan_for run.design node c) n link.out_port ≡ msg run.design run.env number m.under_way.round
sends_message run node number link c n is_c design is source m =
    let w = m.under_way in
    let count = sent_steps run.design.gamma run.design.period c.rate in
    let is_c' : slice_get run.design.components link.source.0 ≡ Some c =
    ap (slice_get run.design.components) source ∙ is_c in
    let all : m.steps + (c.rate - m.steps) ≡ c.rate = let within = m.within in omega arith in
    ap (λ (s : Stepped). cut count (slice_index_or s.tuples link.out_port [])) w.reached
    ∙ later_places run node w.round c count link.out_port (c.rate - m.steps) m.steps is_c design m.enough all
    ∙ ap (λ (s : Stepped). cut count (slice_index_or s.tuples link.out_port []))
    (round_ends run.design run.env node w.round c is_c)
    ∙ ap (λ j. cut count (slice_index_or (own_steps run.design run.env j w.round c).tuples link.out_port []))
    (sym source)
    ∙ sym (message_from_source run.design run.env number w.round link c is is_c')
