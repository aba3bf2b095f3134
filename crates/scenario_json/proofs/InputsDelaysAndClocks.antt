-- The parsed inputs, delays and clocks of a scenario satisfy the invariants that their parsers check.
use Rattle.std.proofs.Common.{◌≡◌, ℕ, ◌<◌, ◌≤◌, ◌+◌, ◌-◌, Bool, true, false, cond, List, [], ◌∷◌, ◌++◌, length}
use Rattle.std.proofs.Common.{replicate, Ok, All, refl, ◌∙◌, subst, arith, codes, decimal, length-append, lit<}
use Rattle.std.specs.Prelude.{nat_lt, slice_set}
use Rattle.std.specs.List.Sorted.{IsNonDecreasing}
use Rattle.std.proofs.lemmas.Bool.Decides.{nat_tests}
use Rattle.std.proofs.lemmas.Grind.{common_steps}
use Rattle.std.proofs.lemmas.List.{length-set}
use Rattle.std.proofs.lemmas.List.Elements.{All-nil, All-push, All-set, All-replicate}
use Rattle.serde_json.specs.Data.{Data}
use Rattle.pals_base.specs.declared.limits.TheConstants.{HOUR, READING, LIST_ITEMS}
use Rattle.pals_base.specs.declared.basic_types.PortValue.{PortValue}
use Rattle.pals_clock.specs.ClockStates.{ClockState, unpicked}
use Rattle.pals_clock.specs.declared.clock.Clocks.{Clocks}
use Rattle.pals_clock.specs.declared.clock.Clocks.TheVariants.{Meet, Lists}
use Rattle.pals_model.specs.declared.design.DesignParts.{DesignParts}
use Rattle.pals_model.specs.ComponentInputs.{root_inputs}
use Rattle.pals_model.specs.PortKindsAndRates.{root_kind}
use Rattle.scenario_values.specs.declared.fault.ScenarioFault.TheVariants.{OutOfRange}
use Rattle.scenario_values.specs.ResultCombinators.{◌>>=◌, only_if, through}
use Rattle.scenario_values.specs.FaultPlaces.{inside}
use Rattle.scenario_values.specs.FieldValues.{elements, entries, short_list, whole}
use Rattle.scenario_values.proofs.SuccessfulResults.{ok_same, ok_bind, ok_only_if, through_keeps, whole_within}
use Rattle.scenario_values.specs.NameLookup.{node_at, link_at, root_at}
use Rattle.scenario_json.specs.InputsAndDelays.{value_list, with_input, inputs_in, with_delay, delay_list}
use Rattle.scenario_json.specs.InputsAndDelays.{with_link_delays, delays_in}
use Rattle.scenario_json.specs.Clocks.{last_of, with_reading, reading_list, with_clock, clock_lists, is_meet, clocks_in}
use Rattle.scenario_json.specs.proof.InputsDelaysAndClocks.{AreInputsOf, IsDelayList, AreDelaysOf, IsUnpickedClock}
use Rattle.scenario_json.specs.proof.InputsDelaysAndClocks.{AreClocksOf, AreClocksFor}
use Rattle.scenario_json.proofs.NonDecreasingReadings.{order_push}

-- ---- inputs
input_keeps : (design : DesignParts) (lists : List (List PortValue)) (entry : List ℕ × Data)
    (more : List (List PortValue)) → AreInputsOf design lists → with_input design lists entry ≡ Ok more
    → AreInputsOf design more
unfolding with_input
input_keeps design lists entry more keeps e =
    let place = inside (codes "inputs") entry.0 in
    let kind = root_kind design entry.0 in
    let root =
    ok_bind (root_at place design entry.0)
    (λ root. value_list kind place entry.1 >>= λ values. Ok (slice_set lists root values)) more e in
    let values = ok_bind (value_list kind place entry.1) (λ values. Ok (slice_set lists root.0 values)) more root.2 in
    subst (AreInputsOf design) (ok_same (slice_set lists root.0 values.0) more values.2)
    (length-set lists root.0 values.0 ∙ keeps)

pub no_inputs_keep : (design : DesignParts) → AreInputsOf design (replicate (length (root_inputs design)) [])
no_inputs_keep design = grind (arith, common_steps)

pub inputs_keep : (design : DesignParts) (d : Data) (lists : List (List PortValue)) → inputs_in design d ≡ Ok lists
    → AreInputsOf design lists
unfolding inputs_in
inputs_keep design d lists e =
    let first = replicate (length (root_inputs design)) [] in
    let members = ok_bind (entries (codes "inputs") d) (λ es. through (with_input design) first es) lists e in
    through_keeps (AreInputsOf design) (with_input design) (input_keeps design) first members.0 lists
    (no_inputs_keep design) members.2

-- ---- delays
within_more : (place : List ℕ) (delays : List ℕ) (d : Data) (more : List ℕ) → All (λ n. n ≤ HOUR) delays
    → with_delay place delays d ≡ Ok more → All (λ n. n ≤ HOUR) more
within_more place delays d more keeps e =
    let at = inside place (decimal (length delays)) in
    let read = ok_bind (whole at 0 HOUR d) (λ n. Ok (delays ++ n ∷ [])) more e in
    let P : List ℕ → Type 0 = λ ds. All (λ n. n ≤ HOUR) ds in
    subst P (ok_same (delays ++ read.0 ∷ []) more read.2)
    (All-push (λ n. n ≤ HOUR) delays read.0 keeps (whole_within at 0 HOUR d read.0 read.1).1)

some_more : (place : List ℕ) (delays : List ℕ) (d : Data) (more : List ℕ) → with_delay place delays d ≡ Ok more
    → 0 < length more
some_more place delays d more e =
    let at = inside place (decimal (length delays)) in
    let read = ok_bind (whole at 0 HOUR d) (λ n. Ok (delays ++ n ∷ [])) more e in
    let P : List ℕ → Type 0 = λ ds. 0 < length ds in
    subst P (ok_same (delays ++ read.0 ∷ []) more read.2) (simp length-append (omega arith))

some_read : (place : List ℕ) (ds : List Data) (delays : List ℕ) → 0 < length ds
    → through (with_delay place) [] ds ≡ Ok delays → 0 < length delays
some_read place [] delays some e = absurd (omega arith)
some_read place (d ∷ ds) delays some e =
    let first = ok_bind (with_delay place [] d) (λ next. through (with_delay place) next ds) delays e in
    through_keeps (λ xs. 0 < length xs) (with_delay place) (λ xs x ys _ more. some_more place xs x ys more) first.0 ds
    delays (some_more place [] d first.0 first.1) first.2

delay_list_keeps : (place : List ℕ) (d : Data) (delays : List ℕ) → delay_list place d ≡ Ok delays → IsDelayList delays
unfolding delay_list
delay_list_keeps place d delays e =
    let items =
    ok_bind (elements place d)
    (λ ds. only_if (nat_lt 0 (length ds)) (OutOfRange place) (through (with_delay place) [] ds)) delays e in
    let passed =
    ok_only_if (nat_lt 0 (length items.0)) (OutOfRange place) (through (with_delay place) [] items.0)
    delays items.2 in
    record {
      some = some_read place items.0 delays (grind (arith, nat_tests)) passed.1;
      within =
          through_keeps (λ xs. All (λ n. n ≤ HOUR) xs) (with_delay place) (within_more place) [] items.0 delays
          (All-nil (λ n. n ≤ HOUR)) passed.1;
    }

link_keeps : (design : DesignParts) (lists : List (List ℕ)) (entry : List ℕ × Data) (more : List (List ℕ))
    → AreDelaysOf design lists → with_link_delays design lists entry ≡ Ok more → AreDelaysOf design more
unfolding with_link_delays
link_keeps design lists entry more keeps e =
    let place = inside (codes "delays") entry.0 in
    let link =
    ok_bind (link_at place design entry.0)
    (λ link. delay_list place entry.1 >>= λ delays. Ok (slice_set lists link delays)) more e in
    let delays = ok_bind (delay_list place entry.1) (λ delays. Ok (slice_set lists link.0 delays)) more link.2 in
    subst (AreDelaysOf design) (ok_same (slice_set lists link.0 delays.0) more delays.2) (record {
      links = length-set lists link.0 delays.0 ∙ keeps.links;
      each = All-set IsDelayList lists link.0 delays.0 (delay_list_keeps place entry.1 delays.0 delays.1) keeps.each;
    })

-- the minimum network delay for each link
pub least_delays_keep : (design : DesignParts) → design.gamma.mu_min ≤ HOUR
    → AreDelaysOf design (replicate (length design.links) (design.gamma.mu_min ∷ []))
least_delays_keep design small =
    let least : IsDelayList (design.gamma.mu_min ∷ []) =
    record {
      some = lit< tt;
      within = All-push (λ n. n ≤ HOUR) [] design.gamma.mu_min (All-nil (λ n. n ≤ HOUR)) small;
    } in
    record {
      links = grind (arith, common_steps);
      each = All-replicate IsDelayList (length design.links) (design.gamma.mu_min ∷ []) least;
    }

pub delays_keep : (design : DesignParts) (d : Data) (lists : List (List ℕ)) → design.gamma.mu_min ≤ HOUR
    → delays_in design d ≡ Ok lists → AreDelaysOf design lists
unfolding delays_in
delays_keep design d lists small e =
    let first = replicate (length design.links) (design.gamma.mu_min ∷ []) in
    let members = ok_bind (entries (codes "delays") d) (λ es. through (with_link_delays design) first es) lists e in
    through_keeps (AreDelaysOf design) (with_link_delays design) (link_keeps design) first members.0 lists
    (least_delays_keep design small) members.2

-- ---- clocks
record AreReadings (readings : List ℕ) : Type 0 where
  within : All (λ n. n ≤ READING) readings
  order : IsNonDecreasing readings

no_readings : AreReadings []
no_readings = record { within = All-nil (λ n. n ≤ READING); order = λ i j d before inside_it. absurd (omega arith) }

reading_keeps : (place : List ℕ) (readings : List ℕ) (d : Data) (more : List ℕ) → AreReadings readings
    → with_reading place readings d ≡ Ok more → AreReadings more
reading_keeps place readings d more keeps e =
    let at = inside place (decimal (length readings)) in
    let read = ok_bind (whole at (last_of readings) READING d) (λ n. Ok (readings ++ n ∷ [])) more e in
    let range = whole_within at (last_of readings) READING d read.0 read.1 in
    subst AreReadings (ok_same (readings ++ read.0 ∷ []) more read.2) (record {
      within = All-push (λ n. n ≤ READING) readings read.0 keeps.within range.1;
      order = order_push readings read.0 keeps.order range.0;
    })

readings_keep : (place : List ℕ) (d : Data) (readings : List ℕ) → reading_list place d ≡ Ok readings
    → AreReadings readings
unfolding reading_list
readings_keep place d readings e =
    let items = ok_bind (short_list place LIST_ITEMS d) (λ ds. through (with_reading place) [] ds) readings e in
    through_keeps AreReadings (with_reading place) (reading_keeps place) [] items.0 readings no_readings items.2

opening : (readings : List ℕ) → AreReadings readings → IsUnpickedClock (unpicked readings)
opening readings keeps = record { unpicked_yet = refl; within = keeps.within; order = keeps.order }

clock_keeps : (design : DesignParts) (clocks : List ClockState) (entry : List ℕ × Data) (more : List ClockState)
    → AreClocksOf design clocks → with_clock design clocks entry ≡ Ok more → AreClocksOf design more
unfolding with_clock
clock_keeps design clocks entry more keeps e =
    let place = inside (codes "clocks") entry.0 in
    let node =
    ok_bind (node_at place design entry.0)
    (λ node. reading_list place entry.1 >>= λ readings. Ok (slice_set clocks node (unpicked readings))) more e in
    let readings =
    ok_bind (reading_list place entry.1) (λ readings. Ok (slice_set clocks node.0 (unpicked readings)))
    more node.2 in
    subst (AreClocksOf design) (ok_same (slice_set clocks node.0 (unpicked readings.0)) more readings.2) (record {
      components = length-set clocks node.0 (unpicked readings.0) ∙ keeps.components;
      each =
          All-set IsUnpickedClock clocks node.0 (unpicked readings.0)
          (opening readings.0 (readings_keep place entry.1 readings.0 readings.1)) keeps.each;
    })

lists_keep : (design : DesignParts) (d : Data) (clocks : Clocks) → clock_lists design d ≡ Ok clocks
    → AreClocksFor design clocks
unfolding clock_lists
lists_keep design d clocks e =
    let first = replicate (length design.components) (unpicked []) in
    let members =
    ok_bind (entries (codes "clocks") d)
    (λ es. through (with_clock design) first es >>= λ lists. Ok (Lists lists)) clocks e in
    let lists = ok_bind (through (with_clock design) first members.0) (λ lists. Ok (Lists lists)) clocks members.2 in
    let empty : AreClocksOf design first = record {
      components = grind (arith, common_steps);
      each = All-replicate IsUnpickedClock (length design.components) (unpicked []) (opening [] no_readings);
    } in
    subst (AreClocksFor design) (ok_same (Lists lists.0) clocks lists.2)
    (through_keeps (AreClocksOf design) (with_clock design) (clock_keeps design) first members.0 lists.0
    empty lists.1)

meet_or_lists : (design : DesignParts) (d : Data) (clocks : Clocks) (meets : Bool)
    → cond meets (Ok Meet) (clock_lists design d) ≡ Ok clocks → AreClocksFor design clocks
meet_or_lists design d clocks true e = subst (AreClocksFor design) (ok_same Meet clocks e) tt
meet_or_lists design d clocks false e = lists_keep design d clocks e

pub clocks_keep : (design : DesignParts) (d : Data) (clocks : Clocks) → clocks_in design d ≡ Ok clocks
    → AreClocksFor design clocks
unfolding clocks_in
clocks_keep design d clocks e = meet_or_lists design d clocks (is_meet d) e
