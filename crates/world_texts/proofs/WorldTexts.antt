-- The report on timed events, event by event, and that in the end it is the text of their world, or their first fault.
use Rattle.std.proofs.Common.{◌≡◌, ◌∙◌, inl, inr, ℕ, ◌+◌, ◌<◌, ◌≤◌, Bool, true, false, List, [], ◌++◌, length, take}
use Rattle.std.proofs.Common.{Some}
use Rattle.std.proofs.Common.{None, refl, sym, ap, subst, append-nil}
use Rattle.std.specs.Prelude.{slice_index_or, if◌then◌else◌}
use Rattle.std.proofs.lemmas.Bool.{ltb-true}
use Rattle.std.proofs.lemmas.Option.{none-some}
use Rattle.step_code.specs.declared.instr.CodeParts.{CodeParts}
use Rattle.pals_base.specs.declared.limits.TheConstants.{ROUNDS}
use Rattle.pals_model.specs.declared.design.DesignParts.{DesignParts}
use Rattle.pals_model.specs.declared.environment.Env.{Env}
use Rattle.pals_model.specs.RoundTexts.{text_of}
use Rattle.pals_runs.specs.declared.events_and_faults.Event.{Event}
use Rattle.pals_runs.specs.declared.events_and_faults.Event.TheVariants as event
use Rattle.pals_runs.specs.declared.events_and_faults.EventFault.{EventFault}
use Rattle.pals_runs.specs.declared.events_and_faults.EventFault.TheVariants.{BadName}
use Rattle.bus_machine.specs.RunParameters.{Run}
use Rattle.bus_machine.specs.Machine.{Start, Step, Finish, Send, Arrive, Drop, Repeat}
use Rattle.bus_machine.specs.proof.AgreementLaws.{IsRunOf}
use Rattle.pals_bus.specs.BusValues.{BusValue}
use Rattle.pals_bus.specs.LooseEvents.{IsNamedIn}
use Rattle.run_laws.specs.Worlds.{World, reading_at}
use Rattle.run_laws.specs.EventFaults.{fault_of, event_fault, is_named}
use Rattle.run_laws.specs.EventLists.{IsWithin, world_left}
use Rattle.run_laws.proofs.KeptWorldInvariant.{lists_go_right}
use Rattle.loose_world.specs.proof.FinishedRows.{finished_lines}
use Rattle.loose_world.specs.LooseRuns.{InTurn, told_by}
use Rattle.loose_world.specs.proof.BusAfterEvents.{Undergoes}
use Rattle.loose_world.proofs.EventsAndLines.{turns_next, told_more}
use Rattle.loose_world.proofs.WorldTexts.{world_is_told}
use Rattle.timed_world.specs.proof.WorldValuesAndMoves.{WorldValue, world_of, opening_value, Moves}
use Rattle.timed_world.specs.proof.EventLists.{EndsAt}
use Rattle.timed_world.proofs.EventLists.{leads_none}
use Rattle.trace_laws.specs.WorldTraces.{IsCarriedInTime}
use Rattle.trace_laws.proofs.WorldDelays.{world_runs_are_carried}
use Rattle.trace_laws.proofs.WorldTraces.{worlds_are_traces}
use Rattle.world_texts.specs.WorldTexts.{IsToldWorld, IsFirstFault}
use Rattle.world_texts.specs.proof.WorldTexts.{IsOpening, LeadsTelling}
use Rattle.world_texts.proofs.EventsWithinBounds.{leads_next}

-- ---- one event
-- the bus undergoes it
undergoes : (old : WorldValue) (e : Event) (new : WorldValue) → Moves old e new → Undergoes old.bus e new.bus
undergoes old (event.Pass time readings) new moves =
    inl (record { time = time; readings = readings; is_pass = refl; same = moves.bus })
undergoes old (event.Start node) new moves =
    inr (record { what = Start node (Some (reading_at (world_of old) node.0)); is_what = refl; happens = moves.bus })
undergoes old (event.Step node) new moves =
    inr (record { what = Step node (Some (reading_at (world_of old) node.0)); is_what = refl; happens = moves.bus })
undergoes old (event.Finish node) new moves = inr (record { what = Finish node; is_what = refl; happens = moves.bus })
undergoes old (event.Send node) new moves =
    inr (record { what = Send node (Some (reading_at (world_of old) node.0)); is_what = refl; happens = moves.bus })
undergoes old (event.Arrive link round) new moves =
    inr (record { what = Arrive link round None; is_what = refl; happens = moves.bus })
undergoes old (event.Drop link round) new moves =
    inr (record { what = Drop link round; is_what = refl; happens = moves.bus })
undergoes old (event.Repeat link round) new moves =
    inr (record { what = Repeat link round; is_what = refl; happens = moves.bus })

-- it names an existing node or link
named_by : (run : Run) (e : Event) → is_named run e ≡ true → IsNamedIn run.design e
named_by run (event.Pass time readings) is = tt
named_by run (event.Start node) is = ltb-true _ _ is
named_by run (event.Step node) is = ltb-true _ _ is
named_by run (event.Finish node) is = ltb-true _ _ is
named_by run (event.Send node) is = ltb-true _ _ is
named_by run (event.Arrive link round) is = ltb-true _ _ is
named_by run (event.Drop link round) is = ltb-true _ _ is
named_by run (event.Repeat link round) is = ltb-true _ _ is

no_bad_name : (b : Bool) (run : Run) (w : World) (e : Event)
    → (if b then event_fault run w e else Some BadName) ≡ None → b ≡ true
no_bad_name true run w e fine = refl
no_bad_name false run w e fine = absurd (none-some BadName (sym fine))

pub names_are_there : (run : Run) (w : World) (e : Event) → fault_of run w e ≡ None → IsNamedIn run.design e
names_are_there run w e fine = named_by run e (no_bad_name (is_named run e) run w e fine)

-- ---- the first events of a list
pub telling_none : (v : WorldValue) (text : List ℕ) → LeadsTelling v [] v text text
telling_none v text =
    record { leads = leads_none v; lines = []; undergone = (refl, refl); told = sym (append-nil text) }

pub telling_more : (old mid new : WorldValue) (events : List Event) (first : ℕ) (d : Event)
    (before so_far text : List ℕ) → first < length events
    → LeadsTelling old (take first events) mid before so_far
    → fault_of mid.bus.run (world_of mid) (slice_index_or events first d) ≡ None
    → Moves mid (slice_index_or events first d) new
    → text ≡ so_far ++ text_of (told_by new.bus (slice_index_or events first d))
    → LeadsTelling old (take (first + 1) events) new before text
telling_more old mid new events first d before so_far text within telling fine moves more =
    let e = slice_index_or events first d in
    record {
      leads = leads_next old mid new events first d within telling.leads fine moves;
      lines = telling.lines ++ told_by new.bus e;
      undergone =
          turns_next Undergoes old.bus mid.bus new.bus events first d telling.lines within telling.undergone
          (undergoes mid e new moves);
      told = told_more before so_far text telling.lines (told_by new.bus e) telling.told more;
    }

-- ---- from the opening of a run on
pub opens : (design : DesignParts) (codes : List CodeParts) (env : Env) (rounds : ℕ) (v : WorldValue)
    → v ≡ opening_value design codes env rounds → IsOpening v
opens design codes env rounds v is = subst IsOpening (sym is) (record { bus = refl; world = refl; run = refl })

pub world_told : (old new : WorldValue) (events : List Event) (sent text : List ℕ) → IsOpening old → IsRunOf new.bus.run
    → new.bus.run.rounds ≤ ROUNDS → LeadsTelling old events new [] sent
    → text ≡ text_of (finished_lines new.bus) ++ sent
    → IsToldWorld old.bus.run events text
world_told old new events sent text opening rules few telling is =
    let run = old.bus.run in
    let same : new.bus.run ≡ run = ap (λ (b : BusValue). b.run) telling.leads.others in
    let undergone =
    subst (λ (b : BusValue). InTurn Undergoes b events new.bus telling.lines) opening.bus telling.undergone in
    let within = subst (λ (w : World). IsWithin run w events) opening.world telling.leads.within in
    let of_run = subst IsRunOf same rules in
    let carried =
    subst IsCarriedInTime (sym opening.run)
    (world_runs_are_carried run.design run.env run.rounds (subst IsRunOf opening.run of_run)) in
    record {
      within = within;
      right = lists_go_right run events of_run within;
      recorded =
          worlds_are_traces run events of_run (subst (λ (r : Run). r.rounds ≤ ROUNDS) same few) carried within;
      text_is =
          is
          ∙ ap (λ (xs : List ℕ). text_of (finished_lines new.bus) ++ xs) telling.told
          ∙ world_is_told run events new.bus telling.lines of_run
          (record { programs = old.bus.codes; undergone = undergone });
    }

pub fault_told : (old new : WorldValue) (events : List Event) (index : ℕ) (fault : EventFault) → IsOpening old
    → EndsAt old events index fault new
    → IsFirstFault old.bus.run events index fault
fault_told old new events index fault opening ends =
    let run = old.bus.run in
    record {
      event = ends.event;
      is_event = ends.is_event;
      before = subst (λ (w : World). IsWithin run w (take index events)) opening.world ends.before.within;
      fault_is =
          ap (λ (w : World). fault_of run (world_left run w (take index events)) ends.event) (sym opening.world)
          ∙ ap (λ (w : World). fault_of run w ends.event) (sym ends.before.left)
          ∙ ends.fault;
    }
