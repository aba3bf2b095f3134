-- The effect of an event without a fault on a world: the world after it, which satisfies the invariant of worlds.
use Rattle.std.proofs.Common.{◌≡◌, ℕ, ◌<◌, ◌≤◌, true, false, List, [], ◌∷◌, ◌++◌, length, Option, Some, None, refl, ap}
use Rattle.std.proofs.Common.{ap₂, ◌∙◌, sym, subst, arith}
use Rattle.std.specs.Prelude.{Bool, slice_index_or, slice_set}
use Rattle.std.proofs.lemmas.List.{get_or_default}
use Rattle.pals_base.specs.declared.limits.TheConstants.{ROUNDS}
use Rattle.pals_base.specs.declared.basic_types.NodeNo.{NodeNo}
use Rattle.pals_base.specs.declared.basic_types.LinkNo.{LinkNo}
use Rattle.pals_runs.specs.declared.events_and_faults.Event.{Event}
use Rattle.pals_runs.specs.declared.events_and_faults.Event.TheVariants as event
use Rattle.bus_machine.specs.Plans.{plan_of}
use Rattle.bus_machine.specs.NodeEvents.{running_step}
use Rattle.bus_machine.specs.BusStates.{BusState, node_at}
use Rattle.bus_machine.specs.RunParameters.{Run}
use Rattle.bus_machine.specs.Machine.{BusEvent, Start, Step, Finish, Send, Arrive}
use Rattle.bus_machine.specs.proof.AgreementLaws.{IsRunOf}
use Rattle.pals_bus.specs.BusValues.{BusValue, Happens}
use Rattle.run_laws.specs.Worlds.{World, reading_at, sendings, bus_event, moved, is_held, is_last_sent}
use Rattle.run_laws.specs.EventFaults.{fault_of}
use Rattle.run_laws.specs.proof.WorldInvariant.{KeepsTime}
use Rattle.run_laws.proofs.FaultlessEventConditions.{starts_in_time}
use Rattle.run_laws.proofs.WorldInvariantAfterStarts.{start_is}
use Rattle.run_laws.proofs.KeptWorldInvariant.{event_keeps_time}
use Rattle.timed_world.specs.proof.WorldValuesAndMoves.{WorldValue, world_of, KeepsWorld, BusMoves, Moves}

-- ---- the invariant
others_stay : (old : BusValue) (what : Option BusEvent) (new : BusValue) → BusMoves old what new
    → new ≡ record old { state = new.state; journal = new.journal }
others_stay old None new same =
    subst (λ (b : BusValue). b ≡ record old { state = b.state; journal = b.journal }) (sym same) refl
others_stay old (Some e) new happens = happens.others

-- an event changes only the state and the journal of the bus
pub bus_stays : (old : WorldValue) (e : Event) (new : WorldValue) → Moves old e new
    → new.bus ≡ record old.bus { state = new.bus.state; journal = new.bus.journal }
bus_stays old e new moves = others_stay old.bus (bus_event (world_of old) e) new.bus moves.bus

abbrev pub HasNoFault : WorldValue → Event → Type 0
HasNoFault v e = fault_of v.bus.run (world_of v) e ≡ None

-- an event without a fault preserves the invariant of worlds
pub moves_keep : (old : WorldValue) (e : Event) (new : WorldValue) → KeepsWorld old → HasNoFault old e → Moves old e new
    → KeepsWorld new
moves_keep old e new keeps fine moves =
    let stays = bus_stays old e new moves in
    let same : new.bus.run ≡ old.bus.run = ap (λ (b : BusValue). b.run) stays in
    let left : KeepsTime old.bus.run (world_of new) =
    subst (KeepsTime old.bus.run) (sym moves.world)
    (event_keeps_time old.bus.run (world_of old) e keeps.rules keeps.keeps fine) in
    record {
      rules = subst IsRunOf (sym same) keeps.rules;
      few = subst (λ (r : Run). r.rounds ≤ ROUNDS) (sym same) keeps.few;
      apart = ap (λ (b : BusValue). b.meeting) stays ∙ keeps.apart;
      keeps = subst (λ (r : Run). KeepsTime r (world_of new)) (sym same) left;
    }

-- ---- each event, by the effect of its calls
-- the reading that a node's clock shows
abbrev pub Reads : WorldValue → NodeNo → ℕ → Type 0
Reads old node reading = reading ≡ reading_at (world_of old) node.0

-- it is at the node's index in the list of readings
pub reads : (v : WorldValue) (node : NodeNo) (reading : ℕ) → KeepsWorld v → node.0 < length v.bus.run.design.components
    → reading ≡ slice_index_or v.readings node.0 reading → Reads v node reading
reads v node reading keeps within is =
    let many = keeps.keeps.moments.readings in
    let at : node.0 < length v.readings = omega arith in
    is ∙ get_or_default v.readings node.0 reading 0 at

-- a moment that changes, and one that stays
pub moves_on : (changes : Bool) (moments left : List ℕ) (node time : ℕ) → changes ≡ true
    → left ≡ slice_set moments node time
    → left ≡ moved changes moments node time
moves_on changes moments left node time is set = set ∙ sym (ap (λ (b : Bool). moved b moments node time) is)

pub stays_put : (changes : Bool) (moments : List ℕ) (node time : ℕ) → changes ≡ false
    → moments ≡ moved changes moments node time
stays_put changes moments node time is = sym (ap (λ (b : Bool). moved b moments node time) is)

pub passed : (old : WorldValue) (time : ℕ) (readings left : List ℕ) → left ≡ readings
    → Moves old (event.Pass time readings) (record old { time = time; readings = left })
passed old time readings left is =
    subst (λ (l : List ℕ). Moves old (event.Pass time readings) (record old { time = time; readings = l })) (sym is)
    (record { world = refl; bus = refl })

pub begun : (old : WorldValue) (node : NodeNo) (reading : ℕ) (bus : BusValue) (since : List ℕ) → KeepsWorld old
    → HasNoFault old (event.Start node)
    → Reads old node reading → Happens old.bus (Start node (Some reading)) bus
    → since ≡ slice_set old.since node.0 old.time
    → Moves old (event.Start node) (record old { bus = bus; since = since })
begun old node reading bus since keeps fine reads happens is =
    let run = old.bus.run in
    let w = world_of old in
    let after = start_is run w keeps.rules keeps.keeps node (starts_in_time run w node fine) in
    let made : Happens old.bus (Start node (Some (reading_at w node.0))) bus =
    subst (λ at. Happens old.bus (Start node (Some at)) bus) reads happens in
    record {
      world =
          ap₂ (λ (s : BusState) (l : List ℕ). record w { bus = s; since = l }) made.step.state
          (is ∙ sym (ap (λ (v : World). v.since) after));
      bus = made;
    }

pub stepped : (old : WorldValue) (node : NodeNo) (reading : ℕ) (bus : BusValue) (since : List ℕ)
    → Reads old node reading
    → Happens old.bus (Step node (Some reading)) bus → since ≡ slice_set old.since node.0 old.time
    → Moves old (event.Step node) (record old { bus = bus; since = since })
stepped old node reading bus since reads happens is =
    let w = world_of old in
    let made : Happens old.bus (Step node (Some (reading_at w node.0))) bus =
    subst (λ at. Happens old.bus (Step node (Some at)) bus) reads happens in
    record {
      world = ap₂ (λ (s : BusState) (l : List ℕ). record w { bus = s; since = l }) made.step.state is;
      bus = made;
    }

-- the step that is out is the last one that is sent
abbrev pub ends_sent : WorldValue → NodeNo → Bool
ends_sent old node =
    is_last_sent (plan_of old.bus.run.design node.0).sent_steps (running_step (node_at old.bus.state node.0).phase)

pub ended : (old : WorldValue) (node : NodeNo) (bus : BusValue) (since ready : List ℕ)
    → Happens old.bus (Finish node) bus
    → since ≡ slice_set old.since node.0 old.time → ready ≡ moved (ends_sent old node) old.ready node.0 old.time
    → Moves old (event.Finish node) (record old { bus = bus; since = since; ready = ready })
ended old node bus since ready happens is_since is_ready =
    let w = world_of old in
    let both = ap₂ (λ (l r : List ℕ). record w { bus = bus.state; since = l; ready = r }) is_since is_ready in
    let here =
    λ (s : BusState). record w {
      bus = s;
      since = slice_set old.since node.0 old.time;
      ready = moved (ends_sent old node) old.ready node.0 old.time;
    } in
    record { world = both ∙ ap here happens.step.state; bus = happens }

pub sent : (old : WorldValue) (node : NodeNo) (reading : ℕ) (bus : BusValue) (since : List ℕ) (sent_at : List (List ℕ))
    → Reads old node reading
    → Happens old.bus (Send node (Some reading)) bus
    → since ≡ moved (is_held (node_at old.bus.state node.0).phase) old.since node.0 old.time
    → sent_at ≡ slice_set old.sent_at node.0 (sendings (world_of old) node.0 ++ old.time ∷ [])
    → Moves old (event.Send node) (record old { bus = bus; since = since; sent_at = sent_at })
sent old node reading bus since sent_at reads happens is_since is_sent =
    let w = world_of old in
    let made : Happens old.bus (Send node (Some (reading_at w node.0))) bus =
    subst (λ at. Happens old.bus (Send node (Some at)) bus) reads happens in
    let moments = slice_set old.sent_at node.0 (sendings w node.0 ++ old.time ∷ []) in
    let both =
    ap₂ (λ (l : List ℕ) (m : List (List ℕ)). record w { bus = bus.state; since = l; sent_at = m })
    is_since is_sent in
    let here =
    λ (s : BusState). record w {
      bus = s;
      since = moved (is_held (node_at old.bus.state node.0).phase) old.since node.0 old.time;
      sent_at = moments;
    } in
    record { world = both ∙ ap here made.step.state; bus = made }

pub arrived : (old : WorldValue) (link : LinkNo) (round : ℕ) (bus : BusValue)
    → Happens old.bus (Arrive link round None) bus
    → Moves old (event.Arrive link round) (record old { bus = bus })
arrived old link round bus happens = let w = world_of old in
    record { world = ap (λ (s : BusState). record w { bus = s }) happens.step.state; bus = happens }
