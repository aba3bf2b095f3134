-- The messages of links relative to the time of a world: an arriving message belongs to the last round that its target
-- has started, and the messages that a start reads have arrived.
use Rattle.std.proofs.Common.{◌≡◌, inl, inr, ℕ, suc, ◌+◌, ◌-◌, ◌<◌, ◌≤◌, nat_eq, Bool, true, false, List, length}
use Rattle.std.proofs.Common.{slice_get, Option, Some, None, refl, sym, ap, ap₂, ◌∙◌, arith}
use Rattle.std.specs.Prelude.{nat_lt, nat_le, ◌&&◌, is_some, is_none, if◌then◌else◌}
use Rattle.std.proofs.lemmas.Bool.{and_parts, and_from, eq-eqb, ltb-true, lt-ltb, le-ltb, lt-leb, cases_lt, false≢true}
use Rattle.std.proofs.lemmas.Bool.{false_from_ne_true}
use Rattle.std.proofs.lemmas.Option.{slice_get-get_or}
use Rattle.list_lemmas.proofs.Options.{none_unless_some}
use Rattle.bus_machine.proofs.SentRounds.{sent_most}
use Rattle.pals_base.specs.declared.basic_types.PortValue.{PortValue}
use Rattle.pals_base.specs.PeriodBoundAndReleases.{alarm}
use Rattle.pals_model.specs.declared.flight_copy.FlightCopy.{FlightCopy}
use Rattle.pals_model.specs.Flights.{is_of, oldest}
use Rattle.pals_model.specs.DesignRules.{IsLink}
use Rattle.pals_model.proofs.FirstMatches.{at_element}
use Rattle.pals_runs.specs.declared.journal.Arrived.TheVariants.{Kept, Ignored, Early}
use Rattle.bus_machine.specs.NodeEvents.{slot_at, arrived}
use Rattle.bus_machine.specs.LinkEvents.{is_in_flight}
use Rattle.bus_machine.specs.Nodes.{round_of, sent_rounds}
use Rattle.bus_machine.specs.BusStates.{node_at, flight_at}
use Rattle.bus_machine.specs.Plans.{link_at, no_link}
use Rattle.bus_machine.specs.RunParameters.{Run}
use Rattle.bus_machine.specs.MissedMessages.{rounds_sent_on}
use Rattle.bus_machine.specs.proof.AgreementLaws.{IsRunOf}
use Rattle.run_laws.specs.Worlds.{World, flight_since}
use Rattle.run_laws.specs.proof.WorldInvariant.{KeepsTime, IsOnce, copies, waits, taken, one_if}
use Rattle.run_laws.proofs.TimeArithmetic.{earlier, arrives_after, arrives_before, alarm_next}
use Rattle.run_laws.proofs.Lists.{found_is_one, one_is_found}
use Rattle.run_laws.proofs.WorldNodeTiming.{fits_at, done_or, done_all, late, behind, rounds_at_most}

-- ---- ones
pub one_true : (b : Bool) → 1 ≤ one_if b → b ≡ true
one_true true some = refl
one_true false some = absurd (omega arith)

one_false : (b : Bool) → one_if b ≡ 0 → b ≡ false
one_false true none = absurd (omega arith)
one_false false none = refl

pub one_most : (b : Bool) → one_if b ≤ 1
one_most true = omega arith
one_most false = omega arith

pub one_of_true : (b : Bool) → b ≡ true → one_if b ≡ 1
one_of_true b is = ap one_if is

pub one_of_false : (b : Bool) → b ≡ false → one_if b ≡ 0
one_of_false b is = ap one_if is

-- a copy in flight is counted
in_flight_found : (round : ℕ) (flight : List FlightCopy) (o : Option FlightCopy) → oldest round flight ≡ o
    → is_some o ≡ true → 1 ≤ copies round flight
in_flight_found round flight None is some = absurd (false≢true some)
in_flight_found round flight (Some copy) is some = found_is_one (is_of round) flight copy is

pub in_flight_counts : (round : ℕ) (flight : List FlightCopy) → is_in_flight round flight ≡ true
    → 1 ≤ copies round flight
in_flight_counts round flight flies = in_flight_found round flight (oldest round flight) refl flies

pub counts_in_flight : (round : ℕ) (flight : List FlightCopy) → 1 ≤ copies round flight
    → is_in_flight round flight ≡ true
counts_in_flight round flight some = one_is_found (is_of round) flight some

-- ---- a round of a link of which a copy is in flight
pub record IsMessageInFlight (count : ℕ) (slot : Option (List PortValue)) (sent : ℕ) (flight : List FlightCopy)
    (round : ℕ) : Type 0 where
  pub is_sent : round < sent
  pub one : copies round flight ≡ 1
  pub apart : waits count slot round ≡ false
  pub near : count ≤ round + 1

pub under_way : (count : ℕ) (slot : Option (List PortValue)) (sent : ℕ) (flight : List FlightCopy) (round : ℕ)
    → IsOnce count slot sent flight round → 1 ≤ copies round flight
    → IsMessageInFlight count slot sent flight round
under_way count slot sent flight round once some =
    let all : copies round flight + one_if (waits count slot round) + one_if (taken count round)
    ≡ one_if (nat_lt round sent) = once in
    let most = one_most (nat_lt round sent) in
    let one : 1 ≤ one_if (nat_lt round sent) = omega arith in
    let no_wait : one_if (waits count slot round) ≡ 0 = omega arith in
    let not_taken : one_if (taken count round) ≡ 0 = omega arith in
    let near = one_false (taken count round) not_taken in
    record {
      is_sent = ltb-true round sent (one_true (nat_lt round sent) one);
      one = omega arith;
      apart = one_false (waits count slot round) no_wait;
      near =
          elim (cases_lt (round + 1) count)
          [ inl past ↦ absurd (false≢true (sym near ∙ lt-ltb (round + 1) count past)) | inr few ↦ few ];
    }

-- ---- the design's links
pub link_is : (run : Run) (number : ℕ) → number < length run.design.links
    → slice_get run.design.links number ≡ Some (link_at run.design number)
link_is run number within = slice_get-get_or run.design.links number no_link within

pub rule_of : (run : Run) (number : ℕ) → IsRunOf run → number < length run.design.links
    → IsLink run.design (link_at run.design number)
rule_of run number rules within =
    at_element (IsLink run.design) run.design.links number (link_at run.design number) rules.design.links.each
    (link_is run number within)

not_waiting : (count : ℕ) (slot : Option (List PortValue)) (round : ℕ) → count ≡ suc round
    → waits count slot round ≡ false → is_some slot ≡ false
not_waiting count slot round last apart =
    false_from_ne_true (is_some slot)
    (λ full. false≢true (sym apart
    ∙ and_from (nat_eq count (round + 1)) (is_some slot) (eq-eqb count (round + 1) (omega arith)) full))

module _ (run : Run) (w : World) (rules : IsRunOf run) (keeps : KeepsTime run w) where
  -- ---- an arrival
  pub record ComesInTime (number round : ℕ) : Type 0 where
    pub last : (node_at w.bus (link_at run.design number).target.0).count ≡ suc round
    pub empty : slot_at (node_at w.bus (link_at run.design number).target.0) (link_at run.design number).in_port ≡ None

  not_before : (number round : ℕ) → number < length run.design.links → round < rounds_sent_on run w.bus number
      → flight_since run w number round + run.design.gamma.mu_min ≤ w.time
      → round < (node_at w.bus (link_at run.design number).target.0).count
  not_before number round within sent carried =
      let g = run.design.gamma in
      let link = link_at run.design number in
      let rule = rule_of run number rules within in
      let source = link.source.0 in
      let from : source < length run.design.components = rule.source.node_is in
      let to : link.target.0 < length run.design.components = rule.target.node_is in
      let each = (keeps.sends source from).each in
      let moment = (keeps.sends source from).sent round (omega arith) in
      let after : alarm run.design.period round + g.eps < w.time =
      arrives_after (fits_at run source rules from) (alarm run.design.period round) w.time
      (flight_since run w number round) moment.due carried in
      elim (done_or (node_at w.bus link.target.0).phase) [
        | inl done ↦
            let all = (done_all run w rules keeps link.target.0 to done).0 in
            let most = rounds_at_most run w rules keeps source from in
            let fewer : sent_rounds (node_at w.bus source) ≤ (node_at w.bus source).count =
            sent_most (node_at w.bus source).sent (node_at w.bus source).count in
            omega arith
        | inr busy ↦
            let last = late run w rules keeps link.target.0 to busy in
            earlier run.design.period round (node_at w.bus link.target.0).count (omega arith)
      ]

  pub comes_in_time : (number round : ℕ) → number < length run.design.links
      → is_in_flight round (flight_at w.bus number) ≡ true
      → flight_since run w number round + run.design.gamma.mu_min ≤ w.time → ComesInTime number round
  comes_in_time number round within flies carried =
      let link = link_at run.design number in
      let n = node_at w.bus link.target.0 in
      let u =
      under_way n.count (slot_at n link.in_port) (rounds_sent_on run w.bus number) (flight_at w.bus number) round
      ((keeps.links number within).once round) (in_flight_counts round (flight_at w.bus number) flies) in
      let after = not_before number round within u.is_sent carried in
      let near = u.near in
      let last : n.count ≡ suc round = omega arith in
      record {
        last = last;
        empty =
            none_unless_some (slot_at n link.in_port) (not_waiting n.count (slot_at n link.in_port) round last u.apart);
      }

  -- so it is stored
  pub is_kept : (number round : ℕ) → ComesInTime number round
      → arrived (node_at w.bus (link_at run.design number).target.0) (link_at run.design number).in_port round ≡ Kept
  is_kept number round comes =
      let n = node_at w.bus (link_at run.design number).target.0 in
      let slot = slot_at n (link_at run.design number).in_port in
      let last = comes.last in
      let not_early : nat_le n.count round ≡ false = lt-leb n.count round (omega arith) in
      let fits_slot : (nat_eq (round + 1) n.count && is_none slot) ≡ true =
      and_from (nat_eq (round + 1) n.count) (is_none slot) (eq-eqb (round + 1) n.count (omega arith))
      (ap (λ (o : Option (List PortValue)). is_none o) comes.empty) in
      ap₂ (λ (late fit : Bool). if late then Early else if fit then Kept else Ignored) not_early fits_slot

  -- ---- a start
  -- none is in flight at the alarm of the round that reads it
  no_copy : (number round : ℕ) → number < length run.design.links → round < rounds_sent_on run w.bus number
      → alarm run.design.period (suc round) < w.time + run.design.gamma.eps
      → is_in_flight round (flight_at w.bus number) ≡ true → ⊥
  no_copy number round within sent past flies =
      let g = run.design.gamma in
      let t = run.design.period in
      let source = (link_at run.design number).source.0 in
      let from : source < length run.design.components = (rule_of run number rules within).source.node_is in
      let each = (keeps.sends source from).each in
      let moment = (keeps.sends source from).sent round (omega arith) in
      let last_time : w.time ≤ flight_since run w number round + g.mu_max =
      (keeps.links number within).in_time round flies in
      let before : w.time + g.eps < alarm t (suc round) =
      arrives_before (fits_at run source rules from) (alarm t round) (alarm t (suc round)) w.time
      (flight_since run w number round) (alarm_next t round) moment.prompt last_time in
      omega arith

  -- the message of the round before waits in the slot
  pub has_come : (number : ℕ) → number < length run.design.links
      → 0 < (node_at w.bus (link_at run.design number).target.0).count
      → (node_at w.bus (link_at run.design number).target.0).count < run.rounds
      → alarm run.design.period (node_at w.bus (link_at run.design number).target.0).count
      < w.time + run.design.gamma.eps
      → is_some (slot_at (node_at w.bus (link_at run.design number).target.0)
      (link_at run.design number).in_port) ≡ true
  has_come number within some more due =
      let g = run.design.gamma in
      let t = run.design.period in
      let link = link_at run.design number in
      let n = node_at w.bus link.target.0 in
      let slot = slot_at n link.in_port in
      let flight = flight_at w.bus number in
      let round = n.count - 1 in
      let last : n.count ≡ suc round = omega arith in
      let source = link.source.0 in
      let from : source < length run.design.components = (rule_of run number rules within).source.node_is in
      let sent : round < rounds_sent_on run w.bus number =
      elim (done_or (node_at w.bus source).phase) [
        | inl done ↦
            let all = done_all run w rules keeps source from done in
            let whole : rounds_sent_on run w.bus number ≡ (node_at w.bus source).count =
            ap (λ (b : Bool). if b then (node_at w.bus source).count else round_of (node_at w.bus source)) all.1 in
            let rounds = all.0 in
            omega arith
        | inr busy ↦
            let left = behind run w rules keeps source from busy in
            let before : n.count < suc (rounds_sent_on run w.bus number) =
            earlier t n.count (suc (rounds_sent_on run w.bus number)) (omega arith) in
            omega arith
      ] in
      let same : alarm t n.count ≡ alarm t (suc round) = ap (alarm t) last in
      let past : alarm t (suc round) < w.time + g.eps = omega arith in
      let none : copies round flight ≡ 0 =
      elim (cases_lt 0 (copies round flight)) [
        | inl one ↦ absurd (no_copy number round within sent past (counts_in_flight round flight one))
        | inr
            zero_copies ↦ omega arith
      ] in
      let not_taken : one_if (taken n.count round) ≡ 0 =
      one_of_false (taken n.count round) (le-ltb (round + 1) n.count (omega arith)) in
      let is_sent : one_if (nat_lt round (rounds_sent_on run w.bus number)) ≡ 1 =
      one_of_true (nat_lt round (rounds_sent_on run w.bus number))
      (lt-ltb round (rounds_sent_on run w.bus number) sent) in
      let all : copies round flight + one_if (waits n.count slot round) + one_if (taken n.count round)
      ≡ one_if (nat_lt round (rounds_sent_on run w.bus number)) = (keeps.links number within).once round in
      let one : 1 ≤ one_if (waits n.count slot round) = omega arith in
      (and_parts (nat_eq n.count (round + 1)) (is_some slot) (one_true (waits n.count slot round) one)).1
