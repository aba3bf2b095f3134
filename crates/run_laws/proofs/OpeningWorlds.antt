-- The opening world: nothing has started, and nothing is sent.
use Rattle.std.proofs.Common.{◌≡◌, ℕ, suc, ◌+◌, ◌<◌, ◌≤◌, nat_eq, List, [], length, Option, Some, None, refl, sym, ap}
use Rattle.std.proofs.Common.{◌∙◌, subst, arith}
use Rattle.std.specs.Prelude.{nat_lt, is_some}
use Rattle.std.proofs.lemmas.Bool.{and_right, le-ltb, false≢true}
use Rattle.std.proofs.lemmas.List.{length-map}
use Rattle.std.proofs.lemmas.Option.{none-some}
use Rattle.list_lemmas.proofs.ElementPositions.{get_or-map_constant}
use Rattle.pals_base.specs.declared.basic_types.PortValue.{PortValue}
use Rattle.pals_model.specs.declared.design.Component.{Component}
use Rattle.pals_model.specs.declared.flight_copy.FlightCopy.{FlightCopy}
use Rattle.pals_runs.specs.declared.phase.Phase.TheVariants.{Waiting, Running}
use Rattle.bus_machine.specs.Plans.{plan_of, link_at}
use Rattle.bus_machine.specs.Nodes.{NodeState, opening_node, sent_rounds}
use Rattle.bus_machine.specs.NodeEvents.{slot_at}
use Rattle.bus_machine.specs.AlarmsAndReleases.{start_alarm}
use Rattle.bus_machine.specs.BusStates.{opening, node_at, flight_at}
use Rattle.bus_machine.specs.RunParameters.{Run}
use Rattle.bus_machine.specs.MissedMessages.{rounds_sent_on}
use Rattle.bus_machine.specs.proof.AgreementLaws.{IsRunOf}
use Rattle.run_laws.specs.Deadlines.{last_before}
use Rattle.run_laws.specs.Worlds.{opening_world, reading_at, since_at, ready_at}
use Rattle.bus_machine.proofs.MessageAndRunAgreement.{opening_agrees, node_opens}
use Rattle.run_laws.specs.proof.WorldInvariant.{KeepsDeadline, IsOnce, copies, waits, taken, one_if, KeepsLink}
use Rattle.run_laws.specs.proof.WorldLaws.{OpeningKeepsTime}
use Rattle.run_laws.proofs.WorldNodeTiming.{Stands, StandsAt, deadline_is, both_in_time, send_last}
use Rattle.run_laws.proofs.WorldLinkTiming.{rule_of, one_of_false}

-- ---- positions in the opening
abbrev pub no_time : ℕ
no_time = 0

abbrev pub no_moments : List ℕ
no_moments = []

-- ---- a link
none_once : (slot : Option (List PortValue)) (flight : List FlightCopy) (count sent round : ℕ) → slot ≡ None
    → flight ≡ [] → count ≡ 0 → sent ≡ 0 → IsOnce count slot sent flight round
none_once slot flight count sent round no_message none_flies none_started none_sent =
    let flying : copies round flight ≡ 0 = ap (copies round) none_flies in
    let waiting : one_if (waits count slot round) ≡ 0 =
    one_of_false (waits count slot round)
    (and_right (nat_eq count (round + 1)) (is_some slot)
    (ap (λ (o : Option (List PortValue)). is_some o) no_message)) in
    let not_taken : one_if (taken count round) ≡ 0 =
    one_of_false (taken count round) (le-ltb (round + 1) count (omega arith)) in
    let unsent : one_if (nat_lt round sent) ≡ 0 = one_of_false (nat_lt round sent) (le-ltb round sent (omega arith)) in
    let all : copies round flight + one_if (waits count slot round) + one_if (taken count round)
    ≡ one_if (nat_lt round sent) = omega arith in
    all

pub not_running : (step : ℕ) → Waiting ≡ Running step → ⊥
not_running step is = cc

module _ (run : Run) (rules : IsRunOf run) where
  opening_stands : (node : ℕ) → node < length run.design.components → StandsAt run (opening_world run) node
  opening_stands node within =
      let g = run.design.gamma in
      let plan = plan_of run.design node in
      let n = opening_node plan in
      let skew = rules.design.gamma.skew.0 in
      let late : 0 ≤ last_before (start_alarm plan n) g.eps = omega arith in
      let stands : Stands g plan n 0 0 0 0 [] = record {
        clock = record { slow = omega arith; fast = omega arith };
        in_time = both_in_time 0 (Some (last_before (start_alarm plan n) g.eps)) (send_last g plan n 0) late tt;
        keeps = record {
          started = λ some. absurd (omega arith);
          finished = λ step is. absurd (none-some (suc step) is);
          running = λ step is. absurd (not_running step is);
          unsent = λ may. absurd (false≢true may);
        };
        sends = record { each = refl; sent = λ round is. absurd (omega arith) };
      } in
      let cs = run.design.components in
      let one = subst (λ (m : NodeState). Stands g plan m 0 0 0 0 []) (sym (node_opens run node within)) stands in
      let two =
      subst (λ k. Stands g plan (node_at (opening run) node) k 0 k k []) (sym (get_or-map_constant 0 cs node)) one in
      subst (λ l. Stands g plan (node_at (opening run) node) (reading_at (opening_world run) node) 0
      (since_at (opening_world run) node) (ready_at (opening_world run) node) l)
      (sym (get_or-map_constant {Y = List ℕ} [] cs node)) two

  opening_link : (number : ℕ) → number < length run.design.links
      → KeepsLink run (opening_world run) number (link_at run.design number).target.0
      (link_at run.design number).in_port
  opening_link number within =
      let link = link_at run.design number in
      let s = opening run in
      let rule = rule_of run number rules within in
      let to = node_opens run link.target.0 rule.target.node_is in
      let from = node_opens run link.source.0 rule.source.node_is in
      let flies : flight_at s number ≡ [] = get_or-map_constant {Y = List FlightCopy} [] run.design.links number in
      record {
        once = λ round.
            none_once (slot_at (node_at s link.target.0) link.in_port) (flight_at s number)
            (node_at s link.target.0).count (rounds_sent_on run s number) round
            (ap (λ (n : NodeState). slot_at n link.in_port) to
            ∙ get_or-map_constant {Y = Option (List PortValue)} None (plan_of run.design link.target.0).inputs
            link.in_port)
            flies (ap (λ (n : NodeState). n.count) to) (ap (λ (n : NodeState). sent_rounds n) from);
        in_time = λ round is. omega arith;
      }

pub opening_keeps_time : OpeningKeepsTime
opening_keeps_time run rules =
    let w = opening_world run in
    let cs = run.design.components in
    let stands = opening_stands run rules in
    record {
      going = refl;
      agrees = opening_agrees run rules;
      moments = record {
        readings = length-map cs (λ (_ : Component). no_time);
        since = length-map cs (λ (_ : Component). no_time);
        ready = length-map cs (λ (_ : Component). no_time);
        sent_at = length-map cs (λ (_ : Component). no_moments);
      };
      clocks = λ node within. (stands node within).clock;
      in_time = λ node within. subst (KeepsDeadline 0) (sym (deadline_is run w node)) (stands node within).in_time;
      nodes = λ node within. (stands node within).keeps;
      sends = λ node within. (stands node within).sends;
      links = opening_link run rules;
    }
