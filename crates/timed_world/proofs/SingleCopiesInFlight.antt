-- At most one copy is in flight on a link, of the last round that its target has started or of the next one; so a
-- message past its deadline belongs to one of these two.
use Rattle.std.proofs.Common.{◌≡◌, ◌⊎◌, inl, inr, ℕ, suc, ◌+◌, ◌-◌, ◌<◌, ◌≤◌, Bool, true, cond, List, [], ◌∷◌, length}
use Rattle.std.proofs.Common.{Option, Some, None, refl, ap, sym, subst, arith, map, ◌∙◌}
use Rattle.std.proofs.lemmas.Bool.{cases_order, cases_lt, eq-eqb, cases_eq, ne_eqb}
use Rattle.std.proofs.lemmas.List.Sums.{sum_by-cons}
use Rattle.bus_machine.proofs.SentRounds.{sent_most}
use Rattle.pals_base.specs.declared.limits.TheConstants.{READING, ROUNDS}
use Rattle.pals_base.specs.PeriodBoundAndReleases.{alarm}
use Rattle.pals_model.specs.declared.flight_copy.FlightCopy.{FlightCopy}
use Rattle.pals_model.specs.Flights.{is_of}
use Rattle.pals_runs.specs.declared.events_and_faults.EventFault.{EventFault}
use Rattle.bus_machine.specs.NodeEvents.{slot_at}
use Rattle.bus_machine.specs.LinkEvents.{is_in_flight}
use Rattle.bus_machine.specs.BusStates.{node_at, flight_at}
use Rattle.bus_machine.specs.Plans.{link_at}
use Rattle.bus_machine.specs.RunParameters.{Run}
use Rattle.bus_machine.specs.MissedMessages.{rounds_sent_on}
use Rattle.bus_machine.specs.Nodes.{sent_rounds}
use Rattle.bus_machine.specs.proof.AgreementLaws.{IsRunOf}
use Rattle.run_laws.specs.Worlds.{World, flight_since}
use Rattle.run_laws.specs.EventFaults.{or_else, first_of, past, copy_past, link_past}
use Rattle.run_laws.specs.proof.WorldInvariant.{KeepsTime, copies}
use Rattle.run_laws.proofs.TimeArithmetic.{alarm_next, alarm_more, arrives_before}
use Rattle.run_laws.proofs.WorldNodeTiming.{fits_at, counts_close}
use Rattle.run_laws.proofs.WorldLinkTiming.{under_way, in_flight_counts, counts_in_flight, rule_of}
use Rattle.run_laws.proofs.WorldTimeRanges.{times_are_readings}
use Rattle.std.specs.Prelude.{is_some, if◌then◌else◌}
use Rattle.pals_runs.specs.declared.events_and_faults.EventSubject.TheVariants as subject
use Rattle.run_laws.specs.Deadlines.{message_deadline}
use Rattle.timed_world.specs.proof.MessagesPastDeadline.{flying_past}
use Rattle.timed_world.proofs.FaultSearch.{goes_past, has_found}

-- ---- counts
pub count_first : (round : ℕ) (a : FlightCopy) (cs : List FlightCopy) → a.round ≡ round
    → copies round (a ∷ cs) ≡ 1 + copies round cs
count_first round a cs is =
    let f : FlightCopy → ℕ = λ y. cond {A = ℕ} (is_of round y) 1 0 in
    let one : cond {A = ℕ} (is_of round a) 1 0 ≡ 1 = ap (λ (b : Bool). cond {A = ℕ} b 1 0) (eq-eqb a.round round is) in
    let whole : copies round (a ∷ cs) ≡ cond {A = ℕ} (is_of round a) 1 0 + copies round cs = sum_by-cons f a cs in
    omega arith

count_rest : (round : ℕ) (a : FlightCopy) (cs : List FlightCopy) → copies round cs ≤ copies round (a ∷ cs)
count_rest round a cs =
    let f : FlightCopy → ℕ = λ y. cond {A = ℕ} (is_of round y) 1 0 in
    let whole : copies round (a ∷ cs) ≡ cond {A = ℕ} (is_of round a) 1 0 + copies round cs = sum_by-cons f a cs in
    omega arith

-- ---- what one copy gives
pub or_none : (o : Option EventFault) → or_else o None ≡ o
or_none None = refl
or_none (Some why) = refl

module _ (run : Run) (w : World) (rules : IsRunOf run) (keeps : KeepsTime run w) (number : ℕ)
    (within : number < length run.design.links) where
  abbrev pub flight : List FlightCopy
  flight = flight_at w.bus number

  abbrev pub count : ℕ
  count = (node_at w.bus (link_at run.design number).target.0).count

  -- a round in flight is one of two
  pub near : (round : ℕ) → is_in_flight round flight ≡ true → (count ≤ round + 1) × (round ≤ count)
  near round flies =
      let link = link_at run.design number in
      let rule = rule_of run number rules within in
      let n = node_at w.bus link.target.0 in
      let u =
      under_way n.count (slot_at n link.in_port) (rounds_sent_on run w.bus number) flight round
      ((keeps.links number within).once round) (in_flight_counts round flight flies) in
      let close = counts_close run w rules keeps link.source.0 link.target.0 rule.source.node_is rule.target.node_is in
      let fewer : sent_rounds (node_at w.bus link.source.0) ≤ (node_at w.bus link.source.0).count =
      sent_most (node_at w.bus link.source.0).sent (node_at w.bus link.source.0).count in
      let sent = u.is_sent in
      let first = u.near in
      (omega arith, omega arith)

  -- so the earliest time of its arrival is in range
  pub arrival_fits : run.rounds ≤ ROUNDS → (round : ℕ) → is_in_flight round flight ≡ true
      → flight_since run w number round + run.design.gamma.mu_min ≤ READING
  arrival_fits few round flies =
      let link = link_at run.design number in
      let n = node_at w.bus link.target.0 in
      let u =
      under_way n.count (slot_at n link.in_port) (rounds_sent_on run w.bus number) flight round
      ((keeps.links number within).once round) (in_flight_counts round flight flies) in
      let last = (times_are_readings run w rules few keeps).messages number round within u.is_sent in
      let least = rules.design.gamma.network.0 in
      omega arith

  -- no two rounds fly at a time
  not_both : (one other : ℕ) → is_in_flight one flight ≡ true → is_in_flight other flight ≡ true → one < other → ⊥
  not_both one other flies also less =
      let g = run.design.gamma in
      let t = run.design.period in
      let link = link_at run.design number in
      let source = link.source.0 in
      let n = node_at w.bus link.target.0 in
      let from : source < length run.design.components = (rule_of run number rules within).source.node_is in
      let each = (keeps.sends source from).each in
      let u =
      under_way n.count (slot_at n link.in_port) (rounds_sent_on run w.bus number) flight other
      ((keeps.links number within).once other) (in_flight_counts other flight also) in
      let sent = u.is_sent in
      let first = (keeps.sends source from).sent one (omega arith) in
      let second = (keeps.sends source from).sent other (omega arith) in
      let last_time : w.time ≤ flight_since run w number one + g.mu_max =
      (keeps.links number within).in_time one flies in
      let before : w.time + g.eps < alarm t (suc one) =
      arrives_before (fits_at run source rules from) (alarm t one) (alarm t (suc one)) w.time
      (flight_since run w number one) (alarm_next t one) first.prompt last_time in
      let later : alarm t (suc one) ≤ alarm t other = alarm_more t (suc one) other (omega arith) in
      let due = second.due in
      let is_past = second.past in
      omega arith

  one_most : (round : ℕ) → copies round flight ≤ 1
  one_most round = elim (cases_lt 1 (copies round flight)) [
    | inl more ↦
        let n = node_at w.bus (link_at run.design number).target.0 in
        let u =
        under_way n.count (slot_at n (link_at run.design number).in_port) (rounds_sent_on run w.bus number) flight
        round ((keeps.links number within).once round) (omega arith) in
        let one = u.one in
        omega arith
    | inr few ↦ few
  ]

  pub flies_by : (round : ℕ) (fs : List FlightCopy) → flight ≡ fs → 1 ≤ copies round fs
      → is_in_flight round flight ≡ true
  flies_by round fs is some = counts_in_flight round flight (subst (λ cs. 1 ≤ copies round cs) (sym is) some)

  pub single : (fs : List FlightCopy) → flight ≡ fs → (fs ≡ []) ⊎ ((c : FlightCopy) × (fs ≡ c ∷ []))
  single [] is = inl refl
  single (c ∷ []) is = inr (c, refl)
  single (a ∷ (b ∷ cs)) is =
      let fs = a ∷ (b ∷ cs) in
      let first : copies a.round fs ≡ 1 + copies a.round (b ∷ cs) = count_first a.round a (b ∷ cs) refl in
      let second : copies b.round (b ∷ cs) ≡ 1 + copies b.round cs = count_first b.round b cs refl in
      let rest : copies b.round (b ∷ cs) ≤ copies b.round fs = count_rest b.round a (b ∷ cs) in
      let here : is_in_flight a.round flight ≡ true = flies_by a.round fs is (omega arith) in
      let there : is_in_flight b.round flight ≡ true = flies_by b.round fs is (omega arith) in
      elim (cases_order a.round b.round) [
        | inl same ↦
            let most : copies a.round fs ≤ 1 = subst (λ gs. copies a.round gs ≤ 1) is (one_most a.round) in
            let again : copies a.round (b ∷ cs) ≡ 1 + copies a.round cs = count_first a.round b cs (sym same) in
            absurd (omega arith)
        | inr apart ↦ elim apart [
          | inl less ↦ absurd (not_both a.round b.round here there less)
          | inr more ↦ absurd (not_both b.round a.round there here more)
        ]
      ]

  -- so of two rounds that may be past their deadlines the first decides, or the other
  module _ (time : ℕ) where
    abbrev flying_of : Bool → ℕ → Option EventFault
    flying_of b round =
        if b then past time (subject.Message (record { 0 = number }) round)
        (Some (message_deadline run w number round)) else None

    abbrev Same : List FlightCopy → Type 0
    Same fs =
        first_of (map (copy_past run w time number) fs)
        ≡ or_else (flying_of (is_in_flight (count - 1) fs) (count - 1)) (flying_of (is_in_flight count fs) count)

    flies_here : (c : FlightCopy) (round : ℕ) → c.round ≡ round
        → flying_of (is_in_flight round (c ∷ [])) round ≡ copy_past run w time number c
    flies_here c round same =
        ap (λ (b : Bool). flying_of (is_some (cond {A = Option FlightCopy} b (Some c) None)) round)
        (eq-eqb c.round round same) ∙ ap (λ (k : ℕ). flying_of true k) (sym same)

    flies_not : (c : FlightCopy) (round : ℕ) → (c.round ≡ round → ⊥)
        → flying_of (is_in_flight round (c ∷ [])) round ≡ None
    flies_not c round other =
        ap (λ (b : Bool). flying_of (is_some (cond {A = Option FlightCopy} b (Some c) None)) round)
        (ne_eqb c.round round other)

    twice : (x y : Option EventFault) → (y ≡ x) ⊎ (y ≡ None) → or_else x y ≡ x
    twice None y same = elim same [ inl is ↦ is | inr is ↦ is ]
    twice (Some why) y same = refl

    with_one : (c : FlightCopy) → (count ≤ c.round + 1) × (c.round ≤ count) → Same (c ∷ [])
    with_one c near_it =
        let x = copy_past run w time number c in
        let first = flying_of (is_in_flight (count - 1) (c ∷ [])) (count - 1) in
        let second = flying_of (is_in_flight count (c ∷ [])) count in
        or_none x
        ∙ sym (elim (cases_eq c.round (count - 1)) [
          | inl before ↦
              ap (λ (o : Option EventFault). or_else o second) (flies_here c (count - 1) before)
              ∙ twice x second (elim (cases_eq c.round count)
              [ inl same ↦ inl (flies_here c count same) | inr other ↦ inr (flies_not c count other) ])
          | inr not_before ↦
              let low = near_it.0 in
              let high = near_it.1 in
              ap (λ (o : Option EventFault). or_else o second) (flies_not c (count - 1) not_before)
              ∙ flies_here c count (elim (cases_eq c.round count)
              [ inl same ↦ same | inr other ↦ absurd (not_before (omega arith)) ])
        ])

    link_past_is : link_past run w time number
        ≡ or_else (flying_past run w time number (count - 1)) (flying_past run w time number count)
    link_past_is = elim (single flight refl) [
      | inl none ↦ subst Same (sym none) refl
      | inr one ↦
          let c = one.0 in
          let flies : is_in_flight c.round flight ≡ true =
          flies_by c.round (c ∷ []) one.1
          (let counted : copies c.round (c ∷ []) ≡ 1 + copies c.round [] = count_first c.round c [] refl in
          omega arith) in
          subst Same (sym one.1) (with_one c (near c.round flies))
    ]

    -- of the two rounds the first is past its time, or the other decides
    pub first_is_past : (before : ℕ) (why : EventFault) → before ≡ count - 1
        → flying_past run w time number before ≡ Some why
        → Some why ≡ link_past run w time number
    first_is_past before why is past_it =
        has_found _ (flying_past run w time number (count - 1)) (flying_past run w time number count) why link_past_is
        (sym (ap (flying_past run w time number) is) ∙ past_it)

    pub first_is_not : (before : ℕ) → before ≡ count - 1 → flying_past run w time number before ≡ None
        → flying_past run w time number count ≡ link_past run w time number
    first_is_not before is none =
        sym (goes_past _ (flying_past run w time number (count - 1)) (flying_past run w time number count) link_past_is
        (sym (ap (flying_past run w time number) is) ∙ none))
