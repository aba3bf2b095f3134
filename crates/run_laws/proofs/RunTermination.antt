-- Each run reaches its end: it can continue until then, and each event reduces the remaining work.
use Rattle.std.proofs.Common.{◌≡◌, ◌⊎◌, inl, inr, ℕ, zero, suc, ◌+◌, ◌<◌, ◌≤◌, nat_lt, Bool, true, false, cond, List}
use Rattle.std.proofs.Common.{[], ◌∷◌, ◌++◌, length, map, slice_get, Option, Some, None, refl, sym, ap, ◌∙◌, subst}
use Rattle.std.proofs.Common.{arith, append_assoc, length-append}
use Rattle.std.specs.Prelude.{slice_set}
use Rattle.std.specs.Option.{option_map, unwrap_or}
use Rattle.std.proofs.lemmas.Bool.{ltb-false}
use Rattle.std.proofs.lemmas.Grind.{get_or-set_at}
use Rattle.std.proofs.lemmas.List.{append-nil}
use Rattle.pals_base.specs.ClockPicks.{remaining_from}
use Rattle.pals_clock.specs.ClockStates.{ClockState, standing_at}
use Rattle.pals_model.specs.DesignRules.{IsLink}
use Rattle.pals_model.proofs.FirstMatches.{at_element}
use Rattle.pals_runs.specs.declared.phase.Phase.{Phase}
use Rattle.pals_runs.specs.declared.phase.Phase.TheVariants.{Waiting, Running, Between, Holding, Done}
use Rattle.pals_runs.specs.declared.journal.Stop.{Stop}
use Rattle.pals_runs.specs.declared.journal.JournalEntry.{JournalEntry}
use Rattle.bus_machine.specs.declared.node_action.NodeAction.{NodeAction}
use Rattle.bus_machine.specs.declared.plan.Plan.{Plan}
use Rattle.bus_machine.specs.Plans.{plan_of, component_at}
use Rattle.bus_machine.specs.Nodes.{NodeState, sent_rounds}
use Rattle.bus_machine.specs.BusStates.{BusState, opening, node_at}
use Rattle.bus_machine.specs.RunParameters.{Run}
use Rattle.bus_machine.specs.Machine.{after}
use Rattle.bus_machine.specs.Replay.{entries}
use Rattle.bus_machine.specs.ActionsAndTargets.{target, action_in, next_in}
use Rattle.bus_machine.specs.Agreement.{PhaseAgrees, Agrees}
use Rattle.bus_machine.specs.proof.AgreementLaws.{IsRunOf}
use Rattle.pals_clock.specs.declared.clock.Clocks.{Clocks}
use Rattle.pals_clock.specs.declared.clock.Clocks.TheVariants.{Meet, Lists}
use Rattle.run_laws.specs.NodeActions.{upcoming}
use Rattle.run_laws.specs.Runs.{no_clock, clock_at, lists_in, left_for, target_of, HasEnded, Picks, Runs, opens}
use Rattle.run_laws.specs.Runs.{picks_for, goes_on}
use Rattle.run_laws.specs.Meetings.{AllDone}
use Rattle.run_laws.specs.ListRunEndsAndStops.{IsOver, AllOver, AllAtEnd}
use Rattle.run_laws.specs.proof.RunTermination.{HasCome, IsEnding, EachRunEnds, EachGoesOn, JournalsEnd, EndsAreNamed}
use Rattle.run_laws.proofs.NodePicksAndRunReplay.{runs_agree, node_agrees, many_clocks}
use Rattle.run_laws.proofs.SentBeforeStart.{sent_true}
use Rattle.run_laws.proofs.StopCauses.{ended_still}
use Rattle.run_laws.proofs.BoundedSearch.{first_or_none, least_or_none}
use Rattle.run_laws.proofs.RemainingWork.{work_left, event_lessens, stop_lines, some_lines, most_left}
use Rattle.run_laws.proofs.PossibleActions.{CanGo, acts, finishes}

-- ---- with a meeting
-- a node runs a step, or its next action is the one that its target is for
runs_or_next : (plan : Plan) (n : NodeState) (p : Phase)
    → ((step : ℕ) × (p ≡ Running step)) ⊎ (next_in plan n p ≡ action_in plan n p)
runs_or_next plan n Waiting = inr refl
runs_or_next plan n (Running step) = inl (step, refl)
runs_or_next plan n (Between steps) = inr refl
runs_or_next plan n Holding = inr refl
runs_or_next plan n Done = inr refl

acts_or_done : (plan : Plan) (n : NodeState) (p : Phase)
    → ((action : NodeAction) × (action_in plan n p ≡ Some action)) ⊎ (p ≡ Done)
acts_or_done plan n Waiting = inl (_, refl)
acts_or_done plan n (Running step) = inl (_, refl)
acts_or_done plan n (Between steps) = inl (_, refl)
acts_or_done plan n Holding = inl (_, refl)
acts_or_done plan n Done = inr refl

-- the target of a node, 0 if it is done
abbrev goal_of : Run → BusState → ℕ → ℕ
goal_of run s node = unwrap_or (target_of run s node) 0

abbrev IsActing : Run → BusState → ℕ → Type 0
IsActing run s node =
    (action : NodeAction) × (action_in (plan_of run.design node) (node_at s node) (node_at s node).phase ≡ Some action)

abbrev IsDone : BusState → ℕ → Type 0
IsDone s node = (node_at s node).phase ≡ Done

abbrev CanGoFrom : Run → Clocks → List JournalEntry → BusState → Type 0
CanGoFrom run clocks journal s =
    (later : Clocks) × Runs run later journal s × (lists_in later ≡ lists_in clocks) × CanGo run later s

not_less : (run : Run) (s : BusState) (k least goal : ℕ) → target_of run s k ≡ Some least
    → IsDone s k ⊎ (goal ≤ goal_of run s k) → goal ≤ least
not_less run s k least goal is (inl done) =
    let both : Some least ≡ None = sym is
    ∙ ap (λ p. option_map (target (plan_of run.design k))
    (action_in (plan_of run.design k) (node_at s k) p)) done in
    absurd (cc)
not_less run s k least goal is (inr most) = let same : goal_of run s k ≡ least =
    ap (λ o. unwrap_or o 0) is in omega arith

meeting_goes : (run : Run) (journal : List JournalEntry) (s : BusState) → IsRunOf run → Runs run Meet journal s
    → CanGoFrom run Meet journal s ⊎ AllDone run s
meeting_goes run journal s rules runs =
    elim (least_or_none (IsActing run s) (IsDone s) (goal_of run s) (length run.design.components)
    (λ k within. acts_or_done (plan_of run.design k) (node_at s k) (node_at s k).phase)) [
      | inl least ↦
          let node = least.place in
          let plan = plan_of run.design node in
          let n = node_at s node in
          let action = least.found.0 in
          let goal : goal_of run s node ≡ target plan action =
          ap (λ o. unwrap_or (option_map (target plan) o) 0) least.found.1 in
          inl (
            Meet,
            runs,
            refl,
            elim (runs_or_next plan n n.phase) [
              | inl runs_step ↦ finishes run Meet s node runs_step.0 least.within runs_step.1
              | inr next ↦ acts run Meet journal s (record { 0 = node }) (target plan action) action rules runs
                  (record {
                    within = least.within;
                    next = next ∙ least.found.1;
                    at = target plan action;
                    reading_is = refl;
                    shows = (
                      refl,
                      λ other most within is.
                          not_less run s other most (target plan action) is
                          (subst (λ t. IsDone s other ⊎ (t ≤ goal_of run s other)) goal (least.least other within)),
                    );
                  })
                  (λ waits. tt)
            ],
          )
      | inr done ↦ inr done
    ]

-- ---- with list clocks
-- the list has a reading for the next action of a node
record IsReady (run : Run) (clocks : List ClockState) (s : BusState) (node : ℕ) : Type 0 where
  pub action : NodeAction
  pub next : upcoming (plan_of run.design node) (node_at s node) ≡ Some action
  pub at : ℕ
  pub later : List ℕ
  pub left : left_for run clocks node action ≡ at ∷ later

-- a step of a node is running, or the list has a reading for its next action
abbrev IsGoing : Run → List ClockState → BusState → ℕ → Type 0
IsGoing run clocks s node = ((step : ℕ) × ((node_at s node).phase ≡ Running step)) ⊎ IsReady run clocks s node

next_or_not : (plan : Plan) (n : NodeState) (p : Phase)
    → ((step : ℕ) × (p ≡ Running step)) ⊎ ((p ≡ Done) ⊎ ((action : NodeAction) × (next_in plan n p ≡ Some action)))
next_or_not plan n Waiting = inr (inr (_, refl))
next_or_not plan n (Running step) = inl (step, refl)
next_or_not plan n (Between steps) = inr (inr (_, refl))
next_or_not plan n Holding = inr (inr (_, refl))
next_or_not plan n Done = inr (inl refl)

left_by : (run : Run) (clocks : List ClockState) (s : BusState) (node : ℕ) (action : NodeAction) (left : List ℕ)
    → upcoming (plan_of run.design node) (node_at s node) ≡ Some action → left_for run clocks node action ≡ left
    → IsGoing run clocks s node ⊎ IsOver run clocks s node
left_by run clocks s node action [] next is = inr (inr (action, next, is))
left_by run clocks s node action (at ∷ later) next is =
    inl (inr (record { action = action; next = next; at = at; later = later; left = is }))

goes_or_over : (run : Run) (clocks : List ClockState) (s : BusState) (node : ℕ)
    → IsGoing run clocks s node ⊎ IsOver run clocks s node
goes_or_over run clocks s node = elim (next_or_not (plan_of run.design node) (node_at s node) (node_at s node).phase) [
  | inl runs_step ↦ inl (inl runs_step)
  | inr other ↦ elim other [
    | inl done ↦ inr (inl done)
    | inr next ↦ left_by run clocks s node next.0 (left_for run clocks node next.0) next.1 refl
  ]
]

-- the rest of a list from a target on begins with a reading of at least the target
first_by : (goal r at : ℕ) (rs later : List ℕ) (b : Bool) → nat_lt r goal ≡ b
    → cond b (remaining_from rs goal) (r ∷ rs) ≡ at ∷ later
    → (remaining_from rs goal ≡ at ∷ later → goal ≤ at) → goal ≤ at
first_by goal r at rs later true is same rest = rest same
first_by goal r at rs later false is same rest =
    let here : r ≡ at = cc in
    let most = ltb-false r goal is in
    omega arith

first_left : (left : List ℕ) (goal at : ℕ) (later : List ℕ) → remaining_from left goal ≡ at ∷ later → goal ≤ at
first_left [] goal at later is = absurd (cc)
first_left (r ∷ rs) goal at later is = first_by goal r at rs later (nat_lt r goal) refl is (first_left rs goal at later)

same_readings : (clocks : List ClockState) (node : ℕ) (left : List ℕ)
    → map (λ (c : ClockState). c.readings) (slice_set clocks node (standing_at (clock_at clocks node) left))
    ≡ map (λ (c : ClockState). c.readings) clocks
same_readings [] node left = refl
same_readings (c ∷ cs) zero left = refl
same_readings (c ∷ cs) (suc node) left = ap (λ rs. c.readings ∷ rs) (same_readings cs node left)

-- a source has sent as many rounds, or has reached its list's end
source_sent : (run : Run) (clocks : List ClockState) (s : BusState) (node source : ℕ) → IsRunOf run → Agrees run s
    → node < length run.design.components → source < length run.design.components
    → (node_at s node).phase ≡ Waiting
    → IsOver run clocks s source ⊎ (sent_rounds (node_at s node) ≤ sent_rounds (node_at s source))
    → ((node_at s node).count ≤ sent_rounds (node_at s source)) ⊎ HasEnded run clocks s source
source_sent run clocks s node source rules agree within there waits (inl (inl done)) =
    let m = node_at s source in
    let rest =
    subst (PhaseAgrees run source (component_at run.design source) m) done
    (node_agrees run s source agree there).phase in
    let all = sent_true m rest.0.sent in
    let count = rest.1 in
    let most = (node_agrees run s node agree within).rounds in
    inl (omega arith)
source_sent run clocks s node source rules agree within there waits (inl (inr ended)) = inr ended
source_sent run clocks s node source rules agree within there waits (inr most) =
    let n = node_at s node in
    let rest =
    subst (PhaseAgrees run node (component_at run.design node) n) waits
    (node_agrees run s node agree within).phase in
    let all = sent_true n rest.0.sent in
    inl (omega arith)

lists_go : (run : Run) (clocks : List ClockState) (journal : List JournalEntry) (s : BusState) → IsRunOf run
    → Runs run (Lists clocks) journal s
    → CanGoFrom run (Lists clocks) journal s ⊎ AllOver run clocks s
lists_go run clocks journal s rules runs =
    elim (least_or_none (IsGoing run clocks s) (IsOver run clocks s) (λ k. sent_rounds (node_at s k))
    (length run.design.components) (λ k within. goes_or_over run clocks s k)) [
      | inl least ↦ inl (by_going least.place least.within least.least least.found)
      | inr over ↦ inr over
    ]
  where
    many : length clocks ≡ length run.design.components
    many = many_clocks run (Lists clocks) journal s runs

    by_going : (node : ℕ) → node < length run.design.components
        → ((k : ℕ) → k < length run.design.components
        → IsOver run clocks s k ⊎ (sent_rounds (node_at s node) ≤ sent_rounds (node_at s k)))
        → IsGoing run clocks s node → CanGoFrom run (Lists clocks) journal s
    by_going node within least (inl step) =
        (Lists clocks, runs, refl, finishes run (Lists clocks) s node step.0 within step.1)
    by_going node within least (inr ready) =
        let left = left_for run clocks node ready.action in
        let later = slice_set clocks node (standing_at (clock_at clocks node) left) in
        let picks : Picks run clocks s node later =
        record { within = within; action = ready.action; next = ready.next; clocks_are = refl } in
        let goes : Runs run (Lists later) journal s = picks_for node runs picks in
        let size = many in
        let clock = standing_at (clock_at clocks node) left in
        let stands : (clock_at later node).left ≡ left =
        ap (λ (c : ClockState). c.left) (get_or-set_at clocks node node clock no_clock refl (omega arith)) in
        let first : slice_get (clock_at later node).left 0 ≡ Some ready.at =
        ap (λ xs. slice_get xs 0) (stands ∙ ready.left) in
        let agree = runs_agree run (Lists clocks) journal s rules runs in (
          Lists later,
          goes,
          ap Some (same_readings clocks node left),
          acts run (Lists later) journal s (record { 0 = node }) ready.at ready.action rules goes
              (record {
                within = within;
                next = ready.next;
                at = ready.at;
                reading_is = refl;
                shows = (
                  first,
                  first_left (clock_at clocks node).left (target (plan_of run.design node) ready.action)
                      ready.at ready.later ready.left,
                );
              })
              (λ waits number link is to.
              let rule = at_element (IsLink run.design) run.design.links number link rules.design.links.each is in
              let there = rule.source.node_is in
              elim (source_sent run clocks s node link.source.0 rules agree within there waits
              (least link.source.0 there)) [
                | inl enough ↦ inl enough
                | inr ended ↦ inr (ended_still run clocks later s node link.source.0 many picks ended)
              ]),
        )

-- ---- from where a run has come
goes_from : (run : Run) (clocks : Clocks) (journal : List JournalEntry) (s : BusState) → IsRunOf run
    → Runs run clocks journal s
    → CanGoFrom run clocks journal s ⊎ AllAtEnd run clocks s
goes_from run Meet journal s rules runs = meeting_goes run journal s rules runs
goes_from run (Lists clocks) journal s rules runs = lists_go run clocks journal s rules runs

stays : (run : Run) (clocks : Clocks) (journal : List JournalEntry) (s : BusState) → Runs run clocks journal s
    → HasCome run clocks s
    → IsEnding run clocks journal
stays run clocks journal s runs come = record {
  later = clocks;
  more = [];
  state = s;
  runs = subst (λ es. Runs run clocks es s) (sym (append-nil journal)) runs;
  lists = refl;
  come = come;
}

-- one event more
goes : (run : Run) (clocks later : Clocks) (journal told : List JournalEntry) → lists_in later ≡ lists_in clocks
    → IsEnding run later (journal ++ told) → IsEnding run clocks journal
goes run clocks later journal told same e = record {
  later = e.later;
  more = told ++ e.more;
  state = e.state;
  runs = subst (λ es. Runs run e.later es e.state) (append_assoc journal told e.more) e.runs;
  lists = e.lists ∙ same;
  come = e.come;
}

-- if every run with less remaining work ends, this run ends
abbrev EndsBelow : Run → ℕ → Type 0
EndsBelow run left =
    (clocks : Clocks) (journal : List JournalEntry) (s : BusState) → Runs run clocks journal s → work_left run s < left
    → IsEnding run clocks journal

can_go_on : (run : Run) (clocks : Clocks) (journal : List JournalEntry) (s : BusState) → IsRunOf run → s.stop ≡ None
    → Runs run clocks journal s → (go : CanGo run clocks s) → (o : Option Stop) → (after run s go.event).stop ≡ o
    → EndsBelow run (work_left run s)
    → IsEnding run clocks (journal ++ entries run s go.event)
can_go_on run clocks journal s rules going runs go (Some why) is below =
    let e = go.event in
    let on : Runs run clocks (journal ++ entries run s e) (after run s e) =
    goes_on e runs go.keeps (record { going = going; allowed = go.allowed; state = refl }) in
    stays run clocks (journal ++ entries run s e) (after run s e) on
    (inl (λ none. let both : Some why ≡ None = sym is ∙ none in absurd (cc)))
can_go_on run clocks journal s rules going runs go None is below =
    let e = go.event in
    let on : Runs run clocks (journal ++ entries run s e) (after run s e) =
    goes_on e runs go.keeps (record { going = going; allowed = go.allowed; state = refl }) in
    let less = event_lessens run clocks s e rules (runs_agree run clocks journal s rules runs) go.keeps go.allowed in
    let none : stop_lines (after run s e).stop ≡ 0 = ap stop_lines is in
    let some = some_lines run s e in
    below clocks (journal ++ entries run s e) (after run s e) on (omega arith)

ends_by : (run : Run) (clocks : Clocks) (journal : List JournalEntry) (s : BusState) (o : Option Stop) → IsRunOf run
    → s.stop ≡ o
    → Runs run clocks journal s → EndsBelow run (work_left run s) → IsEnding run clocks journal
ends_by run clocks journal s (Some why) rules is runs below =
    stays run clocks journal s runs (inl (λ none. let both : Some why ≡ None = sym is ∙ none in absurd (cc)))
ends_by run clocks journal s None rules is runs below = elim (goes_from run clocks journal s rules runs) [
  | inl go ↦
      let on = can_go_on run go.0 journal s rules is go.1 go.3 (after run s go.3.event).stop refl below in
      goes run clocks go.0 journal (entries run s go.3.event) go.2 on
  | inr over ↦ stays run clocks journal s runs (inr over)
]

ends_below : (run : Run) (left : ℕ) → IsRunOf run → EndsBelow run left
ends_below run zero rules clocks journal s runs below = absurd (omega arith)
ends_below run (suc left) rules clocks journal s runs below =
    ends_by run clocks journal s s.stop rules refl runs
    (λ clocks' journal' t runs' less. ends_below run left rules clocks' journal' t runs' (omega arith))

pub each_goes_on : EachGoesOn
each_goes_on run clocks journal s rules runs =
    ends_below run (suc (work_left run s)) rules clocks journal s runs (omega arith)

pub each_run_ends : EachRunEnds
each_run_ends run clocks rules begin =
    ends_below run (suc (work_left run (opening run))) rules clocks [] (opening run) (opens clocks begin) (omega arith)

-- ---- no journal grows without end
few_so_far : (run : Run) (clocks : Clocks) (journal : List JournalEntry) (s : BusState) → IsRunOf run
    → Runs run clocks journal s
    → length journal + work_left run s ≤ work_left run (opening run) + stop_lines s.stop
few_so_far run clocks journal s rules (opens clocks' begin) = omega arith
few_so_far run clocks journal s rules (picks_for {clocks = before} node runs picks) =
    few_so_far run (Lists before) journal s rules runs
few_so_far run clocks journal s rules (goes_on {journal = before} {s = t} e runs keeps step) =
    let old = few_so_far run clocks before t rules runs in
    let none : stop_lines t.stop ≡ 0 = ap stop_lines step.going in
    let less = event_lessens run clocks t e rules (runs_agree run clocks before t rules runs) keeps step.allowed in
    let size = length-append before (entries run t e) in
    subst (λ u. length (before ++ entries run t e) + work_left run u ≤ work_left run (opening run) + stop_lines u.stop)
    (sym step.state) (omega arith)

one_stop : (o : Option Stop) → stop_lines o ≤ 1
one_stop None = omega arith
one_stop (Some why) = omega arith

pub journals_end : JournalsEnd
journals_end run clocks journal s rules runs =
    let few = few_so_far run clocks journal s rules runs in
    let one = one_stop s.stop in
    let most = most_left run in
    omega arith

-- ---- a list that is too short
over_or_done : (run : Run) (clocks : List ClockState) (s : BusState) (k : ℕ) → IsOver run clocks s k
    → HasEnded run clocks s k ⊎ IsDone s k
over_or_done run clocks s k (inl done) = inr done
over_or_done run clocks s k (inr ended) = inl ended

pub ends_are_named : EndsAreNamed
ends_are_named run clocks journal s rules runs over =
    elim (first_or_none (HasEnded run clocks s) (IsDone s) (length run.design.components)
    (λ k within. over_or_done run clocks s k (over k within))) [
      | inl first ↦ inr (first.place, record { within = first.within; ended = first.found; before = first.before })
      | inr done ↦ inl done
    ]
