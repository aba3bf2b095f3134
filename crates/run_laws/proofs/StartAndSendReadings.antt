-- The readings of starts and sends fit their alarms and releases.
use Rattle.std.proofs.Common.{◌≡◌, inl, inr, ◌⊎◌, ℕ, zero, suc, ◌+◌, ◌<◌, nat_eq, nat_lt, Bool, true, false, cond, List}
use Rattle.std.proofs.Common.{[], ◌∷◌, ◌++◌, length, slice_get, Option, Some, None, refl, sym, ap, ◌∙◌, subst}
use Rattle.std.proofs.lemmas.Bool.{eqb-true}
use Rattle.std.proofs.lemmas.Grind.{flat_map-append}
use Rattle.std.proofs.lemmas.List.{append-nil}
use Rattle.std.proofs.lemmas.Option.{same_Some}
use Rattle.pals_base.specs.declared.basic_types.NodeNo.{NodeNo}
use Rattle.pals_base.specs.PeriodBoundAndReleases.{alarm}
use Rattle.pals_clock.specs.ClockStates.{ClockState}
use Rattle.pals_runs.specs.declared.phase.Phase.{Phase}
use Rattle.pals_runs.specs.declared.phase.Phase.TheVariants.{Waiting, Running, Between, Holding, Done}
use Rattle.pals_runs.specs.declared.journal.JournalEntry.{JournalEntry}
use Rattle.bus_machine.specs.declared.plan.Plan.{Plan}
use Rattle.bus_machine.specs.Plans.{plan_of}
use Rattle.bus_machine.specs.Nodes.{NodeState, round_of, sent_rounds}
use Rattle.bus_machine.specs.BusStates.{BusState, node_at}
use Rattle.bus_machine.specs.RunParameters.{Run}
use Rattle.bus_machine.specs.MissedMessages.{missing_link}
use Rattle.bus_machine.specs.Machine.{BusEvent, Start, Step, Finish, Send, Arrive, Drop, Repeat, is_allowed, arrival}
use Rattle.bus_machine.specs.Machine.{early_stop}
use Rattle.bus_machine.specs.Replay.{entries, start_entry}
use Rattle.bus_machine.specs.Agreement.{Agrees}
use Rattle.bus_machine.specs.proof.AgreementLaws.{IsRunOf}
use Rattle.bus_machine.specs.declared.node_action.NodeAction.TheVariants as action
use Rattle.bus_machine.specs.ActionsAndTargets.{Progress, send_is_next, next_in}
use Rattle.bus_machine.proofs.NodeEventBusAgreement.{sender_before}
use Rattle.run_laws.specs.JournalReadings.{listed, start_in, send_in, starts, sends}
use Rattle.pals_clock.specs.declared.clock.Clocks.{Clocks}
use Rattle.pals_clock.specs.declared.clock.Clocks.TheVariants.{Meet, Lists}
use Rattle.run_laws.specs.Runs.{Shows, Does, KeepsTo, Runs, opens, picks_for, goes_on}
use Rattle.run_laws.specs.proof.ReadingsAndStopCauses.{IsFor, TimesFit}
use Rattle.run_laws.proofs.NodePicksAndRunReplay.{runs_agree}
use Rattle.run_laws.proofs.JournalStartsAndSends.{rounds_are_shown, stop_shows}
use Rattle.run_laws.proofs.LinkTiming.{unsent_round}

-- ---- lists
pub got_more : (xs : List ℕ) (x k y : ℕ) → slice_get (xs ++ x ∷ []) k ≡ Some y
    → (slice_get xs k ≡ Some y) ⊎ ((k ≡ length xs) × (y ≡ x))
got_more [] x zero y is = inr (refl, sym (same_Some x y is))
got_more [] x (suc k) y is = absurd (cc)
got_more (z ∷ xs) x zero y is = inl is
got_more (z ∷ xs) x (suc k) y is = elim (got_more xs x k y is) [
  | inl before ↦ inl before
  | inr last ↦ inr (ap suc last.0, last.1)
]

-- ---- what a reading is for
pub shown_for : (run : Run) (clocks : Clocks) (s : BusState) (node t at : ℕ) → Shows run clocks s node t at
    → IsFor clocks t at
shown_for run Meet s node t at shows = shows.0
shown_for run (Lists clocks) s node t at shows = shows.1

sends_now : (plan : Plan) (p : Progress) (round : ℕ) (send more : Bool)
    → cond send (action.Send p.round) (cond more (action.Step p.round p.steps) (action.Start (p.round + 1)))
    ≡ action.Send round → round ≡ p.round
sends_now plan p round true more is = cc
sends_now plan p round false true is = absurd (cc)
sends_now plan p round false false is = absurd (cc)

pub send_round : (plan : Plan) (n : NodeState) (p : Phase) (round : ℕ) → next_in plan n p ≡ Some (action.Send round)
    → round ≡ round_of n
send_round plan n Waiting round is =
    absurd (let both : action.Start n.count ≡ action.Send round = same_Some _ _ is in cc)
send_round plan n (Running i) round is = absurd (cc)
send_round plan n (Between i) round is =
    let p : Progress = record { round = round_of n; steps = i; sent = n.sent } in
    sends_now plan p round (send_is_next plan p) (nat_lt i plan.rate) (same_Some _ _ is)
send_round plan n Holding round is = let both : action.Send (round_of n) ≡ action.Send round = same_Some _ _ is in cc
send_round plan n Done round is = absurd (cc)

-- ---- one more reading
abbrev Fit : (ℕ → ℕ) → Clocks → List ℕ → Type 0
Fit times clocks shown = (round at : ℕ) → slice_get shown round ≡ Some at → IsFor clocks (times round) at

none_more : (times : ℕ → ℕ) (clocks : Clocks) (shown more : List ℕ) → more ≡ [] → Fit times clocks shown
    → Fit times clocks (shown ++ more)
none_more times clocks shown more none fit =
    subst (Fit times clocks) (sym (ap (λ xs. shown ++ xs) none ∙ append-nil shown)) fit

one_more : (times : ℕ → ℕ) (clocks : Clocks) (shown : List ℕ) (at round : ℕ) → length shown ≡ round
    → IsFor clocks (times round) at → Fit times clocks shown → Fit times clocks (shown ++ at ∷ [])
one_more times clocks shown at round size is fit = λ r t got. elim (got_more shown at r t got) [
  | inl before ↦ fit r t before
  | inr last ↦ subst (IsFor clocks (times r)) (sym last.1)
      (subst (λ k. IsFor clocks (times k) at) (sym (last.0 ∙ size)) is)
]

-- if the entry belongs to this node, or to another one
by_node : (times : ℕ → ℕ) (clocks : Clocks) (shown : List ℕ) (node : NodeNo) (k at round : ℕ) (reading : Option ℕ)
    (b : Bool) → nat_eq node.0 k ≡ b → reading ≡ Some at → (node.0 ≡ k → length shown ≡ round)
    → (node.0 ≡ k → IsFor clocks (times round) at) → Fit times clocks shown
    → Fit times clocks (shown ++ (cond b (listed reading) [] ++ []))
by_node times clocks shown node k at round None b is shows size for fit = absurd (cc)
by_node times clocks shown node k at round (Some t) true is shows size for fit =
    let same : node.0 ≡ k = eqb-true node.0 k is in
    let here : t ≡ at = same_Some t at shows in
    one_more times clocks shown t round (size same) (subst (IsFor clocks (times round)) (sym here) (for same)) fit
by_node times clocks shown node k at round (Some t) false is shows size for fit =
    none_more times clocks shown [] refl fit

-- ---- each event
start_starts : (run : Run) (clocks : Clocks) (s : BusState) (node : NodeNo) (reading m : Option ℕ) (k : ℕ)
    (shown : List ℕ) → Does run clocks s node reading (action.Start (node_at s node.0).count)
    → length shown ≡ (node_at s k).count
    → Fit (alarm (plan_of run.design k).period) clocks shown
    → Fit (alarm (plan_of run.design k).period) clocks (shown ++ starts k (start_entry run s node reading m ∷ []))
start_starts run clocks s node reading (Some link) k shown does size fit =
    none_more (alarm (plan_of run.design k).period) clocks shown [] refl fit
start_starts run clocks s node reading None k shown does size fit =
    by_node (alarm (plan_of run.design k).period) clocks shown node k does.at (node_at s k).count reading
    (nat_eq node.0 k) refl does.reading_is (λ same. size)
    (λ same. subst (λ j. IsFor clocks (alarm (plan_of run.design j).period (node_at s j).count) does.at) same
    (shown_for run clocks s node.0 _ does.at does.shows)) fit

pub start_sends : (run : Run) (s : BusState) (node : NodeNo) (reading m : Option ℕ) (k : ℕ)
    → sends k (start_entry run s node reading m ∷ []) ≡ []
start_sends run s node reading None k = refl
start_sends run s node reading (Some link) k = refl

event_starts : (run : Run) (clocks : Clocks) (s : BusState) (e : BusEvent) (k : ℕ) (shown : List ℕ)
    → KeepsTo run clocks s e → length shown ≡ (node_at s k).count
    → Fit (alarm (plan_of run.design k).period) clocks shown
    → Fit (alarm (plan_of run.design k).period) clocks (shown ++ starts k (entries run s e))
event_starts run clocks s (Start node reading) k shown keeps size fit =
    start_starts run clocks s node reading (missing_link run s node.0) k shown keeps.does size fit
event_starts run clocks s (Step node reading) k shown keeps size fit =
    none_more (alarm (plan_of run.design k).period) clocks shown [] refl fit
event_starts run clocks s (Finish node) k shown keeps size fit =
    none_more (alarm (plan_of run.design k).period) clocks shown [] refl fit
event_starts run clocks s (Send node reading) k shown keeps size fit =
    none_more (alarm (plan_of run.design k).period) clocks shown [] refl fit
event_starts run clocks s (Arrive link round reading) k shown keeps size fit =
    none_more (alarm (plan_of run.design k).period) clocks shown _
    (stop_shows k (early_stop link round reading (arrival run s link round))).0 fit
event_starts run clocks s (Drop link round) k shown keeps size fit = absurd keeps
event_starts run clocks s (Repeat link round) k shown keeps size fit = absurd keeps

abbrev release_of : Run → ℕ → ℕ → ℕ
release_of run k round = alarm (plan_of run.design k).period round + (plan_of run.design k).release_offset

event_sends : (run : Run) (clocks : Clocks) (s : BusState) (e : BusEvent) (k : ℕ) (shown : List ℕ) → Agrees run s
    → KeepsTo run clocks s e → is_allowed run s e ≡ true → length shown ≡ sent_rounds (node_at s k)
    → Fit (release_of run k) clocks shown → Fit (release_of run k) clocks (shown ++ sends k (entries run s e))
event_sends run clocks s (Start node reading) k shown agree keeps may size fit =
    none_more (release_of run k) clocks shown _ (start_sends run s node reading (missing_link run s node.0) k) fit
event_sends run clocks s (Step node reading) k shown agree keeps may size fit =
    none_more (release_of run k) clocks shown [] refl fit
event_sends run clocks s (Finish node) k shown agree keeps may size fit =
    none_more (release_of run k) clocks shown [] refl fit
event_sends run clocks s (Send node reading) k shown agree keeps may size fit =
    let n = node_at s node.0 in
    let does = keeps.1 in
    let unsent = (sender_before run s node agree may).unsent in
    let this = send_round (plan_of run.design node.0) n n.phase keeps.0 does.next in
    by_node (release_of run k) clocks shown node k does.at (round_of n) reading (nat_eq node.0 k) refl does.reading_is
    (λ same. size ∙ ap (λ j. sent_rounds (node_at s j)) (sym same) ∙ unsent_round n unsent)
    (λ same. subst (λ j. IsFor clocks (release_of run j (round_of n)) does.at) same
    (subst (λ r. IsFor clocks (release_of run node.0 r) does.at) this
    (shown_for run clocks s node.0 _ does.at does.shows))) fit
event_sends run clocks s (Arrive link round reading) k shown agree keeps may size fit =
    none_more (release_of run k) clocks shown _
    (stop_shows k (early_stop link round reading (arrival run s link round))).1 fit
event_sends run clocks s (Drop link round) k shown agree keeps may size fit = absurd keeps
event_sends run clocks s (Repeat link round) k shown agree keeps may size fit = absurd keeps

-- ---- each run
same_kind : (before later : List ClockState) (times : ℕ → ℕ) (shown : List ℕ) → Fit times (Lists before) shown
    → Fit times (Lists later) shown
same_kind before later times shown fit = fit

starts_fit : (run : Run) (clocks : Clocks) (journal : List JournalEntry) (s : BusState) (k : ℕ) → IsRunOf run
    → Runs run clocks journal s → Fit (alarm (plan_of run.design k).period) clocks (starts k journal)
starts_fit run clocks journal s k rules (opens clocks' begin) = λ round at none. absurd (cc)
starts_fit run clocks journal s k rules (picks_for {clocks = before} {later = after'} j runs picks) =
    same_kind before after' (alarm (plan_of run.design k).period) (starts k journal)
    (starts_fit run (Lists before) journal s k rules runs)
starts_fit run clocks journal s k rules (goes_on {journal = before} {s = t} e runs keeps step) =
    subst (Fit (alarm (plan_of run.design k).period) clocks)
    (sym (flat_map-append (start_in k) before (entries run t e)))
    (event_starts run clocks t e k (starts k before) keeps (rounds_are_shown run clocks before t k rules runs).0
    (starts_fit run clocks before t k rules runs))

sends_fit : (run : Run) (clocks : Clocks) (journal : List JournalEntry) (s : BusState) (k : ℕ) → IsRunOf run
    → Runs run clocks journal s → Fit (release_of run k) clocks (sends k journal)
sends_fit run clocks journal s k rules (opens clocks' begin) = λ round at none. absurd (cc)
sends_fit run clocks journal s k rules (picks_for {clocks = before} {later = after'} j runs picks) =
    same_kind before after' (release_of run k) (sends k journal) (sends_fit run (Lists before) journal s k rules runs)
sends_fit run clocks journal s k rules (goes_on {journal = before} {s = t} e runs keeps step) =
    subst (Fit (release_of run k) clocks) (sym (flat_map-append (send_in k) before (entries run t e)))
    (event_sends run clocks t e k (sends k before) (runs_agree run clocks before t rules runs) keeps step.allowed
    (rounds_are_shown run clocks before t k rules runs).1 (sends_fit run clocks before t k rules runs))

pub all_times_fit : (run : Run) (clocks : Clocks) (journal : List JournalEntry) (s : BusState) (node : ℕ) → IsRunOf run
    → Runs run clocks journal s → node < length run.design.components
    → TimesFit (plan_of run.design node) clocks node journal
all_times_fit run clocks journal s node rules runs within =
    record {
      starts_fit = starts_fit run clocks journal s node rules runs;
      sends_fit = sends_fit run clocks journal s node rules runs;
    }
