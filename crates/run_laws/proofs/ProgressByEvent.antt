-- How each event changes a node's position among its actions, and its next action.
use Rattle.std.proofs.Common.{◌≡◌, ◌≢◌, inl, inr, ℕ, suc, ◌+◌, ◌-◌, ◌*◌, ◌<◌, ◌≤◌, nat_eq, nat_le, nat_lt, Bool, true}
use Rattle.std.proofs.Common.{false, ◌&&◌, ◌||◌, cond, List, slice_get, Some, refl, sym, ap, ap₂, ◌∙◌, subst, arith}
use Rattle.std.proofs.Common.{add-one}
use Rattle.std.specs.Prelude.{if◌then◌else◌}
use Rattle.std.proofs.lemmas.Bool.{ltb-false}
use Rattle.std.proofs.lemmas.Grind.{common_steps}
use Rattle.std.proofs.lemmas.Option.{same_Some}
use Rattle.list_lemmas.proofs.Numbers.{nat_lt-self}
use Rattle.pals_base.specs.declared.basic_types.PortValue.{PortValue}
use Rattle.pals_runs.specs.declared.phase.Phase.{Phase}
use Rattle.pals_runs.specs.declared.phase.Phase.TheVariants.{Waiting, Running, Between, Holding, Done}
use Rattle.pals_runs.specs.declared.journal.Arrived.{Arrived}
use Rattle.pals_runs.specs.declared.journal.Arrived.TheVariants.{Kept, Ignored, Early}
use Rattle.bus_machine.specs.declared.plan.Plan.{Plan}
use Rattle.bus_machine.specs.Nodes.{NodeState, round_of, at_rest}
use Rattle.bus_machine.specs.NodeEvents.{started, stepped, finished, sent_from, after_send, after_round, with_message}
use Rattle.bus_machine.specs.declared.node_action.NodeAction.{NodeAction}
use Rattle.bus_machine.specs.declared.node_action.NodeAction.TheVariants as action
use Rattle.bus_machine.specs.ActionsAndTargets.{Progress, actions, target, send_is_next, next_action, progress_after}
use Rattle.bus_machine.specs.ActionsAndTargets.{targets, next_in}
use Rattle.run_laws.specs.NodeActions.{Turn, turn, progress_in, upcoming, Follows}
use Rattle.run_laws.proofs.NodeActions.{IsPlan, turn_next, sized, size, bit, action_at, target_at}
use Rattle.run_laws.proofs.TimeArithmetic.{steps_more}

-- ---- the next action

pub turn_acts : (plan : Plan) (n : ℕ) → (turn plan (suc n)).action ≡ next_action plan (turn plan (suc n)).before
turn_acts plan n =
    ap (λ (t : Turn). t.action) (turn_next plan n)
    ∙ ap (λ (t : Turn). next_action plan t.before) (sym (turn_next plan n))

pub turn_brings : (plan : Plan) (n : ℕ)
    → (turn plan (suc n)).before ≡ progress_after (turn plan n).before (turn plan n).action
turn_brings plan n = ap (λ (t : Turn). t.before) (turn_next plan n)

held_sends : (plan : Plan) (round : ℕ) (sent : Bool) → IsPlan plan → sent ≡ false
    → next_action plan (record { round = round; steps = plan.rate; sent = sent }) ≡ action.Send round
held_sends plan round true rules unsent = absurd (cc)
held_sends plan round false rules unsent =
    let few = rules.few in
    let one : nat_le plan.sent_steps plan.rate ≡ true = grind (arith, common_steps) in
    let two : nat_eq plan.rate plan.rate ≡ true = grind (arith, common_steps) in
    ap (λ b. cond b (action.Send round)
    (cond (nat_lt plan.rate plan.rate) (action.Step round plan.rate) (action.Start (round + 1))))
    (ap₂ (λ a b. a && (b || nat_le plan.release_offset (plan.rate * plan.step_period))) one two)

next_from : (plan : Plan) (n : NodeState) (p : Phase) (what : NodeAction) → IsPlan plan → 1 ≤ n.count
    → (p ≡ Holding → n.sent ≡ false) → next_in plan n p ≡ Some what
    → next_action plan (progress_in plan n p) ≡ what
next_from plan n Waiting what rules some held is =
    let next : round_of n + 1 ≡ n.count = omega arith in
    ap (λ b. cond b (action.Step (round_of n) plan.rate) (action.Start (round_of n + 1))) (nat_lt-self plan.rate)
    ∙ ap action.Start next ∙ same_Some (action.Start n.count) what is
next_from plan n (Running step) what rules some held is = absurd (cc)
next_from plan n (Between steps) what rules some held is = same_Some _ what is
next_from plan n Holding what rules some held is =
    held_sends plan (round_of n) n.sent rules (held refl) ∙ same_Some (action.Send (round_of n)) what is
next_from plan n Done what rules some held is = absurd (cc)

pub next_is : (plan : Plan) (done : ℕ) (n : NodeState) (what : NodeAction) → IsPlan plan
    → (n.phase ≡ Holding → n.sent ≡ false) → Follows plan done n → upcoming plan n ≡ Some what
    → (turn plan done).action ≡ what
next_is plan done n what rules held (inl first) is =
    let here : next_in plan n Waiting ≡ Some what = subst (λ p. next_in plan n p ≡ Some what) first.phase is in
    ap (λ k. (turn plan k).action) first.none_done ∙ ap action.Start (sym first.count)
    ∙ same_Some (action.Start n.count) what here
next_is plan done n what rules held (inr some) is =
    ap (λ k. (turn plan k).action) some.done_is ∙ turn_acts plan some.before
    ∙ ap (next_action plan) (ap (λ k. (turn plan k).before) (sym some.done_is) ∙ some.progress)
    ∙ next_from plan n n.phase what rules some.count held is

-- ---- its number is below that of all actions
abbrev pub acting : Plan → ℕ → NodeState → Phase → Type 0
acting plan rounds n Waiting = n.count < rounds
acting plan rounds n (Running step) = step < plan.rate
acting plan rounds n (Between steps) = steps < plan.rate
acting plan rounds n Holding = n.sent ≡ false
acting plan rounds n Done = Unit {0}

bit_at_most : (b : Bool) → bit b ≤ 1
bit_at_most true = omega arith
bit_at_most false = omega arith

whole_rounds : (count rounds each done inside : ℕ) → 1 ≤ count → count ≤ rounds → done ≡ (count - 1) * each + inside
    → inside < each → done < rounds * each
whole_rounds count rounds each done inside some most is below =
    let one : count ≡ (count - 1) + 1 = omega arith in
    let all : count * each ≡ (count - 1) * each + each = ap (λ c. c * each) one ∙ omega arith in
    let more : count * each ≤ rounds * each = steps_more each count rounds most in
    omega arith

below_by : (plan : Plan) (rounds done : ℕ) (n : NodeState) (p : Phase) (action : NodeAction) → 1 ≤ n.count
    → n.count ≤ rounds → acting plan rounds n p → next_in plan n p ≡ Some action
    → size plan (progress_in plan n p) ≡ done → done < rounds * (plan.rate + 1)
below_by plan rounds done n Waiting action some most acts is sized' =
    let one : n.count ≡ (n.count - 1) + 1 = omega arith in
    let all : n.count * (plan.rate + 1) ≡ (n.count - 1) * (plan.rate + 1) + (plan.rate + 1) =
    ap (λ c. c * (plan.rate + 1)) one ∙ omega arith in
    let next : (n.count + 1) * (plan.rate + 1) ≡ n.count * (plan.rate + 1) + (plan.rate + 1) = omega arith in
    let more : (n.count + 1) * (plan.rate + 1) ≤ rounds * (plan.rate + 1) =
    steps_more (plan.rate + 1) (n.count + 1) rounds (omega arith) in
    omega arith
below_by plan rounds done n (Running step) action some most acts is sized' = absurd (cc)
below_by plan rounds done n (Between steps) action some most acts is sized' =
    let small = bit_at_most n.sent in
    whole_rounds n.count rounds (plan.rate + 1) done (steps + bit n.sent) some most (omega arith) (omega arith)
below_by plan rounds done n Holding action some most acts is sized' =
    let none : bit n.sent ≡ 0 = ap bit acts in
    whole_rounds n.count rounds (plan.rate + 1) done plan.rate some most (omega arith) (omega arith)
below_by plan rounds done n Done action some most acts is sized' = absurd (cc)

pub is_below : (plan : Plan) (rounds done : ℕ) (n : NodeState) (action : NodeAction) → IsPlan plan → 1 ≤ rounds
    → n.count ≤ rounds → acting plan rounds n n.phase → Follows plan done n → upcoming plan n ≡ Some action
    → done < rounds * (plan.rate + 1)
is_below plan rounds done n action rules some most acts (inl first) is =
    let none = first.none_done in
    let more : 1 * (plan.rate + 1) ≤ rounds * (plan.rate + 1) = steps_more (plan.rate + 1) 1 rounds some in
    omega arith
is_below plan rounds done n action rules some most acts (inr after) is =
    let has : size plan (turn plan (suc after.before)).before ≡ suc after.before =
    (sized plan after.before rules).size_is in
    below_by plan rounds done n n.phase action after.count most acts is
    (ap (size plan) (sym after.progress) ∙ ap (λ k. size plan (turn plan k).before) after.done_is ∙ has
    ∙ sym after.done_is)

round_in : (plan : Plan) (n : NodeState) (p : Phase) → (progress_in plan n p).round ≡ n.count - 1
round_in plan n Waiting = refl
round_in plan n (Running step) = refl
round_in plan n (Between steps) = refl
round_in plan n Holding = refl
round_in plan n Done = refl

within_count : (count each round steps sent done : ℕ) → 1 ≤ count → round ≡ count - 1 → steps + 1 ≤ each → sent ≤ 1
    → round * each + steps + sent ≡ done → done ≤ count * each
within_count count each round steps sent done some is most one all =
    let next : count ≡ round + 1 = omega arith in
    let whole : count * each ≡ round * each + each = ap (λ c. c * each) next ∙ omega arith in
    omega arith

pub is_at_most : (plan : Plan) (rounds done : ℕ) (n : NodeState) → IsPlan plan → n.count ≤ rounds → Follows plan done n
    → done ≤ rounds * (plan.rate + 1)
is_at_most plan rounds done n rules most (inl first) = let none = first.none_done in omega arith
is_at_most plan rounds done n rules most (inr after) =
    let p = (turn plan (suc after.before)).before in
    let has = sized plan after.before rules in
    let steps = has.steps in
    let same : p ≡ progress_in plan n n.phase = ap (λ k. (turn plan k).before) (sym after.done_is) ∙ after.progress in
    let own : done ≤ n.count * (plan.rate + 1) =
    within_count n.count (plan.rate + 1) p.round p.steps (bit p.sent) done after.count
    (ap (λ (q : Progress). q.round) same ∙ round_in plan n n.phase) (omega arith) (bit_at_most p.sent)
    (has.size_is ∙ sym after.done_is) in
    let more : n.count * (plan.rate + 1) ≤ rounds * (plan.rate + 1) = steps_more (plan.rate + 1) n.count rounds most in
    omega arith

pub target_is : (plan : Plan) (rounds done : ℕ) (n : NodeState) (action : NodeAction) → IsPlan plan → 1 ≤ rounds
    → n.count ≤ rounds → acting plan rounds n n.phase → (n.phase ≡ Holding → n.sent ≡ false) → Follows plan done n
    → upcoming plan n ≡ Some action
    → slice_get (targets plan rounds) done ≡ Some (target plan action)
target_is plan rounds done n action rules some most acts held follows is =
    target_at plan rounds done (is_below plan rounds done n action rules some most acts follows is)
    ∙ ap (λ a. Some (target plan a)) (next_is plan done n action rules held follows is)

pub action_is : (plan : Plan) (rounds done : ℕ) (n : NodeState) (action : NodeAction) → IsPlan plan → 1 ≤ rounds
    → n.count ≤ rounds → acting plan rounds n n.phase → (n.phase ≡ Holding → n.sent ≡ false) → Follows plan done n
    → upcoming plan n ≡ Some action
    → slice_get (actions plan rounds) done ≡ Some action
action_is plan rounds done n action rules some most acts held follows is =
    action_at plan rounds done (is_below plan rounds done n action rules some most acts follows is)
    ∙ ap Some (next_is plan done n action rules held follows is)

-- ---- events
brings : (plan : Plan) (done : ℕ) (m : NodeState) (action : NodeAction) → 1 ≤ m.count → (turn plan done).action ≡ action
    → progress_after (turn plan done).before action ≡ progress_in plan m m.phase → Follows plan (done + 1) m
brings plan done m action some is same = inr (record {
  before = done;
  done_is = add-one done;
  count = some;
  progress =
      ap (λ k. (turn plan k).before) (add-one done) ∙ turn_brings plan done
      ∙ ap (progress_after (turn plan done).before) is ∙ same;
})

pub starts_follow : (plan : Plan) (done : ℕ) (n : NodeState) (values : List PortValue)
    → (turn plan done).action ≡ action.Start n.count → Follows plan (done + 1) (started plan values n)
starts_follow plan done n values is =
    let same : n.count ≡ n.count + 1 - 1 = omega arith in
    brings plan done (started plan values n) (action.Start n.count) (omega arith) is
    (ap (λ r. record { round = r; steps = 1; sent = false }) same)

step_by : (plan : Plan) (p : Progress) (round step : ℕ) (send more : Bool)
    → cond send (action.Send p.round) (cond more (action.Step p.round p.steps) (action.Start (p.round + 1)))
    ≡ action.Step round step → step ≡ p.steps
step_by plan p round step true more is = absurd (cc)
step_by plan p round step false true is = cc
step_by plan p round step false false is = absurd (cc)

-- the progress of a node that has done some
pub come_to : (plan : Plan) (done : ℕ) (n : NodeState) (p : Phase) → Follows plan done n → n.phase ≡ p → p ≢ Waiting
    → (1 ≤ n.count) × ((turn plan done).before ≡ progress_in plan n p)
come_to plan done n p (inl first) is other = absurd (other (sym is ∙ first.phase))
come_to plan done n p (inr some) is other = (some.count, some.progress ∙ ap (progress_in plan n) is)

pub steps_follow : (plan : Plan) (done : ℕ) (n : NodeState) (steps round step : ℕ) → IsPlan plan → Follows plan done n
    → n.phase ≡ Between steps → upcoming plan n ≡ Some (action.Step round step)
    → Follows plan (done + 1) (stepped steps n)
steps_follow plan done n steps round step rules follows between is =
    let come = come_to plan done n (Between steps) follows between (λ same. absurd (cc)) in
    let acts =
    next_is plan done n (action.Step round step) rules
    (λ held. let both : Between steps ≡ Holding = sym between ∙ held in absurd (cc)) follows is in
    let p = progress_in plan n (Between steps) in
    let what : next_action plan p ≡ action.Step round step = same_Some _ _ (sym (ap (next_in plan n) between) ∙ is) in
    let this : step ≡ steps = step_by plan p round step (send_is_next plan p) (nat_lt p.steps plan.rate) what in
    brings plan done (stepped steps n) (action.Step round step) come.0 acts
    (ap (λ (q : Progress). progress_after q (action.Step round step)) come.1
    ∙ ap (λ i. record { round = round_of n; steps = i + 1; sent = n.sent }) this)

rest_progress : (plan : Plan) (n : NodeState) (b : Bool)
    → progress_in plan n (at_rest b) ≡ record { round = round_of n; steps = plan.rate; sent = true }
rest_progress plan n true = refl
rest_progress plan n false = refl

sends_by : (plan : Plan) (rounds : ℕ) (n : NodeState) (p : Phase) (round : ℕ)
    → next_in plan n p ≡ Some (action.Send round) → p ≢ Waiting
    → progress_after (progress_in plan n p) (action.Send round)
    ≡ progress_in plan (sent_from rounds n) (after_send n.count rounds p)
sends_by plan rounds n Waiting round is other = absurd (other refl)
sends_by plan rounds n (Running step) round is other = absurd (cc)
sends_by plan rounds n (Between steps) round is other = refl
sends_by plan rounds n Holding round is other = sym (rest_progress plan (sent_from rounds n) (nat_eq n.count rounds))
sends_by plan rounds n Done round is other = absurd (cc)

pub sends_follow : (plan : Plan) (rounds done : ℕ) (n : NodeState) (round : ℕ) → IsPlan plan
    → (n.phase ≡ Holding → n.sent ≡ false) → Follows plan done n → upcoming plan n ≡ Some (action.Send round)
    → Follows plan (done + 1) (sent_from rounds n)
sends_follow plan rounds done n round rules held follows is =
    let other : n.phase ≢ Waiting = λ waits. let both : next_in plan n Waiting ≡ Some (action.Send round) =
    subst (λ p. next_in plan n p ≡ Some (action.Send round)) waits is in absurd (cc) in
    let come = come_to plan done n n.phase follows refl other in
    brings plan done (sent_from rounds n) (action.Send round) come.0
    (next_is plan done n (action.Send round) rules held follows is)
    (ap (λ (q : Progress). progress_after q (action.Send round)) come.1 ∙ sends_by plan rounds n n.phase round is other)

-- if a node does no action of its own, its progress stays the same
pub same_progress : (plan : Plan) (done : ℕ) (n m : NodeState) → Follows plan done n → n.phase ≢ Waiting
    → m.count ≡ n.count → progress_in plan m m.phase ≡ progress_in plan n n.phase → Follows plan done m
same_progress plan done n m (inl first) other count same = absurd (other first.phase)
same_progress plan done n m (inr some) other count same =
    inr (record {
      before = some.before;
      done_is = some.done_is;
      count = (let before = some.count in omega arith);
      progress = some.progress ∙ sym same;
    })

ended_by : (plan : Plan) (n m : NodeState) (sent b : Bool) (step : ℕ) → n.sent ≡ sent → m.count ≡ n.count
    → m.sent ≡ n.sent → step + 1 ≡ plan.rate
    → progress_in plan m (if sent then at_rest b else Holding)
    ≡ record { round = round_of n; steps = step + 1; sent = n.sent }
ended_by plan n m true b step is count sent all =
    rest_progress plan m b ∙ ap₂ (λ c i. record { round = c - 1; steps = i; sent = true }) count (sym all)
    ∙ ap (λ x. record { round = round_of n; steps = step + 1; sent = x }) (sym is)
ended_by plan n m false b step is count sent all =
    ap₂ (λ c x. record { round = c - 1; steps = plan.rate; sent = x }) count sent
    ∙ ap (λ i. record { round = round_of n; steps = i; sent = n.sent }) (sym all)

finished_by : (plan : Plan) (rounds step : ℕ) (n x y : NodeState) (b : Bool) → nat_lt (step + 1) plan.rate ≡ b
    → step < plan.rate
    → x.count ≡ n.count → x.sent ≡ n.sent → x.phase ≡ Between (step + 1) → y.count ≡ n.count → y.sent ≡ n.sent
    → y.phase ≡ after_round rounds n
    → progress_in plan (cond b x y) (cond b x y).phase ≡ record { round = round_of n; steps = step + 1; sent = n.sent }
finished_by plan rounds step n x y true is within xc xs xp yc ys yp =
    ap (progress_in plan x) xp ∙ ap₂ (λ c s. record { round = c - 1; steps = step + 1; sent = s }) xc xs
finished_by plan rounds step n x y false is within xc xs xp yc ys yp =
    let last = ltb-false (step + 1) plan.rate is in
    ap (progress_in plan y) yp ∙ ended_by plan n y n.sent (nat_eq n.count rounds) step refl yc ys (omega arith)

count_by : (b : Bool) (x y : NodeState) (count : ℕ) → x.count ≡ count → y.count ≡ count → (cond b x y).count ≡ count
count_by true x y count xc yc = xc
count_by false x y count xc yc = yc

pub finish_follows : (plan : Plan) (rounds done : ℕ) (n : NodeState) (step : ℕ) → Follows plan done n
    → n.phase ≡ Running step → step < plan.rate → Follows plan done (finished plan rounds step n)
finish_follows plan rounds done n step follows runs within =
    same_progress plan done n (finished plan rounds step n) follows
    (λ waits. let both : Running step ≡ Waiting = sym runs ∙ waits in absurd (cc))
    (count_by (nat_lt (step + 1) plan.rate) _ _ n.count refl refl)
    (finished_by plan rounds step n _ _ (nat_lt (step + 1) plan.rate) refl within refl refl refl refl refl refl
    ∙ sym (ap (progress_in plan n) runs))

-- a message changes only slots
kept_progress : (plan : Plan) (n : NodeState) (port : ℕ) (tuple : List PortValue) (p : Phase)
    → progress_in plan n p ≡ progress_in plan (with_message n port tuple Kept) p
kept_progress plan n port tuple Waiting = refl
kept_progress plan n port tuple (Running step) = refl
kept_progress plan n port tuple (Between steps) = refl
kept_progress plan n port tuple Holding = refl
kept_progress plan n port tuple Done = refl

pub received_follows : (plan : Plan) (done : ℕ) (n : NodeState) (port : ℕ) (tuple : List PortValue) (a : Arrived)
    → Follows plan done n → Follows plan done (with_message n port tuple a)
received_follows plan done n port tuple Kept (inl first) =
    inl (record { none_done = first.none_done; count = first.count; phase = first.phase })
received_follows plan done n port tuple Kept (inr some) =
    inr (record {
      before = some.before;
      done_is = some.done_is;
      count = some.count;
      progress = some.progress ∙ kept_progress plan n port tuple n.phase;
    })
received_follows plan done n port tuple Ignored follows = follows
received_follows plan done n port tuple Early follows = follows
