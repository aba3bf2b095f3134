-- The index of each start and each send among all actions of a node.
use Rattle.std.proofs.Common.{◌≡◌, inl, inr, ℕ, zero, suc, ◌+◌, ◌-◌, ◌*◌, ◌<◌, ◌≤◌, nat_lt, Bool, true, false, cond}
use Rattle.std.proofs.Common.{slice_get, Some, refl, sym, ap, ◌∙◌, subst, arith}
use Rattle.std.proofs.lemmas.Bool.{cases_lt, cases_order, ltb-false}
use Rattle.std.proofs.lemmas.Grind.{common_steps}
use Rattle.std.proofs.lemmas.Option.{same_Some, slice_get_within}
use Rattle.pals_runs.specs.declared.phase.Phase.{Phase}
use Rattle.pals_runs.specs.declared.phase.Phase.TheVariants.{Waiting, Running, Between, Holding, Done}
use Rattle.bus_machine.specs.declared.plan.Plan.{Plan}
use Rattle.bus_machine.specs.Nodes.{NodeState, sent_rounds}
use Rattle.bus_machine.specs.declared.node_action.NodeAction.{NodeAction}
use Rattle.bus_machine.specs.declared.node_action.NodeAction.TheVariants as action
use Rattle.bus_machine.specs.ActionsAndTargets.{Progress, send_is_next, next_action, progress_after, actions}
use Rattle.run_laws.specs.NodeActions.{turn, progress_in, Follows}
use Rattle.run_laws.proofs.NodeActions.{IsPlan, bit, size, sized, action_at, length-actions, sent_if, unsent_if}
use Rattle.run_laws.proofs.ProgressByEvent.{turn_acts, turn_brings, is_at_most}

-- ---- a start
starts_by : (plan : Plan) (p : Progress) (round : ℕ) (send more : Bool) → IsPlan plan → p.steps ≤ plan.rate
    → send_is_next plan p ≡ send → nat_lt p.steps plan.rate ≡ more
    → cond send (action.Send p.round) (cond more (action.Step p.round p.steps) (action.Start (p.round + 1)))
    ≡ action.Start round → size plan p ≡ round * (plan.rate + 1)
starts_by plan p round true more rules most is lt action = absurd (cc)
starts_by plan p round false true rules most is lt action = absurd (cc)
starts_by plan p round false false rules most is lt action =
    let all : p.steps ≡ plan.rate = (let over = ltb-false p.steps plan.rate lt in omega arith) in
    let few = rules.few in
    let sent : p.sent ≡ true = sent_if plan p.steps p.sent (omega arith) all is in
    let one : bit p.sent ≡ 1 = ap bit sent in
    let next : p.round + 1 ≡ round = cc in
    let whole : round * (plan.rate + 1) ≡ p.round * (plan.rate + 1) + (plan.rate + 1) =
    ap (λ r. r * (plan.rate + 1)) (sym next) ∙ omega arith in
    omega arith

turn_starts : (plan : Plan) (k round : ℕ) → IsPlan plan → (turn plan k).action ≡ action.Start round
    → k ≡ round * (plan.rate + 1)
turn_starts plan zero round rules is = let none : 0 ≡ round = cc in
    let zero' : 0 * (plan.rate + 1) ≡ round * (plan.rate + 1) = ap (λ r. r * (plan.rate + 1)) none in omega arith
turn_starts plan (suc k) round rules is =
    let p = (turn plan (suc k)).before in
    let has = sized plan k rules in
    sym has.size_is ∙ starts_by plan p round (send_is_next plan p) (nat_lt p.steps plan.rate) rules has.steps refl refl
    (sym (turn_acts plan k) ∙ is)

in_all : (plan : Plan) (rounds k : ℕ) (action : NodeAction) → slice_get (actions plan rounds) k ≡ Some action
    → (turn plan k).action ≡ action
in_all plan rounds k action is =
    let within : k < rounds * (plan.rate + 1) =
    (let below = slice_get_within (actions plan rounds) k action is in let size' = length-actions plan rounds in
    omega arith) in
    same_Some _ _ (sym (action_at plan rounds k within) ∙ is)

pub start_place : (plan : Plan) (rounds k round : ℕ) → IsPlan plan
    → slice_get (actions plan rounds) k ≡ Some (action.Start round) → k ≡ round * (plan.rate + 1)
start_place plan rounds k round rules is = turn_starts plan k round rules (in_all plan rounds k (action.Start round) is)

-- a completed start belongs to a counted round
pub start_done : (plan : Plan) (rounds k round done : ℕ) (n : NodeState) → IsPlan plan
    → slice_get (actions plan rounds) k ≡ Some (action.Start round) → k < done → Follows plan done n → round < n.count
start_done plan rounds k round done n rules is below follows =
    let place = start_place plan rounds k round rules is in
    let most = is_at_most plan n.count done n rules (omega arith) follows in
    elim (cases_lt round n.count) [
      | inl less ↦ less
      | inr past ↦ absurd (let more : n.count * (plan.rate + 1) ≤ round * (plan.rate + 1) =
          grind (arith, common_steps) in omega arith)
    ]

-- ---- a send
-- the rounds that are begun, and whether the last is sent
abbrev pub mark : Progress → ℕ
mark p = 2 * p.round + bit p.sent

bit_most : (b : Bool) → bit b ≤ 1
bit_most true = omega arith
bit_most false = omega arith

marks_by : (plan : Plan) (p : Progress) (send more : Bool) → send_is_next plan p ≡ send
    → mark p ≤ mark (progress_after p
    (cond send (action.Send p.round) (cond more (action.Step p.round p.steps) (action.Start (p.round + 1)))))
marks_by plan p true more is = let most = bit_most p.sent in omega arith
marks_by plan p false true is = omega arith
marks_by plan p false false is = let most = bit_most p.sent in omega arith

mark_next : (plan : Plan) (k : ℕ) → mark (turn plan (suc k)).before ≤ mark (turn plan (suc (suc k))).before
mark_next plan k =
    let p = (turn plan (suc k)).before in
    let after' : (turn plan (suc (suc k))).before ≡ progress_after p (next_action plan p) = turn_brings plan (suc k)
    ∙ ap (progress_after p) (turn_acts plan k) in
    subst (λ q. mark p ≤ mark q) (sym after') (marks_by plan p (send_is_next plan p) (nat_lt p.steps plan.rate) refl)

marks_rise : (plan : Plan) (k more : ℕ) → mark (turn plan (suc k)).before ≤ mark (turn plan (suc (k + more))).before
marks_rise plan k zero = let same : k + 0 ≡ k = omega arith in
    subst (λ i. mark (turn plan (suc k)).before ≤ mark (turn plan (suc i)).before) (sym same) (omega arith)
marks_rise plan k (suc more) =
    let same : k + suc more ≡ suc (k + more) = omega arith in
    let before = marks_rise plan k more in
    let next = mark_next plan (k + more) in
    subst (λ i. mark (turn plan (suc k)).before ≤ mark (turn plan (suc i)).before) (sym same) (omega arith)

sends_by : (plan : Plan) (p : Progress) (round : ℕ) (send more : Bool) → send_is_next plan p ≡ send
    → cond send (action.Send p.round) (cond more (action.Step p.round p.steps) (action.Start (p.round + 1)))
    ≡ action.Send round → (p.round ≡ round) × (p.sent ≡ false)
sends_by plan p round true more is action = (cc, unsent_if p.sent _ _ is)
sends_by plan p round false true is action = absurd (cc)
sends_by plan p round false false is action = absurd (cc)

-- a send follows the start of its round
turn_sends : (plan : Plan) (k round : ℕ) → (turn plan k).action ≡ action.Send round
    → (before : ℕ) × (k ≡ suc before) × (mark (turn plan k).before ≡ 2 * round)
    × (mark (turn plan (suc k)).before ≡ 2 * round + 1)
turn_sends plan zero round is = absurd (cc)
turn_sends plan (suc k) round is =
    let p = (turn plan (suc k)).before in
    let now =
    sends_by plan p round (send_is_next plan p) (nat_lt p.steps plan.rate) refl (sym (turn_acts plan k) ∙ is) in
    let unsent : bit p.sent ≡ 0 = ap bit now.1 in
    let here = now.0 in (
      k,
      refl,
      omega arith,
      ap mark (turn_brings plan (suc k) ∙ ap (progress_after p) is)
          ∙ (let round' : 2 * p.round ≡ 2 * round = ap (λ r. 2 * r) here in omega arith),
    )

-- it is done once
pub send_place : (plan : Plan) (rounds k other round : ℕ) → slice_get (actions plan rounds) k ≡ Some (action.Send round)
    → slice_get (actions plan rounds) other ≡ Some (action.Send round) → k ≡ other
send_place plan rounds k other round is is_other =
    let one = turn_sends plan k round (in_all plan rounds k (action.Send round) is) in
    let two = turn_sends plan other round (in_all plan rounds other (action.Send round) is_other) in
    elim (cases_order k other) [
      | inl same ↦ same
      | inr apart ↦ elim apart [
        | inl below ↦ absurd (let to : other ≡ suc (k + (other - k - 1)) = omega arith in
            let rise = marks_rise plan k (other - k - 1) in let end' = ap (λ i. mark (turn plan i).before) to in
            let a = one.3 in let b = two.2 in omega arith)
        | inr above ↦ absurd (let to : k ≡ suc (other + (k - other - 1)) = omega arith in
            let rise = marks_rise plan other (k - other - 1) in let end' = ap (λ i. mark (turn plan i).before) to in
            let a = two.3 in let b = one.2 in omega arith)
      ]
    ]

-- the position of a node
sent_by : (sent : Bool) (count round : ℕ) → 1 ≤ count → 2 * round + 1 ≤ 2 * (count - 1) + bit sent
    → round < cond sent count (count - 1)
sent_by true count round some le = omega arith
sent_by false count round some le = omega arith

sent_in : (plan : Plan) (n : NodeState) (p : Phase) (round : ℕ) → 1 ≤ n.count → (p ≡ Waiting → n.sent ≡ true)
    → (p ≡ Done → n.sent ≡ true) → 2 * round + 1 ≤ mark (progress_in plan n p) → round < sent_rounds n
sent_in plan n Waiting round some waits done le =
    sent_by n.sent n.count round some (let same : bit n.sent ≡ 1 = ap bit (waits refl) in omega arith)
sent_in plan n (Running i) round some waits done le = sent_by n.sent n.count round some le
sent_in plan n (Between i) round some waits done le = sent_by n.sent n.count round some le
sent_in plan n Holding round some waits done le = sent_by n.sent n.count round some le
sent_in plan n Done round some waits done le =
    sent_by n.sent n.count round some (let same : bit n.sent ≡ 1 = ap bit (done refl) in omega arith)

-- a completed send belongs to a sent round
pub send_done : (plan : Plan) (rounds k round done : ℕ) (n : NodeState)
    → slice_get (actions plan rounds) k ≡ Some (action.Send round) → k < done → (n.phase ≡ Waiting → n.sent ≡ true)
    → (n.phase ≡ Done → n.sent ≡ true) → Follows plan done n → round < sent_rounds n
send_done plan rounds k round done n is below waits ends (inl first) =
    absurd (let none = first.none_done in omega arith)
send_done plan rounds k round done n is below waits ends (inr some) =
    let one = turn_sends plan k round (in_all plan rounds k (action.Send round) is) in
    let to : done ≡ suc (k + (done - k - 1)) = omega arith in
    let rise = marks_rise plan k (done - k - 1) in
    let end' = ap (λ i. mark (turn plan i).before) to in
    let here = ap mark some.progress in
    let a = one.3 in
    sent_in plan n n.phase round some.count waits ends (omega arith)
