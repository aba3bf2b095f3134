-- The actions of a node and their targets, in sequence: how many there are, the position of each, and the progress of
-- the node after them.
use Rattle.std.proofs.Common.{◌≡◌, ℕ, zero, suc, ◌+◌, ◌*◌, ◌<◌, ◌≤◌, nat_eq, nat_le, nat_lt, Bool, true, false, not}
use Rattle.std.proofs.Common.{◌&&◌, ◌||◌, cond, length, slice_get, Some, refl, sym, ap, ap₂, ◌∙◌, subst, arith}
use Rattle.std.proofs.lemmas.Bool.{ltb-true, ltb-false, false≢true}
use Rattle.std.proofs.lemmas.Grind.{common_steps}
use Rattle.std.proofs.lemmas.List.{length-map}
use Rattle.std.proofs.lemmas.Option.{slice_get-map}
use Rattle.std.specs.Option.{option_map}
use Rattle.bus_machine.specs.declared.plan.Plan.{Plan}
use Rattle.bus_machine.specs.declared.node_action.NodeAction.{NodeAction}
use Rattle.bus_machine.specs.declared.node_action.NodeAction.TheVariants as action
use Rattle.bus_machine.specs.ActionsAndTargets.{Progress, target, send_is_next, next_action, progress_after}
use Rattle.bus_machine.specs.ActionsAndTargets.{actions_from, actions, targets}
use Rattle.run_laws.specs.NodeActions.{Turn, first_turn, next_turn, turns, turn}

-- ---- one turn after another
turns_next : (plan : Plan) (n : ℕ) (t : Turn) → turns plan (suc n) t ≡ next_turn plan (turns plan n t)
turns_next plan zero t = refl
turns_next plan (suc n) t = turns_next plan n (next_turn plan t)

pub turn_next : (plan : Plan) (n : ℕ) → turn plan (suc n) ≡ next_turn plan (turn plan n)
turn_next plan n = turns_next plan n first_turn

length-actions_from : (plan : Plan) (n : ℕ) (p : Progress) (a : NodeAction) → length (actions_from plan n p a) ≡ n
length-actions_from plan zero p a = refl
length-actions_from plan (suc n) p a =
    ap suc (length-actions_from plan n (progress_after p a) (next_action plan (progress_after p a)))

action_from : (plan : Plan) (n k : ℕ) (t : Turn) → k < n
    → slice_get (actions_from plan n t.before t.action) k ≡ Some (turns plan k t).action
action_from plan zero k t within = absurd (omega arith)
action_from plan (suc n) zero t within = refl
action_from plan (suc n) (suc k) t within = action_from plan n k (next_turn plan t) (omega arith)

pub length-actions : (plan : Plan) (rounds : ℕ) → length (actions plan rounds) ≡ rounds * (plan.rate + 1)
length-actions plan rounds = length-actions_from plan (rounds * (plan.rate + 1)) first_turn.before first_turn.action

pub action_at : (plan : Plan) (rounds k : ℕ) → k < rounds * (plan.rate + 1)
    → slice_get (actions plan rounds) k ≡ Some (turn plan k).action
action_at plan rounds k within = action_from plan (rounds * (plan.rate + 1)) k first_turn within

-- the target of each turn
pub length-targets : (plan : Plan) (rounds : ℕ) → length (targets plan rounds) ≡ rounds * (plan.rate + 1)
length-targets plan rounds =
    length-map (actions plan rounds) (target plan)
    ∙ length-actions_from plan (rounds * (plan.rate + 1)) first_turn.before first_turn.action

pub target_at : (plan : Plan) (rounds k : ℕ) → k < rounds * (plan.rate + 1)
    → slice_get (targets plan rounds) k ≡ Some (target plan (turn plan k).action)
target_at plan rounds k within =
    slice_get-map (target plan) (actions plan rounds) k
    ∙ ap (option_map (target plan)) (action_from plan (rounds * (plan.rate + 1)) k first_turn within)

-- ---- how far the turns have brought a node
abbrev pub bit : Bool → ℕ
bit true = 1
bit false = 0

-- the number of actions that a node has completed
abbrev pub size : Plan → Progress → ℕ
size plan p = p.round * (plan.rate + 1) + p.steps + bit p.sent

pub record IsSized (plan : Plan) (n : ℕ) (p : Progress) : Type 0 where
  pub size_is : size plan p ≡ n
  pub steps : p.steps ≤ plan.rate

-- the properties of a plan
pub record IsPlan (plan : Plan) : Type 0 where
  pub rate : 1 ≤ plan.rate
  pub few : plan.sent_steps ≤ plan.rate

abbrev go_on : Plan → Progress → NodeAction → Type 0
go_on plan p a = IsSized plan (size plan p + 1) (progress_after p a)

begins_next : (plan : Plan) (p : Progress) → p.steps ≡ plan.rate → p.sent ≡ true → 1 ≤ plan.rate
    → go_on plan p (action.Start (p.round + 1))
begins_next plan p all sent rate =
    let whole : (p.round + 1) * (plan.rate + 1) ≡ p.round * (plan.rate + 1) + (plan.rate + 1) = omega arith in
    let one : bit p.sent ≡ 1 = ap bit sent in
    record { size_is = omega arith; steps = rate }

steps_next : (plan : Plan) (p : Progress) → p.steps < plan.rate → go_on plan p (action.Step p.round p.steps)
steps_next plan p below = record { size_is = omega arith; steps = omega arith }

sends_next : (plan : Plan) (p : Progress) → p.steps ≤ plan.rate → p.sent ≡ false → go_on plan p (action.Send p.round)
sends_next plan p most unsent = let none : bit p.sent ≡ 0 = ap bit unsent in
    record { size_is = omega arith; steps = most }

-- if all steps are finished and the send is not next, the round is sent
pub sent_if : (plan : Plan) (steps : ℕ) (sent : Bool) → plan.sent_steps ≤ steps → steps ≡ plan.rate
    → (not sent && nat_le plan.sent_steps steps
    && (nat_eq steps plan.rate || nat_le plan.release_offset (steps * plan.step_period))) ≡ false → sent ≡ true
sent_if plan steps true enough all fails = refl
sent_if plan steps false enough all fails =
    let one : nat_le plan.sent_steps steps ≡ true = grind (arith, common_steps) in
    let two : nat_eq steps plan.rate ≡ true = grind (arith, common_steps) in
    absurd (false≢true (sym fails
    ∙ ap₂ (λ a b. a && (b || nat_le plan.release_offset (steps * plan.step_period))) one two))

pub unsent_if : (sent x y : Bool) → (not sent && x && y) ≡ true → sent ≡ false
unsent_if true x y is = absurd (false≢true is)
unsent_if false x y is = refl

goes_by : (plan : Plan) (p : Progress) (send step : Bool) → IsPlan plan → p.steps ≤ plan.rate
    → send_is_next plan p ≡ send → nat_lt p.steps plan.rate ≡ step
    → go_on plan p (cond send (action.Send p.round)
    (cond step (action.Step p.round p.steps) (action.Start (p.round + 1))))
goes_by plan p true step rules most is below =
    sends_next plan p most (unsent_if p.sent (nat_le plan.sent_steps p.steps)
    (nat_eq p.steps plan.rate || nat_le plan.release_offset (p.steps * plan.step_period)) is)
goes_by plan p false true rules most is below = steps_next plan p (ltb-true p.steps plan.rate below)
goes_by plan p false false rules most is past =
    let all : p.steps ≡ plan.rate = (let over = ltb-false p.steps plan.rate past in omega arith) in
    begins_next plan p all (sent_if plan p.steps p.sent (let few = rules.few in omega arith) all is) rules.rate

goes : (plan : Plan) (p : Progress) → IsPlan plan → p.steps ≤ plan.rate → go_on plan p (next_action plan p)
goes plan p rules most = goes_by plan p (send_is_next plan p) (nat_lt p.steps plan.rate) rules most refl refl

-- after the first turn each adds one
pub sized : (plan : Plan) (n : ℕ) → IsPlan plan → IsSized plan (suc n) (turn plan (suc n)).before
sized plan zero rules = record { size_is = omega arith; steps = rules.rate }
sized plan (suc n) rules =
    let before = sized plan n rules in
    let p = (turn plan (suc n)).before in
    let next : (turn plan (suc (suc n))).before ≡ progress_after p (turn plan (suc n)).action =
    ap (λ (t : Turn). t.before) (turn_next plan (suc n)) in
    let acts : (turn plan (suc n)).action ≡ next_action plan p = ap (λ (t : Turn). t.action) (turn_next plan n)
    ∙ ap (next_action plan) (ap (λ (t : Turn). t.before) (sym (turn_next plan n))) in
    let on : go_on plan p (next_action plan p) = goes plan p rules before.steps in
    subst (IsSized plan (suc (suc n))) (sym (next ∙ ap (progress_after p) acts))
    (record { size_is = on.size_is ∙ (let same = before.size_is in omega arith); steps = on.steps })
