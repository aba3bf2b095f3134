-- The weight of code is the weight of a heaviest path from an entry: for the claim that the weight is the maximum.
use Rattle.std.proofs.Common.{◌≡◌, ◌∙◌, inl, inr, ℕ, ℤ, zero, suc, ◌+◌, ◌-◌, ◌<◌, ◌≤◌, List, [], ◌∷◌, length, map}
use Rattle.std.proofs.Common.{Option, Some, None, refl, sym, ap, subst, ⊎_elim, arith}
use Rattle.std.specs.Prelude.{◌⊎◌, slice_get}
use Rattle.std.proofs.lemmas.Bool.{cases_lt}
use Rattle.pals_base.specs.declared.basic_types.Trap.{Trap}
use Rattle.pals_base.specs.declared.frames.Frame.{Frame}
use Rattle.pals_base.specs.declared.basic_types.PortValue.{PortValue as Value}
use Rattle.pals_base.specs.SingleStep.{holding}
use Rattle.step_code.specs.declared.instr.Instr.{Instr}
use Rattle.step_code.specs.declared.instr.CodeParts.{CodeParts}
use Rattle.step_code.specs.Loops.{turns_of}
use Rattle.step_code.specs.SuccessorsAndWeights.{forward_successors_at, product, greatest, weight_at, heaviest}
use Rattle.step_code.specs.SuccessorsAndWeights.{entry_weight, weight}
use Rattle.step_code.specs.InstructionEffects.{Next, Goes, Ends, Traps, Sticks, StepInputs, step}
use Rattle.step_code.specs.InstructionsPerStep.{then_count, count, instructions_made_from, unless_halted}
use Rattle.step_code.specs.InstructionsPerStep.{instructions_made}
use Rattle.step_code.specs.proof.StackHeights.{Member}
use Rattle.step_code.specs.proof.CodePaths.{IsPath, path_weight}
use Rattle.step_code.specs.proof.VerifierRules.{IsVerified}
use Rattle.step_code.proofs.CappedWeights.{LeadsForward, leads_forward}
use Rattle.step_code.proofs.VerifiedInstructionsAndEntries.{verified_entry}
use Rattle.step_code.proofs.StepResults.{entry_within}

-- ---- no path weighs more
member_greatest : (f : ℕ → ℕ) (ts : List ℕ) (t : ℕ) → Member ts t → f t ≤ greatest (map f ts)
member_greatest f [] t among = absurd among
member_greatest f (u ∷ ts) t among =
    ⊎_elim (λ (e : u ≡ t). let same = ap f e in omega arith)
    (λ later. let less = member_greatest f ts t later in omega arith) among

path_within : (code : List Instr) (n p : ℕ) (rest : List ℕ) → IsPath code p rest → length rest < n
    → path_weight code p rest ≤ heaviest code n p
path_within code zero p rest path short = absurd (omega arith)
path_within code (suc n) p [] path short = omega arith
path_within code (suc n) p (q ∷ rest) path short =
    let more = path_within code n q rest path.1 (omega arith) in
    let among = member_greatest (heaviest code n) (forward_successors_at code p) q path.0 in
    omega arith

path_short : (code : List Instr) (p : ℕ) (rest : List ℕ) → LeadsForward code → p < length code → IsPath code p rest
    → p + length rest < length code
path_short code p [] on within path = omega arith
path_short code p (q ∷ rest) on within path =
    let there = on.there p q path.0 in
    let later = on.later p q path.0 in
    let more = path_short code q rest on there path.1 in
    omega arith

pub no_heavier : (c : CodeParts) (e : ℕ) (rest : List ℕ) → IsVerified c → Member c.entries (Some e)
    → IsPath c.instrs e rest → path_weight c.instrs e rest ≤ weight c.instrs c.entries
no_heavier c e rest v among path =
    let within = (verified_entry c e v among).there in
    let short = path_short c.instrs e rest (leads_forward c v) within path in
    let one = path_within c.instrs (length c.instrs) e rest path (omega arith) in
    let two = entry_within c.instrs c.entries e among in
    omega arith

-- ---- one path weighs as much
pub record Attains (code : List Instr) (p w : ℕ) : Type 0 where
  pub rest : List ℕ
  pub path : IsPath code p rest
  pub weighs : path_weight code p rest ≡ w

-- the maximum is attained by a member, or is 0
attained : {A : Type 0} (f : A → ℕ) (ts : List A)
    → (greatest (map f ts) ≡ 0) ⊎ ((t : A) × Member ts t × (greatest (map f ts) ≡ f t))
attained f [] = inl refl
attained f (t ∷ ts) =
    ⊎_elim
    (λ none. inr (t, inl refl, omega arith))
    (λ some.
    let is = some.2 in
    ⊎_elim (λ (less : f t < f some.0). inr (some.0, inr some.1, omega arith))
    (λ (ge : f some.0 ≤ f t). inr (t, inl refl, omega arith)) (cases_lt (f t) (f some.0)))
    (attained f ts)

attains_with : (code : List Instr) (n p : ℕ) → ((t : ℕ) → Attains code t (heaviest code n t) ⊎ (heaviest code n t ≡ 0))
    → Attains code p (heaviest code (suc n) p)
attains_with code n p each =
    ⊎_elim
    (λ (none : greatest (map (heaviest code n) (forward_successors_at code p)) ≡ 0).
    record { rest = []; path = tt; weighs = omega arith })
    (λ some.
    let is = some.2 in
    ⊎_elim
    (λ (one : Attains code some.0 (heaviest code n some.0)). let w = one.weighs in
    record { rest = some.0 ∷ one.rest; path = (some.1, one.path); weighs = omega arith })
    (λ (none : heaviest code n some.0 ≡ 0). record { rest = []; path = tt; weighs = omega arith })
    (each some.0))
    (attained (heaviest code n) (forward_successors_at code p))

attains : (code : List Instr) (n p : ℕ) → Attains code p (heaviest code (suc n) p)
attains code zero p = attains_with code zero p (λ t. inr refl)
attains code (suc n) p = attains_with code (suc n) p (λ t. inl (attains code n t))

pub record IsHeaviest (c : CodeParts) : Type 0 where
  pub entry : ℕ
  pub among : Member c.entries (Some entry)
  pub attains : Attains c.instrs entry (weight c.instrs c.entries)

some_weight : (c : CodeParts) (e : ℕ) → IsVerified c → Member c.entries (Some e) → 0 < weight c.instrs c.entries
some_weight c e v among =
    let well = verified_entry c e v among in
    let there = well.there in
    let k = length c.instrs - 1 in
    let fuel : length c.instrs ≡ suc k = omega arith in
    let w : weight_at c.instrs e ≡ 1 = ap (λ ls. product (map turns_of ls)) well.outside in
    let f = ap (λ n. heaviest c.instrs n e) fuel in
    let less = entry_within c.instrs c.entries e among in
    omega arith

from_entry : (c : CodeParts) (x : Option ℕ) → IsVerified c → Member c.entries x → 0 < entry_weight c.instrs x
    → weight c.instrs c.entries ≡ entry_weight c.instrs x → IsHeaviest c
from_entry c None v among some is = absurd (omega arith)
from_entry c (Some e) v among some is =
    let there = (verified_entry c e v among).there in
    let k = length c.instrs - 1 in
    let fuel : suc k ≡ length c.instrs = omega arith in
    record {
      entry = e;
      among = among;
      attains = subst (Attains c.instrs e) (ap (λ n. heaviest c.instrs n e) fuel ∙ sym is) (attains c.instrs k e);
    }

pub one_heaviest : (c : CodeParts) (e : ℕ) → IsVerified c → Member c.entries (Some e) → IsHeaviest c
one_heaviest c e v among =
    let some = some_weight c e v among in
    ⊎_elim
    (λ (none : weight c.instrs c.entries ≡ 0). absurd (omega arith))
    (λ one. let is = one.2 in from_entry c one.0 v one.1 (omega arith) is)
    (attained (entry_weight c.instrs) c.entries)

-- ---- instructions made
then_within : (n : ℕ) (next : Next) (rest : ℕ → List ℤ → List ℤ → List Value → ℕ)
    → ((p : ℕ) (stack slots : List ℤ) (outs : List Value) → rest p stack slots outs ≤ n) → then_count next rest ≤ n
then_within n (Goes p stack slots outs) rest within = within p stack slots outs
then_within n (Ends state slots outs) rest within = omega arith
then_within n (Traps trap) rest within = omega arith
then_within n Sticks rest within = omega arith

count_within : (code : List Instr) (s : StepInputs) (n p : ℕ) (stack slots : List ℤ) (outs : List Value)
    → count code s n p stack slots outs ≤ n
count_within code s zero p stack slots outs = omega arith
count_within code s (suc n) p stack slots outs =
    let less =
    then_within n (step (slice_get code p) s p stack slots outs) (count code s n)
    (λ q st sl o. count_within code s n q st sl o) in omega arith

from_within : (c : CodeParts) (held : Frame) (inputs : List Value) (o : Option (Option ℕ))
    → instructions_made_from c held inputs o ≤ weight c.instrs c.entries
from_within c held inputs None = omega arith
from_within c held inputs (Some None) = omega arith
from_within c held inputs (Some (Some e)) = count_within c.instrs _ (weight c.instrs c.entries) e _ _ _

halted_within : (halt : Option Trap) (n m : ℕ) → n ≤ m → unless_halted halt n ≤ m
halted_within None n m le = le
halted_within (Some trap) n m le = omega arith

pub made_within : (c : CodeParts) (frame : Frame) (inputs : List Value)
    → instructions_made c frame inputs ≤ weight c.instrs c.entries
made_within c frame inputs =
    let held : Frame = record frame { held = holding frame.held inputs } in
    halted_within frame.halt (instructions_made_from c held inputs (slice_get c.entries frame.state))
    (weight c.instrs c.entries)
    (from_within c held inputs (slice_get c.entries frame.state))
