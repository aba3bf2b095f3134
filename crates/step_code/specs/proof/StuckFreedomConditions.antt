-- Definitions for proofs: code whose stack heights agree and suffice, code whose slots and ports are all there, and
-- outcomes of runs that are not stuck.
use Rattle.std.specs.Prelude.{◌≡◌, ℕ, ◌<◌, ◌≤◌, List, Option, Some, slice_get}
use Rattle.step_code.specs.declared.instr.Instr.{Instr}
use Rattle.step_code.specs.SuccessorsAndWeights.{forward_successors}
use Rattle.step_code.specs.proof.CodeRuns.{CodeOutcome, Ended, Trapped, Stuck, Unfinished}
use Rattle.step_code.specs.proof.StackHeights.{takes, after, Member, Reaches, all_successors}
use Rattle.step_code.specs.proof.SlotsAndPorts.{FindsSlotsAndPorts}

-- rule 2 finds nothing anywhere, nor does rule 3 with two instructions
pub record HasAgreeingHeights (code : List Instr) (entries : List (Option ℕ)) : Type 0 where
  pub enough : (n p h : ℕ) (i : Instr) → Reaches code entries n p h → slice_get code p ≡ Some i → takes i ≤ h
  pub same : (n m p q h k t : ℕ) (i j : Instr) → Reaches code entries n p h → slice_get code p ≡ Some i
      → Member (all_successors p i) t
      → Reaches code entries m q k → slice_get code q ≡ Some j → Member (forward_successors q (Some j)) t → q < p
      → q < t
      → after k j ≡ after h i

pub record HasSlotsAndPorts (code : List Instr) (slots ins outs : ℕ) : Type 0 where
  pub each : (p : ℕ) (i : Instr) → slice_get code p ≡ Some i → FindsSlotsAndPorts slots ins outs i

abbrev pub IsNotStuck : CodeOutcome → Type 0
IsNotStuck (Ended state slots outs) = Unit {0}
IsNotStuck (Trapped trap) = Unit {0}
IsNotStuck Stuck = ⊥
IsNotStuck Unfinished = Unit {0}
