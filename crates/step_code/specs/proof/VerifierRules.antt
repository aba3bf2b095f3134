-- The verifier's rules: what verified code has nowhere.
use Rattle.std.specs.Prelude.{◌≡◌, ◌≢◌, ℕ, zero, suc, ◌+◌, ◌<◌, ◌≤◌, nat_lt, nat_eq, Bool, true, false, not, ◌&&◌, ◌||◌}
use Rattle.std.specs.Prelude.{if◌then◌else◌, IsTrue, List, [], ◌∷◌, length, Option, Some, None, slice_get}
use Rattle.std.specs.List.{list_all, list_any}
use Rattle.step_code.specs.declared.instr.Instr.{Instr}
use Rattle.step_code.specs.declared.instr.Instr.TheVariants.{Load, Store, Port, Fresh, LoopStart, LoopNext, Emit, End}
use Rattle.step_code.specs.declared.instr.CodeParts.{CodeParts}
use Rattle.step_code.specs.declared.fault.CodeFault.{CodeFault}
use Rattle.pals_base.specs.declared.limits.TheConstants.{INSTRUCTIONS}
use Rattle.step_code.specs.declared.loops.LoopSpan.{LoopSpan}
use Rattle.step_code.specs.Loops.{loop_at, loops_below, around}
use Rattle.step_code.specs.SuccessorsAndWeights.{jump_of, next_of}
use Rattle.step_code.specs.proof.CodeRuns.{has_entry}
use Rattle.step_code.specs.proof.StackHeights.{takes, after, Member, Reaches, Given, all_successors}
use Rattle.step_code.specs.declared.fault.CodeFault.TheVariants as fault

-- whether a test holds for the element, if there is one
abbrev pub on_some : {A : Type 0} → Option A → (A → Bool) → Bool
on_some None test = false
on_some (Some x) test = test x

-- ---- jumps
-- whether a place lies in the body of a loop
abbrev pub inside : ℕ → LoopSpan → Bool
inside p l = nat_lt l.start p && nat_lt p l.exit

abbrev pub agrees : ℕ → ℕ → LoopSpan → Bool
agrees p q l = if inside p l then inside q l else not (inside q l)

-- no body contains only one of the places
abbrev pub stays : List Instr → ℕ → ℕ → Bool
stays code p q = list_all (agrees p q) (loops_below code (length code))

-- a jump to no place, or into or out of a body
abbrev pub strays : List Instr → ℕ → ℕ → Bool
strays code p to = not (nat_lt to (length code) && stays code p to)

-- an instruction that may fall through, without a next instruction
abbrev pub lacks_next : List Instr → ℕ → Instr → Bool
lacks_next code p i = on_some (next_of p i) (λ next. not (nat_lt next (length code)))

abbrev pub jumps_badly : List Instr → ℕ → Instr → Bool
jumps_badly code p i = on_some (jump_of i) (strays code p) || lacks_next code p i

abbrev pub is_none : {A : Type 0} → List A → Bool
is_none [] = true
is_none (x ∷ xs) = false

-- an entry that is not a place, or is in a body
abbrev pub enters_badly : List Instr → ℕ → Bool
enters_badly code e = not (nat_lt e (length code) && is_none (around code e))

abbrev pub is_entry : List (Option ℕ) → ℕ → Bool
is_entry entries p = list_any (λ entry. on_some entry (nat_eq p)) entries

abbrev pub is_bad_entry : List Instr → List (Option ℕ) → ℕ → Bool
is_bad_entry code entries p = is_entry entries p && enters_badly code p

-- ---- loops
-- whether a loop ends at a place, by a way back to `to`
abbrev pub ends_loop : List Instr → ℕ → ℕ → Bool
ends_loop code p zero = false
ends_loop code p (suc start) = on_some (loop_at code start) (λ l. nat_eq l.exit (p + 1))

-- whether an instruction is not part of a loop, but should be
abbrev pub lacks_loop : List Instr → ℕ → Instr → Bool
lacks_loop code p (LoopStart slot low high exit) = not (on_some (loop_at code p) (λ l. true))
lacks_loop code p (LoopNext slot high to) = not (ends_loop code p to)
lacks_loop code p other = false

abbrev pub jumps_back : List Instr → ℕ → Instr → Bool
jumps_back code p i = on_some (jump_of i) (λ to. not (nat_lt p to)) || lacks_loop code p i

-- ---- slots, ports and states
-- no loop may have the slot
abbrev pub is_no_loop_slot : CodeParts → ℕ → Bool
is_no_loop_slot c slot = nat_lt slot c.vars || not (nat_lt slot (c.vars + c.loops))

-- nor where a loop round the place has it
abbrev pub misses_loop_slot : CodeParts → ℕ → ℕ → Bool
misses_loop_slot c p slot = is_no_loop_slot c slot || list_any (λ l. nat_eq l.slot slot) (around c.instrs p)

abbrev pub misses_slot : CodeParts → ℕ → Instr → Bool
misses_slot c p (Load slot) = not (nat_lt slot (c.vars + c.loops))
misses_slot c p (Store slot) = not (nat_lt slot c.vars)
misses_slot c p (Port port) = not (nat_lt port c.ins)
misses_slot c p (Fresh port) = not (nat_lt port c.ins)
misses_slot c p (Emit port) = not (nat_lt port c.outs)
misses_slot c p (LoopStart slot low high exit) = misses_loop_slot c p slot
misses_slot c p (LoopNext slot high to) = is_no_loop_slot c slot
misses_slot c p (End state) = not (has_entry (slice_get c.entries state))
misses_slot c p other = false

-- ---- heights
-- a path reaches an instruction with fewer operands than it takes
pub record Underflows (c : CodeParts) (p : ℕ) : Type 0 where
  pub instr : Instr
  pub here : slice_get c.instrs p ≡ Some instr
  pub steps : ℕ
  pub height : ℕ
  pub reached : Reaches c.instrs c.entries steps p height
  pub fewer : height < takes instr

-- an instruction leads to a place that an earlier one, or an entry, gave another height
pub record Differs (c : CodeParts) (p : ℕ) : Type 0 where
  pub instr : Instr
  pub here : slice_get c.instrs p ≡ Some instr
  pub steps : ℕ
  pub height : ℕ
  pub reached : Reaches c.instrs c.entries steps p height
  pub enough : takes instr ≤ height
  pub to : ℕ
  pub leads : Member (all_successors p instr) to
  pub place : to < length c.instrs
  pub other : ℕ
  pub given : Given c.instrs c.entries p to other
  pub differs : other ≢ after height instr

-- ---- the first fault
-- the rules, in the order in which one place is checked
pub data Rule : Type 0 where
  BadJump : Rule
  BackJump : Rule
  BadSlot : Rule
  Underflow : Rule
  HeightsDiffer : Rule

abbrev pub rank : Rule → ℕ
rank BadJump = 0
rank BackJump = 1
rank BadSlot = 2
rank Underflow = 3
rank HeightsDiffer = 4

-- whether a test of instructions holds of the one at a place
abbrev pub finds : CodeParts → (Instr → Bool) → ℕ → Bool
finds c test p = on_some (slice_get c.instrs p) test

-- what a rule finds at a place
abbrev pub Finds : CodeParts → Rule → ℕ → Type 0
Finds c BadJump p = IsTrue (is_bad_entry c.instrs c.entries p || finds c (jumps_badly c.instrs p) p)
Finds c BackJump p = IsTrue (finds c (jumps_back c.instrs p) p)
Finds c BadSlot p = IsTrue (finds c (misses_slot c p) p)
Finds c Underflow p = Underflows c p
Finds c HeightsDiffer p = Differs c p

-- no rule finds anything below a place
pub record IsCleanBelow (c : CodeParts) (p : ℕ) : Type 0 where
  pub none : (q : ℕ) (r : Rule) → q < p → ¬ Finds c r q

-- no rule finds anything at earlier places, nor an earlier rule at this one
pub record IsFirst (c : CodeParts) (rule : Rule) (p : ℕ) : Type 0 where
  pub short : length c.instrs ≤ INSTRUCTIONS
  pub here : Finds c rule p
  pub earlier_places : IsCleanBelow c p
  pub earlier_rules : (r : Rule) → rank r < rank rule → ¬ Finds c r p

-- the fault is the first one of these parts, or there was not enough memory for parts that are not too long
abbrev pub IsFaultOf : CodeParts → CodeFault → Type 0
IsFaultOf c (fault.BadJump p) = IsFirst c BadJump p
IsFaultOf c (fault.BackJump p) = IsFirst c BackJump p
IsFaultOf c (fault.BadSlot p) = IsFirst c BadSlot p
IsFaultOf c (fault.Underflow p) = IsFirst c Underflow p
IsFaultOf c (fault.HeightsDiffer p) = IsFirst c HeightsDiffer p
IsFaultOf c (fault.TooLong n) = (n ≡ length c.instrs) × (INSTRUCTIONS < length c.instrs)
IsFaultOf c fault.Memory = length c.instrs ≤ INSTRUCTIONS

-- no rule finds anything
pub record IsVerified (c : CodeParts) : Type 0 where
  pub short : length c.instrs ≤ INSTRUCTIONS
  pub clean : (p : ℕ) (rule : Rule) → ¬ Finds c rule p
