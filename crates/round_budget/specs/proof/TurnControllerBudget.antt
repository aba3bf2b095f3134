-- The turn controller with all four components on one processor.
use Rattle.std.specs.Prelude.{◌≡◌, ℕ, true, false, codes, List, [], ◌∷◌, map, Some}
use Rattle.step_code.specs.declared.instr.Instr.TheVariants.{Store, Port, Add, Emit, End}
use Rattle.step_code.specs.declared.instr.CodeParts.{CodeParts}
use Rattle.step_code.specs.proof.Examples.{surface}
use Rattle.step_compiler.specs.proof.CompiledCode.{compiled}
use Rattle.pals_model.specs.declared.design.Component.{Component}
use Rattle.round_budget.specs.Budgets.{Line, total, fits, timetable}
use Rattle.round_budget.specs.BudgetText.{Processor, some_is_over, budget_lines}
use Rattle.round_budget.specs.proof.TurnController.{turn}

-- sum := l + r + t; cmd!(goal)
abbrev pub main_code : CodeParts
main_code = record {
  instrs = Port 1 ∷ Port 2 ∷ Add ∷ Port 3 ∷ Add ∷ Store 0 ∷ Port 0 ∷ Emit 0 ∷ End 0 ∷ [];
  entries = Some 0 ∷ [];
  vars = 1;
  loops = 0;
  ins = 4;
  outs = 1;
}

abbrev pub turn_codes : List CodeParts
turn_codes = main_code ∷ surface ∷ surface ∷ surface ∷ []

abbrev all_four : List ℕ
all_four = 0 ∷ 1 ∷ 2 ∷ 3 ∷ []

abbrev slot : ℕ → ℕ → ℕ → ℕ → Line
slot node step begin done = record { node = node; step = step; begin = begin; done = done }

-- they are the compiled codes of its components' behaviours
abbrev pub TurnIsCompiled : Type 0
TurnIsCompiled = map (λ (c : Component). compiled c.behaviour) turn.components ≡ turn_codes

-- with 1,000 nanoseconds an instruction
abbrev pub TurnFits : Type 0
TurnFits = (total 1000 turn_codes all_four ≡ 57000) × (fits turn.gamma (total 1000 turn_codes all_four) ≡ true)

-- with 60,000
abbrev pub TurnIsOver : Type 0
TurnIsOver = (total 60000 turn_codes all_four ≡ 3420000) × (fits turn.gamma (total 60000 turn_codes all_four) ≡ false)

abbrev pub TurnHasSlots : Type 0
TurnHasSlots =
    timetable turn turn_codes 1000 all_four
    ≡ slot 0 0 0 9000
    ∷ slot 1 0 9000 25000
    ∷ slot 2 0 25000 41000
    ∷ slot 3 0 41000 57000
    ∷ slot 3 1 5000000 5016000
    ∷ slot 2 1 10000000 10016000
    ∷ slot 3 2 10016000 10032000
    ∷ slot 3 3 15000000 15016000
    ∷ []

-- ---- its text
abbrev cpu : ℕ → List Processor
cpu nanos = record { name = codes "cpu"; nanos = nanos; members = all_four } ∷ []

abbrev pub TurnIsWritten : Type 0
TurnIsWritten =
    budget_lines turn turn_codes (cpu 1000)
    ≡ codes "processor cpu sum 57000 of 3000000 fits"
    ∷ codes "slot p.m 0 0 9000"
    ∷ codes "slot p.l 0 9000 25000"
    ∷ codes "slot p.r 0 25000 41000"
    ∷ codes "slot p.t 0 41000 57000"
    ∷ codes "slot p.t 1 5000000 5016000"
    ∷ codes "slot p.r 1 10000000 10016000"
    ∷ codes "slot p.t 2 10016000 10032000"
    ∷ codes "slot p.t 3 15000000 15016000"
    ∷ []

abbrev pub TurnIsWrittenOver : Type 0
TurnIsWrittenOver =
    (budget_lines turn turn_codes (cpu 60000) ≡ codes "processor cpu sum 3420000 of 3000000 over" ∷ [])
    × (some_is_over turn turn_codes (cpu 60000) ≡ true)
