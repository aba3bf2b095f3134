-- The text of round budgets: a line for each processor, and one for each step that it serves in a round.
use Rattle.std.specs.Prelude.{ℕ, codes, decimal, Bool, true, false, not, if◌then◌else◌, List, [], ◌∷◌, map, flat_map}
use Rattle.std.specs.List.{list_any}
use Rattle.step_code.specs.declared.instr.CodeParts.{CodeParts}
use Rattle.pals_model.specs.declared.design.DesignParts.{DesignParts}
use Rattle.pals_model.specs.RoundTexts.{text_of}
use Rattle.pals_runs.specs.JournalLines.{node_word, spaced}
use Rattle.round_budget.specs.Budgets.{Line, total, fits, timetable}

-- a processor: its name, how many nanoseconds it takes for an instruction, and the components that it serves
pub record Processor : Type 0 where
  pub name : List ℕ
  pub nanos : ℕ
  pub members : List ℕ

-- ---- whether its steps fit, with these programs of the components
abbrev pub sum_on : List CodeParts → Processor → ℕ
sum_on programs p = total p.nanos programs p.members

abbrev pub fits_on : DesignParts → List CodeParts → Processor → Bool
fits_on design programs p = fits design.gamma (sum_on programs p)

-- whether some processor has more to do than fits
abbrev pub some_is_over : DesignParts → List CodeParts → List Processor → Bool
some_is_over design programs processors = list_any (λ p. not (fits_on design programs p)) processors

-- ---- lines
abbrev pub fit_word : Bool → List ℕ
fit_word true = codes "fits"
fit_word false = codes "over"

-- `processor`, its name, `sum`, what one step of each of its components takes at most, `of`, the longest
-- execution, and `fits` or `over`
abbrev pub processor_line : DesignParts → List CodeParts → Processor → List ℕ
processor_line design programs p = spaced (
    codes "processor" ∷ p.name
    ∷ codes "sum" ∷ decimal (sum_on programs p)
    ∷ codes "of" ∷ decimal design.gamma.alpha_max
    ∷ fit_word (fits_on design programs p) ∷ [])

-- `slot`, the component, the number of the step, when it begins and when it is done
abbrev pub slot_line : DesignParts → Line → List ℕ
slot_line design line =
    spaced (codes "slot" ∷ node_word design line.node ∷ decimal line.step ∷ decimal line.begin ∷ decimal line.done ∷ [])

-- the processor, and where its steps fit the timetable of a round
abbrev pub processor_lines : DesignParts → List CodeParts → Processor → List (List ℕ)
processor_lines design programs p =
    processor_line design programs p
    ∷ (if fits_on design programs p then map (slot_line design) (timetable design programs p.nanos p.members) else [])

-- ---- the text
abbrev pub budget_lines : DesignParts → List CodeParts → List Processor → List (List ℕ)
budget_lines design programs processors = flat_map (processor_lines design programs) processors

abbrev pub budget_text : DesignParts → List CodeParts → List Processor → List ℕ
budget_text design programs processors = text_of (budget_lines design programs processors)
