-- Each analysis, and each command but `run` that needs step codes, has one answer to a design and its scenario.
use Rattle.std.proofs.Common.{◌≡◌, ◌∙◌, ℕ, Bool, true, false, List, sym, ap}
use Rattle.std.specs.Prelude.{if◌then◌else◌}
use Rattle.std.proofs.lemmas.Bool.{true≢false}
use Rattle.pals_model.specs.declared.design.DesignParts.{DesignParts}
use Rattle.pals_model.specs.DesignRules.{IsDesign}
use Rattle.plant_fuse.specs.FusedComposition.{ArePairs}
use Rattle.plant_fuse.specs.proof.FusedLaws.{ReportIsOne}
use Rattle.scenario_json.specs.declared.scenario.Scenario.{Scenario}
use Rattle.pals_top.specs.AnalysisCommands.{Analysis, Sync, Watch, Vote, Fuse}
use Rattle.pals_top.specs.ExecutionCommands.{Execution, TimedWorld, LooseWorld, Run, Audit, Budget}
use Rattle.pals_top.specs.AnalysisAnswers.{Makes as analyses}
use Rattle.pals_top.specs.ExecutionAnswers.{command_of, Makes as executes}
use Rattle.design_codes.specs.DesignBehaviours.{behaviours}
use Rattle.pals_top.specs.Budget.{processors_of}
use Rattle.pals_top.specs.proof.FlaggedAndRunCommands.{is_run}
use Rattle.answer_laws.specs.proof.UniquenessPremises.{ExecutionPremises}
use Rattle.pals_top.specs.TimedWorlds.{world_of}
use Rattle.answer_laws.proofs.TimedWorldAnswers.{one_timed}
use Rattle.answer_laws.proofs.UniqueLooseWorldAnswers.{end_of, one_world}

-- two answers have the same status and the same text
abbrev pub Agree : ℕ → List ℕ → ℕ → List ℕ → Type 0
Agree s a t b = (s ≡ t) × (a ≡ b)

-- both are given by equations
by_equations : (s t n : ℕ) (a b text : List ℕ) → (s ≡ n) × (a ≡ text) → (t ≡ n) × (b ≡ text) → Agree s a t b
by_equations s t n a b text x y = (x.0 ∙ sym y.0, x.1 ∙ sym y.1)

-- ---- analyses
pub one_analysis : ReportIsOne → (what : Analysis) (design : DesignParts) (scenario : Scenario) → IsDesign design
    → ArePairs design scenario.plants
    → (s t : ℕ) (a b : List ℕ) → analyses what design scenario s a → analyses what design scenario t b → Agree s a t b
one_analysis one Sync design scenario rules pairs s t a b x y = by_equations s t _ a b _ x y
one_analysis one Watch design scenario rules pairs s t a b x y =
    by_equations s t _ a b _ (x.status_is, x.text_is) (y.status_is, y.text_is)
one_analysis one Vote design scenario rules pairs s t a b x y =
    by_equations s t _ a b _ (x.status_is, x.text_is) (y.status_is, y.text_is)
one_analysis one Fuse design scenario rules pairs s t a b x y = (
  x.status_is ∙ sym y.status_is,
  one design scenario.plants scenario.env scenario.rounds a b rules pairs x.report y.report,
)

-- ---- executions
pub one_execution : ExecutionPremises → (what : Execution) (root : List ℕ) → is_run (command_of what root) ≡ false
    → (design : DesignParts) (scenario : Scenario)
    (s t : ℕ) (a b : List ℕ) → executes what design scenario s a → executes what design scenario t b → Agree s a t b
one_execution laws TimedWorld root not_run design scenario s t a b x y =
    one_timed (world_of design scenario) scenario.events s t a b x y
one_execution laws LooseWorld root not_run design scenario s t a b x y =
    one_world laws.one_end design scenario s t a b (end_of design scenario s a x) (end_of design scenario t b y)
one_execution laws (Run trace) root not_run design scenario s t a b x y = absurd (true≢false not_run)
one_execution laws Audit root not_run design scenario s t a b x y = by_equations s t _ a b _ x.judged y.judged
one_execution laws Budget root not_run design scenario s t a b x y = (
  x.status_is
      ∙ (ap (λ (over : Bool). if over then 1 else 0)
      (laws.one_verdict design (behaviours design) x.programs y.programs (processors_of scenario)
      x.laid_out y.laid_out)
      ∙ sym y.status_is),
  x.text_is ∙ (laws.one_text design (behaviours design) x.programs y.programs (processors_of scenario) x.laid_out
      y.laid_out ∙ sym y.text_is),
)
