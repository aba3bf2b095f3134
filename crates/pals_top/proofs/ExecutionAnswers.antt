-- What a bundle means to a command that needs step codes, and what the program answers to it.
use Rattle.std.proofs.Common.{◌≡◌, ◌≤◌, inl, inr, ℕ, List, length, ◌++◌, Result, Ok, Err, IfOk, refl, sym, subst}
use Rattle.pals_base.specs.declared.limits.TheConstants.{LIST_ITEMS}
use Rattle.pals_base.specs.declared.basic_types.NodeNo.{NodeNo}
use Rattle.pals_model.specs.declared.design.DesignParts.{DesignParts}
use Rattle.pals_model.specs.RoundTexts.{line_end}
use Rattle.pals_runs.specs.declared.commands.Command.{Command}
use Rattle.scenario_json.specs.declared.scenario.Scenario.{Scenario}
use Rattle.scenario_json.specs.Scenarios.{Means}
use Rattle.design_codes.specs.OverlongCodes.{AreShort, IsFirstTooLong}
use Rattle.scenario_laws.specs.proof.EventAndTraceLimits.{EventsAreFew, TracesAreFew}
use Rattle.scenario_laws.specs.proof.LooseEvents.{EventsAreLoose, loose_world_command}
use Rattle.bundle_designs.specs.AcceptedAndRefusedPackages.{IsAccepted}
use Rattle.pals_top.specs.declared.answer.Answer.{Answer}
use Rattle.pals_top.specs.declared.bundle_meaning.Coded.{Coded}
use Rattle.pals_top.specs.ExecutionCommands.{Execution, TimedWorld, LooseWorld, Run, Audit, Budget}
use Rattle.pals_top.specs.declared.status.TheConstants.{CODE_TOO_LONG}
use Rattle.pals_top.specs.ExecutionAnswers.{command_of, overlong_code_line, Makes, IsCodeTooLong, IsExecutionAnswer}
use Rattle.pals_top.specs.proof.BundlesWithCodes.{HasEvents, IsCoded, IsRefused}
use Rattle.pals_top.specs.proof.StatusAndText.{status_of, text_of, Says}
use Rattle.pals_top.proofs.ScenarioFaultAnswers.{SaysFault}

-- what a scenario was read for, it keeps
keeps_events : (what : Execution) (root : List ℕ) (design : DesignParts) (bytes : List ℕ) (scenario : Scenario)
    (command : Command)
    → command ≡ command_of what root → EventsAreLoose → Means bytes design command (Ok scenario)
    → length scenario.events ≤ LIST_ITEMS
    → length scenario.trace ≤ LIST_ITEMS → HasEvents what design scenario
keeps_events TimedWorld root design bytes scenario command is loose means few lines = few
keeps_events LooseWorld root design bytes scenario command is loose means few lines =
    let same : command ≡ loose_world_command root = is in
    loose bytes root design scenario (subst (λ (k : Command). Means bytes design k (Ok scenario)) same means)
keeps_events (Run trace) root design bytes scenario command is loose means few lines = tt
keeps_events Audit root design bytes scenario command is loose means few lines = lines
keeps_events Budget root design bytes scenario command is loose means few lines = tt

pub has_events : (what : Execution) (root : List ℕ) (design : DesignParts) (bytes : List ℕ) (scenario : Scenario)
    → EventsAreLoose → EventsAreFew → TracesAreFew
    → Means bytes design (command_of what root) (Ok scenario) → HasEvents what design scenario
has_events what root design bytes scenario loose few lines means =
    keeps_events what root design bytes scenario (command_of what root) refl loose means
    (few bytes (command_of what root) design scenario means)
    (lines bytes (command_of what root) design scenario means)

-- a line on a component, by another name of it
pub code_said : (design : DesignParts) (a : Answer) {m n : NodeNo} {s t : ℕ} → m ≡ n → s ≡ t
    → Says CODE_TOO_LONG (overlong_code_line design m.0 s ++ line_end) a
    → Says CODE_TOO_LONG (overlong_code_line design n.0 t ++ line_end) a
code_said design a {m} {n} {s} {t} same_node same_size said =
    subst (λ (size : ℕ). Says CODE_TOO_LONG (overlong_code_line design n.0 size ++ line_end) a) same_size
    (subst (λ (node : NodeNo). Says CODE_TOO_LONG (overlong_code_line design node.0 s ++ line_end) a) same_node said)

-- ---- why a bundle has no such meaning
pub code_refused : (root bundle : List ℕ) (design : DesignParts) (bytes : List ℕ) (node : NodeNo) (size : ℕ)
    (a : Answer) → IsAccepted root bundle design bytes
    → IsFirstTooLong design node.0 size → Says CODE_TOO_LONG (overlong_code_line design node.0 size ++ line_end) a
    → IsCodeTooLong root bundle (status_of a) (text_of a)
code_refused root bundle design bytes node size a accepted long says = record {
  status_is = says.0;
  design = design;
  scenario = bytes;
  accepted = accepted;
  node = node;
  size = size;
  too_long = long;
  text_is = says.1;
}

pub scenario_refused : (what : Execution) (root bundle : List ℕ) (design : DesignParts) (a : Answer) → AreShort design
    → SaysFault root bundle design (command_of what root) a → IsRefused what root bundle (status_of a) (text_of a)
scenario_refused what root bundle design a short says =
    inr (inr (record {
      status_is = says.status_is;
      faulty = says.faulty;
      short = subst (λ (d : DesignParts). AreShort d) (sym says.design_is) short;
    }))

-- ---- answers
pub refused : (what : Execution) (root bundle : List ℕ) (status : ℕ) (text : List ℕ)
    → IsRefused what root bundle status text
    → IsExecutionAnswer what root bundle status text
refused what root bundle status text (inl x) = inl x
refused what root bundle status text (inr (inl x)) = inr (inl x)
refused what root bundle status text (inr (inr x)) = inr (inr (inl x))

pub executed : {E : Type 0} (what : Execution) (root bundle : List ℕ) (coded : Coded) (answered : Result Answer E)
    → IsCoded what root bundle coded
    → IfOk answered (λ a. Makes what coded.design coded.scenario (status_of a) (text_of a))
    → IfOk answered (λ a. IsExecutionAnswer what root bundle (status_of a) (text_of a))
executed what root bundle coded (Ok a) is makes =
    inr (inr (inr (record {
      design = coded.design;
      scenario = coded.scenario;
      means = is.means;
      short = is.short;
      makes = makes;
    })))
executed what root bundle coded (Err e) is makes = tt
