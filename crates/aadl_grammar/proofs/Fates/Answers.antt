-- The machine's fate is correct for each of the two languages.
use Rattle.std.proofs.Common.{◌≡◌, ◌↔◌, ℕ, ap, List}
use Rattle.aadl_tree.specs.Terminals.{PlainTerminal, PlacedTerminal, kinds_of}
use Rattle.aadl_tree.specs.PackagesBehavioursAndNesting.{IsShallow}
use Rattle.aadl_tree.specs.TerminalFaults.{FailsAt, DeepAt}
use Rattle.aadl_grammar.specs.proof.StackMachine.{Fate, finished, syntax_at, deep_at, fate}
use Rattle.aadl_grammar.proofs.Fates.FateRuns.{Tells, tells}
use Rattle.aadl_grammar.proofs.Fates.FateMeanings.{Language, low_start, stops_fail, deepens_deep, finishes_text}
use Rattle.aadl_grammar.proofs.Fates.FateMeanings.{fails_no_text, deep_not_shallow, fails_at, deep_at_opener, is_text}
use Rattle.aadl_grammar.proofs.Fates.FateMeanings.{text_finishes}
use Rattle.aadl_grammar.proofs.Fates.ExclusiveFates.{fails_once, fails_not_deep, deep_once}

fails_by : (IsText : List PlainTerminal → Type 0) (outer end : ℕ) (l : Language IsText outer)
    (ts : List PlacedTerminal) (at : ℕ)
    → FailsAt IsText outer end ts at → (f : Fate) → Tells outer end l.start ts f → f ≡ syntax_at at
fails_by IsText outer end l ts at g finished r =
    absurd (fails_no_text IsText outer end ts at g ((finishes_text IsText outer l ts r).0))
fails_by IsText outer end l ts at g (syntax_at to) r =
    ap syntax_at (fails_once IsText outer end ts to at (stops_fail IsText outer end l ts to r) g)
fails_by IsText outer end l ts at g (deep_at to) r =
    absurd (fails_not_deep IsText outer end ts at to g (deepens_deep IsText outer end l ts to r))

deep_by : (IsText : List PlainTerminal → Type 0) (outer end : ℕ) (l : Language IsText outer) (ts : List PlacedTerminal)
    (at : ℕ)
    → DeepAt IsText outer ts at → (f : Fate) → Tells outer end l.start ts f → f ≡ deep_at at
deep_by IsText outer end l ts at g finished r =
    absurd (deep_not_shallow IsText outer ts at g ((finishes_text IsText outer l ts r).1))
deep_by IsText outer end l ts at g (syntax_at to) r =
    absurd (fails_not_deep IsText outer end ts to at (stops_fail IsText outer end l ts to r) g)
deep_by IsText outer end l ts at g (deep_at to) r =
    ap deep_at (deep_once IsText outer ts to at (deepens_deep IsText outer end l ts to r) g)

pub answers_text : (IsText : List PlainTerminal → Type 0) (outer end : ℕ) (l : Language IsText outer)
    (ts : List PlacedTerminal)
    → (fate outer end l.start ts ≡ finished) ↔ (IsText (kinds_of ts) × IsShallow outer (kinds_of ts))
answers_text IsText outer end l ts =
    ((λ e. is_text IsText outer end l ts e), (λ both. text_finishes IsText outer end l ts both.0 both.1))

pub answers_fault : (IsText : List PlainTerminal → Type 0) (outer end : ℕ) (l : Language IsText outer)
    (ts : List PlacedTerminal) (at : ℕ)
    → (fate outer end l.start ts ≡ syntax_at at) ↔ FailsAt IsText outer end ts at
answers_fault IsText outer end l ts at = (
  (λ e. fails_at IsText outer end l ts at e),
  (λ g. fails_by IsText outer end l ts at g (fate outer end l.start ts)
      (tells outer end ts l.start (low_start IsText outer l))),
)

pub answers_depth : (IsText : List PlainTerminal → Type 0) (outer end : ℕ) (l : Language IsText outer)
    (ts : List PlacedTerminal) (at : ℕ)
    → (fate outer end l.start ts ≡ deep_at at) ↔ DeepAt IsText outer ts at
answers_depth IsText outer end l ts at = (
  (λ e. deep_at_opener IsText outer end l ts at e),
  (λ g. deep_by IsText outer end l ts at g (fate outer end l.start ts)
      (tells outer end ts l.start (low_start IsText outer l))),
)
