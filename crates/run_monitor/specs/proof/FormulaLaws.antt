-- Laws of formulas of monitors: the meaning of each operator, and that values of past rounds stay.
use Rattle.std.specs.Prelude.{◌≡◌, ◌↔◌, IsTrue, ℕ, suc, ◌<◌, ◌≤◌, List, [], ◌∷◌, ◌++◌, length}
use Rattle.pals_base.specs.declared.frames.Frame.{Frame}
use Rattle.pals_runs.specs.Formula.{Formula, Previous, Once, Historically, Since}
use Rattle.run_monitor.specs.FormulaSemantics.{holds}
use Rattle.run_monitor.specs.proof.IncrementalSemantics.{next_value, bits_after}

abbrev pub Holds : Formula → List (List Frame) → ℕ → Type 0
Holds f h n = IsTrue (holds f h n)

-- ---- the words of time
abbrev pub PreviousReads : Type 0
PreviousReads = (f : Formula) (h : List (List Frame)) (n : ℕ) →
    Holds (Previous f) h n ↔ ((m : ℕ) × (n ≡ suc m) × Holds f h m)

abbrev pub OnceReads : Type 0
OnceReads = (f : Formula) (h : List (List Frame)) (n : ℕ) → Holds (Once f) h n ↔ ((m : ℕ) × (m ≤ n) × Holds f h m)

abbrev pub HistoricallyReads : Type 0
HistoricallyReads = (f : Formula) (h : List (List Frame)) (n : ℕ) →
    Holds (Historically f) h n ↔ ((m : ℕ) → m ≤ n → Holds f h m)

abbrev pub SinceReads : Type 0
SinceReads = (f g : Formula) (h : List (List Frame)) (n : ℕ) →
    Holds (Since f g) h n ↔ ((m : ℕ) × (m ≤ n) × Holds g h m × ((i : ℕ) → m < i → i ≤ n → Holds f h i))

-- ---- one round more
-- the value of a formula at a round stays, whatever follows
abbrev pub PastStays : Type 0
PastStays = (f : Formula) (h more : List (List Frame)) (n : ℕ) → n < length h → holds f (h ++ more) n ≡ holds f h n

-- the bits after a history are enough to compute each subformula's value in the next round
abbrev pub OneBitEach : Type 0
OneBitEach = (f : Formula) (h : List (List Frame)) (row : List Frame) →
    next_value (bits_after h) row f ≡ holds f (h ++ row ∷ []) (length h)
