-- The operators of the past in words, that the value of a formula at a round stays, and that one bit for each
-- subformula is enough.
use Rattle.std.proofs.Common.{◌≡◌, ◌∙◌, ℕ, suc, ℤ, Bool, not, ◌&&◌, ◌||◌, is_some, List, [], ◌∷◌, ◌++◌, length, refl}
use Rattle.std.proofs.Common.{sym, ap, ap₂, arith}
use Rattle.std.proofs.lemmas.List.{get_or_append_left}
use Rattle.std.proofs.Math.Seq.{get_or-append_seam}
use Rattle.pals_base.specs.declared.frames.Frame.{Frame}
use Rattle.pals_runs.specs.declared.forms.Compare.{Compare}
use Rattle.pals_runs.specs.Formula.{Formula, Var, Halted, Not, And, Or, Previous, Once, Historically, Since}
use Rattle.run_monitor.specs.TemporalOperators.{since}
use Rattle.run_monitor.specs.FormulaSemantics.{frame_in, variable_in, compares, holds}
use Rattle.run_monitor.specs.proof.IncrementalSemantics.{next_value, bits_after}
use Rattle.run_monitor.specs.proof.FormulaLaws.{PreviousReads, OnceReads, HistoricallyReads, SinceReads}
use Rattle.run_monitor.specs.proof.FormulaLaws.{PastStays, OneBitEach}
use Rattle.run_monitor.proofs.TemporalOperators.{once-first, once-next, always-first, always-next, since-first}
use Rattle.run_monitor.proofs.TemporalOperators.{since-next, previously-same, once-same, always-same, since-same}
use Rattle.run_monitor.proofs.TemporalOperators.{previously-reads, once-reads, always-reads, since-reads}

-- ---- the words of time
pub previous_reads : PreviousReads
unfolding holds
previous_reads f h n = previously-reads (holds f h) n

pub once_reads : OnceReads
unfolding holds
once_reads f h n = once-reads (holds f h) n

pub historically_reads : HistoricallyReads
unfolding holds
historically_reads f h n = always-reads (holds f h) n

pub since_reads : SinceReads
unfolding holds
since_reads f g h n = since-reads (holds f h) (holds g h) n

-- ---- formulas without parts
abbrev compared : ℕ → ℕ → Compare → ℤ → List Frame → Bool
compared node variable op number row = compares op (variable_in (frame_in row node) variable) number

abbrev halted : ℕ → List Frame → Bool
halted node row = is_some (frame_in row node).halt

-- ---- rounds that follow
pub past_stays : PastStays
unfolding holds
past_stays (Var node variable op number) h more n within =
    ap (compared node variable op number) (get_or_append_left h more [] n within)
past_stays (Halted node) h more n within = ap (halted node) (get_or_append_left h more [] n within)
past_stays (Not f) h more n within = ap not (past_stays f h more n within)
past_stays (And f g) h more n within = ap₂ (λ a b. a && b) (past_stays f h more n within) (past_stays g h more n within)
past_stays (Or f g) h more n within = ap₂ (λ a b. a || b) (past_stays f h more n within) (past_stays g h more n within)
past_stays (Previous f) h more n within =
    previously-same (holds f (h ++ more)) (holds f h) n (λ m below. past_stays f h more m (omega arith))
past_stays (Once f) h more n within =
    once-same (holds f (h ++ more)) (holds f h) n (λ m below. past_stays f h more m (omega arith))
past_stays (Historically f) h more n within =
    always-same (holds f (h ++ more)) (holds f h) n (λ m below. past_stays f h more m (omega arith))
past_stays (Since f g) h more n within =
    since-same (holds f (h ++ more)) (holds g (h ++ more)) (holds f h) (holds g h) n
    (λ m below. past_stays f h more m (omega arith)) (λ m below. past_stays g h more m (omega arith))

-- the value of a formula at the last round, and at that round in the longer history
last_stays : (f : Formula) (first : List Frame) (h : List (List Frame)) (row : List Frame)
    → holds f (first ∷ h) (length h) ≡ holds f (first ∷ h ++ row ∷ []) (length h)
last_stays f first h row = sym (past_stays f (first ∷ h) (row ∷ []) (length h) (omega arith))

abbrev continued : Bool → Bool → Bool → Bool
continued before p q = (before && p) || q

pub one_bit_each : OneBitEach
unfolding holds
one_bit_each (Var node variable op number) h row =
    sym (ap (compared node variable op number) (get_or-append_seam h row [] []))
one_bit_each (Halted node) h row = sym (ap (halted node) (get_or-append_seam h row [] []))
one_bit_each (Not f) h row = ap not (one_bit_each f h row)
one_bit_each (And f g) h row = ap₂ (λ a b. a && b) (one_bit_each f h row) (one_bit_each g h row)
one_bit_each (Or f g) h row = ap₂ (λ a b. a || b) (one_bit_each f h row) (one_bit_each g h row)
one_bit_each (Previous f) [] row = refl
one_bit_each (Previous f) (first ∷ h) row = last_stays f first h row
one_bit_each (Once f) [] row = one_bit_each f [] row ∙ sym (once-first (holds f (row ∷ [])))
one_bit_each (Once f) (first ∷ h) row =
    ap₂ (λ a b. a || b) (last_stays (Once f) first h row) (one_bit_each f (first ∷ h) row)
    ∙ sym (once-next (holds f (first ∷ h ++ row ∷ [])) (length h))
one_bit_each (Historically f) [] row = one_bit_each f [] row ∙ sym (always-first (holds f (row ∷ [])))
one_bit_each (Historically f) (first ∷ h) row =
    ap₂ (λ a b. a && b) (last_stays (Historically f) first h row) (one_bit_each f (first ∷ h) row)
    ∙ sym (always-next (holds f (first ∷ h ++ row ∷ [])) (length h))
one_bit_each (Since f g) [] row = one_bit_each g [] row ∙ sym (since-first (holds f (row ∷ [])) (holds g (row ∷ [])))
one_bit_each (Since f g) (first ∷ h) row =
    ap₂ (λ b p. continued b p (next_value (bits_after (first ∷ h)) row g)) (last_stays (Since f g) first h row)
    (one_bit_each f (first ∷ h) row)
    ∙ ap (continued (since (holds f (first ∷ h ++ row ∷ [])) (holds g (first ∷ h ++ row ∷ [])) (length h))
    (holds f (first ∷ h ++ row ∷ []) (suc (length h))))
    (one_bit_each g (first ∷ h) row)
    ∙ sym (since-next (holds f (first ∷ h ++ row ∷ [])) (holds g (first ∷ h ++ row ∷ [])) (length h))
