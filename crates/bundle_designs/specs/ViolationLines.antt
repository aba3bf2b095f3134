-- The lines of violations.
use Rattle.std.specs.Prelude.{ℕ, codes, decimal, List, [], ◌∷◌, ◌++◌, map, slice_index_or}
use Rattle.annex_resolve.specs.declared.violation.Violation.{Violation}
use Rattle.bundle_designs.specs.LinesAndColumns.{position_text}
use Rattle.bundle_designs.specs.PackageFaultLines.{and_word}

-- the names of the rules, from rule 1 on
abbrev pub rule_names : List (List ℕ)
rule_names =
    codes "BadType" ∷ codes "NotPeriodic" ∷ codes "NoPeriod" ∷ codes "NotDivisor" ∷ codes "RateTooHigh"
    ∷ codes "RatesDontDivide" ∷ codes "NotDelayed" ∷ codes "DelayedRoot" ∷ codes "NoAdaptor" ∷ codes "StrayAdaptor"
    ∷ codes "AdaptorOutOfRange" ∷ codes "NoInitial" ∷ codes "DispatchCount" ∷ codes "NoOtherwise"
    ∷ codes "CycleWithoutComplete"
    ∷ codes "GammaMissing" ∷ codes "GammaOrder" ∷ codes "PeriodTooShort" ∷ codes "LoopTooLong"
    ∷ codes "NumberTooBig" ∷ []

-- no rule has another number
unfoldable pub rule_name : ℕ → List ℕ
rule_name number = slice_index_or (codes "" ∷ rule_names) number (codes "")

-- the text after a rule's name
abbrev pub details_text : List ℕ → List ℕ
details_text [] = []
details_text (byte ∷ bytes) = and_word (byte ∷ bytes)

-- `LINE:COLUMN NUMBER NAME` and the details
abbrev pub violation_line : List ℕ → Violation → List ℕ
violation_line text found =
    position_text text found.at ++ and_word (decimal found.number) ++ and_word (rule_name found.number)
    ++ details_text found.details

abbrev pub violation_lines : List ℕ → List Violation → List (List ℕ)
violation_lines text found = map (violation_line text) found
