-- Either no step code of a design is too long, or one is the first that is.
use Rattle.std.proofs.Common.{◌⊎◌, inl, inr, ℕ, ◌<◌, ◌≤◌, length, refl, arith}
use Rattle.std.proofs.lemmas.Bool.{cases_lt}
use Rattle.pals_base.specs.declared.limits.TheConstants.{INSTRUCTIONS}
use Rattle.pals_model.specs.declared.design.DesignParts.{DesignParts}
use Rattle.step_code.specs.CappedWeights.{capped}
use Rattle.design_codes.specs.OverlongCodes.{length_of, AreShort, IsFirstTooLong}
use Rattle.design_laws.proofs.LeastNumbers.{HasLeast, least}

too_long : (n : ℕ) → (INSTRUCTIONS < n) ⊎ (INSTRUCTIONS < n → ⊥)
too_long n = by (cases_lt INSTRUCTIONS n)
  where
    by : (INSTRUCTIONS < n) ⊎ (n ≤ INSTRUCTIONS) → (INSTRUCTIONS < n) ⊎ (INSTRUCTIONS < n → ⊥)
    by (inl lt) = inl lt
    by (inr ge) = inr (λ lt. absurd (omega arith))

short : (n : ℕ) → (INSTRUCTIONS < n → ⊥) → n ≤ INSTRUCTIONS
short n never = by (cases_lt INSTRUCTIONS n)
  where
    by : (INSTRUCTIONS < n) ⊎ (n ≤ INSTRUCTIONS) → n ≤ INSTRUCTIONS
    by (inl lt) = absurd (never lt)
    by (inr ge) = ge

by_least : (design : DesignParts) → HasLeast (λ n. INSTRUCTIONS < length_of design n) (length design.components)
    → ((node : ℕ) × (size : ℕ) × IsFirstTooLong design node size) ⊎ AreShort design
by_least design (inl l) =
    inl (
      l.number,
      capped (length_of design l.number),
      record {
        within = l.within;
        size_is = refl;
        over = l.has;
        before = λ k lt. short (length_of design k) (l.first k lt);
      },
    )
by_least design (inr none) = inr (λ n lt. short (length_of design n) (none n lt))

pub long_or_short : (design : DesignParts)
    → ((node : ℕ) × (size : ℕ) × IsFirstTooLong design node size) ⊎ AreShort design
long_or_short design =
    by_least design (least (λ n. INSTRUCTIONS < length_of design n) (λ n. too_long (length_of design n))
    (length design.components))
