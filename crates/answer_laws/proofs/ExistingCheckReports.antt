-- There is a check report of each design, with its least multiple of all rates or the line that there is none.
use Rattle.std.proofs.Common.{◌≡◌, ◌⊎◌, inl, inr, ◌∙◌, sym, ℕ, zero, suc, ◌+◌, ◌<◌, ◌≤◌, Bool, true, false, nat_eq}
use Rattle.std.proofs.Common.{List, [], ◌∷◌, length, get_or, Some, None, refl, arith}
use Rattle.std.specs.Prelude.{◌%◌, All}
use Rattle.std.proofs.lemmas.Bool.{cases_lt, eqb-true, eq-eqb, true≢false}
use Rattle.pals_base.specs.declared.period_bound_and_releases.Gamma.{Gamma}
use Rattle.pals_base.specs.PeriodBoundAndReleases.{least_period}
use Rattle.pals_base.specs.declared.limits.TheConstants.{HOUR}
use Rattle.pals_model.specs.declared.design.DesignParts.{DesignParts}
use Rattle.pals_model.specs.RoundTexts.{text_of}
use Rattle.bound_checker.specs.LeastMultiples.{greatest_rate, IsSuited, IsLeastMultiple, HasNoMultiple}
use Rattle.pals_report.specs.CheckReports.{rates, check_lines, IsCheckReport}
use Rattle.design_laws.proofs.LeastNumbers.{IsLeast, HasLeast, least}

-- ---- a property of all elements of a list can be decided
after : {X : Type 0} (P : X → Type 0) (x : X) (xs : List X) → P x → All P xs → (k : ℕ) (d : X) → k < length (x ∷ xs)
    → P (get_or (x ∷ xs) k d)
after P x xs p rest zero d lt = p
after P x xs p rest (suc k) d lt = rest k d (omega arith)

tell_all : {X : Type 0} (P : X → Type 0) → ((x : X) → P x ⊎ (P x → ⊥)) → (xs : List X) → All P xs ⊎ (All P xs → ⊥)
tell_all P tell [] = inl (λ k d lt. absurd (omega arith))
tell_all P tell (x ∷ xs) = by (tell x) (tell_all P tell xs)
  where
    by : P x ⊎ (P x → ⊥) → All P xs ⊎ (All P xs → ⊥) → All P (x ∷ xs) ⊎ (All P (x ∷ xs) → ⊥)
    by (inr never) rest = inr (λ all. never (all 0 x (omega arith)))
    by (inl p) (inl rest) = inl (after P x xs p rest)
    by (inl p) (inr never) = inr (λ all. never (λ k d lt. all (suc k) d (omega arith)))

-- ---- periods
divides : (t k : ℕ) → (t % k ≡ 0) ⊎ (t % k ≡ 0 → ⊥)
divides t k = by (nat_eq (t % k) 0) refl
  where
    by : (b : Bool) → nat_eq (t % k) 0 ≡ b → (t % k ≡ 0) ⊎ (t % k ≡ 0 → ⊥)
    by true e = inl (eqb-true (t % k) 0 e)
    by false e = inr (λ z. true≢false (sym (eq-eqb (t % k) 0 z) ∙ e))

module _ (g : Gamma) (rates : List ℕ) where
  by_both : (t : ℕ) → (t < least_period g (greatest_rate rates)) ⊎ (least_period g (greatest_rate rates) ≤ t)
      → All (λ k. t % k ≡ 0) rates ⊎ (All (λ k. t % k ≡ 0) rates → ⊥) → IsSuited g rates t ⊎ (IsSuited g rates t → ⊥)
  by_both t (inl lt) all = inr (λ s. let m = s.meets in absurd (omega arith))
  by_both t (inr ge) (inl all) = inl (record { meets = ge; multiple = all })
  by_both t (inr ge) (inr never) = inr (λ s. never s.multiple)

  suited : (t : ℕ) → IsSuited g rates t ⊎ (IsSuited g rates t → ⊥)
  suited t = by_both t (cases_lt t (least_period g (greatest_rate rates))) (tell_all (λ k. t % k ≡ 0) (divides t) rates)

  no_less : (l : IsLeast (IsSuited g rates) (HOUR + 1)) (s : ℕ) → IsSuited g rates s → (s < l.number) ⊎ (l.number ≤ s)
      → l.number ≤ s
  no_less l s is (inl lt) = absurd (l.first s lt is)
  no_less l s is (inr le) = le

  by_least : HasLeast (IsSuited g rates) (HOUR + 1) → ((t : ℕ) × IsLeastMultiple g rates t) ⊎ HasNoMultiple g rates
  by_least (inl l) =
      let within = l.within in
      inl (
        l.number,
        record {
          suited = l.has;
          within = omega arith;
          least = λ s is. no_less l s is (cases_lt s l.number);
        },
      )
  by_least (inr none) = inr (λ t most is. none t (omega arith) is)

  multiple : ((t : ℕ) × IsLeastMultiple g rates t) ⊎ HasNoMultiple g rates
  multiple = by_least (least (IsSuited g rates) suited (HOUR + 1))

-- ---- the report
by_multiple : (design : DesignParts)
    → ((t : ℕ) × IsLeastMultiple design.gamma (rates design) t) ⊎ HasNoMultiple design.gamma (rates design)
    → (text : List ℕ) × IsCheckReport design text
by_multiple design (inl (t, is)) =
    (text_of (check_lines design (Some t)), record { shortest = Some t; is_shortest = is; text_is = refl })
by_multiple design (inr none) =
    (text_of (check_lines design None), record { shortest = None; is_shortest = none; text_is = refl })

pub has_report : (design : DesignParts) → (text : List ℕ) × IsCheckReport design text
has_report design = by_multiple design (multiple design.gamma (rates design))
