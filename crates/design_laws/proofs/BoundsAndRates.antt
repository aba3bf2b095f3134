-- The skew, ranges, rates and periods without findings are within their limits.
use Rattle.std.proofs.Common.{◌≡◌, ◌∙◌, ℕ, ◌*◌, ◌/◌, ◌%◌, ◌≤◌, nat_le, nat_lt, nat_eq, Bool, true, false, not, cond}
use Rattle.std.proofs.Common.{◌&&◌, List, [], ◌∷◌, Option, Some, None, refl, ap, subst, zero, suc, arith}
use Rattle.std.specs.Option.{option_and_then}
use Rattle.std.proofs.Math.Nat.{div-add-mod, mul-mod_left}
use Rattle.std.proofs.lemmas.Bool.{false≢true, leb-true, ltb-false, le-leb, and_from, and_parts}
use Rattle.std.proofs.lemmas.Bool.Decides.{nat_tests}
use Rattle.std.proofs.lemmas.Option.{cond_some}
use Rattle.pals_base.specs.declared.period_bound_and_releases.Gamma.{Gamma}
use Rattle.pals_base.specs.declared.limits.TheConstants.{HOUR, RATE}
use Rattle.pals_base.specs.PeriodBoundAndReleases.{least_period}
use Rattle.pals_model.specs.DesignRules.{IsGamma}
use Rattle.component_checks.specs.BoundsAndRates.{not_zero, in_order, skew_of, range_of, divides, is_rate, rate_of}
use Rattle.component_checks.specs.BoundsAndRates.{gamma_by}
use Rattle.component_checks.specs.PeriodAndAdaptorFindings.{bound_findings, period_findings, name_and_number}
use Rattle.annex_resolve.specs.declared.violation.TheConstants.{NOT_DIVISOR, RATE_TOO_HIGH, PERIOD_TOO_SHORT}
use Rattle.annex_resolve.specs.FindingRecords.{finding, found_if}
use Rattle.model_violations.proofs.RatesWithinLimits.{bounds_of}
use Rattle.design_laws.proofs.EmptyFindingLists.{not_wrong}

-- ---- values that pass a test

pub stopped : {X : Type 0} (b : Bool) (x y : X) → cond b None (Some x) ≡ Some y → (b ≡ false) × (x ≡ y)
stopped true x y is = absurd (cc is)
stopped false x y is = (refl, cc)

-- ---- a skew from 1 nanosecond to one hour
pub record IsSkew (eps : ℕ) : Type 0 where
  pub some : 1 ≤ eps
  pub short : eps ≤ HOUR

some_skew : (n eps : ℕ) → not_zero n ≡ Some eps → n ≤ HOUR → IsSkew eps
some_skew n eps is short =
    let p = stopped (nat_eq n 0) n eps is in
    record { some = above_zero n eps p.0 p.1; short = omega (arith, short, p.1) }
  where
    above_zero : (n eps : ℕ) → nat_eq n 0 ≡ false → n ≡ eps → 1 ≤ eps
    above_zero n eps h e = grind (arith, nat_tests)

within_skew : (n : ℕ) (eps : ℕ) (b : Bool) → nat_le n HOUR ≡ b
    → option_and_then not_zero (cond b (Some n) None) ≡ Some eps → IsSkew eps
within_skew n eps true h is = some_skew n eps is (leb-true n HOUR h)
within_skew n eps false h is = absurd (cc is)

pub skew_fits : (given : Option ℕ) (eps : ℕ) → skew_of given ≡ Some eps → IsSkew eps
skew_fits None eps is = absurd (cc is)
skew_fits (Some n) eps is = within_skew n eps (nat_le n HOUR) refl is

-- ---- a range that is not reversed, up to one hour
pub record IsRange (r : ℕ × ℕ) : Type 0 where
  pub in_order : r.0 ≤ r.1
  pub short : r.1 ≤ HOUR

some_range : (r q : ℕ × ℕ) → in_order r ≡ Some q → r.1 ≤ HOUR → IsRange q
some_range r q is short =
    let p = cond_some (nat_le r.0 r.1) r q is in
    subst IsRange p.1 (record { in_order = leb-true r.0 r.1 p.0; short = short })

within_range : (r q : ℕ × ℕ) (b : Bool) → (nat_le r.0 HOUR && nat_le r.1 HOUR) ≡ b
    → option_and_then in_order (cond b (Some r) None) ≡ Some q
    → IsRange q
within_range r q true h is = some_range r q is (leb-true r.1 HOUR (and_parts (nat_le r.0 HOUR) (nat_le r.1 HOUR) h).1)
within_range r q false h is = absurd (cc is)

pub range_fits : (given : Option (ℕ × ℕ)) (q : ℕ × ℕ) → range_of given ≡ Some q → IsRange q
range_fits None q is = absurd (cc is)
range_fits (Some r) q is = within_range r q (nat_le r.0 HOUR && nat_le r.1 HOUR) refl is

-- ---- all three
abbrev gamma_made : ℕ → ℕ × ℕ → ℕ × ℕ → Gamma
gamma_made eps alpha mu = record { eps = eps; alpha_min = alpha.0; alpha_max = alpha.1; mu_min = mu.0; mu_max = mu.1 }

gamma_from : (eps : ℕ) (alpha mu : ℕ × ℕ) → IsSkew eps → IsRange alpha → IsRange mu → IsGamma (gamma_made eps alpha mu)
gamma_from eps alpha mu skew execution network = record {
  skew = (skew.some, skew.short);
  execution = (execution.in_order, execution.short);
  network = (network.in_order, network.short);
}

gamma_of : (skew : Option ℕ) (execution network : Option (ℕ × ℕ)) (g : Gamma)
    → ((eps : ℕ) → skew ≡ Some eps → IsSkew eps)
    → ((r : ℕ × ℕ) → execution ≡ Some r → IsRange r)
    → ((r : ℕ × ℕ) → network ≡ Some r → IsRange r) → gamma_by skew execution network ≡ Some g → IsGamma g
gamma_of None execution network g a b c is = absurd (cc is)
gamma_of (Some eps) None network g a b c is = absurd (cc is)
gamma_of (Some eps) (Some alpha) None g a b c is = absurd (cc is)
gamma_of (Some eps) (Some alpha) (Some mu) g a b c is =
    let e : gamma_made eps alpha mu ≡ g = cc in
    subst IsGamma e (gamma_from eps alpha mu (a eps refl) (b alpha refl) (c mu refl))

pub gamma_fits : (skew : Option ℕ) (execution network : Option (ℕ × ℕ)) (g : Gamma)
    → gamma_by (skew_of skew) (range_of execution) (range_of network) ≡ Some g → IsGamma g
gamma_fits skew execution network g is =
    gamma_of (skew_of skew) (range_of execution) (range_of network) g (skew_fits skew)
    (range_fits execution) (range_fits network) is

-- ---- rates
divides_by : (p t : ℕ) → divides p t ≡ true → t ≡ p * (t / p)
divides_by p t h =
    let d = and_parts (not (nat_eq p 0)) (nat_eq (t % p) 0) h in
    let z : t % p ≡ 0 = zero_from (t % p) d.1 in
    omega (arith, div-add-mod t p, z)
  where
    zero_from : (n : ℕ) → nat_eq n 0 ≡ true → n ≡ 0
    zero_from n h = grind (arith, nat_tests)

no_rest : (p t : ℕ) → t ≡ p * (t / p) → t % (t / p) ≡ 0
no_rest p t e = ap (λ n. n % (t / p)) e ∙ mul-mod_left p (t / p)

regrouped : (a b c : Bool) → ((a && b) && c) ≡ true → (a ≡ true) × ((b && c) ≡ true)
regrouped true b c h = (refl, h)
regrouped false b c h = absurd (false≢true h)

pub record IsRateOf (t k : ℕ) : Type 0 where
  pub low : 1 ≤ k
  pub high : k ≤ RATE
  pub divides : t % k ≡ 0

pub one_rate_fits : (t : ℕ) (p : Option ℕ) (k : ℕ) → rate_of (Some t) p ≡ Some k → IsRateOf t k
one_rate_fits t None k is = absurd (cc is)
one_rate_fits t (Some p) k is =
    let q = cond_some (is_rate t p) (t / p) k is in
    let r = regrouped (divides p t) (nat_le 1 (t / p)) (nat_le (t / p) RATE) q.0 in
    let b = bounds_of (t / p) r.1 in
    subst (IsRateOf t) q.1 (record { low = b.0; high = b.1; divides = no_rest p t (divides_by p t r.0) })

-- ---- a period without findings

pub leaves_time : (at t : ℕ) (g : Gamma) (k : ℕ) → bound_findings at (Some t) (Some g) k ≡ [] → least_period g k ≤ t
leaves_time at t g k none =
    ltb-false t (least_period g k) (not_wrong (nat_lt t (least_period g k)) at PERIOD_TOO_SHORT _ none)

pub least_is_some : (g : Gamma) (k : ℕ) → IsGamma g → 1 ≤ least_period g k
least_is_some g k gamma = let eps = gamma.skew.0 in omega (arith, eps)

factor_is_some : (p n t : ℕ) → 1 ≤ t → t ≡ p * n → 1 ≤ n
factor_is_some p zero t some e = absurd (omega (arith, some, e))
factor_is_some p (suc n) t some e = omega arith

rate_by : (at : ℕ) (path : List ℕ) (t p : ℕ) → 1 ≤ t → (d : Bool) → divides p t ≡ d
    → cond d (found_if (nat_lt RATE (t / p)) at RATE_TOO_HIGH (name_and_number path (t / p)))
    (finding at NOT_DIVISOR (name_and_number (name_and_number path p) t) ∷ []) ≡ []
    → cond ((d && nat_le 1 (t / p)) && nat_le (t / p) RATE) (Some (t / p)) None ≡ Some (t / p)
rate_by at path t p some true h none =
    let high =
    ltb-false RATE (t / p) (not_wrong (nat_lt RATE (t / p)) at RATE_TOO_HIGH (name_and_number path (t / p)) none) in
    let low = factor_is_some p (t / p) t some (divides_by p t h) in
    ap (λ b. cond b (Some (t / p)) None)
    (and_from (nat_le 1 (t / p)) (nat_le (t / p) RATE) (le-leb 1 (t / p) low) (le-leb (t / p) RATE high))
rate_by at path t p some false h none = absurd (cc none)

pub rate_from : (at : ℕ) (path : List ℕ) (t p : ℕ) → 1 ≤ t → period_findings at path (Some t) (Some p) ≡ []
    → rate_of (Some t) (Some p) ≡ Some (t / p)
rate_from at path t p some none = rate_by at path t p some (divides p t) refl none
