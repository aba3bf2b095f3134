-- Each valid rate is from 1 to 64, and so is the maximum: for `findings_of`.
use Rattle.std.proofs.Common.{◌≡◌, ◌∙◌, ℕ, ◌<◌, ◌≤◌, ◌/◌, nat_le, Bool, true, false, cond, ◌&&◌, List, [], ◌∷◌, map}
use Rattle.std.proofs.Common.{fold, Option, Some, None, refl, sym, ap, arith}
use Rattle.std.specs.Prelude.{option_map, slice_get}
use Rattle.std.proofs.lemmas.Bool.{false≢true}
use Rattle.std.proofs.lemmas.Bool.Decides.{nat_tests}
use Rattle.std.proofs.lemmas.Option.{slice_get-map}
use Rattle.pals_base.specs.declared.limits.TheConstants.{RATE}
use Rattle.aadl_tree.specs.Declarations.{PackageTree}
use Rattle.aadl_uses.specs.declared.thread_locations.ThreadAt.{ThreadAt}
use Rattle.component_checks.specs.BoundsAndRates.{divides, is_rate, rate_of}
use Rattle.component_checks.specs.ThreadRatesAndFindings.{thread_rate, greater_rate, greatest_rate, root_period}
use Rattle.component_checks.specs.ThreadRatesAndFindings.{own_period}

passed_by : (b : Bool) (n k : ℕ) → cond b (Some n) None ≡ Some k → (b ≡ true) × (n ≡ k)
passed_by true n k is = (refl, cc)
passed_by false n k is = absurd (cc is)

pub bounds_of : (q : ℕ) → (nat_le 1 q && nat_le q RATE) ≡ true → (1 ≤ q) × (q ≤ RATE)
bounds_of q h = (grind (arith, nat_tests), grind (arith, nat_tests))

bounds_by : (d : Bool) (q : ℕ) → (d && nat_le 1 q && nat_le q RATE) ≡ true → (1 ≤ q) × (q ≤ RATE)
bounds_by true q h = bounds_of q h
bounds_by false q h = absurd (false≢true h)

bounded : (t p k : ℕ) → (is_rate t p ≡ true) × (t / p ≡ k) → (1 ≤ k) × (k ≤ RATE)
bounded t p k h = let b = bounds_by (divides p t) (t / p) h.0 in (omega (arith, b.0, h.1), omega (arith, b.1, h.1))

pub rate_bounds : (t p : Option ℕ) (k : ℕ) → rate_of t p ≡ Some k → (1 ≤ k) × (k ≤ RATE)
rate_bounds None p k is = absurd (cc is)
rate_bounds (Some t) None k is = absurd (cc is)
rate_bounds (Some t) (Some p) k is = bounded t p k (passed_by (is_rate t p) (t / p) k is)

-- ---- the rates of threads
rate_at : (tree : PackageTree ℕ) (root : ℕ) (o : Option ThreadAt) (k : ℕ)
    → option_map (thread_rate tree root) o ≡ Some (Some k) → 0 < k
rate_at tree root None k is = absurd (cc is)
rate_at tree root (Some thread) k is =
    let e : thread_rate tree root thread ≡ Some k = cc in
    let b = rate_bounds (root_period tree root) (own_period tree root thread.subs) k e in
    omega (arith, b.0)

pub rates_positive : (tree : PackageTree ℕ) (root : ℕ) (threads : List ThreadAt) (rates : List (Option ℕ))
    → rates ≡ map (thread_rate tree root) threads
    → (n k : ℕ) → slice_get rates n ≡ Some (Some k) → 0 < k
rates_positive tree root threads rates are n k is =
    rate_at tree root (slice_get threads n) k
    (sym (slice_get-map (thread_rate tree root) threads n) ∙ ap (λ l. slice_get l n) (sym are) ∙ is)

-- ---- the maximum
raised_within : (k : ℕ) (o : Option ℕ) → k ≤ RATE → ((r : ℕ) → o ≡ Some r → r ≤ RATE) → greater_rate k o ≤ RATE
raised_within k None within each = within
raised_within k (Some r) within each = let h = each r refl in omega (arith, within, h)

greatest_within : (k : ℕ) (tree : PackageTree ℕ) (root : ℕ) (threads : List ThreadAt) → k ≤ RATE
    → fold greater_rate k (map (thread_rate tree root) threads) ≤ RATE
greatest_within k tree root [] within = within
greatest_within k tree root (x ∷ threads) within =
    greatest_within (greater_rate k (thread_rate tree root x)) tree root threads
    (raised_within k (thread_rate tree root x) within
    (λ r is. (rate_bounds (root_period tree root) (own_period tree root x.subs) r is).1))

pub greatest_fits : (tree : PackageTree ℕ) (root : ℕ) (threads : List ThreadAt) (rates : List (Option ℕ)) (greatest : ℕ)
    → rates ≡ map (thread_rate tree root) threads → greatest ≡ greatest_rate rates → greatest ≤ RATE
greatest_fits tree root threads rates greatest are is =
    let h = greatest_within 1 tree root threads (omega arith) in
    let e : greatest ≡ fold greater_rate 1 (map (thread_rate tree root) threads) = is ∙ ap (fold greater_rate 1) are in
    omega (arith, h, e)
