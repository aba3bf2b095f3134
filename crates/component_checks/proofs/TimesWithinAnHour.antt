-- Times of at most one hour.
use Rattle.std.proofs.Common.{◌≡◌, ℕ, ◌*◌, ◌^◌, ◌<◌, ◌≤◌, Bool, true, false, cond, ◌&&◌, nat_eq, nat_le, Option, Some}
use Rattle.std.proofs.Common.{None, refl, ap, subst, arith}
use Rattle.std.specs.Option.{option_and_then}
use Rattle.std.proofs.lemmas.Bool.Decides.{nat_tests}
use Rattle.std.proofs.lemmas.Nat.{mul-lt}
use Rattle.std.proofs.lemmas.Option.{none-some, same_Some}
use Rattle.pals_base.specs.declared.period_bound_and_releases.Gamma.{Gamma}
use Rattle.bound_checker.specs.proof.OverflowLimits.{IsWithinHour}
use Rattle.pals_base.specs.declared.limits.TheConstants.{HOUR}
use Rattle.component_checks.specs.BoundsAndRates.{within_hour, range_within, not_zero, in_order, skew_of, range_of}
use Rattle.component_checks.specs.BoundsAndRates.{gamma_by}

pub product_fits : (a b : ℕ) → a < 2 ^ 64 → b < 2 ^ 64 → a * b < 2 ^ 128
product_fits a b h k = mul-lt a b (2 ^ 64) (2 ^ 64) h k

within_by : (n : ℕ) (small : Bool) → nat_le n HOUR ≡ small
    → option_and_then within_hour (cond small (Some n) None) ≡ cond small (Some n) None
within_by n true h = rw h refl
within_by n false h = refl

pub within_twice : (o : Option ℕ)
    → option_and_then within_hour (option_and_then within_hour o) ≡ option_and_then within_hour o
within_twice None = refl
within_twice (Some n) = within_by n (nat_le n HOUR) refl

ranges_by : (r : ℕ × ℕ) (small : Bool) → (nat_le r.0 HOUR && nat_le r.1 HOUR) ≡ small
    → option_and_then range_within (cond small (Some r) None) ≡ cond small (Some r) None
ranges_by r true h = rw h refl
ranges_by r false h = refl

pub ranges_twice : (o : Option (ℕ × ℕ))
    → option_and_then range_within (option_and_then range_within o) ≡ option_and_then range_within o
ranges_twice None = refl
ranges_twice (Some r) = ranges_by r (nat_le r.0 HOUR && nat_le r.1 HOUR) refl

-- a limit that is applied twice has the effect of one application
pub skew_twice : (o : Option ℕ) → skew_of (option_and_then within_hour o) ≡ skew_of o
skew_twice o = ap (option_and_then not_zero) (within_twice o)

pub range_twice : (o : Option (ℕ × ℕ)) → range_of (option_and_then range_within o) ≡ range_of o
range_twice o = ap (option_and_then in_order) (ranges_twice o)

-- ---- valid timing bounds are within one hour
zero_by : (t k : ℕ) (zero : Bool) → t ≤ HOUR → cond zero None (Some t) ≡ Some k → k ≤ HOUR
zero_by t k true small is = absurd (none-some k is)
zero_by t k false small is = subst (λ (n : ℕ). n ≤ HOUR) (same_Some t k is) small

skew_by : (t k : ℕ) (small : Bool) → nat_le t HOUR ≡ small
    → option_and_then not_zero (cond small (Some t) None) ≡ Some k → k ≤ HOUR
skew_by t k true h is = zero_by t k (nat_eq t 0) (grind (arith, nat_tests)) is
skew_by t k false h is = absurd (none-some k is)

skew_small : (o : Option ℕ) (k : ℕ) → skew_of o ≡ Some k → k ≤ HOUR
skew_small None k is = absurd (none-some k is)
skew_small (Some t) k is = skew_by t k (nat_le t HOUR) refl is

order_by : (q r : ℕ × ℕ) (ordered : Bool) → q.1 ≤ HOUR → cond ordered (Some q) None ≡ Some r → r.1 ≤ HOUR
order_by q r true small is = subst (λ (p : ℕ × ℕ). p.1 ≤ HOUR) (same_Some q r is) small
order_by q r false small is = absurd (none-some r is)

range_by : (q r : ℕ × ℕ) (small : Bool) → (nat_le q.0 HOUR && nat_le q.1 HOUR) ≡ small
    → option_and_then in_order (cond small (Some q) None) ≡ Some r → r.1 ≤ HOUR
range_by q r true h is = order_by q r (nat_le q.0 q.1) (grind (arith, nat_tests)) is
range_by q r false h is = absurd (none-some r is)

range_small : (o : Option (ℕ × ℕ)) (r : ℕ × ℕ) → range_of o ≡ Some r → r.1 ≤ HOUR
range_small None r is = absurd (none-some r is)
range_small (Some q) r is = range_by q r (nat_le q.0 HOUR && nat_le q.1 HOUR) refl is

gamma_parts : (a : Option ℕ) (b c : Option (ℕ × ℕ)) (g : Gamma) → ((k : ℕ) → a ≡ Some k → k ≤ HOUR)
    → ((r : ℕ × ℕ) → b ≡ Some r → r.1 ≤ HOUR) → ((r : ℕ × ℕ) → c ≡ Some r → r.1 ≤ HOUR)
    → gamma_by a b c ≡ Some g → IsWithinHour g
gamma_parts None b c g skew execution network is = absurd (none-some g is)
gamma_parts (Some eps) None c g skew execution network is = absurd (none-some g is)
gamma_parts (Some eps) (Some alpha) None g skew execution network is = absurd (none-some g is)
gamma_parts (Some eps) (Some alpha) (Some mu) g skew execution network is =
    subst IsWithinHour (same_Some _ g is)
    (record { skew = skew eps refl; execution = execution alpha refl; network = network mu refl })

pub gamma_within : (s : Option ℕ) (e n : Option (ℕ × ℕ)) (g : Gamma)
    → gamma_by (skew_of s) (range_of e) (range_of n) ≡ Some g → IsWithinHour g
gamma_within s e n g is =
    gamma_parts (skew_of s) (range_of e) (range_of n) g (skew_small s) (range_small e) (range_small n) is
