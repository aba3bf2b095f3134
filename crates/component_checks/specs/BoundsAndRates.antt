-- The skew, ranges, timing bounds and rates of a design. Each is `None` if it is missing or rejected; checks that
-- need it then report nothing.
use Rattle.std.specs.Prelude.{ℕ, ◌/◌, ◌%◌, Bool, not, ◌&&◌, nat_eq, nat_le, Option, Some, None, if◌then◌else◌}
use Rattle.std.specs.Option.{option_and_then}
use Rattle.pals_base.specs.declared.period_bound_and_releases.Gamma.{Gamma}
use Rattle.pals_base.specs.declared.limits.TheConstants.{HOUR, RATE}

-- ---- times, in nanoseconds: at most one hour
abbrev pub within_hour : ℕ → Option ℕ
within_hour n = if nat_le n HOUR then Some n else None

abbrev pub range_within : ℕ × ℕ → Option (ℕ × ℕ)
range_within r = if nat_le r.0 HOUR && nat_le r.1 HOUR then Some r else None

-- ---- the three timing bounds: a positive skew, and ranges that are not reversed
abbrev pub not_zero : ℕ → Option ℕ
not_zero n = if nat_eq n 0 then None else Some n

abbrev pub in_order : ℕ × ℕ → Option (ℕ × ℕ)
in_order r = if nat_le r.0 r.1 then Some r else None

abbrev pub skew_of : Option ℕ → Option ℕ
skew_of given = option_and_then not_zero (option_and_then within_hour given)

abbrev pub range_of : Option (ℕ × ℕ) → Option (ℕ × ℕ)
range_of given = option_and_then in_order (option_and_then range_within given)

abbrev pub gamma_by : Option ℕ → Option (ℕ × ℕ) → Option (ℕ × ℕ) → Option Gamma
gamma_by None execution network = None
gamma_by (Some eps) None network = None
gamma_by (Some eps) (Some alpha) None = None
gamma_by (Some eps) (Some alpha) (Some mu) =
    Some (record { eps = eps; alpha_min = alpha.0; alpha_max = alpha.1; mu_min = mu.0; mu_max = mu.1 })

-- ---- rates: a component's period divides the period of the root, 1 to 64 times
abbrev pub divides : ℕ → ℕ → Bool
divides p t = not (nat_eq p 0) && nat_eq (t % p) 0

abbrev pub is_rate : ℕ → ℕ → Bool
is_rate t p = divides p t && nat_le 1 (t / p) && nat_le (t / p) RATE

abbrev pub rate_of : Option ℕ → Option ℕ → Option ℕ
rate_of None p = None
rate_of (Some t) None = None
rate_of (Some t) (Some p) = if is_rate t p then Some (t / p) else None
