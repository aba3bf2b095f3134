-- Loops over bytes that count digits, compute their number or search for the end of an annex: one step.
use Rattle.std.proofs.Common.{◌≡◌, ℕ, suc, ◌+◌, ◌-◌, ◌*◌, ◌<◌, ◌≤◌, Bool, true, false, cond, ◌&&◌, ◌||◌, List, [], ◌∷◌}
use Rattle.std.proofs.Common.{length, drop, get_or, arith, refl, drop-cons, add-one, Some, None, leb-true, nat_eq}
use Rattle.std.proofs.Common.{nat_le}
use Rattle.std.specs.Prelude.{◌==◌, codes, pos, fold, filter}
use Rattle.std.specs.List.{starts_with}
use Rattle.std.specs.Char.{is_ascii_digit}
use Rattle.aadl_lex.specs.Rules.{whole_len, close_from, decimal_from, decimal, most}

pub whole_step : (s : List ℕ) (i : ℕ) → i < length s →
    whole_len (drop i s) ≡ cond
    (is_ascii_digit (get_or s i 0) || (get_or s i 0 == 95 && is_ascii_digit (get_or (drop (i + 1) s) 0 0)))
    (1 + whole_len (drop (i + 1) s)) 0
whole_step s i h = rw (drop-cons s i 0, add-one) refl

pub close_step : (s : List ℕ) (i : ℕ) → i < length s →
    close_from i (drop i s) ≡ cond (starts_with nat_eq (drop i s) (codes "**}")) (Some i)
    (close_from (i + 1) (drop (i + 1) s))
close_step s i h = rw (drop-cons s i 0, add-one) refl

-- the effect of a digit, or of another byte, on the number before it
abbrev pub more_by : Bool → ℕ → ℕ → ℕ
more_by digit n d = cond digit (10 * n + (d - 48)) n

digit_by : (digit : Bool) (d n : ℕ) (ds : List ℕ) →
    fold (λ n d. 10 * n + (d - 48)) n (cond digit (d ∷ ds) ds) ≡ fold (λ n d. 10 * n + (d - 48)) (more_by digit n d) ds
digit_by true d n ds = refl
digit_by false d n ds = refl

pub decimal_cons : (d n : ℕ) (ds : List ℕ) → decimal_from n (d ∷ ds) ≡ decimal_from (more_by (is_ascii_digit d) n d) ds
decimal_cons d n ds = digit_by (is_ascii_digit d) d n (filter is_ascii_digit ds)

pub decimal_step : (s : List ℕ) (i n : ℕ) → i < length s →
    decimal_from n (drop i s) ≡ decimal_from (more_by (is_ascii_digit (get_or s i 0)) n (get_or s i 0)) (drop (i + 1) s)
decimal_step s i n h = rw (drop-cons s i 0, add-one) (decimal_cons (get_or s i 0) n (drop (suc i) s))

more_grows : (digit : Bool) (n d : ℕ) → n ≤ more_by digit n d
more_grows true n d = omega arith
more_grows false n d = omega arith

pub decimal_grows : (ds : List ℕ) (n : ℕ) → n ≤ decimal_from n ds
decimal_grows [] n = omega arith
decimal_grows (d ∷ ds) n =
    let below = decimal_grows ds (more_by (is_ascii_digit d) n d) in
    let first = more_grows (is_ascii_digit d) n d in
    let step = decimal_cons d n ds in
    omega arith

over : (n : ℕ) (b : Bool) → nat_le n most ≡ b → most < n → None ≡ cond b (Some (pos n)) None
over n true e h = absurd (let g = leb-true n most e in omega arith)
over n false e h = refl

-- a digit that makes the number too large, whatever bytes follow
pub decimal_over : (s : List ℕ) (i n d : ℕ) → i < length s → decimal_from n (drop i s) ≡ decimal s
    → is_ascii_digit (get_or s i 0) ≡ true
    → d ≡ get_or s i 0 - 48 → most < 10 * n + d → None ≡ cond (nat_le (decimal s) most) (Some (pos (decimal s))) None
decimal_over s i n d h e t g o =
    let step = decimal_step s i n h in
    let digit : more_by (is_ascii_digit (get_or s i 0)) n (get_or s i 0) ≡ 10 * n + (get_or s i 0 - 48) = rw t refl in
    let grows = decimal_grows (drop (i + 1) s) (more_by (is_ascii_digit (get_or s i 0)) n (get_or s i 0)) in
    over (decimal s) (nat_le (decimal s) most) refl (omega arith)
