-- The greatest common divisor by Euclid's algorithm, and the least common multiple computed from it.
use Rattle.std.proofs.Common.{◌≡◌, ℕ, ◌+◌, ◌-◌, ◌*◌, ◌/◌, ◌%◌, ◌<◌, subst, sym, ap, ◌∙◌, arith}
use Rattle.std.specs.Int.{◌∣◌}
use Rattle.std.proofs.Math.Nat.{mul_comm, dvd-mod_iff, dvd-sub, dvd-mul_left, dvd-mul_right, dvd-mul_right_of_dvd}
use Rattle.std.proofs.Math.Nat.{dvd_refl, dvd-zero, mul-dvd-mul_left, mul-dvd-mul_right, dvd_of_mul-dvd-mul_right}
use Rattle.std.proofs.Math.Nat.{pos_of_dvd_of_pos, div-mul_cancel, mul-div_cancel'}
use Rattle.bound_checker.specs.proof.DivisorsAndMultiples.{IsGreatestCommonDivisor, IsLeastCommonMultiple}

-- ---- Euclid's algorithm
rest_times : (n a b : ℕ) → n * a - n * b * (a / b) ≡ n * (a % b)
rest_times n a b =
    let whole : a ≡ b * (a / b) + a % b = omega arith in
    let spread : n * a ≡ n * b * (a / b) + n * (a % b) = ap (λ x. n * x) whole ∙ omega arith in
    omega arith

pub divisor_from_rest : (a b d : ℕ) → IsGreatestCommonDivisor b (a % b) d → IsGreatestCommonDivisor a b d
divisor_from_rest a b d found = record {
  left = (dvd-mod_iff d found.left).0 found.right;
  right = found.left;
  greatest = λ n m of_a of_b. found.greatest n m of_b
      (subst (λ x. m ∣ x) (rest_times n a b) (dvd-sub m of_a (dvd-mul_right_of_dvd m of_b (a / b))));
}

pub divisor_of_0 : (a b : ℕ) → b ≡ 0 → IsGreatestCommonDivisor a b a
divisor_of_0 a b none =
    subst (λ x. IsGreatestCommonDivisor a x a) (sym none)
    (record { left = dvd_refl a; right = dvd-zero a; greatest = λ n m of_a of_0. of_a })

pub some_divisor : (a b d : ℕ) → 0 < a → IsGreatestCommonDivisor a b d → 0 < d
some_divisor a b d some found = pos_of_dvd_of_pos found.left some

-- ---- the least common multiple
pub some_multiple : (a b d : ℕ) → 0 < a → 0 < b → IsGreatestCommonDivisor a b d → 0 < a / d * b
some_multiple a b d some_a some_b found =
    let whole : a / d * d ≡ a = div-mul_cancel d found.left in
    let some_times : 0 < a / d = grind arith in
    grind arith

pub multiple_from_divisor : (a b d : ℕ) → 0 < a → IsGreatestCommonDivisor a b d → IsLeastCommonMultiple a b (a / d * b)
multiple_from_divisor a b d some found =
    let whole_a : a / d * d ≡ a = div-mul_cancel d found.left in
    let whole_b : d * (b / d) ≡ b = mul-div_cancel' d found.right in
    let in_a : a * (b / d) ≡ a / d * b = ap (λ x. x * (b / d)) (sym whole_a) ∙ omega arith
    ∙ ap (λ x. a / d * x) whole_b in
    let in_both : a * b ≡ a / d * b * d = ap (λ x. x * b) (sym whole_a) ∙ omega arith in
    record {
      left = subst (λ x. a ∣ x) in_a (dvd-mul_right a (b / d));
      right = dvd-mul_left b (a / d);
      least = λ t of_a of_b.
          let along_a : a * b ∣ t * a = subst (λ x. a * b ∣ x) (mul_comm a t) (mul-dvd-mul_left b a of_b) in
          let along_b : a * b ∣ t * b = mul-dvd-mul_right a of_a b in
          dvd_of_mul-dvd-mul_right (a / d * b) (some_divisor a b d some found)
          (subst (λ x. x ∣ t * d) in_both (found.greatest t (a * b) along_a along_b));
    }
