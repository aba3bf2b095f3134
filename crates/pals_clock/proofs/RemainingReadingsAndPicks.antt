-- For the laws of picks: the readings of a clock list that remain from a target on, and the picks for one target
-- after another.
use Rattle.std.proofs.Common.{◌≡◌, ℕ, zero, suc, ◌<◌, ◌≤◌, List, [], ◌∷◌, ◌++◌, length, get_or, drop, fold, Option}
use Rattle.std.proofs.Common.{Some, None, MatchOption, All, filter, nat_le, refl, ap, arith}
use Rattle.std.specs.List.{AllWithin, HoldsAt}
use Rattle.std.specs.List.Sorted.{IsNonDecreasing}
use Rattle.std.proofs.lemmas.Grind.{common_steps}
use Rattle.pals_base.specs.ClockPicks.{remaining_from, picked, picks}

-- ---- none
pub reached_none : (left : List ℕ) (target : ℕ) → All (λ r. r < target) left → remaining_from left target ≡ []
reached_none [] target below = refl
reached_none (r ∷ later) target below =
    let first : r < target = below 0 0 (omega arith) in
    let rest : remaining_from later target ≡ [] =
    reached_none later target (λ k d within. below (suc k) d (omega arith)) in
    grind (arith, common_steps)

-- ---- the first that is not below
reached_at : (left : List ℕ) (target n : ℕ) → n < length left → ((k : ℕ) → k < n → get_or left k 0 < target)
    → target ≤ get_or left n 0 → remaining_from left target ≡ drop n left
reached_at [] target n within below at = absurd (omega arith)
reached_at (r ∷ later) target zero within below at = grind (arith, common_steps)
reached_at (r ∷ later) target (suc n) within below at =
    let first : r < target = below 0 (omega arith) in
    let rest : remaining_from later target ≡ drop n later =
    reached_at later target n (omega arith) (λ k lt. below (suc k) (omega arith)) at in
    grind (arith, common_steps)

pub passed_first : (o : Option ℕ) (left : List ℕ) (target : ℕ)
    → MatchOption o (AllWithin (λ r. r < target) left 0 (length left))
    (λ n. (n < length left) × HoldsAt (λ r. target ≤ r) left n × AllWithin (λ r. r < target) left 0 n)
    → MatchOption o (All (λ r. r < target) left)
    (λ n. (n < length left) × (target ≤ get_or left n 0) × (remaining_from left target ≡ drop n left))
passed_first None left target first = λ k d within. first k d (omega arith) within
passed_first (Some n) left target first =
    (first.0, first.1 0, reached_at left target n first.0 (λ k lt. first.2 k 0 (omega arith) lt) (first.1 0))

-- ---- readings that don't fall
filter_all : (left : List ℕ) (target : ℕ) → All (λ r. target ≤ r) left → filter (λ r. nat_le target r) left ≡ left
filter_all [] target above = refl
filter_all (r ∷ later) target above =
    let first : target ≤ r = above 0 0 (omega arith) in
    let rest : filter (λ r. nat_le target r) later
    ≡ later = filter_all later target (λ k d within. above (suc k) d (omega arith)) in
    grind (arith, common_steps)

reached_filtered : (r : ℕ) (later : List ℕ) (target : ℕ) → ((target ≤ r) → filter (λ r. nat_le target r) later ≡ later)
    → (remaining_from later target ≡ filter (λ r. nat_le target r) later)
    → remaining_from (r ∷ later) target ≡ filter (λ r. nat_le target r) (r ∷ later)
reached_filtered r later target all rest = grind (arith, common_steps)

pub reached_filter : (left : List ℕ) (target : ℕ) → IsNonDecreasing left
    → remaining_from left target ≡ filter (λ r. nat_le target r) left
reached_filter [] target order = refl
reached_filter (r ∷ later) target order =
    reached_filtered r later target
    (λ above. filter_all later target
    (λ k d within. let next : r ≤ get_or later k d = order 0 (suc k) d (omega arith) (omega arith) in omega arith))
    (reached_filter later target (λ i j d ordered within. order (suc i) (suc j) d (omega arith) (omega arith)))

-- ---- picks
pub picks_ended : (left targets : List ℕ) (target : ℕ) → All (λ r. r < target) left → picks left (target ∷ targets) ≡ []
picks_ended left targets target below =
    ap (λ rs. picked rs (picks (remaining_from left target) targets)) (reached_none left target below)

picked_append : (rs answers more tail : List ℕ) (n : ℕ) → length (picked rs answers) ≡ suc n
    → (length answers ≡ n → more ≡ answers ++ tail) → picked rs more ≡ picked rs answers ++ tail
picked_append [] answers more tail n many same = absurd (omega arith)
picked_append (r ∷ later) answers more tail n many same = ap (λ as'. r ∷ as') (same (omega arith))

pub picks_append : (readings targets later : List ℕ) → length (picks readings targets) ≡ length targets
    → picks readings (targets ++ later) ≡ picks readings targets ++ picks (fold remaining_from readings targets) later
picks_append readings [] later many = refl
picks_append readings (t ∷ ts) later many =
    picked_append (remaining_from readings t) _ _ _ (length ts) (omega (arith, many))
    (picks_append (remaining_from readings t) ts later)
