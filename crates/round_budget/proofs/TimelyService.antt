-- A processor whose sum fits is in time: while it is busy, no member has more than one step in its queue.
use Rattle.std.proofs.Common.{◌≡◌, inl, inr, ℕ, suc, ◌+◌, ◌<◌, ◌≤◌, Bool, true, false, List, [], ◌∷◌, length, map, refl}
use Rattle.std.proofs.Common.{sym, ap, arith}
use Rattle.std.specs.Prelude.{max, nat_eq}
use Rattle.std.specs.List.{sum_by, AllByRecursion as Every}
use Rattle.std.proofs.lemmas.Bool.{cases_lt, eqb-true, or_cases}
use Rattle.list_lemmas.proofs.Elements.{AllByRecursion-weaker}
use Rattle.list_lemmas.proofs.PairwiseProperties.{Pairs}
use Rattle.step_code.specs.proof.StackHeights.{Member}
use Rattle.round_budget.specs.Budgets.{Release, Served, begins, serve}
use Rattle.round_budget.proofs.ListQuantifiers.{every_both}
use Rattle.round_budget.proofs.FilteredSums.{part, with_one, part_le, part_more}

-- ---- the served steps
pub served_releases : (cost : Release → ℕ) (free : ℕ) (xs : List Release)
    → map (λ (s : Served). s.release) (serve cost free xs) ≡ xs
served_releases cost free [] = refl
served_releases cost free (x ∷ xs) =
    ap (λ (ys : List Release). x ∷ ys) (served_releases cost (begins free x + cost x) xs)

pub length_serve : (cost : Release → ℕ) (free : ℕ) (xs : List Release) → length (serve cost free xs) ≡ length xs
length_serve cost free [] = refl
length_serve cost free (x ∷ xs) = ap suc (length_serve cost (begins free x + cost x) xs)

pub every_serve : (P : Release → Type 0) (cost : Release → ℕ) (free : ℕ) (xs : List Release) → Every P xs
    → Every (λ (s : Served). P s.release) (serve cost free xs)
every_serve P cost free [] all = tt
every_serve P cost free (x ∷ xs) all = (all.0, every_serve P cost (begins free x + cost x) xs all.1)

pub pairs_serve : (R : Release → Release → Type 0) (cost : Release → ℕ) (free : ℕ) (xs : List Release) → Pairs R xs
    → Pairs (λ (s t : Served). R s.release t.release) (serve cost free xs)
pairs_serve R cost free [] all = tt
pairs_serve R cost free (x ∷ xs) all =
    (every_serve (R x) cost (begins free x + cost x) xs all.0, pairs_serve R cost (begins free x + cost x) xs all.1)

abbrev pub TakesItsTime : (Release → ℕ) → Served → Type 0
TakesItsTime cost s = (s.release.time ≤ s.begin) × (s.done ≡ s.begin + cost s.release)

pub none_early : (cost : Release → ℕ) (free : ℕ) (xs : List Release) → Every (TakesItsTime cost) (serve cost free xs)
none_early cost free [] = tt
none_early cost free (x ∷ xs) =
    let due : x.time ≤ max x.time free = omega arith in
    ((due, refl), none_early cost (begins free x + cost x) xs)

none_before : (cost : Release → ℕ) (from free : ℕ) (xs : List Release) → from ≤ free
    → Every (λ (s : Served). from ≤ s.begin) (serve cost free xs)
none_before cost from free [] below = tt
none_before cost from free (x ∷ xs) below =
    let here : from ≤ max x.time free = omega arith in (
      here,
      none_before cost from (begins free x + cost x) xs
          (let later : from ≤ max x.time free + cost x = omega arith in later),
    )

pub one_at_a_time : (cost : Release → ℕ) (free : ℕ) (xs : List Release)
    → Pairs (λ (s t : Served). s.done ≤ t.begin) (serve cost free xs)
one_at_a_time cost free [] = tt
one_at_a_time cost free (x ∷ xs) = (
  none_before cost (begins free x + cost x) (begins free x + cost x) xs (omega arith),
  one_at_a_time cost (begins free x + cost x) xs,
)

-- ---- responses
-- in order, and releases of one member are this far apart
pub record IsApart (gap : ℕ) (x y : Release) : Type 0 where
  pub order : x.time ≤ y.time
  pub apart : x.node ≡ y.node → x.time + gap ≤ y.time

-- the release is that of a member, and its step takes no longer than its weight
pub record IsWeighed (w : ℕ → ℕ) (members : List ℕ) (cost : Release → ℕ) (x : Release) : Type 0 where
  pub member : Member members x.node
  pub cost_is : cost x ≤ w x.node

-- a release that comes after a busy stretch began, and not soon after where its member had one in it
pub record ComesLater (gap start : ℕ) (used : ℕ → Bool) (y : Release) : Type 0 where
  pub after : start ≤ y.time
  pub again : used y.node ≡ true → start + gap ≤ y.time

abbrev none : ℕ → Bool
none n = false

module _ (gap : ℕ) (w : ℕ → ℕ) (members : List ℕ) (cost : Release → ℕ) (few : sum_by w members ≤ gap) where
  -- a new stretch begins
  anew : (x y : Release) → IsApart gap x y → ComesLater gap x.time (with_one x.node none) y
  anew x y apart = record {
    after = apart.order;
    again = λ is. elim (or_cases (nat_eq y.node x.node) false is) [
      | inl same ↦ apart.apart (sym (eqb-true y.node x.node same))
      | inr other ↦ absurd (cc)
    ];
  }

  -- or the busy interval continues
  onward : (start : ℕ) (used : ℕ → Bool) (x y : Release) → start ≤ x.time → IsApart gap x y
      → ComesLater gap start used y → ComesLater gap start (with_one x.node used) y
  onward start used x y first apart later = record {
    after = later.after;
    again = λ is. elim (or_cases (nat_eq y.node x.node) (used y.node) is) [
      | inl same ↦ (let far = apart.apart (sym (eqb-true y.node x.node same)) in omega (arith, far, first))
      | inr before ↦ later.again before
    ];
  }

  not_used : (start free : ℕ) (used : ℕ → Bool) (x : Release) (b : Bool) → used x.node ≡ b → free ≤ start + gap
      → x.time < free → ComesLater gap start used x → used x.node ≡ false
  not_used start free used x true is most busy later =
      absurd (let far = later.again is in omega (arith, far, most, busy))
  not_used start free used x false is most busy later = is

  pub in_time : (start free : ℕ) (used : ℕ → Bool) (xs : List Release) → free ≤ start + part w used members
      → Every (ComesLater gap start used) xs
      → Pairs (IsApart gap) xs → Every (IsWeighed w members cost) xs
      → Every (λ (s : Served). s.done ≤ s.release.time + gap) (serve cost free xs)
  in_time start free used [] most later apart weighed = tt
  in_time start free used (x ∷ xs) most later apart weighed =
      let here = weighed.0.cost_is in
      elim (cases_lt x.time free) [
        | inl busy ↦ (
            let all = part_le w used members in
            let fresh = not_used start free used x (used x.node) refl (omega (arith, most, all, few)) busy later.0 in
            let more = part_more w used x.node members weighed.0.member fresh in
            let whole = part_le w (with_one x.node used) members in
            let first = later.0.after in
            let done_in : max x.time free + cost x ≤ start + part w (with_one x.node used) members =
            omega (arith, busy, most, more, here) in (
              (let bound : max x.time free + cost x ≤ x.time + gap =
                  omega (arith, done_in, whole, few, first) in bound),
              in_time start (begins free x + cost x) (with_one x.node used) xs done_in
                  (every_both (IsApart gap x) (ComesLater gap start used) (ComesLater gap start (with_one x.node used))
                  (λ y. onward start used x y first) xs apart.0 later.1)
                  apart.1 weighed.1,
            ))
        | inr idle ↦ (
            let more = part_more w none x.node members weighed.0.member refl in
            let whole = part_le w (with_one x.node none) members in
            let done_in : max x.time free + cost x ≤ x.time + part w (with_one x.node none) members =
            omega (arith, idle, more, here) in (
              (let bound : max x.time free + cost x ≤ x.time + gap = omega (arith, done_in, whole, few) in bound),
              in_time x.time (begins free x + cost x) (with_one x.node none) xs done_in
                  (AllByRecursion-weaker (IsApart gap x) (ComesLater gap x.time (with_one x.node none))
                  (anew x) xs apart.0)
                  apart.1 weighed.1,
            ))
      ]

  -- from an idle processor on
  pub all_in_time : (xs : List Release) → Pairs (IsApart gap) xs → Every (IsWeighed w members cost) xs
      → Every (λ (s : Served). s.done ≤ s.release.time + gap) (serve cost 0 xs)
  all_in_time xs apart weighed =
      in_time 0 0 none xs (omega arith)
      (AllByRecursion-weaker (IsWeighed w members cost) (ComesLater gap 0 none)
      (λ y is. record { after = omega arith; again = λ other. absurd (cc) }) xs weighed) apart weighed
