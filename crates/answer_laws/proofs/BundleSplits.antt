-- A bundle has at most one division.
use Rattle.std.proofs.Common.{◌≡◌, ◌∙◌, ◌⊎◌, inl, inr, ℕ, zero, suc, ◌<◌, ◌≤◌, Bool, true, false, cond, List, []}
use Rattle.std.proofs.Common.{length, take, Option, Some, None, sym, ap, arith}
use Rattle.std.proofs.Math.ListN.{drop_of_length-le}
use Rattle.std.proofs.lemmas.Bool.{cases_lt, cases_order}
use Rattle.std.proofs.lemmas.Option.{none-some, same_Some}
use Rattle.bundle_designs.specs.Bundles.{behind_divider, begins_line, divided_at, IsSplit, HasNoDivider}

too_soon : (bundle a b s t : List ℕ) (x : IsSplit bundle a s) (y : IsSplit bundle b t) → x.at < y.at → ⊥
too_soon bundle a b s t x y less = none-some s (sym (y.first x.at less) ∙ x.divided)

split_by : (bundle a b s t : List ℕ) (x : IsSplit bundle a s) (y : IsSplit bundle b t)
    → (x.at ≡ y.at) ⊎ ((x.at < y.at) ⊎ (y.at < x.at)) → (a ≡ b) × (s ≡ t)
split_by bundle a b s t x y (inl e) = (
  x.design_is ∙ (ap (λ n. take n bundle) e ∙ sym y.design_is),
  same_Some s t (sym x.divided ∙ (ap (divided_at bundle) e ∙ y.divided)),
)
split_by bundle a b s t x y (inr (inl less)) = absurd (too_soon bundle a b s t x y less)
split_by bundle a b s t x y (inr (inr more)) = absurd (too_soon bundle b a t s y x more)

pub one_split : (bundle a b s t : List ℕ) → IsSplit bundle a s → IsSplit bundle b t → (a ≡ b) × (s ≡ t)
one_split bundle a b s t x y = split_by bundle a b s t x y (cases_order x.at y.at)

-- no line begins after the end
never_past : (b : Bool) → cond b (behind_divider []) None ≡ None
never_past true = λ i. None
never_past false = λ i. None

none_past : (bundle : List ℕ) (at : ℕ) → length bundle ≤ at → divided_at bundle at ≡ None
none_past bundle at past =
    ap (λ rest. cond (begins_line bundle at) (behind_divider rest) None) (drop_of_length-le bundle past)
    ∙ never_past (begins_line bundle at)

divided_by : (bundle text scenario : List ℕ) (x : IsSplit bundle text scenario) → HasNoDivider bundle
    → (x.at < length bundle) ⊎ (length bundle ≤ x.at) → ⊥
divided_by bundle text scenario x none (inl within) = none-some scenario (sym (none x.at within) ∙ x.divided)
divided_by bundle text scenario x none (inr past) = none-some scenario (sym (none_past bundle x.at past) ∙ x.divided)

pub divided : (bundle text scenario : List ℕ) → IsSplit bundle text scenario → HasNoDivider bundle → ⊥
divided bundle text scenario x none = divided_by bundle text scenario x none (cases_lt x.at (length bundle))

-- ---- a line divides the bundle, or none does
abbrev IsDivided : List ℕ → Type 0
IsDivided bundle = (text : List ℕ) × (scenario : List ℕ) × IsSplit bundle text scenario

abbrev NoneBefore : List ℕ → ℕ → Type 0
NoneBefore bundle end = (at : ℕ) → at < end → divided_at bundle at ≡ None

none_here : (bundle : List ℕ) (n : ℕ) → NoneBefore bundle n → divided_at bundle n ≡ None
    → (at : ℕ) → at < suc n → (at < n) ⊎ (n ≤ at) → divided_at bundle at ≡ None
none_here bundle n none here at lt (inl before) = none at before
none_here bundle n none here at lt (inr after) = let e : at ≡ n = omega arith in ap (divided_at bundle) e ∙ here

one_more : (bundle : List ℕ) (n : ℕ) (o : Option (List ℕ)) → divided_at bundle n ≡ o
    → IsDivided bundle ⊎ NoneBefore bundle n
    → IsDivided bundle ⊎ NoneBefore bundle (suc n)
one_more bundle n o e (inl split) = inl split
one_more bundle n None e (inr none) = inr (λ at lt. none_here bundle n none e at lt (cases_lt at n))
one_more bundle n (Some scenario) e (inr none) =
    inl (take n bundle, scenario, record { at = n; divided = e; first = none; design_is = λ i. take n bundle })

split_before : (bundle : List ℕ) (n : ℕ) → IsDivided bundle ⊎ NoneBefore bundle n
split_before bundle zero = inr (λ at lt. absurd (omega arith))
split_before bundle (suc n) = one_more bundle n (divided_at bundle n) (λ i. divided_at bundle n) (split_before bundle n)

pub split_or_not : (bundle : List ℕ)
    → ((text : List ℕ) × (scenario : List ℕ) × IsSplit bundle text scenario) ⊎ HasNoDivider bundle
split_or_not bundle = split_before bundle (length bundle)
