-- Of the numbers below a bound, either a smallest one has a property, or no number has it.
use Rattle.std.proofs.Common.{◌≡◌, ◌⊎◌, inl, inr, ℕ, zero, suc, ◌<◌, ◌≤◌, subst, arith}
use Rattle.std.proofs.lemmas.Bool.{cases_lt}

-- the smallest number with P, below a bound
pub record IsLeast (P : ℕ → Type 0) (bound : ℕ) : Type 0 where
  pub number : ℕ
  pub within : number < bound
  pub has : P number
  pub first : (before : ℕ) → before < number → P before → ⊥

-- no number below a bound has P
abbrev pub NoneHas : (ℕ → Type 0) → ℕ → Type 0
NoneHas P bound = (n : ℕ) → n < bound → P n → ⊥

abbrev pub HasLeast : (ℕ → Type 0) → ℕ → Type 0
HasLeast P bound = IsLeast P bound ⊎ NoneHas P bound

wider : (P : ℕ → Type 0) (bound : ℕ) → IsLeast P bound → IsLeast P (suc bound)
wider P bound l = let within = l.within in
    record { number = l.number; within = omega arith; has = l.has; first = l.first }

none_at : (P : ℕ → Type 0) (bound : ℕ) → NoneHas P bound → (P bound → ⊥) → (n : ℕ) → n < suc bound
    → (n < bound) ⊎ (bound ≤ n) → P n → ⊥
none_at P bound none here n less (inl lt) p = none n lt p
none_at P bound none here n less (inr ge) p = let e : n ≡ bound = omega arith in here (subst P e p)

by_last : (P : ℕ → Type 0) (bound : ℕ) → NoneHas P bound → P bound ⊎ (P bound → ⊥) → HasLeast P (suc bound)
by_last P bound none (inl p) = inl (record { number = bound; within = omega arith; has = p; first = none })
by_last P bound none (inr never) = inr (λ n less p. none_at P bound none never n less (cases_lt n bound) p)

one_more : (P : ℕ → Type 0) → ((n : ℕ) → P n ⊎ (P n → ⊥)) → (bound : ℕ) → HasLeast P bound → HasLeast P (suc bound)
one_more P tell bound (inl l) = inl (wider P bound l)
one_more P tell bound (inr none) = by_last P bound none (tell bound)

pub least : (P : ℕ → Type 0) → ((n : ℕ) → P n ⊎ (P n → ⊥)) → (bound : ℕ) → HasLeast P bound
least P tell zero = inr (λ n less p. absurd (omega arith))
least P tell (suc bound) = one_more P tell bound (least P tell bound)
