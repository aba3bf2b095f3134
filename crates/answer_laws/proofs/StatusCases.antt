-- The status that comes in each of four cases that exclude each other: no text, no design, no scenario, or all
-- three.
use Rattle.std.proofs.Common.{◌≡◌, ◌∙◌, ◌⊎◌, ◌↔◌, inl, inr, ℕ, ◌<◌, ◌≤◌, sym, arith}

-- The status by the contents: a text, a design and a scenario, each of which requires the ones before it. With all
-- three the status is one of several.
abbrev pub StatusCase : (ℕ → Type 0) → ℕ → Type 0 → Type 0 → Type 0 → Type 0
StatusCase Done s text design scenario =
    (Done s × scenario) ⊎ ((s ≡ 3) × (text → ⊥)) ⊎ ((s ≡ 4) × text × (design → ⊥)) ⊎ ((s ≡ 5) × design × (scenario → ⊥))

apart : (s m n : ℕ) → s ≡ m → s ≡ n → (m ≡ n → ⊥) → ⊥
apart s m n e f differ = differ (sym e ∙ f)

-- only 0 or 1
abbrev pub IsSmall : (ℕ → Type 0) → Type 0
IsSmall Done = (s : ℕ) → Done s → s < 2

pub zero_is_small : IsSmall (λ s. s ≡ 0)
zero_is_small s e = omega (arith, e)

module _ (Done : ℕ → Type 0) (small : IsSmall Done) {text design scenario : Type 0} (has_text : design → text)
    (has_design : scenario → design) where
  not_done : (s n : ℕ) → Done s → s ≡ n → 2 ≤ n → ⊥
  not_done s n d e large = let least = small s d in absurd (omega (arith, least, e, large))

  pub done : (s : ℕ) → StatusCase Done s text design scenario → Done s ↔ scenario
  done s (inl x) = (λ d. x.1, λ h. x.0)
  done s (inr (inl x)) = (λ d. absurd (not_done s 3 d x.0 (omega arith)), λ h. absurd (x.1 (has_text (has_design h))))
  done s (inr (inr (inl x))) = (λ d. absurd (not_done s 4 d x.0 (omega arith)), λ h. absurd (x.2 (has_design h)))
  done s (inr (inr (inr x))) = (λ d. absurd (not_done s 5 d x.0 (omega arith)), λ h. absurd (x.2 h))

  pub without_text : (s : ℕ) → StatusCase Done s text design scenario → (s ≡ 3) ↔ (text → ⊥)
  without_text s (inl x) =
      (λ e. absurd (not_done s 3 x.0 e (omega arith)), λ none. absurd (none (has_text (has_design x.1))))
  without_text s (inr (inl x)) = (λ e. x.1, λ none. x.0)
  without_text s (inr (inr (inl x))) =
      (λ e. absurd (apart s 4 3 x.0 e (λ n. absurd (omega arith))), λ none. absurd (none x.1))
  without_text s (inr (inr (inr x))) =
      (λ e. absurd (apart s 5 3 x.0 e (λ n. absurd (omega arith))), λ none. absurd (none (has_text x.1)))

  pub without_design : (s : ℕ) → StatusCase Done s text design scenario → (s ≡ 4) ↔ (text × (design → ⊥))
  without_design s (inl x) = (λ e. absurd (not_done s 4 x.0 e (omega arith)), λ h. absurd (h.1 (has_design x.1)))
  without_design s (inr (inl x)) = (λ e. absurd (apart s 3 4 x.0 e (λ n. absurd (omega arith))), λ h. absurd (x.1 h.0))
  without_design s (inr (inr (inl x))) = (λ e. (x.1, x.2), λ h. x.0)
  without_design s (inr (inr (inr x))) =
      (λ e. absurd (apart s 5 4 x.0 e (λ n. absurd (omega arith))), λ h. absurd (h.1 x.1))

  pub without_scenario : (s : ℕ) → StatusCase Done s text design scenario → (s ≡ 5) ↔ (design × (scenario → ⊥))
  without_scenario s (inl x) = (λ e. absurd (not_done s 5 x.0 e (omega arith)), λ h. absurd (h.1 x.1))
  without_scenario s (inr (inl x)) =
      (λ e. absurd (apart s 3 5 x.0 e (λ n. absurd (omega arith))), λ h. absurd (x.1 (has_text h.0)))
  without_scenario s (inr (inr (inl x))) =
      (λ e. absurd (apart s 4 5 x.0 e (λ n. absurd (omega arith))), λ h. absurd (x.2 h.0))
  without_scenario s (inr (inr (inr x))) = (λ e. (x.1, x.2), λ h. x.0)
