-- A list of bits as its bits are written one after the other.
use Rattle.std.proofs.Common.{◌≡◌, ◌≢◌, ◌∙◌, inl, inr, ℕ, zero, suc, ◌+◌, ◌<◌, ◌≤◌, Bool, not, ◌&&◌, ◌||◌, List, []}
use Rattle.std.proofs.Common.{◌∷◌, length, Some, slice_get, slice_set, refl, sym, ap, ap₂, arith, eq-or-lt_of_le}
use Rattle.run_monitor.specs.declared.flat_form.FlatForm.{FlatForm}
use Rattle.run_monitor.specs.declared.flat_form.FlatForm.TheVariants as flat
use Rattle.run_monitor.specs.proof.FlatForms.{HasParts, IsFlat}
use Rattle.run_monitor.specs.proof.FormBits.{bit_at, next_bit}

pub put-here : (bits : List Bool) (at : ℕ) (b : Bool) → at < length bits → bit_at (slice_set bits at b) at ≡ b
put-here [] at b within = absurd (omega arith)
put-here (x ∷ bits) zero b within = refl
put-here (x ∷ bits) (suc at) b within = put-here bits at b (omega arith)

pub put-other : (bits : List Bool) (at k : ℕ) (b : Bool) → k ≢ at → bit_at (slice_set bits at b) k ≡ bit_at bits k
put-other [] at k b apart = refl
put-other (x ∷ bits) zero zero b apart = absurd (apart refl)
put-other (x ∷ bits) zero (suc k) b apart = refl
put-other (x ∷ bits) (suc at) zero b apart = refl
put-other (x ∷ bits) (suc at) (suc k) b apart = put-other bits at k b (λ same. apart (ap suc same))

-- the bits from a place on are as they were
abbrev pub Stay : List Bool → List Bool → ℕ → Type 0
Stay bits old at = (k : ℕ) → at ≤ k → bit_at bits k ≡ bit_at old k

pub stay_more : (bits old new : List Bool) (at : ℕ) (b : Bool) → new ≡ slice_set bits at b → Stay bits old at
    → Stay new old (at + 1)
stay_more bits old new at b is stay = λ k above.
    ap (λ (bs : List Bool). bit_at bs k) is ∙ put-other bits at k b (λ same. omega (arith, same, above))
    ∙ stay k (omega (arith, above))

-- ---- each bit from the one before it
abbrev pub Seen : (FlatForm → Bool → Bool) → List FlatForm → List Bool → List Bool → ℕ → Type 0
Seen f es bits old at = (k : ℕ) (e : FlatForm) → k < at → slice_get es k ≡ Some e → bit_at bits k ≡ f e (bit_at old k)

same_form : (es : List FlatForm) (k : ℕ) (x e : FlatForm) → slice_get es k ≡ Some x → slice_get es k ≡ Some e → x ≡ e
same_form es k x e first second = let same : Some x ≡ Some e = sym first ∙ second in cc

pub seen_more : (f : FlatForm → Bool → Bool) (es : List FlatForm) (bits old new : List Bool) (at : ℕ)
    (x : FlatForm) (b : Bool)
    → slice_get es at ≡ Some x → at < length bits
    → b ≡ f x (bit_at bits at) → new ≡ slice_set bits at b → Stay bits old at → Seen f es bits old at
    → Seen f es new old (at + 1)
seen_more f es bits old new at x b is_x within value is stay seen = λ k e below is_e.
    let upto : k ≤ at = omega (arith, below) in
    ap (λ (bs : List Bool). bit_at bs k) is
    ∙ elim (eq-or-lt_of_le upto) [
      | inl here ↦
          ap (bit_at (slice_set bits at b)) here ∙ put-here bits at b within ∙ value
          ∙ ap₂ f (same_form es at x e is_x (sym (ap (slice_get es) here) ∙ is_e))
          (stay at (omega arith) ∙ ap (bit_at old) (sym here))
      | inr before ↦ put-other bits at k b (λ same. omega (arith, same, before)) ∙ seen k e before is_e
    ]

-- ---- each bit from the bits of its parts
next-same : (e : FlatForm) (n k : ℕ) (begun : Bool) (kept now new : List Bool) (own : Bool) → HasParts n e
    → ((p : ℕ) → p < n → bit_at now p ≡ bit_at new p)
    → next_bit e k begun kept now own ≡ next_bit e k begun kept new own
next-same (flat.Var node variable op number) n k begun kept now new own parts same = refl
next-same (flat.Halted node) n k begun kept now new own parts same = refl
next-same (flat.Not f) n k begun kept now new own parts same = ap not (same f parts)
next-same (flat.And f g) n k begun kept now new own parts same = ap₂ (λ a b. a && b) (same f parts.0) (same g parts.1)
next-same (flat.Or f g) n k begun kept now new own parts same = ap₂ (λ a b. a || b) (same f parts.0) (same g parts.1)
next-same (flat.Previous f) n k begun kept now new own parts same = refl
next-same (flat.Once f) n k begun kept now new own parts same = ap (λ a. (begun && bit_at kept k) || a) (same f parts)
next-same (flat.Historically f) n k begun kept now new own parts same =
    ap (λ a. (not begun || bit_at kept k) && a) (same f parts)
next-same (flat.Since f g) n k begun kept now new own parts same =
    ap₂ (λ a b. ((begun && bit_at kept k) && a) || b) (same f parts.0) (same g parts.1)

abbrev pub Advanced : Bool → List Bool → List FlatForm → List Bool → List Bool → ℕ → Type 0
Advanced begun kept es bits old at =
    (k : ℕ) (e : FlatForm) → k < at → slice_get es k ≡ Some e
    → bit_at bits k ≡ next_bit e k begun kept bits (bit_at old k)

pub advanced_more : (begun : Bool) (kept : List Bool) (es : List FlatForm) (bits old new : List Bool) (at : ℕ)
    (x : FlatForm) (b : Bool) → IsFlat es
    → slice_get es at ≡ Some x → at < length bits → b ≡ next_bit x at begun kept bits (bit_at bits at)
    → new ≡ slice_set bits at b → Stay bits old at
    → Advanced begun kept es bits old at → Advanced begun kept es new old (at + 1)
advanced_more begun kept es bits old new at x b order is_x within value is stay done = λ k e below is_e.
    let upto : k ≤ at = omega (arith, below) in
    let early : (p : ℕ) → p < k → bit_at bits p ≡ bit_at new p
    =
    λ p less. sym (ap (λ (bs : List Bool). bit_at bs p) is
    ∙ put-other bits at p b (λ same. omega (arith, same, less, upto))) in
    let over_new : next_bit e k begun kept bits (bit_at old k) ≡ next_bit e k begun kept new (bit_at old k)
    = next-same e k k begun kept bits new (bit_at old k) (order.parts k e is_e) early in
    ap (λ (bs : List Bool). bit_at bs k) is
    ∙ elim (eq-or-lt_of_le upto) [
      | inl here ↦
          ap (bit_at (slice_set bits at b)) here ∙ put-here bits at b within ∙ value
          ∙ ap₂ (λ (y : FlatForm) own. next_bit y at begun kept bits own)
          (same_form es at x e is_x (sym (ap (slice_get es) here) ∙ is_e))
          (stay at (omega arith) ∙ ap (bit_at old) (sym here))
          ∙ ap (λ n. next_bit e n begun kept bits (bit_at old k)) (sym here)
      | inr before ↦ put-other bits at k b (λ same. omega (arith, same, before)) ∙ done k e before is_e
    ]
    ∙ over_new
