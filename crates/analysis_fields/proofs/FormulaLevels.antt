-- The nesting depth of formulas, one level after another.
use Rattle.std.proofs.Common.{◌≡◌, ℕ, zero, suc, ◌<◌, ◌-◌, List, map, false, sym, ap, ◌∙◌, refl, arith}
use Rattle.std.specs.List.{list_all}
use Rattle.serde_json.specs.Data.{Data}
use Rattle.serde_json.specs.View.{view}
use Rattle.serde_json.specs.declared.value.Value.{Value}
use Rattle.analysis_fields.specs.Properties.{parts_of, is_shallow}

shallow_at : (n : ℕ) (d : Data) → 0 < n → list_all (is_shallow (n - 1)) (parts_of d) ≡ is_shallow n d
unfolding is_shallow
shallow_at zero d above = absurd (omega arith)
shallow_at (suc n) d above = ap (λ k. list_all (is_shallow k) (parts_of d)) (omega arith)

-- the parts of a value, one level lower
pub shallow_by : (n : ℕ) (d : Data) (parts : List Value) → 0 < n → map view parts ≡ parts_of d
    → list_all (is_shallow (n - 1)) (map view parts) ≡ is_shallow n d
shallow_by n d parts above same = ap (list_all (is_shallow (n - 1))) same ∙ shallow_at n d above

never_shallow : (d : Data) → false ≡ is_shallow 0 d
unfolding is_shallow
never_shallow d = refl

-- nothing is within zero levels
pub shallow_none : (n : ℕ) (d : Data) → n ≡ 0 → false ≡ is_shallow n d
shallow_none n d none = never_shallow d ∙ ap (λ k. is_shallow k d) (sym none)
