-- For `Env::write_values`: the values of a round, with one of the root's in ports more.
use Rattle.std.proofs.Common.{◌≡◌, ◌≢◌, ℕ, zero, suc, ◌+◌, ◌<◌, List, [], ◌∷◌, length, set, inl, inr, refl, sym, ap}
use Rattle.std.proofs.Common.{◌∙◌, arith, get_or-set_other, get_or-set_same}
use Rattle.std.specs.Prelude.{slice_index_or}
use Rattle.std.proofs.lemmas.Bool.{cases_lt}
use Rattle.pals_base.specs.declared.basic_types.PortValue.{PortValue}
use Rattle.pals_base.specs.declared.basic_types.PortValue.TheVariants.{Absent}
use Rattle.pals_base.specs.Tuples.{column}

pub value_here : (lists : List (List PortValue)) (at round : ℕ) (list : List PortValue) (d : PortValue)
    → at < length lists → list ≡ slice_index_or lists at list
    → slice_index_or (column round lists) at d ≡ slice_index_or list round Absent
value_here [] at round list d within is = absurd (omega arith)
value_here (l ∷ ls) zero round list d within is = sym (ap (λ xs. slice_index_or xs round Absent) is)
value_here (l ∷ ls) (suc at) round list d within is = value_here ls at round list d (omega arith) is

-- one more value
pub values_more : (values wanted : List PortValue) (at : ℕ) (value : PortValue) → at < length values
    → ((k : ℕ) (d : PortValue) → k < at → slice_index_or values k d ≡ slice_index_or wanted k d)
    → ((d : PortValue) → slice_index_or wanted at d ≡ value)
    → (k : ℕ) (d : PortValue) → k < at + 1 → slice_index_or (set values at value) k d ≡ slice_index_or wanted k d
values_more values wanted at value within before here k d below =
    elim (cases_lt k at) [
      | inl lower ↦ (let other : k ≢ at = omega arith in rw get_or-set_other (before k d lower))
      | inr not_lower ↦ (let same : k ≡ at = omega arith in
          ap (λ n. slice_index_or (set values at value) n d) same ∙ (rw get_or-set_same refl) ∙ sym (here d)
          ∙ ap (λ n. slice_index_or wanted n d) (sym same))
    ]
