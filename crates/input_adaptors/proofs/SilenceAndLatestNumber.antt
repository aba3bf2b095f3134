-- For the laws of silence and of the latest: a group with no present number gives none, and the latest is the last
-- present one.
use Rattle.std.proofs.Common.{◌≡◌, ◌≢◌, ◌∙◌, ap, refl, ℕ, zero, suc, ◌-◌, ◌<◌, inl, inr, ℤ, List, [], ◌∷◌, length, Some}
use Rattle.std.proofs.Common.{arith}
use Rattle.std.specs.Prelude.{slice_get, slice_index_or, All, Contains}
use Rattle.std.proofs.lemmas.Bool.{cases_lt}
use Rattle.std.proofs.lemmas.List.{get_or_past}
use Rattle.std.proofs.lemmas.List.Elements.{All-head, All-tail, All-get_or}
use Rattle.pals_base.specs.declared.basic_types.PortValue.{PortValue}
use Rattle.pals_base.specs.declared.basic_types.PortValue.TheVariants.{Absent, Present}
use Rattle.pals_base.specs.declared.allowed_adaptors.Adaptor.{Adaptor}
use Rattle.pals_base.specs.declared.allowed_adaptors.Adaptor.TheVariants.{Repeat, First, Last, At, Latest, Max, Min}
use Rattle.pals_base.specs.declared.allowed_adaptors.Adaptor.TheVariants.{Average}
use Rattle.pals_base.specs.Adaptors.{joined, present, of_present, latest_of, greatest_of, least_of, average_of}
use Rattle.input_adaptors.specs.proof.PlacesAndGroupValues.{IsLatest, MakesNumber}
use Rattle.input_adaptors.proofs.Extremes.{Contains-present}

-- ---- none present
present_none : (group : List PortValue) → All (λ port. port ≡ Absent) group → present group ≡ []
present_none [] silent = refl
present_none (Absent ∷ group) silent = present_none group (All-tail (λ port. port ≡ Absent) Absent group silent)
present_none (Present v ∷ group) silent = let e : Present v ≡ Absent =
    All-head (λ port. port ≡ Absent) (Present v) group silent in cc

at_silent : (group : List PortValue) (i : ℕ) → All (λ port. port ≡ Absent) group
    → slice_index_or group i Absent ≡ Absent
at_silent group i silent =
    elim (cases_lt i (length group)) [
      | inl below ↦ All-get_or (λ port. port ≡ Absent) group i Absent below silent
      | inr past ↦
          get_or_past group i Absent past
    ]

of_none : (f : ℤ → List ℤ → ℤ) (group : List PortValue) → All (λ port. port ≡ Absent) group
    → of_present f (present group) ≡ Absent
of_none f group silent = ap (of_present f) (present_none group silent)

pub joined-silent : (a : Adaptor) (group : List PortValue) → All (λ port. port ≡ Absent) group → joined a group ≡ Absent
joined-silent Repeat group silent = refl
joined-silent First group silent = at_silent group 0 silent
joined-silent Last group silent = at_silent group (length group - 1) silent
joined-silent (At n) group silent = at_silent group (n - 1) silent
joined-silent Latest group silent = of_none latest_of group silent
joined-silent Max group silent = of_none greatest_of group silent
joined-silent Min group silent = of_none least_of group silent
joined-silent Average group silent = of_none average_of group silent

-- ---- some present
of_some : (f : ℤ → List ℤ → ℤ) (numbers : List ℤ) (v : ℤ) → Contains numbers v → of_present f numbers ≢ Absent
of_some f [] v among e = absurd (omega (arith, among.1))
of_some f (w ∷ ws) v among e = cc

pub joined-heard : (a : Adaptor) (group : List PortValue) (v : ℤ) → MakesNumber a → Contains group (Present v)
    → joined a group ≢ Absent
joined-heard Repeat group v makes among = absurd makes
joined-heard First group v makes among = absurd makes
joined-heard Last group v makes among = absurd makes
joined-heard (At n) group v makes among = absurd makes
joined-heard Latest group v makes among = of_some latest_of (present group) v (Contains-present group v among)
joined-heard Max group v makes among = of_some greatest_of (present group) v (Contains-present group v among)
joined-heard Min group v makes among = of_some least_of (present group) v (Contains-present group v among)
joined-heard Average group v makes among = of_some average_of (present group) v (Contains-present group v among)

-- ---- the last present
none_at : (group : List PortValue) (k : ℕ) (w : ℤ) → present group ≡ [] → slice_get group k ≢ Some (Present w)
none_at [] k w none e = cc
none_at (Absent ∷ group) zero w none e = cc
none_at (Absent ∷ group) (suc k) w none e = none_at group k w none e
none_at (Present v ∷ group) k w none e = cc

after_one : (port : PortValue) (group : List PortValue) (n : ℕ)
    → ((k : ℕ) (w : ℤ) → n < k → slice_get group k ≢ Some (Present w)) → (k : ℕ) (w : ℤ) → suc n < k
    → slice_get (port ∷ group) k ≢ Some (Present w)
after_one port group n later zero w after e = absurd (omega arith)
after_one port group n later (suc k) w after e = later k w (omega arith) e

later_by_one : (port : PortValue) (group : List PortValue) (v : ℤ) → IsLatest group v → IsLatest (port ∷ group) v
later_by_one port group v last =
    record { at = suc last.at; present = last.present; latest = after_one port group last.at last.latest }

none_after_first : (port : PortValue) (group : List PortValue) → present group ≡ [] → (k : ℕ) (w : ℤ) → 0 < k
    → slice_get (port ∷ group) k ≢ Some (Present w)
none_after_first port group none zero w after e = absurd (omega arith)
none_after_first port group none (suc k) w after e = none_at group k w none e

last_among : (u : ℤ) (group : List PortValue) (numbers : List ℤ) (v : ℤ) → present group ≡ numbers
    → (joined Latest group ≡ Present v → IsLatest group v)
    → of_present latest_of (u ∷ numbers) ≡ Present v → IsLatest (Present u ∷ group) v
last_among u group [] v same rest given = let e : u ≡ v = cc in
    record { at = 0; present = ap (λ x. Some (Present x)) e; latest = none_after_first (Present u) group same }
last_among u group (x ∷ xs) v same rest given =
    later_by_one (Present u) group v (rest (ap (of_present latest_of) same ∙ given))

pub IsLatest-joined : (group : List PortValue) (v : ℤ) → joined Latest group ≡ Present v → IsLatest group v
IsLatest-joined [] v given = cc
IsLatest-joined (Absent ∷ group) v given = later_by_one Absent group v (IsLatest-joined group v given)
IsLatest-joined (Present u ∷ group) v given = last_among u group (present group) v refl (IsLatest-joined group v) given
