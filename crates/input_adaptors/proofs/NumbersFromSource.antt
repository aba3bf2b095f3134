-- For the law that numbers come from the source: each present number that an adaptor gives is in the source's tuple.
use Rattle.std.proofs.Common.{◌≡◌, ◌≢◌, ◌∙◌, ap, sym, subst, refl, ℕ, zero, suc, ◌-◌, ◌/◌, inl, inr, ℤ, List, [], ◌∷◌}
use Rattle.std.proofs.Common.{length, take, drop, map, Option, Some, None}
use Rattle.std.specs.Prelude.{flat_map, slice_index_or, slice_set, replicate, All, Contains}
use Rattle.std.proofs.lemmas.Bool.{cases_lt}
use Rattle.std.proofs.lemmas.List.{get_or_past, get_or_default}
use Rattle.std.proofs.lemmas.List.Elements.{All-nil, All-cons, All-append, All-map, All-set, All-replicate, All-take}
use Rattle.std.proofs.lemmas.List.Elements.{All-drop, All-weaker, All-contains, All-contains_itself}
use Rattle.list_lemmas.proofs.Elements.{Contains-head, Contains-cons}
use Rattle.pals_base.specs.declared.basic_types.PortValue.{PortValue}
use Rattle.pals_base.specs.declared.basic_types.PortValue.TheVariants.{Absent, Present}
use Rattle.pals_base.specs.declared.allowed_adaptors.Adaptor.{Adaptor}
use Rattle.pals_base.specs.declared.allowed_adaptors.Adaptor.TheVariants.{Repeat, First, Last, At, Latest, Max, Min}
use Rattle.pals_base.specs.declared.allowed_adaptors.Adaptor.TheVariants.{Average}
use Rattle.pals_base.specs.Adaptors.{adapt, groups, joined, spread, present, of_present, latest_of}
use Rattle.input_adaptors.proofs.Extremes.{Contains-from_present, IsLeast-joined, IsGreatest-joined}
use Rattle.input_adaptors.proofs.TupleLengthsAndGroups.{adapt-faster, adapt-slower}

-- the number of the port, if it has one, is among the numbers of the tuple
abbrev IsFrom : List PortValue → PortValue → Type 0
IsFrom tuple port = (v : ℤ) → port ≡ Present v → Contains tuple (Present v)

absent_from : (tuple : List PortValue) → IsFrom tuple Absent
absent_from tuple v e = cc

itself_from : (tuple : List PortValue) (port : PortValue) → Contains tuple port → IsFrom tuple port
itself_from tuple port among v e = subst (Contains tuple) e among

-- ---- to a higher rate
All-placed : (tuple : List PortValue) (n m : ℕ) (port : PortValue) → IsFrom tuple port
    → All (IsFrom tuple) (slice_set (replicate m Absent) (n - 1) port)
All-placed tuple n m port from =
    All-set (IsFrom tuple) (replicate m Absent) (n - 1) port from
    (All-replicate (IsFrom tuple) m Absent (absent_from tuple))

All-spread : (tuple : List PortValue) (a : Adaptor) (m : ℕ) (port : PortValue) → IsFrom tuple port
    → All (IsFrom tuple) (spread a m port)
All-spread tuple Repeat m port from = All-replicate (IsFrom tuple) m port from
All-spread tuple First m port from = All-placed tuple 1 m port from
All-spread tuple Last m port from = All-placed tuple m m port from
All-spread tuple (At n) m port from = All-placed tuple n m port from
All-spread tuple Latest m port from = All-replicate (IsFrom tuple) m Absent (absent_from tuple)
All-spread tuple Max m port from = All-replicate (IsFrom tuple) m Absent (absent_from tuple)
All-spread tuple Min m port from = All-replicate (IsFrom tuple) m Absent (absent_from tuple)
All-spread tuple Average m port from = All-replicate (IsFrom tuple) m Absent (absent_from tuple)

All-spread_all : (tuple : List PortValue) (a : Adaptor) (m : ℕ) (ports : List PortValue)
    → ((port : PortValue) → Contains ports port → IsFrom tuple port) → All (IsFrom tuple) (flat_map (spread a m) ports)
All-spread_all tuple a m [] from = All-nil (IsFrom tuple)
All-spread_all tuple a m (port ∷ ports) from =
    All-append (IsFrom tuple) (spread a m port) (flat_map (spread a m) ports)
    (All-spread tuple a m port (from port (Contains-head port ports)))
    (All-spread_all tuple a m ports (λ x among. from x (Contains-cons port x ports among)))

-- ---- to a lower rate
at_from : (group : List PortValue) (i : ℕ) → IsFrom group (slice_index_or group i Absent)
at_from group i v e =
    elim (cases_lt i (length group)) [
      | inl below ↦ (i, below, get_or_default group i (Present v) Absent below ∙ e)
      | inr past ↦ let absent : slice_index_or group i Absent ≡ Absent = get_or_past group i Absent past in cc
    ]

Contains-latest : (w : ℤ) (ws : List ℤ) → Contains (w ∷ ws) (latest_of w ws)
Contains-latest w [] = Contains-head w []
Contains-latest w (x ∷ ws) = Contains-cons w (latest_of x ws) (x ∷ ws) (Contains-latest x ws)

latest_from : (group : List PortValue) (numbers : List ℤ) → present group ≡ numbers
    → IsFrom group (of_present latest_of numbers)
latest_from group [] same v e = cc
latest_from group (w ∷ ws) same v e =
    let is : latest_of w ws ≡ v = cc in
    Contains-from_present group v
    (subst (λ vs. Contains vs v) (sym same) (subst (Contains (w ∷ ws)) is (Contains-latest w ws)))

joined_from : (a : Adaptor) (group : List PortValue) → a ≢ Average → IsFrom group (joined a group)
joined_from Repeat group other = absent_from group
joined_from First group other = at_from group 0
joined_from Last group other = at_from group (length group - 1)
joined_from (At n) group other = at_from group (n - 1)
joined_from Latest group other = latest_from group (present group) refl
joined_from Max group other = λ v e. (IsGreatest-joined group v e).present
joined_from Min group other = λ v e. (IsLeast-joined group v e).present
joined_from Average group other = absurd (other refl)

-- the ports of each group are the tuple's
abbrev IsPartOf : List PortValue → List PortValue → Type 0
IsPartOf tuple group = All (Contains tuple) group

All-part : (tuple : List PortValue) (count m : ℕ) (rest : List PortValue) → IsPartOf tuple rest
    → All (IsPartOf tuple) (groups count m rest)
All-part tuple zero m rest part = All-nil (IsPartOf tuple)
All-part tuple (suc count) m rest part =
    All-cons (IsPartOf tuple) (take m rest) (groups count m (drop m rest)) (All-take (Contains tuple) m rest part)
    (All-part tuple count m (drop m rest) (All-drop (Contains tuple) m rest part))

All-joined : (tuple : List PortValue) (a : Adaptor) (count m : ℕ) → a ≢ Average
    → All (IsFrom tuple) (map (joined a) (groups count m tuple))
All-joined tuple a count m other =
    All-map (IsFrom tuple) (joined a) (groups count m tuple)
    (All-weaker (IsPartOf tuple) (λ group. IsFrom tuple (joined a group))
    (λ group part v e. All-contains (Contains tuple) group (Present v) part (joined_from a group other v e))
    (groups count m tuple)
    (All-part tuple count m tuple (All-contains_itself tuple)))

-- ---- the whole
All-adapt : (adaptor : Option Adaptor) (p q : ℕ) (tuple : List PortValue) → adaptor ≢ Some Average
    → All (IsFrom tuple) (adapt adaptor p q tuple)
All-adapt None p q tuple other =
    All-weaker (Contains tuple) (IsFrom tuple) (itself_from tuple) tuple (All-contains_itself tuple)
All-adapt (Some a) p q tuple other =
    elim (cases_lt p q) [
      | inl below ↦ subst (All (IsFrom tuple)) (sym (adapt-faster a p q tuple below))
          (All-spread_all tuple a (q / p) tuple (itself_from tuple))
      | inr above ↦ subst (All (IsFrom tuple)) (sym (adapt-slower a p q tuple above))
          (All-joined tuple a q (p / q) (λ e. other (ap Some e)))
    ]

pub Contains-adapt : (adaptor : Option Adaptor) (p q : ℕ) (tuple : List PortValue) (v : ℤ) → adaptor ≢ Some Average
    → Contains (adapt adaptor p q tuple) (Present v) → Contains tuple (Present v)
Contains-adapt adaptor p q tuple v other among =
    All-contains (IsFrom tuple) (adapt adaptor p q tuple) (Present v) (All-adapt adaptor p q tuple other) among v refl
