-- `Covered`: each of some faults is a possible name fault or has another kind; and its rules for concatenated lists.
use Rattle.std.proofs.Common.{◌≡◌, ◌⊎◌, inl, inr, ℕ, Bool, true, false, cond, List, [], ◌∷◌, ◌++◌, map, filter, Option}
use Rattle.std.proofs.Common.{Some, None, Contains, refl, sym, ap, subst}
use Rattle.std.specs.Prelude.{flat_map}
use Rattle.std.specs.List.{list_any, filter_map, cons_option}
use Rattle.std.proofs.lemmas.List.Concat.{flat_map_single}
use Rattle.std.proofs.lemmas.List.Elements.{Contains-append_left, Contains-append_right, Contains-append_cases}
use Rattle.std.proofs.lemmas.List.Elements.{All-contains, All-filter, All-contains_itself}
use Rattle.list_lemmas.proofs.Elements.{Contains-nil, Contains-cons_cases}
use Rattle.aadl_names.specs.declared.fault.PackageFault.{PackageFault}
use Rattle.aadl_names.specs.declared.fault.PackageFault.TheVariants.{Twice, WrongKind}
use Rattle.aadl_names.specs.declared.declared_name.SpelledName.{SpelledName}
use Rattle.aadl_names.specs.FirstFaults.{number_of}
use Rattle.aadl_names.specs.DuplicateNames.{wrong_if, again, twice}
use Rattle.aadl_names.proofs.ListMembers.{is_here, only_here, among_all, from_all}

-- ---- lists
pub from_map : {X Y : Type 0} (h : X → Y) (xs : List X) (y : Y) → Contains (map h xs) y
    → (x : X) × Contains xs x × (h x ≡ y)
from_map h xs y c =
    let s = from_all (λ x. h x ∷ []) xs y (subst (λ l. Contains l y) (sym (flat_map_single h xs)) c) in
    (s.item, s.there, only_here (h s.item) y s.here)

abbrev Given : {X Y : Type 0} → (X → Option Y) → List X → Y → Type 0
Given {X} {Y} h xs y = (x : X) × Contains xs x × (h x ≡ Some y)

given_later : {X Y : Type 0} (h : X → Option Y) (x : X) (xs : List X) (y : Y) → Given h xs y → Given h (x ∷ xs) y
given_later h x xs y g = (g.0, Contains-append_right (x ∷ []) xs g.0 g.1, g.2)

given_by : {X Y : Type 0} (h : X → Option Y) (x : X) (xs : List X) (ys : List Y) (y : Y) (o : Option Y) → h x ≡ o
    → (Contains ys y → Given h xs y) → Contains (cons_option o ys) y → Given h (x ∷ xs) y
given_by h x xs ys y None e later c = given_later h x xs y (later c)
given_by h x xs ys y (Some z) e later c = by (Contains-cons_cases z ys y c)
  where
    by : (z ≡ y) ⊎ Contains ys y → Given h (x ∷ xs) y
    by (inl same) = (x, Contains-append_left (x ∷ []) xs x (is_here x), subst (λ w. h x ≡ Some w) same e)
    by (inr there) = given_later h x xs y (later there)

pub from_filter_map : {X Y : Type 0} (h : X → Option Y) (xs : List X) (y : Y) → Contains (filter_map h xs) y
    → (x : X) × Contains xs x × (h x ≡ Some y)
from_filter_map h [] y c = absurd (Contains-nil y c)
from_filter_map h (x ∷ xs) y c =
    given_by h x xs (filter_map h xs) y (h x) refl (λ there. from_filter_map h xs y there) c

pub from_filter : {X : Type 0} (p : X → Bool) (xs : List X) (x : X) → Contains (filter p xs) x → Contains xs x
from_filter p xs x c =
    All-contains (Contains xs) (filter p xs) x (All-filter p (Contains xs) xs (All-contains_itself xs)) c

-- ---- each finding has another kind or is a possible one
-- the position is the only content of a finding of this kind
abbrev pub IsWrongKind : PackageFault → Type 0
IsWrongKind f = number_of f ≡ number_of (WrongKind 0)

pub record Covered (found possible : List PackageFault) : Type 0 where
  pub each : (f : PackageFault) → Contains found f → IsWrongKind f ⊎ Contains possible f

pub covered_among : {fs ps : List PackageFault} → ((f : PackageFault) → Contains fs f → Contains ps f) → Covered fs ps
covered_among all = record { each = λ f h. inr (all f h) }

pub covered_none : (ps : List PackageFault) → Covered [] ps
covered_none ps = record { each = λ f h. absurd (Contains-nil f h) }

pub covered_itself : (ps : List PackageFault) → Covered ps ps
covered_itself ps = record { each = λ f h. inr h }

pub covered_kind : (at : ℕ) (ps : List PackageFault) → Covered (WrongKind at ∷ []) ps
covered_kind at ps = record { each = λ f h. inl (sym (ap number_of (only_here (WrongKind at) f h))) }

pub covered_wrong : (b : Bool) (at : ℕ) (ps : List PackageFault) → Covered (wrong_if b at) ps
covered_wrong true at ps = covered_kind at ps
covered_wrong false at ps = covered_none ps

pub covered_kinds : {X : Type 0} (at : X → ℕ) (xs : List X) (ps : List PackageFault)
    → Covered (map (λ x. WrongKind (at x)) xs) ps
covered_kinds at xs ps =
    record { each = λ f h. let from = from_map (λ x. WrongKind (at x)) xs f h in inl (sym (ap number_of from.2)) }

pub covered_one : (f : PackageFault) (ps : List PackageFault) → Contains ps f → Covered (f ∷ []) ps
covered_one f ps there = covered_among (λ g h. subst (Contains ps) (only_here f g h) there)

pub covered_append : {fs gs ps : List PackageFault} → Covered fs ps → Covered gs ps → Covered (fs ++ gs) ps
covered_append {fs} {gs} {ps} c d = record { each = λ f h. by f (Contains-append_cases fs gs f h) }
  where
    by : (f : PackageFault) → Contains fs f ⊎ Contains gs f → IsWrongKind f ⊎ Contains ps f
    by f (inl h) = c.each f h
    by f (inr h) = d.each f h

pub covered_wider : {fs ps qs : List PackageFault} → ((f : PackageFault) → Contains ps f → Contains qs f)
    → Covered fs ps → Covered fs qs
covered_wider {fs} {ps} {qs} all c = record { each = λ f h. by f (c.each f h) }
  where
    by : (f : PackageFault) → IsWrongKind f ⊎ Contains ps f → IsWrongKind f ⊎ Contains qs f
    by f (inl e) = inl e
    by f (inr h) = inr (all f h)

pub covered_front : {fs ps : List PackageFault} (qs : List PackageFault) → Covered fs ps → Covered fs (ps ++ qs)
covered_front {fs} {ps} qs c = covered_wider (λ f h. Contains-append_left ps qs f h) c

pub covered_back : {fs : List PackageFault} (ps : List PackageFault) {qs : List PackageFault} → Covered fs qs
    → Covered fs (ps ++ qs)
covered_back {fs} ps {qs} c = covered_wider (λ f h. Contains-append_right ps qs f h) c

pub covered_if : (b : Bool) {fs gs ps : List PackageFault} → Covered fs ps → Covered gs ps → Covered (cond b fs gs) ps
covered_if true {fs} {gs} {ps} c d = c
covered_if false {fs} {gs} {ps} c d = d

pub covered_each : {X : Type 0} (g : X → List PackageFault) (xs : List X) (ps : List PackageFault)
    → ((x : X) → Contains xs x → Covered (g x) ps)
    → Covered (flat_map g xs) ps
covered_each g xs ps all = record { each = λ f h. let s = from_all g xs f h in (all s.item s.there).each f s.here }

pub covered_flat : {X : Type 0} (g h : X → List PackageFault) → ((x : X) → Covered (g x) (h x)) → (xs : List X)
    → Covered (flat_map g xs) (flat_map h xs)
covered_flat g h all xs =
    covered_each g xs (flat_map h xs) (λ x there. covered_wider (λ f here. among_all h xs x f there here) (all x))

-- ---- each name is a possible duplicate
pub record Named (names : List SpelledName) (possible : List PackageFault) : Type 0 where
  pub each : (e : SpelledName) → Contains names e → Contains possible (Twice e.name e.at)

pub named_append : {es fs : List SpelledName} {ps : List PackageFault} → Named es ps → Named fs ps → Named (es ++ fs) ps
named_append {es} {fs} {ps} c d = record { each = λ e h. by e (Contains-append_cases es fs e h) }
  where
    by : (e : SpelledName) → Contains es e ⊎ Contains fs e → Contains ps (Twice e.name e.at)
    by e (inl h) = c.each e h
    by e (inr h) = d.each e h

pub named_map : {X : Type 0} (h : X → SpelledName) (xs : List X) (ps : List PackageFault)
    → ((x : X) → Contains xs x → Contains ps (Twice (h x).name (h x).at))
    → Named (map h xs) ps
named_map h xs ps all = record {
  each = λ e c. let from = from_map h xs e c in
      subst (λ (z : SpelledName). Contains ps (Twice z.name z.at)) from.2 (all from.0 from.1);
}

pub named_filter_map : {X : Type 0} (h : X → Option SpelledName) (xs : List X) (ps : List PackageFault)
    → ((x : X) (e : SpelledName) → Contains xs x → h x ≡ Some e → Contains ps (Twice e.name e.at))
    → Named (filter_map h xs) ps
named_filter_map h xs ps all =
    record { each = λ e c. let from = from_filter_map h xs e c in all from.0 e from.1 from.2 }

pub covered_twice : (names : List SpelledName) (ps : List PackageFault) → Named names ps → Covered (twice names) ps
covered_twice names ps named =
    covered_each (again names) names ps
    (λ e there. covered_if (list_any _ names) (covered_one (Twice e.name e.at) ps (named.each e there))
    (covered_none ps))
