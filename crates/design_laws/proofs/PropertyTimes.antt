-- The times of properties without findings: each property that is looked up has its shape, and is at most one hour.
use Rattle.std.proofs.Common.{◌≡◌, inl, inr, ℕ, ◌≤◌, nat_le, nat_lt, Bool, true, false, not, cond, ◌&&◌, List, [], ◌∷◌}
use Rattle.std.proofs.Common.{◌++◌, Option, Some, None, refl, ap, subst, arith, sym}
use Rattle.std.specs.Prelude.{flat_map, filter, find}
use Rattle.std.specs.List.{AllByRecursion}
use Rattle.std.specs.Option.{option_and_then, option_or, is_some}
use Rattle.std.proofs.lemmas.Bool.{false≢true, le-leb, and_from, not-false, or_parts}
use Rattle.std.proofs.lemmas.Bool.Decides.{nat_tests}
use Rattle.std.proofs.lemmas.Option.{same_Some}
use Rattle.list_lemmas.proofs.ListOperations.{append_is_nil_left}
use Rattle.list_lemmas.proofs.Booleans.{and_second_false}
use Rattle.pals_base.specs.declared.limits.TheConstants.{HOUR}
use Rattle.aadl_tree.specs.declared.declarations.Category.{Category}
use Rattle.aadl_tree.specs.Values.{Association, Associations}
use Rattle.aadl_names.specs.declared.recognised_properties.PropertyName.{PropertyName}
use Rattle.aadl_names.specs.declared.recognised_properties.PropertyName.TheVariants.{Period, Dispatch, Skew, Execution}
use Rattle.aadl_names.specs.declared.recognised_properties.PropertyName.TheVariants.{Network}
use Rattle.aadl_names.specs.declared.recognised_properties.PropertyHolder.{PropertyHolder}
use Rattle.aadl_names.specs.declared.recognised_properties.PropertyHolder.TheVariants as holders
use Rattle.aadl_names.specs.DuplicateNames.{wrong_if, twice}
use Rattle.aadl_names.specs.RecognisedProperties.{association_at, association_value, listed, counts, is_named}
use Rattle.aadl_names.specs.RecognisedProperties.{association_named, name_of, recognised, has_shape, misshapen}
use Rattle.aadl_names.specs.RecognisedProperties.{shape_fault, property_entries, list_faults}
use Rattle.aadl_names.specs.PropertyValueShapes.{time_of, range_of}
use Rattle.aadl_names.specs.NameResolution.{is_thread}
use Rattle.aadl_names.proofs.FirstFaultSoFar.{wrong_none}
use Rattle.aadl_uses.specs.proof.OrderedLists.{Among}
use Rattle.aadl_uses.proofs.MarkedPathCounts.{among_left, among_right}
use Rattle.design_laws.proofs.EmptyFindingLists.{not_wrong}
use Rattle.component_checks.specs.BoundsAndRates.{within_hour, range_within}
use Rattle.annex_resolve.specs.declared.violation.TheConstants.{NUMBER_TOO_BIG}
use Rattle.component_checks.specs.PropertyLookup.{first_in}
use Rattle.component_checks.specs.Times.{time_at, range_at, is_above, has_above, is_too_big, shown, big_as}
use Rattle.component_checks.specs.Times.{association_big, counted_big, list_big}
use Rattle.design_laws.proofs.PairwiseDistinctNames.{where_true, all_none, all_false}

-- ---- one element of a list
pub of_among : {X : Type 0} (P : X → Type 0) (x : X) (xs : List X) → AllByRecursion P xs → Among xs x → P x
of_among P x [] all a = absurd a
of_among P x (y ∷ ys) all (inl e) = subst P (sym e) all.0
of_among P x (y ∷ ys) all (inr a) = of_among P x ys all.1 a

-- ---- the properties that are recognised
period_in : (b : Bool) → Among (cond b (Period ∷ Dispatch ∷ []) (Period ∷ [])) Period
period_in true = inl refl
period_in false = inl refl

pub period_at_sub : (c : Category) → Among (recognised (holders.Subcomponent c)) Period
period_at_sub c = period_in (is_thread c)

pub period_at : (c : Category) (of_root : Bool) → Among (recognised (holders.Declaration c of_root)) Period
period_at c true = among_left _ (Skew ∷ Execution ∷ Network ∷ []) Period (period_in (is_thread c))
period_at c false = period_in (is_thread c)

pub skew_at : (c : Category) → Among (recognised (holders.Declaration c true)) Skew
skew_at c = among_right _ (Skew ∷ Execution ∷ Network ∷ []) Skew (inl refl)

pub execution_at : (c : Category) → Among (recognised (holders.Declaration c true)) Execution
execution_at c = among_right _ (Skew ∷ Execution ∷ Network ∷ []) Execution (inr (inl refl))

pub network_at : (c : Category) → Among (recognised (holders.Declaration c true)) Network
network_at c = among_right _ (Skew ∷ Execution ∷ Network ∷ []) Network (inr (inr (inl refl)))

-- ---- one association
-- it has the property's shape, and is at most one hour
pub record IsGood (p : PropertyName) (x : Association ℕ) : Type 0 where
  pub shape : has_shape p (association_value x) ≡ true
  pub small : is_too_big p (association_value x) ≡ false

good_by : (holder : PropertyHolder) (p : PropertyName) (x : Association ℕ) → Among (recognised holder) p
    → shape_fault holder x ≡ []
    → counted_big holder x ≡ [] → counts x ≡ true → is_named (name_of p) x ≡ true → IsGood p x
good_by holder p x known shape big count named =
    let shapes = all_false (λ q. is_named (name_of q) x && not (has_shape q (association_value x))) (recognised holder)
    (wrong_none (misshapen holder x) (association_at x)
    (where_true (counts x) (wrong_if (misshapen holder x) (association_at x)) count shape)) in
    let here =
    of_among (λ q. (is_named (name_of q) x && not (has_shape q (association_value x))) ≡ false) p
    (recognised holder) shapes known in
    let bigs = all_none (big_as x) (recognised holder) (where_true (counts x) (association_big holder x) count big) in
    let there = of_among (λ q. big_as x q ≡ []) p (recognised holder) bigs known in
    record {
      shape = not-false (has_shape p (association_value x)) (and_second_false (is_named (name_of p) x)
          (not (has_shape p (association_value x))) named here);
      small = and_second_false (is_named (name_of p) x) (is_too_big p (association_value x)) named
          (not_wrong (is_named (name_of p) x && is_too_big p (association_value x)) (association_at x) NUMBER_TOO_BIG
          (shown p) there);
    }

-- ---- the first property of a name among the ones that count
both_all : {X : Type 0} (P Q : X → Type 0) (xs : List X) → AllByRecursion P xs → AllByRecursion Q xs
    → AllByRecursion (λ x. P x × Q x) xs
both_all P Q [] a b = tt
both_all P Q (x ∷ xs) a b = ((a.0, b.0), both_all P Q xs a.1 b.1)

module _ {X : Type 0} (P : X → Type 0) (c p : X → Bool) where
  here_by : (b : Bool) (x y : X) (rest : Option X) → p y ≡ b → P y → c y ≡ true
      → (rest ≡ Some x → P x × (c x ≡ true) × (p x ≡ true))
      → cond b (Some y) rest ≡ Some x → P x × (c x ≡ true) × (p x ≡ true)
  here_by true x y rest is at count later e =
      subst (λ z. P z × (c z ≡ true) × (p z ≡ true)) (same_Some y x e) (at, count, is)
  here_by false x y rest is at count later e = later e

  kept_by : (b : Bool) (x y : X) (ys : List X) → c y ≡ b → P y
      → (find p ys ≡ Some x → P x × (c x ≡ true) × (p x ≡ true))
      → find p (cond b (y ∷ ys) ys) ≡ Some x → P x × (c x ≡ true) × (p x ≡ true)
  kept_by true x y ys is at later e = here_by (p y) x y (find p ys) refl at is later e
  kept_by false x y ys is at later e = later e

  found_kept : (xs : List X) (x : X) → AllByRecursion P xs → find p (filter c xs) ≡ Some x
      → P x × (c x ≡ true) × (p x ≡ true)
  found_kept [] x all e = absurd (cc e)
  found_kept (y ∷ xs) x all e = kept_by (c y) x y (filter c xs) refl all.0 (found_kept xs x all.1) e

-- the property that is looked up in the list is valid
pub record LooksGood (p : PropertyName) (xs : Associations ℕ) : Type 0 where
  pub each : (x : Association ℕ) → association_named xs (name_of p) ≡ Some x → IsGood p x

pub looks_good : (holder : PropertyHolder) (p : PropertyName) (xs : Associations ℕ) → Among (recognised holder) p
    → list_faults holder xs ≡ []
    → list_big holder xs ≡ [] → LooksGood p xs
looks_good holder p xs known faults big = record {
  each = λ x is.
      let shapes =
      all_none (shape_fault holder) (listed xs) (append_is_nil_left (flat_map (shape_fault holder) (listed xs))
      (twice (property_entries xs)) faults) in
      let bigs = all_none (counted_big holder) (listed xs) big in
      let f =
      found_kept (λ a. (shape_fault holder a ≡ []) × (counted_big holder a ≡ [])) counts (is_named (name_of p))
      (listed xs) x
      (both_all (λ a. shape_fault holder a ≡ []) (λ a. counted_big holder a ≡ []) (listed xs) shapes bigs) is in
      good_by holder p x known f.0.0 f.0.1 f.1 f.2;
}

-- ---- the first in several lists
or_by : (p : PropertyName) (o rest : Option (Association ℕ)) (x : Association ℕ) → (o ≡ Some x → IsGood p x)
    → (rest ≡ Some x → IsGood p x)
    → option_or o rest ≡ Some x → IsGood p x
or_by p None rest x first later e = later e
or_by p (Some y) rest x first later e = first e

pub first_good : (p : PropertyName) (lists : List (Associations ℕ)) (x : Association ℕ)
    → AllByRecursion (LooksGood p) lists
    → first_in p lists ≡ Some x → IsGood p x
first_good p [] x all e = absurd (cc e)
first_good p (xs ∷ rest) x all e =
    or_by p (association_named xs (name_of p)) (first_in p rest) x (all.0.each x) (first_good p rest x all.1) e

or_some : (o rest : Option (Association ℕ)) → is_some rest ≡ true → is_some (option_or o rest) ≡ true
or_some None rest is = is
or_some (Some x) rest is = refl

or_first : (o rest : Option (Association ℕ)) → is_some o ≡ true → is_some (option_or o rest) ≡ true
or_first None rest is = absurd (false≢true is)
or_first (Some x) rest is = refl

pub first_behind : (p : PropertyName) (a b : List (Associations ℕ)) → is_some (first_in p b) ≡ true
    → is_some (first_in p (a ++ b)) ≡ true
first_behind p [] b is = is
first_behind p (xs ∷ a) b is = or_some (association_named xs (name_of p)) (first_in p (a ++ b)) (first_behind p a b is)

-- ---- times
pub record IsTime (given : Option ℕ) (n : ℕ) : Type 0 where
  pub is : given ≡ Some n
  pub short : n ≤ HOUR

within_by : (n : ℕ) → nat_lt HOUR n ≡ false → n ≤ HOUR
within_by n e = grind (arith, nat_tests)

within_is : (n : ℕ) → n ≤ HOUR → within_hour n ≡ Some n
within_is n short = ap (λ b. cond b (Some n) None) (le-leb n HOUR short)

time_by : (given : Option ℕ) → is_some given ≡ true → is_above given ≡ false
    → (n : ℕ) × (given ≡ Some n) × IsTime (option_and_then within_hour given) n
time_by None some small = absurd (false≢true some)
time_by (Some n) some small = let short = within_by n small in
    (n, refl, record { is = within_is n short; short = short })

pub period_good : (x : Association ℕ) → IsGood Period x → (n : ℕ) × (time_at (Some x) ≡ Some n) × IsTime
    (option_and_then within_hour (time_at (Some x))) n
period_good x good = time_by (time_of (association_value x)) good.shape good.small

pub skew_good : (x : Association ℕ) → IsGood Skew x → (n : ℕ) × (time_at (Some x) ≡ Some n) × IsTime
    (option_and_then within_hour (time_at (Some x))) n
skew_good x good = time_by (time_of (association_value x)) good.shape good.small

-- ---- ranges
span_by : (given : Option (ℕ × ℕ)) → is_some given ≡ true → has_above given ≡ false
    → (r : ℕ × ℕ) × (option_and_then range_within given ≡ Some r)
span_by None some small = absurd (false≢true some)
span_by (Some r) some small =
    let h = or_parts (nat_lt HOUR r.0) (nat_lt HOUR r.1) small in (
      r,
      ap (λ b. cond b (Some r) None) (and_from (nat_le r.0 HOUR) (nat_le r.1 HOUR) (le-leb r.0 HOUR (within_by r.0 h.0))
          (le-leb r.1 HOUR (within_by r.1 h.1))),
    )

pub execution_good : (x : Association ℕ) → IsGood Execution x
    → (r : ℕ × ℕ) × (option_and_then range_within (range_at (Some x)) ≡ Some r)
execution_good x good = span_by (range_of (association_value x)) good.shape good.small

pub network_good : (x : Association ℕ) → IsGood Network x
    → (r : ℕ × ℕ) × (option_and_then range_within (range_at (Some x)) ≡ Some r)
network_good x good = span_by (range_of (association_value x)) good.shape good.small
