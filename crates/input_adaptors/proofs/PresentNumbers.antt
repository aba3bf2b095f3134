-- For the functions of `group_value`: the present numbers of a list of ports; their minimum, maximum, latest and sum.
use Rattle.std.proofs.Common.{◌≡◌, ◌∙◌, ap, sym, refl, ℕ, ◌+◌, ◌<◌, ◌≤◌, ◌*◌, ◌^◌, ◌-◌, ℤ, pos, neg_ℤ, ◌+ℤ◌, ◌≤ℤ◌, List}
use Rattle.std.proofs.Common.{[], ◌∷◌, ◌++◌, length, take, get_or, fold, Option, Some, None, arith}
use Rattle.std.specs.List.{reduce, filter_map, last_or}
use Rattle.std.specs.Int.{int_max, int_min}
use Rattle.std.specs.Ordering.{int_cmp, max_by_ordering, min_by_ordering}
use Rattle.std.proofs.lemmas.Int.{ints}
use Rattle.std.proofs.lemmas.List.{append-nil, take_more, length_push}
use Rattle.std.proofs.lemmas.List.Sums.{fold_push}
use mir.Syntax.{w64}
use mir.Val.{SFits}
use Rattle.pals_base.specs.declared.basic_types.PortValue.{PortValue}
use Rattle.pals_base.specs.declared.basic_types.PortValue.TheVariants.{Absent, Present}
use Rattle.pals_base.specs.Adaptors.{present, of_present, latest_of, greatest_of, least_of}
use Rattle.input_adaptors.specs.proof.PortValuesAsNumbers.{number_of, port_of}

-- ---- as a chain of iterators gives them
pub filter_map-number_of : (ports : List PortValue) → filter_map number_of ports ≡ present ports
filter_map-number_of [] = refl
filter_map-number_of (Absent ∷ ports) = filter_map-number_of ports
filter_map-number_of (Present v ∷ ports) = ap (λ vs. v ∷ vs) (filter_map-number_of ports)

fold_agree : (f g : ℤ → ℤ → ℤ) → ((x y : ℤ) → f x y ≡ g x y) → (v : ℤ) (vs : List ℤ) → fold f v vs ≡ fold g v vs
fold_agree f g same v [] = refl
fold_agree f g same v (w ∷ vs) = ap (λ x. fold f x vs) (same v w) ∙ fold_agree f g same (g v w) vs

pub reduce_agree : (f g : ℤ → ℤ → ℤ) → ((x y : ℤ) → f x y ≡ g x y) → (vs : List ℤ) → reduce f vs ≡ reduce g vs
reduce_agree f g same [] = refl
reduce_agree f g same (v ∷ vs) = ap Some (fold_agree f g same v vs)

pub greater_is : (x y : ℤ) → max_by_ordering (int_cmp x y) x y ≡ int_max x y
greater_is x y = grind (arith, ints)

pub lesser_is : (x y : ℤ) → min_by_ordering (int_cmp x y) x y ≡ int_min x y
lesser_is x y = grind (arith, ints)

pub last_or_fold : (last : Option ℤ) (vs : List ℤ) → last_or last vs ≡ fold (λ _ v. Some v) last vs
last_or_fold last [] = refl
last_or_fold last (v ∷ vs) = last_or_fold (Some v) vs

fold-later : (v : ℤ) (vs : List ℤ) → fold (λ _ w. Some w) (Some v) vs ≡ Some (latest_of v vs)
fold-later v [] = refl
fold-later v (w ∷ vs) = fold-later w vs

pub reduce-later : (vs : List ℤ) → fold (λ (_ : Option ℤ) w. Some w) None vs ≡ reduce (λ (_ later : ℤ). later) vs
reduce-later [] = refl
reduce-later (v ∷ vs) = fold-later v vs

-- ---- as a port
pub port_of-latest : (vs : List ℤ) → port_of (reduce (λ (_ later : ℤ). later) vs) ≡ of_present latest_of vs
port_of-latest [] = refl
port_of-latest (v ∷ vs) = refl

pub port_of-greatest : (vs : List ℤ) → port_of (reduce int_max vs) ≡ of_present greatest_of vs
port_of-greatest [] = refl
port_of-greatest (v ∷ vs) = refl

pub port_of-least : (vs : List ℤ) → port_of (reduce int_min vs) ≡ of_present least_of vs
port_of-least [] = refl
port_of-least (v ∷ vs) = refl

-- what a group gives by `Latest`, `Max` and `Min`
pub ruleset as_ports = (port_of-latest, port_of-greatest, port_of-least)

-- ---- their sum
pub zero-+ℤ : (v : ℤ) → pos 0 +ℤ v ≡ v
zero-+ℤ v = omega (arith, ints)

present-append : (xs ys : List PortValue) → present (xs ++ ys) ≡ present xs ++ present ys
present-append [] ys = refl
present-append (Absent ∷ xs) ys = present-append xs ys
present-append (Present v ∷ xs) ys = ap (λ vs. v ∷ vs) (present-append xs ys)

-- the sum and the count of the present numbers of the first i ports; the sum is between `count` times the minimum and
-- `count` times the maximum
pub record IsSummed (ports : List PortValue) (i : ℕ) (sum : ℤ) (count : ℕ) : Type 0 where
  pub total : sum ≡ fold ◌+ℤ◌ (pos 0) (present (take i ports))
  pub counted : count ≡ length (present (take i ports))
  pub few : count ≤ i
  pub low : neg_ℤ (pos (2 ^ 63 * count)) ≤ℤ sum
  pub high : sum ≤ℤ pos ((2 ^ 63 - 1) * count)

present_more : (ports : List PortValue) (i : ℕ) (port : PortValue) → i < length ports → get_or ports i Absent ≡ port
    → present (take (i + 1) ports) ≡ present (take i ports) ++ present (port ∷ [])
present_more ports i port below read =
    ap present (take_more ports i Absent below)
    ∙ present-append (take i ports) (get_or ports i Absent ∷ [])
    ∙ ap (λ p. present (take i ports) ++ present (p ∷ [])) read

pub IsSummed-absent : (ports : List PortValue) (i : ℕ) (sum : ℤ) (count : ℕ) → i < length ports
    → get_or ports i Absent ≡ Absent → IsSummed ports i sum count → IsSummed ports (i + 1) sum count
IsSummed-absent ports i sum count below read so_far =
    let more : present (take (i + 1) ports) ≡ present (take i ports) = present_more ports i Absent below read
    ∙ append-nil (present (take i ports)) in
    record {
      total = so_far.total ∙ ap (fold ◌+ℤ◌ (pos 0)) (sym more);
      counted = so_far.counted ∙ ap length (sym more);
      few = omega arith;
      low = so_far.low;
      high = so_far.high;
    }

pub IsSummed-present : (ports : List PortValue) (i : ℕ) (sum : ℤ) (count : ℕ) (v : ℤ) → i < length ports
    → get_or ports i Absent ≡ Present v → SFits w64 v → IsSummed ports i sum count
    → IsSummed ports (i + 1) (sum +ℤ v) (count + 1)
IsSummed-present ports i sum count v below read fits so_far =
    let more : present (take (i + 1) ports) ≡ present (take i ports) ++ v ∷ [] =
    present_more ports i (Present v) below read in
    record {
      total =
          ap (λ s. s +ℤ v) so_far.total ∙ sym (fold_push ◌+ℤ◌ (pos 0) (present (take i ports)) v)
          ∙ ap (fold ◌+ℤ◌ (pos 0)) (sym more);
      counted = ap (λ n. n + 1) so_far.counted ∙ sym (length_push (present (take i ports)) v) ∙ ap length (sym more);
      few = omega arith;
      low = omega (arith, ints);
      high = omega (arith, ints);
    }
