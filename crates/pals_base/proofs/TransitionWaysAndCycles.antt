-- The law that paths are short: a path through states that are not complete is shorter than the number of states, or
-- returns to its first state. Marks determine which.
use Rattle.std.proofs.Common.{inl, inr, ◌≡◌, ℕ, ◌<◌, ◌≤◌, zero, suc, Bool, true, false, ◌&&◌, ◌||◌, List, [], ◌∷◌}
use Rattle.std.proofs.Common.{length, refl, ap, sym, ◌∙◌, subst, arith, ◌↔◌}
use Rattle.std.specs.Prelude.{map}
use Rattle.std.specs.Bool.{IsTrue}
use Rattle.std.specs.List.{list_all, list_any, Contains, AllByRecursion, IsDistinct}
use Rattle.std.proofs.Math.Dec.{eqb}
use Rattle.std.proofs.Math.Bool.{or-true}
use Rattle.std.proofs.lemmas.Bool.{or_parts, or_cases, both_ways, true≢false, eqb-true, false_from_ne_true, cases_Bool}
use Rattle.std.proofs.lemmas.Map.Keys.{IsDistinct-cons}
use Rattle.std.proofs.lemmas.Map.Steps.{length-le_from_distinct_below}
use Rattle.std.proofs.lemmas.List.Elements.{All-contains}
use Rattle.std.proofs.lemmas.List.Sums.{AllPass-from_list_all}
use Rattle.pals_base.specs.declared.behaviour.BehaviourParts.{BehaviourParts}
use Rattle.pals_base.specs.ExpressionAndActionTrees.{Edge}
use Rattle.pals_base.specs.SingleStep.{is_complete, leaving}
use Rattle.pals_base.specs.UpwardNumbers.{upwards}
use Rattle.pals_base.specs.BehaviourRules.{IsWay, IsAcyclic}
use Rattle.pals_base.specs.proof.CycleSearchMarks.{settles}
use Rattle.pals_base.proofs.CycleSearchMarks.{all_marked, rule_at, settles_past}

-- ---- lists

abbrev pub Fails : {A : Type 0} → (A → Bool) → List A → Type 0
Fails {A} p xs = (x : A) × Contains xs x × (p x ≡ false)

here_or_later : {A : Type 0} (p : A → Bool) (here : Bool) (x : A) (xs : List A) → p x ≡ here
    → (here && list_all p xs) ≡ false → (list_all p xs ≡ false → Fails p xs) → Fails p (x ∷ xs)
here_or_later p false x xs is not_all later = (x, (zero, omega arith, refl), is)
here_or_later p true x xs is not_all later =
    let found = later not_all in
    (found.0, (suc found.1.0, omega arith, found.1.2), found.2)

-- if not all elements pass, one fails
failed_element : {A : Type 0} (p : A → Bool) (xs : List A) → list_all p xs ≡ false → Fails p xs
failed_element p [] not_all = absurd (true≢false not_all)
failed_element p (x ∷ xs) not_all = here_or_later p (p x) x xs refl not_all (failed_element p xs)

all_passed : {A : Type 0} (p : A → Bool) (xs : List A) → ((x : A) → p x ≡ true) → list_all p xs ≡ true
all_passed p [] each = refl
all_passed p (x ∷ xs) each = ap (λ b. b && list_all p xs) (each x) ∙ all_passed p xs each

apart : (x : ℕ) (xs : List ℕ) → (list_any (eqb x) xs ≡ true → ⊥) → AllByRecursion (λ y. eqb x y ≡ false) xs
apart x [] none = tt
apart x (y ∷ xs) none = (
  false_from_ne_true (eqb x y) (λ here. none (ap (λ b. b || list_any (eqb x) xs) here)),
  apart x xs (λ later. none (ap (λ b. eqb x y || b) later ∙ or-true (eqb x y))),
)

-- ---- a path is shorter than the number of states
pub incomplete_within : (b : BehaviourParts) (s : ℕ) → is_complete b s ≡ false → s < length b.states
incomplete_within b s incomplete =
    let past : length b.states ≤ s → ⊥ =
    λ beyond. both_ways (is_complete b s) incomplete (settles_past zero b s beyond) in
    omega (arith, past)

-- the states on a path of n transitions: n + 1 states, pairwise distinct, each declared and reachable from the first
record Met (b : BehaviourParts) (n s : ℕ) : Type 0 where
  pub states : List ℕ
  pub count : length states ≡ suc n
  pub distinct : IsDistinct eqb states
  pub each : (q : ℕ) → list_any (eqb q) states ≡ true → (k : ℕ) × IsWay b k s q × (q < length b.states)

met : (b : BehaviourParts) (n s t : ℕ) → IsAcyclic b → t < length b.states → IsWay b n s t → Met b n s
unfolding IsDistinct IsAcyclic
met b zero s t acyclic within way = record {
  states = s ∷ [];
  count = omega arith;
  distinct = IsDistinct-cons eqb s [] tt tt;
  each = λ q found. elim (or_cases (eqb q s) false found) as (λ r. (k : ℕ) × IsWay b k s q × (q < length b.states)) [
    | inl here ↦ (
      zero,
      sym (eqb-true q s here),
      subst (λ x. x < length b.states) (sym (eqb-true q s here ∙ way)) within,
    )
    | inr later ↦ absurd (both_ways false refl later)
  ];
}
met b (suc n) s t acyclic within way =
    let e = way.1.0 in
    let rest = met b n e.target t acyclic within way.1.2 in
    let new : list_any (eqb s) rest.states ≡ true → ⊥ =
    λ again. let back = rest.each s again in acyclic s back.0 (way.0, (e, way.1.1, back.1)) in
    record {
      states = s ∷ rest.states;
      count = ap suc rest.count;
      distinct = IsDistinct-cons eqb s rest.states (apart s rest.states new) rest.distinct;
      each =
          λ q found. elim (or_cases (eqb q s) (list_any (eqb q) rest.states) found) as
          (λ r. (k : ℕ) × IsWay b k s q × (q < length b.states)) [
            | inl here ↦ (
              zero,
              sym (eqb-true q s here),
              subst (λ x. x < length b.states) (sym (eqb-true q s here)) (incomplete_within b s way.0),
            )
            | inr later ↦ let on = rest.each q later in (suc on.0, (way.0, (e, way.1.1, on.1)), on.2)
          ];
    }

pub way_is_short : (b : BehaviourParts) (n s t : ℕ) → IsAcyclic b → t < length b.states → IsWay b n s t
    → n < length b.states
way_is_short b n s t acyclic within way =
    let all = met b n s t acyclic within way in
    let few =
    length-le_from_distinct_below all.states (length b.states) all.distinct (λ q found. (all.each q found).2) in
    omega arith

-- ---- without a cycle, each state settles
-- a state that does not settle has a path of maximal length to a state that is not complete
abbrev pub IsLong : BehaviourParts → ℕ → ℕ → Type 0
IsLong b n s = (t : ℕ) × IsWay b n s t × (is_complete b t ≡ false)

long_way : (n : ℕ) (b : BehaviourParts) (s : ℕ) → settles n b s ≡ false → IsLong b n s
long_way zero b s unsettled = (s, refl, unsettled)
long_way (suc n) b s unsettled =
    let both = or_parts (is_complete b s) (list_all (λ e. settles n b e.target) (leaving b s)) unsettled in
    let found = failed_element (λ e. settles n b e.target) (leaving b s) both.1 in
    let rest = long_way n b found.0.target found.2 in
    (rest.0, (both.0, (found.0, found.1, rest.1)), rest.2)

too_long : (b : BehaviourParts) (s : ℕ) → IsAcyclic b → IsLong b (length b.states) s → ⊥
too_long b s acyclic long =
    let short = way_is_short b (length b.states) s long.0 acyclic (incomplete_within b long.0 long.2) long.1 in
    omega arith

pub settled_unless_cycle : (b : BehaviourParts) (s : ℕ) → IsAcyclic b → settles (length b.states) b s ≡ true
settled_unless_cycle b s acyclic =
    elim (cases_Bool (settles (length b.states) b s)) as (λ r. settles (length b.states) b s ≡ true) [
      | inl settled' ↦ settled'
      | inr unsettled ↦ absurd (too_long b s acyclic (long_way (length b.states) b s unsettled))
    ]

-- ---- if each state settles, there is no cycle
goes_further : (n : ℕ) (b : BehaviourParts) (s : ℕ) (e : Edge) → is_complete b s ≡ false → settles (suc n) b s ≡ true
    → Contains (leaving b s) e → settles n b e.target ≡ true
goes_further n b s e under_way settle is =
    All-contains (λ e. settles n b e.target ≡ true) (leaving b s) e
    (AllPass-from_list_all (λ e. settles n b e.target) (leaving b s)
    (ap (λ c. c || list_all (λ e. settles n b e.target) (leaving b s)) (sym under_way) ∙ settle)) is

never_back : (m : ℕ) (b : BehaviourParts) (s at n k : ℕ) → IsWay b (suc n) s s → IsWay b k at s
    → settles m b at ≡ true → ⊥
never_back zero b s at n zero cycle way settle =
    both_ways (is_complete b s) cycle.0 (ap (is_complete b) (sym way) ∙ settle)
never_back zero b s at n (suc k) cycle way settle = both_ways (is_complete b at) way.0 settle
never_back (suc m) b s at n zero cycle way settle =
    never_back m b s cycle.1.0.target n n cycle cycle.1.2
    (goes_further m b s cycle.1.0 cycle.0 (ap (settles (suc m) b) (sym way) ∙ settle) cycle.1.1)
never_back (suc m) b s at n (suc k) cycle way settle =
    never_back m b s way.1.0.target n k cycle way.1.2 (goes_further m b at way.1.0 way.0 settle way.1.1)

no_cycle : (b : BehaviourParts) → list_all (settles (length b.states) b) (upwards 0 (length b.states)) ≡ true
    → IsAcyclic b
unfolding IsAcyclic
no_cycle b settle s n cycle =
    never_back (length b.states) b s s n zero cycle refl
    (rule_at (settles (length b.states) b) (length b.states) s settle (incomplete_within b s cycle.0))

-- the marks of all states determine whether there is a cycle
pub marks_tell : (b : BehaviourParts) (marks : List Bool)
    → marks ≡ map (settles (length b.states) b) (upwards 0 (length b.states))
    → IsTrue (list_all (λ mark. mark) marks) ↔ IsAcyclic b
marks_tell b marks is =
    let settle = settles (length b.states) b in
    let states = upwards 0 (length b.states) in
    let same : list_all (λ mark. mark) marks
    ≡ list_all settle states = ap (list_all (λ mark. mark)) is ∙ all_marked settle states in (
      λ all. no_cycle b (sym same ∙ all),
      λ acyclic. same ∙ all_passed settle states (λ s. settled_unless_cycle b s acyclic),
    )
