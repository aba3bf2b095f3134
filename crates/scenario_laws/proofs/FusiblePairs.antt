-- The pairs that are read from a scenario can be fused.
use Rattle.std.proofs.Common.{◌≡◌, ◌≢◌, ◌∙◌, ℕ, zero, suc, ◌<◌, ◌≤◌, cond, Bool, true, false, nat_eq, List, [], ◌∷◌}
use Rattle.std.proofs.Common.{◌++◌, length, map, codes, Option, Some, Ok, All, refl, sym, ap, ap₂, subst, arith}
use Rattle.std.specs.Prelude.{not, ◌&&◌, ◌||◌, count_by, sum_by, option_and_then, slice_index_or}
use Rattle.std.specs.List.{list_all}
use Rattle.std.proofs.lemmas.Bool.{eq-eqb, eqb-true, and_parts, or_parts, true≢false}
use Rattle.std.proofs.lemmas.List.{map-append, append-nil, append_assoc, get_or-map, length-map}
use Rattle.std.proofs.lemmas.List.Sums.{sum_by-cons}
use Rattle.std.proofs.lemmas.List.Elements.{All-nil, All-push, All-weaker}
use Rattle.serde_json.specs.Data.{Data}
use Rattle.serde_json.specs.Find.{as_str}
use Rattle.pals_model.specs.declared.design.DesignParts.{DesignParts}
use Rattle.pals_model.specs.PortKindsAndRates.{rate_of}
use Rattle.pals_model.specs.ComponentAndLinkNames.{node_named}
use Rattle.pals_runs.specs.declared.plant_pairs.Pair.{Pair}
use Rattle.scenario_values.specs.declared.fault.ScenarioFault.TheVariants.{WrongKind, OutOfRange, Unknown}
use Rattle.scenario_values.specs.ResultCombinators.{◌>>=◌, only_if, through}
use Rattle.scenario_values.specs.FaultPlaces.{inside}
use Rattle.scenario_values.specs.FieldValues.{entries, text}
use Rattle.scenario_values.proofs.SuccessfulResults.{ok_same, ok_bind, ok_given, ok_only_if}
use Rattle.scenario_values.specs.NameLookup.{node_at}
use Rattle.analysis_fields.specs.declared.plants.NamedPair.{NamedPair}
use Rattle.analysis_fields.specs.Plants.{pair, named_in, shares, is_between, are_equals, is_alone, is_fusible, pair_in}
use Rattle.analysis_fields.specs.Plants.{with_pair, plants_in}
use Rattle.analysis_fields.proofs.ProcessorValidity.{node_within}
use Rattle.plant_fuse.specs.FusedComposition.{IsPair, AreApart, ArePairs}
use Rattle.plant_fuse.proofs.FusiblePairs.{pair_by}

-- ---- a list in which only one element passes a test
abbrev bit : Bool → ℕ
bit b = cond b 1 0

abbrev passes : {A : Type 0} → (A → Bool) → A → ℕ
passes test x = bit (test x)

one_for : (b : Bool) → b ≡ true → bit b ≡ 1
one_for b is = ap bit is

some_pass : {A : Type 0} (test : A → Bool) (xs : List A) (j : ℕ) (d : A) → j < length xs
    → test (slice_index_or xs j d) ≡ true → 1 ≤ sum_by (passes test) xs
some_pass test [] j d below is = omega (arith, below)
some_pass test (x ∷ xs) zero d below is =
    let all = sum_by-cons (passes test) x xs in
    let one = one_for (test x) is in
    omega (arith, all, one)
some_pass test (x ∷ xs) (suc j) d below is =
    let all = sum_by-cons (passes test) x xs in
    let later = some_pass test xs j d (omega (arith, below)) is in
    omega (arith, all, later)

two_pass : {A : Type 0} (test : A → Bool) (xs : List A) (i j : ℕ) (d : A) → i < j → j < length xs
    → test (slice_index_or xs i d) ≡ true → test (slice_index_or xs j d) ≡ true
    → 2 ≤ sum_by (passes test) xs
two_pass test [] i j d less below first second = omega (arith, below)
two_pass test (x ∷ xs) i zero d less below first second = omega (arith, less)
two_pass test (x ∷ xs) zero (suc j) d less below first second =
    let all = sum_by-cons (passes test) x xs in
    let one = one_for (test x) first in
    let later = some_pass test xs j d (omega (arith, below)) second in
    omega (arith, all, one, later)
two_pass test (x ∷ xs) (suc i) (suc j) d less below first second =
    let all = sum_by-cons (passes test) x xs in
    let later = two_pass test xs i j d (omega (arith, less)) (omega (arith, below)) first second in
    omega (arith, all, later)

-- ---- what the entry of a pair names
abbrev naming : Option ℕ → Option ℕ → NamedPair
naming plant controller = record { plant = plant; controller = controller }

abbrev named_of : Pair → NamedPair
named_of p = naming (Some p.plant.0) (Some p.controller.0)

names_itself : (p : Pair) → shares p (named_of p) ≡ true
names_itself p = first (nat_eq p.plant.0 p.plant.0) _ _ (eq-eqb p.plant.0 p.plant.0 refl)
  where
    first : (a b c : Bool) → a ≡ true → ((a || b) || c) ≡ true
    first true b c is = refl
    first false b c is = absurd (true≢false (sym is))

-- a pair whose components no other entry names is apart from each later one
differ : (x y : ℕ) → nat_eq x y ≡ false → y ≢ x
differ x y not_same same = true≢false (sym (eq-eqb x y (sym same)) ∙ not_same)

apart_from : (a b : Pair) → shares a (named_of b) ≡ false → AreApart a b
apart_from a b none =
    let halves =
    or_parts (nat_eq b.plant.0 a.plant.0 || nat_eq b.controller.0 a.plant.0)
    (nat_eq b.plant.0 a.controller.0 || nat_eq b.controller.0 a.controller.0) none in
    let plant = or_parts (nat_eq b.plant.0 a.plant.0) (nat_eq b.controller.0 a.plant.0) halves.0 in
    let controller = or_parts (nat_eq b.plant.0 a.controller.0) (nat_eq b.controller.0 a.controller.0) halves.1 in
    record {
      plants = differ b.plant.0 a.plant.0 plant.0;
      controllers = differ b.controller.0 a.controller.0 controller.1;
      first = differ b.controller.0 a.plant.0 plant.1;
      second = differ b.plant.0 a.controller.0 controller.0;
    }

alone_apart : (pairs : List Pair) (i j : ℕ) (d : Pair) → i < j → j < length pairs
    → count_by (shares (slice_index_or pairs i d)) (map named_of pairs) ≡ 1
    → AreApart (slice_index_or pairs i d) (slice_index_or pairs j d)
alone_apart pairs i j d less below alone =
    apart_from a b ((elim (shares a (named_of b)) as (λ t. shares a (named_of b) ≡ t → shares a (named_of b) ≡ false) [
      | true ↦ λ is. absurd (twice is)
      | false ↦ λ is. is
    ]) refl)
  where
    a : Pair
    a = slice_index_or pairs i d

    b : Pair
    b = slice_index_or pairs j d

    twice : shares a (named_of b) ≡ true → ⊥
    twice is =
        let many = length-map pairs named_of in
        let within : j < length (map named_of pairs) = omega (arith, many, below) in
        let at_i = get_or-map named_of pairs i d (named_of d) (omega (arith, less, below)) in
        let at_j = get_or-map named_of pairs j d (named_of d) below in
        let two =
        two_pass (shares a) (map named_of pairs) i j (named_of d) less within (ap (shares a) at_i ∙ names_itself a)
        (ap (shares a) at_j ∙ is) in
        omega (arith, two, alone)

-- ---- one entry
-- the components that it names, if all entries name these
record IsRead (design : DesignParts) (all : List NamedPair) (p : Pair) : Type 0 where
  fits : IsPair design p
  alone : count_by (shares p) all ≡ 1

named_is : (place : List ℕ) (design : DesignParts) (path : List ℕ) (node : ℕ) → node_at place design path ≡ Ok node
    → node_named design path ≡ Some node
unfolding node_at
named_is place design path node e = ok_given (Unknown place) (node_named design path) node e

text_is : (place : List ℕ) (d : Data) (path : List ℕ) → text place d ≡ Ok path → as_str d ≡ Some path
unfolding text
text_is place d path e = ok_given (WrongKind place) (as_str d) path e

sound_is : (design : DesignParts) (all : List NamedPair) (p : Pair) → p.plant.0 < length design.components
    → p.controller.0 < length design.components
    → is_fusible design all p ≡ true → IsRead design all p
unfolding is_fusible
sound_is design all p plant controller sound =
    let first = and_parts (are_equals design p && is_alone all p) (list_all (is_between p) design.links) sound in
    let second = and_parts (are_equals design p) (is_alone all p) first.0 in
    let equals =
    and_parts (nat_eq (rate_of design p.plant.0) (rate_of design p.controller.0))
    (not (nat_eq p.plant.0 p.controller.0)) second.0 in
    record {
      fits =
          pair_by design p (record {
            plant = plant;
            controller = controller;
            two = two (nat_eq p.plant.0 p.controller.0) equals.1 refl;
          })
          (eqb-true (rate_of design p.plant.0) (rate_of design p.controller.0) equals.0) first.1;
      alone = eqb-true (count_by (shares p) all) 1 second.1;
    }
  where
    two : (b : Bool) → not b ≡ true → nat_eq p.plant.0 p.controller.0 ≡ b → p.plant.0 ≢ p.controller.0
    two true no_one is = absurd (true≢false (sym no_one))
    two false not_same is = λ same. true≢false (sym (eq-eqb p.plant.0 p.controller.0 same) ∙ is)

-- a pair that was read, and that its entry names it
record IsOf (design : DesignParts) (all : List NamedPair) (entry : List ℕ × Data) (p : Pair) : Type 0 where
  named : named_in design entry ≡ named_of p
  read : IsRead design all p

entry_read : (design : DesignParts) (all : List NamedPair) (entry : List ℕ × Data) (p : Pair)
    → pair_in design all entry ≡ Ok p → IsOf design all entry p
unfolding pair_in
entry_read design all entry p e =
    let place = inside (codes "plants") entry.0 in
    let plant =
    ok_bind (node_at place design entry.0)
    (λ plant. text place entry.1 >>= λ path. node_at place design path >>= λ controller.
    only_if (is_fusible design all (pair plant controller)) (OutOfRange place) (Ok (pair plant controller))) p e in
    let path = ok_bind (text place entry.1) (λ path. node_at place design path >>= λ controller.
    only_if (is_fusible design all (pair plant.0 controller)) (OutOfRange place) (Ok (pair plant.0 controller)))
    p plant.2 in
    let controller = ok_bind (node_at place design path.0) (λ controller.
    only_if (is_fusible design all (pair plant.0 controller)) (OutOfRange place)
    (Ok (pair plant.0 controller))) p path.2 in
    let made = pair plant.0 controller.0 in
    let passed = ok_only_if (is_fusible design all made) (OutOfRange place) (Ok made) p controller.2 in
    let controller_is =
    ap (option_and_then (node_named design)) (text_is place entry.1 path.0 path.1)
    ∙ named_is place design path.0 controller.0 controller.1 in
    subst (IsOf design all entry) (ok_same made p passed.1) (record {
      named = ap₂ naming (named_is place design entry.0 plant.0 plant.1) controller_is;
      read =
          sound_is design all made (node_within design place entry.0 plant.0 plant.1)
          (node_within design place path.0 controller.0 controller.1) passed.0;
    })

-- ---- all entries
module _ (design : DesignParts) (all : List NamedPair) where
  record AreOf (seen : List NamedPair) (pairs : List Pair) : Type 0 where
    named : map named_of pairs ≡ seen
    read : All (IsRead design all) pairs

  one_more : (seen : List NamedPair) (pairs : List Pair) (entry : List ℕ × Data) (more : List Pair) → AreOf seen pairs
      → with_pair design all pairs entry ≡ Ok more
      → AreOf (seen ++ named_in design entry ∷ []) more
  one_more seen pairs entry more are e =
      let next = ok_bind (pair_in design all entry) (λ p. Ok (pairs ++ p ∷ [])) more e in
      let is = entry_read design all entry next.0 next.1 in
      subst (AreOf (seen ++ named_in design entry ∷ [])) (ok_same (pairs ++ next.0 ∷ []) more next.2) (record {
        named =
            map-append named_of pairs (next.0 ∷ [])
            ∙ ap₂ (λ (ns : List NamedPair) n. ns ++ n ∷ []) are.named (sym is.named);
        read = All-push (IsRead design all) pairs next.0 are.read is.read;
      })

  all_read : (seen : List NamedPair) (pairs : List Pair) (es : List (List ℕ × Data)) (more : List Pair)
      → AreOf seen pairs → through (with_pair design all) pairs es ≡ Ok more
      → AreOf (seen ++ map (named_in design) es) more
  all_read seen pairs [] more are e =
      subst (AreOf (seen ++ [])) (ok_same pairs more e) (subst (λ ns. AreOf ns pairs) (sym (append-nil seen)) are)
  all_read seen pairs (entry ∷ es) more are e =
      let first = ok_bind (with_pair design all pairs entry) (λ next. through (with_pair design all) next es) more e in
      subst (λ ns. AreOf ns more) (append_assoc seen (named_in design entry ∷ []) (map (named_in design) es))
      (all_read (seen ++ named_in design entry ∷ []) first.0 es more
      (one_more seen pairs entry first.0 are first.1) first.2)

pub pairs_fit : (design : DesignParts) (d : Data) (pairs : List Pair) → plants_in design d ≡ Ok pairs
    → ArePairs design pairs
unfolding plants_in
pairs_fit design d pairs e =
    let es =
    ok_bind (entries (codes "plants") d)
    (λ es. through (with_pair design (map (named_in design) es)) [] es) pairs e in
    let all = map (named_in design) es.0 in
    let none : AreOf design all [] [] = record { named = refl; read = All-nil (IsRead design all) } in
    let are = all_read design all [] [] es.0 pairs none es.2 in
    record {
      each = All-weaker (IsRead design all) (IsPair design) (λ p is. is.fits) pairs are.read;
      apart = λ i j d less below.
          (let alone = (are.read i d (omega (arith, less, below))).alone in
          alone_apart pairs i j d less below
          (subst (λ (ns : List NamedPair). count_by (shares (slice_index_or pairs i d)) ns ≡ 1)
          (sym are.named) alone));
    }
