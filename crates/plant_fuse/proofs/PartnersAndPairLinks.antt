-- The partner of each component of a pair, that pairs share no component, and which links are inside a pair.
use Rattle.std.proofs.Common.{◌≡◌, ◌≢◌, ◌∙◌, ◌⊎◌, inl, inr, ℕ, zero, suc, ◌<◌, Bool, true, false, nat_eq, List, [], ◌∷◌}
use Rattle.std.proofs.Common.{length, Option, Some, None, slice_get, slice_index_or, refl, sym, ap, subst, subst₂}
use Rattle.std.specs.Prelude.{if◌then◌else◌, ◌&&◌}
use Rattle.std.proofs.lemmas.Bool.{eqb-true, eq-eqb, true≢false, cases_order, cases_Bool, eqb-false}
use Rattle.std.proofs.lemmas.List.Folds.{Any-from_list_any, list_any_at}
use Rattle.std.proofs.lemmas.Option.{slice_get-get_or, slice_get_within, get_or_from_slice_get, same_Some}
use Rattle.pals_base.specs.declared.basic_types.NodeNo.{NodeNo}
use Rattle.pals_model.specs.declared.design.Link.{Link}
use Rattle.pals_model.specs.declared.design.DesignParts.{DesignParts}
use Rattle.pals_runs.specs.declared.plant_pairs.Pair.{Pair}
use Rattle.plant_fuse.specs.FusedComposition.{goes, is_to_plant, is_to_controller, IsPair, AreApart, ArePairs}
use Rattle.plant_fuse.specs.proof.PartnersAndPairLinks.{partner_of, is_inside}
use Rattle.plant_fuse.proofs.PairLinkEnds.{goes_parts}

-- ---- a component in no pair
none_by : (pair : Pair) (rest : Option NodeNo) (a b : Bool)
    → (if a then Some pair.controller else if b then Some pair.plant else rest) ≡ None
    → (a ≡ false) × ((b ≡ false) × (rest ≡ None))
none_by pair rest true b is = absurd (cc)
none_by pair rest false true is = absurd (cc)
none_by pair rest false false is = (refl, (refl, is))

pub none_apart : (pairs : List Pair) (node k : ℕ) (pair : Pair) → partner_of pairs node ≡ None
    → slice_get pairs k ≡ Some pair → (pair.plant.0 ≢ node) × (pair.controller.0 ≢ node)
none_apart [] node k pair none is = absurd (cc)
none_apart (first ∷ pairs) node zero pair none is =
    let parts =
    none_by first (partner_of pairs node) (nat_eq first.plant.0 node) (nat_eq first.controller.0 node) none in
    let same : first ≡ pair = same_Some first pair is in (
      eqb-false pair.plant.0 node (sym (ap (λ (p : Pair). nat_eq p.plant.0 node) same) ∙ parts.0),
      eqb-false pair.controller.0 node (sym (ap (λ (p : Pair). nat_eq p.controller.0 node) same) ∙ parts.1.0),
    )
none_apart (first ∷ pairs) node (suc k) pair none is =
    let parts =
    none_by first (partner_of pairs node) (nat_eq first.plant.0 node) (nat_eq first.controller.0 node) none in
    none_apart pairs node k pair parts.1.1 is

-- ---- a component in a pair
pub record StandsIn (pairs : List Pair) (node : ℕ) (partner : NodeNo) : Type 0 where
  pub k : ℕ
  pub pair : Pair
  pub is_at : slice_get pairs k ≡ Some pair
  pub side : ((pair.plant.0 ≡ node) × (pair.controller ≡ partner))
      ⊎ ((pair.controller.0 ≡ node) × (pair.plant ≡ partner))

later : (first : Pair) (pairs : List Pair) (node : ℕ) (partner : NodeNo) → StandsIn pairs node partner
    → StandsIn (first ∷ pairs) node partner
later first pairs node partner stands =
    record { k = suc stands.k; pair = stands.pair; is_at = stands.is_at; side = stands.side }

some_by : (first : Pair) (pairs : List Pair) (node : ℕ) (partner : NodeNo) (a b : Bool) → nat_eq first.plant.0 node ≡ a
    → nat_eq first.controller.0 node ≡ b
    → (if a then Some first.controller else if b then Some first.plant else partner_of pairs node) ≡ Some partner
    → (partner_of pairs node ≡ Some partner → StandsIn pairs node partner) → StandsIn (first ∷ pairs) node partner
some_by first pairs node partner true b plant controller is rest =
    record {
      k = 0;
      pair = first;
      is_at = refl;
      side = inl (eqb-true first.plant.0 node plant, same_Some first.controller partner is);
    }
some_by first pairs node partner false true plant controller is rest =
    record {
      k = 0;
      pair = first;
      is_at = refl;
      side = inr (eqb-true first.controller.0 node controller, same_Some first.plant partner is);
    }
some_by first pairs node partner false false plant controller is rest = later first pairs node partner (rest is)

pub some_stands : (pairs : List Pair) (node : ℕ) (partner : NodeNo) → partner_of pairs node ≡ Some partner
    → StandsIn pairs node partner
some_stands [] node partner is = absurd (cc)
some_stands (first ∷ pairs) node partner is =
    some_by first pairs node partner (nat_eq first.plant.0 node) (nat_eq first.controller.0 node) refl refl is
    (some_stands pairs node partner)

-- ---- no two pairs share a component
module _ (design : DesignParts) (pairs : List Pair) (are : ArePairs design pairs) where
  pub pair_at : (k : ℕ) (pair : Pair) → slice_get pairs k ≡ Some pair → IsPair design pair
  pair_at k pair is =
      subst (IsPair design) (get_or_from_slice_get pairs k pair pair is)
      (are.each k pair (slice_get_within pairs k pair is))

  before_apart : (j k : ℕ) (a b : Pair) → j < k → slice_get pairs j ≡ Some a → slice_get pairs k ≡ Some b → AreApart a b
  before_apart j k a b less is_a is_b =
      subst₂ AreApart (get_or_from_slice_get pairs j a a is_a) (get_or_from_slice_get pairs k b a is_b)
      (are.apart j k a less (slice_get_within pairs k b is_b))

  turned : (a b : Pair) → AreApart a b → AreApart b a
  turned a b apart = record {
    plants = λ same. apart.plants (sym same);
    controllers = λ same. apart.controllers (sym same);
    first = λ same. apart.second (sym same);
    second = λ same. apart.first (sym same);
  }

  pub others_apart : (j k : ℕ) (a b : Pair) → j ≢ k → slice_get pairs j ≡ Some a → slice_get pairs k ≡ Some b
      → AreApart a b
  others_apart j k a b other is_a is_b =
      elim (cases_order j k) [
        | inl same ↦ absurd (other same)
        | inr either ↦ elim either [
          | inl less ↦ before_apart j k a b less is_a is_b
          | inr more ↦ turned b a (before_apart k j b a more is_b is_a)
        ]
      ]

  -- either one pair or two that are apart
  one_or_apart : (j k : ℕ) (a b : Pair) → slice_get pairs j ≡ Some a → slice_get pairs k ≡ Some b
      → (a ≡ b) ⊎ AreApart a b
  one_or_apart j k a b is_a is_b =
      elim (cases_order j k) [
        | inl same ↦ inl (same_Some a b (sym is_a ∙ ap (slice_get pairs) same ∙ is_b))
        | inr either ↦ elim either [
          | inl less ↦ inr (before_apart j k a b less is_a is_b)
          | inr more ↦ inr (turned b a (before_apart k j b a more is_b is_a))
        ]
      ]

  -- a plant controls nothing
  no_controller : (j k : ℕ) (a b : Pair) → slice_get pairs j ≡ Some a → slice_get pairs k ≡ Some b
      → a.controller.0 ≢ b.plant.0
  no_controller j k a b is_a is_b same =
      elim (one_or_apart j k a b is_a is_b) [
        | inl one ↦ (pair_at k b is_b).two (sym same ∙ ap (λ (p : Pair). p.controller.0) one)
        | inr apart ↦ apart.second same
      ]

  -- ---- partners
  pub plant_partner : (k : ℕ) (pair : Pair) → slice_get pairs k ≡ Some pair
      → partner_of pairs pair.plant.0 ≡ Some pair.controller
  plant_partner k pair is = by (partner_of pairs pair.plant.0) refl
    where
      by : (o : Option NodeNo) → partner_of pairs pair.plant.0 ≡ o
          → partner_of pairs pair.plant.0 ≡ Some pair.controller
      by None none = absurd ((none_apart pairs pair.plant.0 k pair none is).0 refl)
      by (Some partner) some =
          let stands = some_stands pairs pair.plant.0 partner some in
          elim stands.side [
            | inl plant ↦ (
                elim (one_or_apart stands.k k stands.pair pair stands.is_at is) [
                  | inl one ↦ some ∙ ap Some (sym plant.1 ∙ ap (λ (p : Pair). p.controller) one)
                  | inr apart ↦ absurd (apart.plants plant.0)
                ])
            | inr controller ↦ absurd (no_controller stands.k k stands.pair pair stands.is_at is controller.0)
          ]

  pub controller_partner : (k : ℕ) (pair : Pair) → slice_get pairs k ≡ Some pair
      → partner_of pairs pair.controller.0 ≡ Some pair.plant
  controller_partner k pair is = by (partner_of pairs pair.controller.0) refl
    where
      by : (o : Option NodeNo) → partner_of pairs pair.controller.0 ≡ o
          → partner_of pairs pair.controller.0 ≡ Some pair.plant
      by None none = absurd ((none_apart pairs pair.controller.0 k pair none is).1 refl)
      by (Some partner) some =
          let stands = some_stands pairs pair.controller.0 partner some in
          elim stands.side [
            | inl plant ↦ absurd (no_controller k stands.k pair stands.pair is stands.is_at (sym plant.0))
            | inr controller ↦ (
                elim (one_or_apart stands.k k stands.pair pair stands.is_at is) [
                  | inl one ↦ some ∙ ap Some (sym controller.1 ∙ ap (λ (p : Pair). p.plant) one)
                  | inr apart ↦ absurd (apart.controllers controller.0)
                ])
          ]

  -- ---- links inside pairs
  and_both : (a b : Bool) → a ≡ true → b ≡ true → (a && b) ≡ true
  and_both true true first second = refl
  and_both true false first second = second
  and_both false b first second = first

  goes_by : (a b : ℕ) (link : Link) → link.source.0 ≡ a → link.target.0 ≡ b → goes a b link ≡ true
  goes_by a b link source target =
      and_both (nat_eq link.source.0 a) (nat_eq link.target.0 b) (eq-eqb link.source.0 a source)
      (eq-eqb link.target.0 b target)

  pub record GoesBetween (link : Link) (from to : Pair → ℕ) : Type 0 where
    pub k : ℕ
    pub pair : Pair
    pub is_at : slice_get pairs k ≡ Some pair
    pub source : link.source.0 ≡ from pair
    pub target : link.target.0 ≡ to pair

  found : (link : Link) (from to : Pair → ℕ)
      → ((p : Pair) → goes (from p) (to p) link ≡ true → (link.source.0 ≡ from p) × (link.target.0 ≡ to p))
      → (k : ℕ) (pair : Pair) → k < length pairs → slice_index_or pairs k pair ≡ pair
      → goes (from pair) (to pair) link ≡ true → GoesBetween link from to
  found link from to ends k pair within is goes_there =
      let both = ends pair goes_there in
      record {
        k = k;
        pair = pair;
        is_at = slice_get-get_or pairs k pair within ∙ ap Some is;
        source = both.0;
        target = both.1;
      }

  pub back_goes : (link : Link) → is_to_plant pairs link ≡ true
      → GoesBetween link (λ (p : Pair). p.controller.0) (λ (p : Pair). p.plant.0)
  back_goes link is =
      let any = Any-from_list_any (λ (pair : Pair). goes pair.controller.0 pair.plant.0 link) pairs is in
      found link (λ (p : Pair). p.controller.0) (λ (p : Pair). p.plant.0)
      (λ p. goes_parts p.controller.0 p.plant.0 link) any.0 any.1 any.2 any.3 any.4

  pub forth_goes : (link : Link) → is_to_controller pairs link ≡ true
      → GoesBetween link (λ (p : Pair). p.plant.0) (λ (p : Pair). p.controller.0)
  forth_goes link is =
      let any = Any-from_list_any (λ (pair : Pair). goes pair.plant.0 pair.controller.0 link) pairs is in
      found link (λ (p : Pair). p.plant.0) (λ (p : Pair). p.controller.0)
      (λ p. goes_parts p.plant.0 p.controller.0 link) any.0 any.1 any.2 any.3 any.4

  back_by : (link : Link) (k : ℕ) (pair : Pair) → slice_get pairs k ≡ Some pair → link.source.0 ≡ pair.controller.0
      → link.target.0 ≡ pair.plant.0 → is_to_plant pairs link ≡ true
  back_by link k pair is source target =
      let at = get_or_from_slice_get pairs k pair pair is in
      list_any_at (λ (p : Pair). goes p.controller.0 p.plant.0 link) pairs k pair (slice_get_within pairs k pair is)
      (ap (λ (p : Pair). goes p.controller.0 p.plant.0 link) at
      ∙ goes_by pair.controller.0 pair.plant.0 link source target)

  forth_by : (link : Link) (k : ℕ) (pair : Pair) → slice_get pairs k ≡ Some pair → link.source.0 ≡ pair.plant.0
      → link.target.0 ≡ pair.controller.0 → is_to_controller pairs link ≡ true
  forth_by link k pair is source target =
      let at = get_or_from_slice_get pairs k pair pair is in
      list_any_at (λ (p : Pair). goes p.plant.0 p.controller.0 link) pairs k pair (slice_get_within pairs k pair is)
      (ap (λ (p : Pair). goes p.plant.0 p.controller.0 link) at
      ∙ goes_by pair.plant.0 pair.controller.0 link source target)

  not_true : (b : Bool) → (b ≡ true → ⊥) → b ≡ false
  not_true true never = absurd (never refl)
  not_true false never = refl

  -- a link to a plant comes back from its controller, or is outside all pairs
  module _ (k : ℕ) (pair : Pair) (is : slice_get pairs k ≡ Some pair) (link : Link) where
    pub to_plant_forth : link.target.0 ≡ pair.plant.0 → is_to_controller pairs link ≡ false
    to_plant_forth target =
        not_true (is_to_controller pairs link)
        (λ forth. (let goes_there = forth_goes link forth in
        no_controller goes_there.k k goes_there.pair pair goes_there.is_at is (sym goes_there.target ∙ target)))

    pub to_plant_back : link.target.0 ≡ pair.plant.0 → is_to_plant pairs link ≡ nat_eq link.source.0 pair.controller.0
    to_plant_back target =
        elim (cases_Bool (nat_eq link.source.0 pair.controller.0)) [
          | inl same ↦ back_by link k pair is (eqb-true link.source.0 pair.controller.0 same) target ∙ sym same
          | inr other ↦ not_true (is_to_plant pairs link)
              (λ back. (let goes_there = back_goes link back in
              elim (one_or_apart goes_there.k k goes_there.pair pair goes_there.is_at is) [
                | inl one ↦ eqb-false link.source.0 pair.controller.0 other
                    (goes_there.source ∙ ap (λ (p : Pair). p.controller.0) one)
                | inr apart ↦ apart.plants (sym goes_there.target ∙ target)
              ]))
              ∙ sym other
        ]

    -- a link to a controller comes forth from its plant, or is outside all pairs
    pub to_controller_back : link.target.0 ≡ pair.controller.0 → is_to_plant pairs link ≡ false
    to_controller_back target =
        not_true (is_to_plant pairs link)
        (λ back. (let goes_there = back_goes link back in
        no_controller k goes_there.k pair goes_there.pair is goes_there.is_at (sym target ∙ goes_there.target)))

    pub to_controller_forth : link.target.0 ≡ pair.controller.0
        → is_to_controller pairs link ≡ nat_eq link.source.0 pair.plant.0
    to_controller_forth target =
        elim (cases_Bool (nat_eq link.source.0 pair.plant.0)) [
          | inl same ↦ forth_by link k pair is (eqb-true link.source.0 pair.plant.0 same) target ∙ sym same
          | inr other ↦ not_true (is_to_controller pairs link)
              (λ forth. (let goes_there = forth_goes link forth in
              elim (one_or_apart goes_there.k k goes_there.pair pair goes_there.is_at is) [
                | inl one ↦ eqb-false link.source.0 pair.plant.0 other
                    (goes_there.source ∙ ap (λ (p : Pair). p.plant.0) one)
                | inr apart ↦ apart.controllers (sym goes_there.target ∙ target)
              ]))
              ∙ sym other
        ]

  -- a link to a component in no pair is outside all pairs
  pub to_alone_back : (node : ℕ) (link : Link) → partner_of pairs node ≡ None → link.target.0 ≡ node
      → is_to_plant pairs link ≡ false
  to_alone_back node link none target =
      not_true (is_to_plant pairs link)
      (λ back. (let goes_there = back_goes link back in
      (none_apart pairs node goes_there.k goes_there.pair none goes_there.is_at).0
      (sym goes_there.target ∙ target)))

  pub to_alone_forth : (node : ℕ) (link : Link) → partner_of pairs node ≡ None → link.target.0 ≡ node
      → is_to_controller pairs link ≡ false
  to_alone_forth node link none target =
      not_true (is_to_controller pairs link)
      (λ forth. (let goes_there = forth_goes link forth in
      (none_apart pairs node goes_there.k goes_there.pair none goes_there.is_at).1
      (sym goes_there.target ∙ target)))

  -- ---- a link goes to the partner of its source if and only if it is inside a pair
  inside_by : (link : Link) (o : Option NodeNo) → partner_of pairs link.source.0 ≡ o → is_inside o link ≡ true
      → (is_to_plant pairs link ≡ true) ⊎ (is_to_controller pairs link ≡ true)
  inside_by link None at is = absurd (cc)
  inside_by link (Some partner) at is =
      let stands = some_stands pairs link.source.0 partner at in
      let target = eqb-true partner.0 link.target.0 is in
      elim stands.side [
        | inl plant ↦ inr (forth_by link stands.k stands.pair stands.is_at (sym plant.0)
            (sym target ∙ sym (ap (λ (n : NodeNo). n.0) plant.1)))
        | inr controller ↦ inl (back_by link stands.k stands.pair stands.is_at (sym controller.0)
            (sym target ∙ sym (ap (λ (n : NodeNo). n.0) controller.1)))
      ]

  pub inside_goes : (link : Link) → is_inside (partner_of pairs link.source.0) link ≡ true
      → (is_to_plant pairs link ≡ true) ⊎ (is_to_controller pairs link ≡ true)
  inside_goes link is = inside_by link (partner_of pairs link.source.0) refl is

  pub outside_back : (link : Link) → is_inside (partner_of pairs link.source.0) link ≡ false
      → is_to_plant pairs link ≡ false
  outside_back link is =
      not_true (is_to_plant pairs link)
      (λ back. (let goes_there = back_goes link back in
      let pair = goes_there.pair in
      let at = ap (partner_of pairs) goes_there.source ∙ controller_partner goes_there.k pair goes_there.is_at in
      true≢false (sym (ap (λ o. is_inside o link) at
      ∙ eq-eqb pair.plant.0 link.target.0 (sym goes_there.target)) ∙ is)))

  pub outside_forth : (link : Link) → is_inside (partner_of pairs link.source.0) link ≡ false
      → is_to_controller pairs link ≡ false
  outside_forth link is =
      not_true (is_to_controller pairs link)
      (λ forth. (let goes_there = forth_goes link forth in
      let pair = goes_there.pair in
      let at = ap (partner_of pairs) goes_there.source ∙ plant_partner goes_there.k pair goes_there.is_at in
      true≢false (sym (ap (λ o. is_inside o link) at
      ∙ eq-eqb pair.controller.0 link.target.0 (sym goes_there.target)) ∙ is)))
