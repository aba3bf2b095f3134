-- Rings are designs, and what two small ones come to.
use Rattle.std.proofs.Common.{◌≡◌, ◌≢◌, ℕ, zero, suc, ◌%◌, ◌<◌, ◌≤◌, max, Bool, true, nat_le, ◌&&◌, List, [], ◌∷◌}
use Rattle.std.proofs.Common.{length, fold, slice_get, Some, All, IsTrue, refl, sym, ap, ap₂, ◌∙◌, subst, subst₂, arith}
use Rattle.std.specs.List.{list_all}
use Rattle.std.specs.Fmt.{decimal, digits}
use Rattle.std.proofs.lemmas.Bool.{and_parts, leb-true}
use Rattle.std.proofs.lemmas.Fmt.{decimal_injective}
use Rattle.std.proofs.lemmas.List.Elements.{All-nil, All-head, All-tail}
use Rattle.list_lemmas.proofs.PairwiseProperties.{AllPairs-nil}
use Rattle.pals_base.specs.declared.limits.TheConstants.{COMPONENTS, PATH_BYTES}
use Rattle.pals_base.specs.Names.{is_path}
use Rattle.pals_base.specs.AllowedAdaptors.{divides_or_divided, is_allowed, suits_kind}
use Rattle.pals_base.specs.SingleStep.{fire}
use Rattle.pals_base.specs.UpwardNumbers.{upwards}
use Rattle.pals_base.specs.declared.behaviour.Kind.TheVariants.{Integer}
use Rattle.pals_base.proofs.UpwardNumbers.{length-map_upwards, slice_get-map_upwards, slice_get-upwards}
use Rattle.pals_model.specs.declared.design.Component.{Component}
use Rattle.pals_model.specs.declared.design.Link.{Link}
use Rattle.pals_model.specs.declared.design.Feed.{Feed}
use Rattle.pals_model.specs.declared.design.Tap.{Tap}
use Rattle.pals_model.specs.declared.design.DesignParts.{DesignParts}
use Rattle.pals_model.specs.ComponentInputs.{input_vectors}
use Rattle.pals_model.specs.PortKindsAndRates.{rate_of, rate_in, ins_in, outs_in, in_kind, out_kind}
use Rattle.pals_model.specs.Composition.{comp, state}
use Rattle.pals_model.specs.DesignRules.{IsComponent, IsSource, IsTarget, IsLink, IsFeed, IsTap, IsApart, AgreeInKind}
use Rattle.pals_model.specs.DesignRules.{LinkPrecedes, FeedPrecedes, greatest_rate, IsDesign}
use Rattle.pals_model.proofs.FirstMatches.{at_element}
use Rattle.pals_model.proofs.WordBytes.{all_pass}
use Rattle.world_gen.specs.Rings.{ring_rate, ring_path, rate_by, ring_adaptor, before_in, ring_component, ring_link}
use Rattle.world_gen.specs.Rings.{ring_bounds, ring}
use Rattle.world_gen.specs.proof.RingLaws.{RingsAreDesigns, RingsAddUp}
use Rattle.world_gen.proofs.TabulatedLists.{numbered_all, numbered_pairs}
use Rattle.world_gen.proofs.RingBehaviourRules.{ring_behaves}

-- ---- rates
record IsRingRate (rate : ℕ) : Type 0 where
  some : 1 ≤ rate
  few : rate ≤ 4
  divides : 20000000 % rate ≡ 0

rate_by_is : (class : ℕ) → IsRingRate (rate_by class)
rate_by_is zero = record { some = omega arith; few = omega arith; divides = refl }
rate_by_is (suc zero) = record { some = omega arith; few = omega arith; divides = refl }
rate_by_is (suc (suc rest)) = record { some = omega arith; few = omega arith; divides = refl }

rate_is : (number : ℕ) → IsRingRate (ring_rate number)
rate_is number = rate_by_is (number % 3)

-- the adaptor between two rates
record Adapts (p q : ℕ) : Type 0 where
  rates : IsTrue (divides_or_divided p q)
  allowed : IsTrue (is_allowed (ring_adaptor p q) p q)
  suits : IsTrue (suits_kind (ring_adaptor p q) Integer)

adapts_by : (a b : ℕ) → Adapts (rate_by a) (rate_by b)
adapts_by zero zero = record { rates = refl; allowed = refl; suits = refl }
adapts_by zero (suc zero) = record { rates = refl; allowed = refl; suits = refl }
adapts_by zero (suc (suc b)) = record { rates = refl; allowed = refl; suits = refl }
adapts_by (suc zero) zero = record { rates = refl; allowed = refl; suits = refl }
adapts_by (suc zero) (suc zero) = record { rates = refl; allowed = refl; suits = refl }
adapts_by (suc zero) (suc (suc b)) = record { rates = refl; allowed = refl; suits = refl }
adapts_by (suc (suc a)) zero = record { rates = refl; allowed = refl; suits = refl }
adapts_by (suc (suc a)) (suc zero) = record { rates = refl; allowed = refl; suits = refl }
adapts_by (suc (suc a)) (suc (suc b)) = record { rates = refl; allowed = refl; suits = refl }

adapts : (source target : ℕ) → Adapts (ring_rate source) (ring_rate target)
adapts source target = adapts_by (source % 3) (target % 3)

-- ---- paths
abbrev is_fine : List ℕ → Bool
is_fine path = is_path path && nat_le (length path) PATH_BYTES

-- each of them, computed
fine_paths : list_all (λ number. is_fine (ring_path number)) (upwards 0 COMPONENTS) ≡ true
unfolding digits
fine_paths = refl

path_is : (number : ℕ) → number < COMPONENTS
    → IsTrue (is_path (ring_path number)) × (length (ring_path number) ≤ PATH_BYTES)
path_is number below =
    let all = all_pass (λ number. is_fine (ring_path number)) (upwards 0 COMPONENTS) fine_paths in
    let one =
    at_element (λ number. is_fine (ring_path number) ≡ true) (upwards 0 COMPONENTS) number number all
    (slice_get-upwards COMPONENTS number below) in
    let parts = and_parts (is_path (ring_path number)) (nat_le (length (ring_path number)) PATH_BYTES) one in
    (parts.0, leb-true (length (ring_path number)) PATH_BYTES parts.1)

paths_differ : (j k : ℕ) → j < k → k < COMPONENTS → ring_path j ≢ ring_path k
paths_differ j k less below same =
    let digits : decimal j ≡ decimal k = cc in
    let one : j ≡ k = decimal_injective j k (omega arith) (omega arith) digits in
    absurd (omega arith)

-- ---- components
component_is : (number : ℕ) → number < COMPONENTS → IsComponent 20000000 (ring_component number)
component_is number below =
    let path = path_is number below in
    let rate = rate_is number in
    record {
      path = path.0;
      path_size = path.1;
      rate = (rate.some, let few = rate.few in omega arith);
      divides = rate.divides;
      small = record { ports = omega arith; vars = omega arith; states = omega arith };
      behaviour = ring_behaves;
    }

greatest_from : (k : ℕ) (components : List Component) → k ≤ 4 → All (λ (c : Component). c.rate ≤ 4) components
    → fold (λ (k : ℕ) (c : Component). max k c.rate) k components ≤ 4
greatest_from k [] few all = few
greatest_from k (c ∷ cs) few all =
    let one : c.rate ≤ 4 = All-head (λ (c : Component). c.rate ≤ 4) c cs all in
    greatest_from (max k c.rate) cs (omega arith) (All-tail (λ (c : Component). c.rate ≤ 4) c cs all)

-- ---- links
pub before_below : (n number : ℕ) → 2 ≤ n → number < n → before_in n number < n
before_below n zero some below = omega arith
before_below n (suc number) some below = omega arith

module _ (n : ℕ) (some : 2 ≤ n) (most : n ≤ COMPONENTS) where
  component_at : (node : ℕ) → node < n → slice_get (ring n).components node ≡ Some (ring_component node)
  component_at node below = slice_get-map_upwards ring_component n node below

  within : (node : ℕ) → node < n → node < length (ring n).components
  within node below = let size = length-map_upwards ring_component 0 n in omega arith

  rate_at : (node : ℕ) → node < n → rate_of (ring n) node ≡ ring_rate node
  rate_at node below = ap rate_in (component_at node below)

  out_port : (node : ℕ) → node < n → IsSource (ring n) node 0
  out_port node below = record {
    node_is = within node below;
    port_is = let one = ap outs_in (component_at node below) in omega arith;
  }

  in_port : (node : ℕ) → node < n → IsTarget (ring n) node 0
  in_port node below = record {
    node_is = within node below;
    port_is = let one = ap ins_in (component_at node below) in omega arith;
  }

  link_is : (number : ℕ) → number < n → IsLink (ring n) (ring_link n number)
  link_is number below =
      let source = before_in n number in
      let source_below : source < n = before_below n number some below in
      let adapts = adapts source number in
      let source_rate = sym (rate_at source source_below) in
      let target_rate = sym (rate_at number below) in
      let out : out_kind (slice_get (ring n).components source) 0 ≡ Integer =
      ap (λ c. out_kind c 0) (component_at source source_below) in
      let target : in_kind (slice_get (ring n).components number) 0 ≡ Integer =
      ap (λ c. in_kind c 0) (component_at number below) in
      record {
        source = out_port source source_below;
        target = in_port number below;
        rates = subst₂ (λ p q. IsTrue (divides_or_divided p q)) source_rate target_rate adapts.rates;
        allowed =
            subst₂ (λ p q. IsTrue (is_allowed (ring_adaptor (ring_rate source) (ring_rate number)) p q)) source_rate
            target_rate adapts.allowed;
        kinds = out ∙ sym target;
        suits =
            subst (λ kind. IsTrue (suits_kind (ring_adaptor (ring_rate source) (ring_rate number)) kind)) (sym target)
            adapts.suits;
      }

  -- ---- the whole
  slow : greatest_rate (ring n).components ≤ 4
  slow =
      greatest_from 1 (ring n).components (omega arith)
      (numbered_all (λ (c : Component). c.rate ≤ 4) ring_component n (λ number below. (rate_is number).few))

  pub ring_is_design : IsDesign (ring n)
  ring_is_design =
      let count = length-map_upwards ring_component 0 n in
      let links = length-map_upwards (ring_link n) 0 n in
      record {
        period = (omega arith, omega arith);
        gamma =
            record {
              skew = (omega arith, omega arith);
              execution = (omega arith, omega arith);
              network = (omega arith, omega arith);
            };
        components = record {
          each =
              numbered_all (IsComponent 20000000) ring_component n (λ number below. component_is number (omega arith));
          count = omega arith;
          paths_differ =
              numbered_pairs (λ (a b : Component). a.path ≢ b.path) ring_component n
              (λ j k less below. paths_differ j k less (omega arith));
        };
        links = record {
          each = numbered_all (IsLink (ring n)) (ring_link n) n link_is;
          count = omega arith;
          order = numbered_pairs LinkPrecedes (ring_link n) n (λ j k less below. omega arith);
        };
        feeds = record {
          each = All-nil (IsFeed (ring n));
          order = AllPairs-nil FeedPrecedes;
          kinds = AllPairs-nil (AgreeInKind (ring n));
          apart = All-nil (λ (input_vectors : Feed). All (IsApart input_vectors) (ring n).links);
        };
        taps = record { each = All-nil (IsTap (ring n)); names_differ = AllPairs-nil (λ (a b : Tap). a.name ≢ b.name) };
        bound = let few = slow in omega arith;
      }

pub rings_are_designs : RingsAreDesigns
rings_are_designs n some most = ring_is_design n some most

-- so are parts with the same values
abbrev parts_of : List Component → List Link → List Feed → List Tap → List (List ℕ) → DesignParts
parts_of components links feeds taps ignored = record {
  period = 20000000;
  gamma = ring_bounds;
  components = components;
  links = links;
  feeds = feeds;
  taps = taps;
  ignored = ignored;
}

pub parts_are_design : (n : ℕ) (components : List Component) (links : List Link) (feeds : List Feed) (taps : List Tap)
    (ignored : List (List ℕ))
    → 2 ≤ n → n ≤ COMPONENTS → components ≡ (ring n).components → links ≡ (ring n).links → feeds ≡ [] → taps ≡ []
    → ignored ≡ []
    → IsDesign (parts_of components links feeds taps ignored)
parts_are_design n components links feeds taps ignored some most same_components same_links no_feeds no_taps
    none_ignored =
    let first : parts_of components links feeds taps ignored
    ≡ parts_of (ring n).components (ring n).links feeds taps ignored =
    ap₂ (λ (c : List Component) (l : List Link). parts_of c l feeds taps ignored) same_components same_links in
    let second : parts_of (ring n).components (ring n).links feeds taps ignored
    ≡ parts_of (ring n).components (ring n).links [] [] ignored =
    ap₂ (λ (f : List Feed) (t : List Tap). parts_of (ring n).components (ring n).links f t ignored) no_feeds no_taps in
    let third : parts_of (ring n).components (ring n).links [] [] ignored ≡ ring n =
    ap (λ (i : List (List ℕ)). parts_of (ring n).components (ring n).links [] [] i) none_ignored in
    subst IsDesign (sym (first ∙ second ∙ third)) (ring_is_design n some most)

-- ---- what two small ones come to
pub rings_add_up : RingsAddUp
unfolding digits fire comp state
rings_add_up = record { two = refl; three = refl }
