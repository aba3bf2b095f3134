-- The two counters are a design, with and without a feed, whichever counter comes first.
use Rattle.std.proofs.Common.{◌≢◌, ◌≤◌, ℕ, List, [], ◌∷◌, length, All, IsTrue, refl, arith}
use Rattle.std.specs.Prelude.{codes}
use Rattle.std.proofs.lemmas.List.Elements.{All-nil}
use Rattle.list_lemmas.proofs.PairwiseProperties.{AllPairs-nil, bytes_ne_by_test}
use Rattle.pals_base.specs.declared.limits.TheConstants.{PATH_BYTES}
use Rattle.pals_base.specs.Names.{is_word, is_path}
use Rattle.pals_model.specs.declared.design.Component.{Component}
use Rattle.pals_model.specs.declared.design.Link.{Link}
use Rattle.pals_model.specs.declared.design.Feed.{Feed}
use Rattle.pals_model.specs.declared.design.Tap.{Tap}
use Rattle.pals_model.specs.declared.design.DesignParts.{DesignParts}
use Rattle.pals_model.specs.proof.TwoCounters.{two_counters}
use Rattle.pals_model.specs.DesignRules.{IsComponent, IsLink, IsFeed, IsTap, IsApart, LinkPrecedes, FeedPrecedes}
use Rattle.pals_model.specs.DesignRules.{AgreeInKind, AreLinks, AreFeeds, IsDesign}
use Rattle.sync_product.specs.proof.ExchangedCounters.{exchanged_counters, fed, fed_counters, exchanged_fed_counters}
use Rattle.sync_product.proofs.CounterBehaviour.{all_of_two, pair_of_two, counter, counter_behaves}

abbrev counter_at : List ℕ → Component
counter_at path = record { path = path; rate = 1; behaviour = counter }

abbrev design_of : List Link → List Feed → List ℕ → List ℕ → DesignParts
design_of links feeds first second =
    record two_counters { components = counter_at first ∷ counter_at second ∷ []; links = links; feeds = feeds }

-- ---- components
counter_is : (path : List ℕ) → IsTrue (is_path path) → length path ≤ PATH_BYTES
    → IsComponent two_counters.period (counter_at path)
counter_is path word short = record {
  path = word;
  path_size = short;
  rate = (omega arith, omega arith);
  divides = refl;
  small = record { ports = omega arith; vars = omega arith; states = omega arith };
  behaviour = counter_behaves;
}

a_is : IsComponent two_counters.period (counter_at (codes "p.a"))
a_is = counter_is (codes "p.a") refl (omega arith)

b_is : IsComponent two_counters.period (counter_at (codes "p.b"))
b_is = counter_is (codes "p.b") refl (omega arith)

-- ---- links
no_links : (feeds : List Feed) (first second : List ℕ) → AreLinks (design_of [] feeds first second)
no_links feeds first second = record {
  each = All-nil (IsLink (design_of [] feeds first second));
  count = omega arith;
  order = AllPairs-nil LinkPrecedes;
}

links_are : (first second : List ℕ) → AreLinks (design_of two_counters.links [] first second)
links_are first second =
    let design = design_of two_counters.links [] first second in
    record {
      each = all_of_two (IsLink design) _ _
          (record {
            source = record { node_is = omega arith; port_is = omega arith };
            target = record { node_is = omega arith; port_is = omega arith };
            rates = refl;
            allowed = refl;
            kinds = refl;
            suits = refl;
          })
          (record {
            source = record { node_is = omega arith; port_is = omega arith };
            target = record { node_is = omega arith; port_is = omega arith };
            rates = refl;
            allowed = refl;
            kinds = refl;
            suits = refl;
          });
      count = omega arith;
      order = pair_of_two LinkPrecedes _ _ (omega arith);
    }

-- ---- feeds
no_feeds : (links : List Link) (first second : List ℕ) → AreFeeds (design_of links [] first second)
no_feeds links first second =
    let design = design_of links [] first second in
    record {
      each = All-nil (IsFeed design);
      order = AllPairs-nil FeedPrecedes;
      kinds = AllPairs-nil (AgreeInKind design);
      apart = All-nil (λ (feed : Feed). All (IsApart feed) links);
    }

feeds_are : (x y first second : List ℕ) → IsTrue (is_word x) → IsTrue (is_word y)
    → AreFeeds (design_of [] (fed x 0 ∷ fed y 1 ∷ []) first second)
feeds_are x y first second is_x is_y =
    let design = design_of [] (fed x 0 ∷ fed y 1 ∷ []) first second in
    record {
      each = all_of_two (IsFeed design) (fed x 0) (fed y 1)
          (record {
            name = is_x;
            target = record { node_is = omega arith; port_is = omega arith };
            allowed = refl;
            suits = refl;
          })
          (record {
            name = is_y;
            target = record { node_is = omega arith; port_is = omega arith };
            allowed = refl;
            suits = refl;
          });
      order = pair_of_two FeedPrecedes (fed x 0) (fed y 1) (omega arith);
      kinds = pair_of_two (AgreeInKind design) (fed x 0) (fed y 1) (record { kinds = λ same. refl });
      apart =
          all_of_two (λ (feed : Feed). All (IsApart feed) design.links) (fed x 0) (fed y 1)
          (All-nil (IsApart (fed x 0))) (All-nil (IsApart (fed y 1)));
    }

-- ---- the whole
design_is : (links : List Link) (feeds : List Feed) (first second : List ℕ)
    → IsComponent two_counters.period (counter_at first) → IsComponent two_counters.period (counter_at second)
    → first ≢ second
    → AreLinks (design_of links feeds first second) → AreFeeds (design_of links feeds first second)
    → IsDesign (design_of links feeds first second)
design_is links feeds first second is_first is_second differ are_links are_feeds =
    let design = design_of links feeds first second in
    record {
      period = (omega arith, omega arith);
      gamma =
          record {
            skew = (omega arith, omega arith);
            execution = (omega arith, omega arith);
            network = (omega arith, omega arith);
          };
      components = record {
        each = all_of_two (IsComponent design.period) (counter_at first) (counter_at second) is_first is_second;
        count = omega arith;
        paths_differ = pair_of_two (λ (c d : Component). c.path ≢ d.path) (counter_at first) (counter_at second) differ;
      };
      links = are_links;
      feeds = are_feeds;
      taps = record { each = All-nil (IsTap design); names_differ = AllPairs-nil (λ (x y : Tap). x.name ≢ y.name) };
      bound = omega arith;
    }

a_then_b : (links : List Link) (feeds : List Feed) → AreLinks (design_of links feeds (codes "p.a") (codes "p.b"))
    → AreFeeds (design_of links feeds (codes "p.a") (codes "p.b"))
    → IsDesign (design_of links feeds (codes "p.a") (codes "p.b"))
a_then_b links feeds =
    design_is links feeds (codes "p.a") (codes "p.b") a_is b_is (bytes_ne_by_test (codes "p.a") (codes "p.b") refl)

b_then_a : (links : List Link) (feeds : List Feed) → AreLinks (design_of links feeds (codes "p.b") (codes "p.a"))
    → AreFeeds (design_of links feeds (codes "p.b") (codes "p.a"))
    → IsDesign (design_of links feeds (codes "p.b") (codes "p.a"))
b_then_a links feeds =
    design_is links feeds (codes "p.b") (codes "p.a") b_is a_is (bytes_ne_by_test (codes "p.b") (codes "p.a") refl)

pub counters_are_designs : IsDesign two_counters × IsDesign exchanged_counters
counters_are_designs = (
  a_then_b two_counters.links [] (links_are (codes "p.a") (codes "p.b"))
      (no_feeds two_counters.links (codes "p.a") (codes "p.b")),
  b_then_a two_counters.links [] (links_are (codes "p.b") (codes "p.a"))
      (no_feeds two_counters.links (codes "p.b") (codes "p.a")),
)

pub fed_counters_are_designs : IsDesign fed_counters × IsDesign exchanged_fed_counters
fed_counters_are_designs = (
  a_then_b [] fed_counters.feeds (no_links fed_counters.feeds (codes "p.a") (codes "p.b"))
      (feeds_are (codes "x") (codes "y") (codes "p.a") (codes "p.b") refl refl),
  b_then_a [] exchanged_fed_counters.feeds (no_links exchanged_fed_counters.feeds (codes "p.b") (codes "p.a"))
      (feeds_are (codes "y") (codes "x") (codes "p.b") (codes "p.a") refl refl),
)
