-- An instance model without findings has a design.
use Rattle.std.proofs.Common.{◌≡◌, ◌∙◌, ℕ, ◌≤◌, Bool, List, refl, sym, ap, subst}
use Rattle.std.proofs.lemmas.Option.{same_Some}
use Rattle.list_lemmas.proofs.ListOperations.{map-map}
use Rattle.pals_base.specs.PeriodBoundAndReleases.{least_period}
use Rattle.pals_base.specs.declared.period_bound_and_releases.Gamma.{Gamma}
use Rattle.pals_model.specs.declared.design.Component.{Component}
use Rattle.pals_model.specs.declared.design.Link.{Link}
use Rattle.pals_model.specs.declared.design.Feed.{Feed}
use Rattle.pals_model.specs.declared.design.Tap.{Tap}
use Rattle.pals_model.specs.declared.design.DesignParts.{DesignParts}
use Rattle.pals_model.specs.DesignRules.{IsDesign}
use Rattle.pals_model.specs.DesignRules as model
use Rattle.aadl_tree.specs.Declarations.{PackageTree}
use Rattle.aadl_uses.specs.ThreadLocations.{thread_at}
use Rattle.aadl_instance.specs.InstancesByPaths.{InstanceParts, IsFlat}
use Rattle.aadl_instance.specs.InstancesByNumbers.{chain_at}
use Rattle.component_checks.specs.ThreadRatesAndFindings.{thread_rate, greatest_rate}
use Rattle.model_violations.specs.IgnoredProperties.{ignored_names}
use Rattle.design_laws.specs.proof.PackageNames.{AreNamed}
use Rattle.model_violations.specs.UsedDeclarations.{IsUse}
use Rattle.model_violations.specs.Violations.{ShownInstance, shown_by, rates_of}
use Rattle.design_laws.specs.proof.AcceptedInstances.{IsShown, NothingFound, HasDesign}
use Rattle.design_laws.specs.InstanceDesigns.{component_in, link_in, feed_in, tap_in, all_of, IsDesignOf}
use Rattle.design_laws.proofs.SoundInstanceParts.{NoFindings, all_parts}
use Rattle.design_laws.proofs.InstanceBehaviours.{ThreadLaw}
use Rattle.design_laws.proofs.InstanceBoundsAndRates.{root_time, root_bounds, bounds_keep, enough, some_time}
use Rattle.design_laws.proofs.MatchedLists.{Zipped, Made, zipped_weaker}
use Rattle.design_laws.proofs.DesignComponents as composing
use Rattle.design_laws.proofs.DesignComponents.{components, is_small, thread_of, components_keep, components_few}
use Rattle.design_laws.proofs.DesignComponents.{components_differ, greatest_is}
use Rattle.design_laws.proofs.ChainEndPortsInDesigns.{IsComponentAt}
use Rattle.design_laws.proofs.DesignLinksFeedsAndTaps.{links, feeds, taps, whole, links_keep, feeds_keep, taps_keep}
use Rattle.design_laws.proofs.InstancesFromParts.{of_shown, to_shown}

-- ---- the design
module _ {tree : PackageTree ℕ} {name : List ℕ} {parts : InstanceParts} (flat : IsFlat tree name parts)
    (used : ℕ → Bool)
    (is_use : IsUse tree parts.root used) (found : NoFindings tree (shown_by tree parts) used) (named : AreNamed tree)
    (law : ThreadLaw) where
  abbrev rate : ℕ
  rate = greatest_rate (rates_of tree (shown_by tree parts))

  abbrev parted : Made (λ path. component_in tree parts.root (thread_at tree parts.root path))
      (composing.IsOf flat used is_use found.declarations (greatest_rate
      (rates_of tree (shown_by tree parts))) found.root found.threads named law) parts.threads
  parted =
      components flat used is_use found.declarations (greatest_rate (rates_of tree (shown_by tree parts))) found.root
      found.threads named law

  sits_by : (path : List ℕ) (c : Component) → composing.IsOf flat used is_use found.declarations
      (greatest_rate (rates_of tree (shown_by tree parts))) found.root found.threads named law path c
      → IsComponentAt tree parts.root path c
  sits_by path c h = record {
    thread = h.thread;
    rate_seen = h.rate_seen;
    seen = h.seen;
    small = (is_small flat path h.thread.component (thread_of flat used is_use found.declarations
        (greatest_rate (rates_of tree (shown_by tree parts))) found.root found.threads named law path h.thread)
        c.behaviour h.seen).ports;
  }

  sits : Zipped (IsComponentAt tree parts.root) parts.threads parted.all
  sits = zipped_weaker (composing.IsOf flat used is_use found.declarations
      (greatest_rate (rates_of tree (shown_by tree parts))) found.root found.threads named law)
      (IsComponentAt tree parts.root) sits_by parts.threads parted.all parted.each

  abbrev period : ℕ
  period =
      (root_time flat used is_use found.declarations (greatest_rate (rates_of tree (shown_by tree parts))) found.root).0

  abbrev gamma : Gamma
  gamma =
      (root_bounds flat used is_use found.declarations (greatest_rate (rates_of tree (shown_by tree parts)))
      found.root).0

  abbrev design : DesignParts
  design =
      whole flat used is_use found.declarations named found.links found.feeds period gamma
      (ignored_names tree parts.root) parted.all sits

  is_design_of : IsDesignOf tree (shown_by tree parts) design
  is_design_of = record {
    period = (root_time flat used is_use found.declarations rate found.root).1.is;
    gamma = (root_bounds flat used is_use found.declarations rate found.root).1;
    components =
        ap all_of (map-map (component_in tree parts.root) (thread_at tree parts.root) parts.threads) ∙ parted.are;
    links = ap all_of (map-map (link_in tree) (chain_at tree parts) parts.links)
        ∙ (links flat used is_use found.declarations named found.links found.feeds period gamma
        (ignored_names tree parts.root) parted.all sits).are;
    feeds = ap all_of (map-map (feed_in tree) (chain_at tree parts) parts.feeds)
        ∙ (feeds flat used is_use found.declarations named found.links found.feeds period gamma
        (ignored_names tree parts.root) parted.all sits).are;
    taps = ap all_of (map-map tap_in (chain_at tree parts) parts.taps)
        ∙ (taps flat used is_use found.declarations named found.links found.feeds period gamma
        (ignored_names tree parts.root) parted.all sits).are;
    ignored = refl;
  }

  rate_is : rate ≡ model.greatest_rate parted.all
  rate_is = ap greatest_rate (map-map (thread_rate tree parts.root) (thread_at tree parts.root) parts.threads)
      ∙ greatest_is flat used is_use found.declarations rate found.root found.threads named law

  keeps : IsDesign design
  keeps = record {
    period = (
      some_time flat used is_use found.declarations rate found.root,
      (root_time flat used is_use found.declarations rate found.root).1.short,
    );
    gamma = bounds_keep flat used is_use found.declarations rate found.root;
    components = record {
      each = components_keep flat used is_use found.declarations rate found.root found.threads named law;
      count = components_few flat used is_use found.declarations rate found.root found.threads named law;
      paths_differ = components_differ flat used is_use found.declarations rate found.root found.threads named law;
    };
    links =
        links_keep flat used is_use found.declarations named found.links found.feeds period gamma
        (ignored_names tree parts.root) parted.all sits;
    feeds =
        feeds_keep flat used is_use found.declarations named found.links found.feeds period gamma
        (ignored_names tree parts.root) parted.all sits;
    taps =
        taps_keep flat used is_use found.declarations named found.links found.feeds period gamma
        (ignored_names tree parts.root) parted.all sits;
    bound =
        subst (λ k. least_period gamma k ≤ period) rate_is (enough flat used is_use found.declarations rate found.root);
  }

  pub accepted : HasDesign tree (shown_by tree parts)
  accepted = (design, is_design_of, keeps)

pub has_design : ThreadLaw → (tree : PackageTree ℕ) (s : ShownInstance) → AreNamed tree → IsShown tree s
    → NothingFound tree s
    → HasDesign tree s
has_design law tree s named i nothing =
    let there = to_shown (NothingFound tree) tree s i nothing in
    let found = all_parts tree (shown_by tree i.parts) there.used there.none in
    of_shown (HasDesign tree) tree s i (accepted i.flat there.used there.is_use found named law)

-- ---- existence
same_design : (a b : DesignParts) → a.period ≡ b.period → a.gamma ≡ b.gamma → a.components ≡ b.components
    → a.links ≡ b.links
    → a.feeds ≡ b.feeds → a.taps ≡ b.taps → a.ignored ≡ b.ignored → a ≡ b
same_design a b p g c l f t i =
    let step_period = ap (λ (v : ℕ). let d : DesignParts = record {
      period = v;
      gamma = a.gamma;
      components = a.components;
      links = a.links;
      feeds = a.feeds;
      taps = a.taps;
      ignored = a.ignored;
    } in d) p in
    let step_gamma = ap (λ (v : Gamma). let d : DesignParts = record {
      period = b.period;
      gamma = v;
      components = a.components;
      links = a.links;
      feeds = a.feeds;
      taps = a.taps;
      ignored = a.ignored;
    } in d) g in
    let step_components = ap (λ (v : List Component). let d : DesignParts = record {
      period = b.period;
      gamma = b.gamma;
      components = v;
      links = a.links;
      feeds = a.feeds;
      taps = a.taps;
      ignored = a.ignored;
    } in d) c in
    let step_links = ap (λ (v : List Link). let d : DesignParts = record {
      period = b.period;
      gamma = b.gamma;
      components = b.components;
      links = v;
      feeds = a.feeds;
      taps = a.taps;
      ignored = a.ignored;
    } in d) l in
    let step_feeds = ap (λ (v : List Feed). let d : DesignParts = record {
      period = b.period;
      gamma = b.gamma;
      components = b.components;
      links = b.links;
      feeds = v;
      taps = a.taps;
      ignored = a.ignored;
    } in d) f in
    let step_taps = ap (λ (v : List Tap). let d : DesignParts = record {
      period = b.period;
      gamma = b.gamma;
      components = b.components;
      links =
          b.links;
      feeds = b.feeds;
      taps = v;
      ignored = a.ignored;
    } in d) t in
    let step_ignored = ap (λ (v : List (List ℕ)). let d : DesignParts = record {
      period = b.period;
      gamma = b.gamma;
      components = b.components;
      links = b.links;
      feeds = b.feeds;
      taps = b.taps;
      ignored = v;
    } in d) i in
    step_period ∙ (step_gamma ∙ (step_components ∙ (step_links ∙ (step_feeds ∙ (step_taps ∙ (step_ignored))))))

pub one_design : (tree : PackageTree ℕ) (s : ShownInstance) (a b : DesignParts) → IsDesignOf tree s a
    → IsDesignOf tree s b → a ≡ b
one_design tree s a b x y =
    same_design a b (same_Some a.period b.period (sym x.period ∙ y.period))
    (same_Some a.gamma b.gamma (sym x.gamma ∙ y.gamma))
    (same_Some a.components b.components (sym x.components ∙ y.components))
    (same_Some a.links b.links (sym x.links ∙ y.links)) (same_Some a.feeds b.feeds (sym x.feeds ∙ y.feeds))
    (same_Some a.taps b.taps (sym x.taps ∙ y.taps)) (x.ignored ∙ sym y.ignored)
