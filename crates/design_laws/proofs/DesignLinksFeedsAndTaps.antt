-- The links, feeds and taps of the design, in terms of its components.
use Rattle.std.proofs.Common.{get_or, ◌≡◌, ◌≢◌, ◌∙◌, inl, inr, ℕ, ◌≤◌, Bool, List, [], ◌∷◌, map, length, codes, Some}
use Rattle.std.proofs.Common.{refl, sym, ap, subst, arith}
use Rattle.std.specs.Prelude.{flat_map, All}
use Rattle.std.specs.List.{AllByRecursion}
use Rattle.std.proofs.lemmas.List.Elements.{recursion_from_All}
use Rattle.std.proofs.lemmas.Option.{same_Some}
use Rattle.std.proofs.lemmas.Bool.{ltb-true}
use Rattle.list_lemmas.proofs.Numbers.{le_from_not_lt}
use Rattle.list_lemmas.proofs.PairwiseProperties.{pairs_from}
use Rattle.pals_base.specs.declared.limits.TheConstants.{LINKS}
use Rattle.pals_base.specs.declared.period_bound_and_releases.Gamma.{Gamma}
use Rattle.pals_model.specs.declared.design.Component.{Component}
use Rattle.pals_model.specs.declared.design.Link.{Link}
use Rattle.pals_model.specs.declared.design.Feed.{Feed}
use Rattle.pals_model.specs.declared.design.Tap.{Tap}
use Rattle.pals_model.specs.declared.design.DesignParts.{DesignParts}
use Rattle.pals_model.specs.PortKindsAndRates.{feed_kind}
use Rattle.pals_model.specs.DesignRules as model
use Rattle.aadl_tree.specs.Declarations.{Feature, PackageTree}
use Rattle.aadl_uses.specs.ThreadLocations.{thread_at}
use Rattle.aadl_chains.specs.Chains.{Port, Leads}
use Rattle.aadl_chains.specs.LinksFeedsAndTaps.{CarriedChain, TargetBefore, PortBefore}
use Rattle.aadl_instance.specs.InstancesByPaths.{InstanceParts, IsFlat}
use Rattle.aadl_chains.specs.LinksFeedsAndTaps as walks
use Rattle.aadl_instance.specs.InstancesByNumbers.{port_name, chain_at}
use Rattle.annex_resolve.specs.ExpressionTypesAndFindings.{kind_in}
use Rattle.model_violations.specs.ChainFindings.{link_findings, feed_findings}
use Rattle.design_laws.specs.proof.PackageNames.{AreNamed}
use Rattle.design_laws.proofs.PairwiseDistinctNames.{all_none}
use Rattle.design_laws.proofs.ElementAndPairwiseProperties.{all_unmapped}
use Rattle.model_violations.specs.UsedDeclarations.{IsUse}
use Rattle.model_violations.specs.Violations.{shown_by, rates_of, used_findings}
use Rattle.design_laws.specs.InstanceDesigns.{link_in, feed_in, tap_in}
use Rattle.design_laws.proofs.SoundInstanceParts.{names_clean, not_over, declared_at}
use Rattle.design_laws.proofs.InstanceBoundsAndRates.{root_there}
use Rattle.design_laws.proofs.MatchedLists.{Zipped, Made, all_made, zipped_length, all_zipped, pairs_zipped}
use Rattle.design_laws.proofs.ChainEndPortsInDesigns.{IsComponentAt}
use Rattle.design_laws.proofs.CarriedChainsInDesigns.{not_root, end_goes_in, link_joins, feed_joins, tap_joins, link_of}
use Rattle.design_laws.proofs.CarriedChainsInDesigns.{feed_of, tap_of, link_is, feed_is, tap_is, in_kind_is}
use Rattle.design_laws.proofs.LinkFeedAndTapRules.{link_keeps, feed_keeps, tap_keeps}
use Rattle.design_laws.proofs.LinkOrderAndRootPortNames.{InPort, other_target, targets_rise, one_port, other_name}
use Rattle.design_laws.proofs.LinkOrderAndRootPortNames.{one_named}
use Rattle.design_laws.proofs.UniqueChainStarts.{one_start}

module _ {tree : PackageTree ℕ} {name : List ℕ} {parts : InstanceParts} (flat : IsFlat tree name parts)
    (used : ℕ → Bool)
    (is_use : IsUse tree parts.root used) (none : used_findings tree (shown_by tree parts) used ≡ [])
    (named : AreNamed tree)
    (links_found : flat_map (link_findings tree (map (thread_at tree parts.root) parts.threads)
    (rates_of tree (shown_by tree parts)))
    (map (chain_at tree parts) parts.links) ≡ [])
    (feeds_found : flat_map (feed_findings tree (map (thread_at tree parts.root) parts.threads)
    (rates_of tree (shown_by tree parts)))
    (map (chain_at tree parts) parts.feeds) ≡ [])
    (period : ℕ) (gamma : Gamma) (ignored : List (List ℕ)) (cs : List Component)
    (sits : Zipped (IsComponentAt tree parts.root) parts.threads cs) where
  -- a design with these components
  abbrev pub design_of : List Link → List Feed → List Tap → DesignParts
  design_of links feeds taps = record {
    period = period;
    gamma = gamma;
    components = cs;
    links = links;
    feeds = feeds;
    taps = taps;
    ignored =
        ignored;
  }

  -- ---- the parts of each list
  pub record LinkIs (e : CarriedChain) (l : Link) : Type 0 where
    pub link : walks.IsLink tree parts.root e
    pub found : link_findings tree (map (thread_at tree parts.root) parts.threads) (rates_of tree (shown_by tree parts))
        (chain_at tree parts e) ≡ []
    pub is : l ≡ link_of flat (design_of [] [] []) sits e

  pub record FeedIs (e : CarriedChain) (f : Feed) : Type 0 where
    pub feed : walks.IsFeed tree parts.root e
    pub found : feed_findings tree (map (thread_at tree parts.root) parts.threads) (rates_of tree (shown_by tree parts))
        (chain_at tree parts e) ≡ []
    pub is : f ≡ feed_of flat (design_of [] [] []) sits e

  pub record TapIs (e : CarriedChain) (t : Tap) : Type 0 where
    pub tap : walks.IsTap tree parts.root e
    pub is : t ≡ tap_of flat (design_of [] [] []) sits e

  links_by : (es : List CarriedChain) → AllByRecursion (walks.IsLink tree parts.root) es
      → AllByRecursion (λ e. link_findings tree (map (thread_at tree parts.root) parts.threads)
      (rates_of tree (shown_by tree parts))
      (chain_at tree parts e) ≡ []) es
      → AllByRecursion (λ e. (l : Link) × (link_in tree (chain_at tree parts e) ≡ Some l) × LinkIs e l) es
  links_by [] each found = tt
  links_by (e ∷ es) each found = (
    (
      link_of flat (design_of [] [] []) sits e,
      link_is flat (design_of [] [] []) sits e each.0,
      record
          { link = each.0; found = found.0; is = refl },
    ),
    links_by es each.1 found.1,
  )

  pub links : Made (λ e. link_in tree (chain_at tree parts e)) LinkIs parts.links
  links =
      all_made (λ e. link_in tree (chain_at tree parts e)) LinkIs parts.links
      (links_by parts.links (recursion_from_All (walks.IsLink tree parts.root) parts.links flat.links.each)
      (all_unmapped (λ x. link_findings tree (map (thread_at tree parts.root) parts.threads)
      (rates_of tree (shown_by tree parts)) x ≡ [])
      (chain_at tree parts) parts.links (all_none (link_findings tree (map (thread_at tree parts.root) parts.threads)
      (rates_of tree (shown_by tree parts))) (map (chain_at tree parts) parts.links) links_found)))

  feeds_by : (es : List CarriedChain) → AllByRecursion (walks.IsFeed tree parts.root) es
      → AllByRecursion (λ e. feed_findings tree (map (thread_at tree parts.root) parts.threads)
      (rates_of tree (shown_by tree parts))
      (chain_at tree parts e) ≡ []) es
      → AllByRecursion (λ e. (f : Feed) × (feed_in tree (chain_at tree parts e) ≡ Some f) × FeedIs e f) es
  feeds_by [] each found = tt
  feeds_by (e ∷ es) each found = (
    (
      feed_of flat (design_of [] [] []) sits e,
      feed_is flat (design_of [] [] []) sits e each.0,
      record
          { feed = each.0; found = found.0; is = refl },
    ),
    feeds_by es each.1 found.1,
  )

  pub feeds : Made (λ e. feed_in tree (chain_at tree parts e)) FeedIs parts.feeds
  feeds =
      all_made (λ e. feed_in tree (chain_at tree parts e)) FeedIs parts.feeds
      (feeds_by parts.feeds (recursion_from_All (walks.IsFeed tree parts.root) parts.feeds flat.feeds.each)
      (all_unmapped (λ x. feed_findings tree (map (thread_at tree parts.root) parts.threads)
      (rates_of tree (shown_by tree parts)) x ≡ [])
      (chain_at tree parts) parts.feeds (all_none (feed_findings tree (map (thread_at tree parts.root) parts.threads)
      (rates_of tree (shown_by tree parts))) (map (chain_at tree parts) parts.feeds) feeds_found)))

  taps_by : (es : List CarriedChain) → AllByRecursion (walks.IsTap tree parts.root) es
      → AllByRecursion (λ e. (t : Tap) × (tap_in (chain_at tree parts e) ≡ Some t) × TapIs e t) es
  taps_by [] each = tt
  taps_by (e ∷ es) each = (
    (
      tap_of flat (design_of [] [] []) sits e,
      tap_is flat
          (design_of [] [] []) sits e each.0,
      record { tap = each.0; is = refl },
    ),
    taps_by es each.1,
  )

  pub taps : Made (λ e. tap_in (chain_at tree parts e)) TapIs parts.taps
  taps = all_made (λ e. tap_in (chain_at tree parts e)) TapIs parts.taps
      (taps_by parts.taps (recursion_from_All (walks.IsTap tree parts.root) parts.taps flat.taps.each))

  -- ---- the in ports at the ends
  link_port : (ls : List Link) (fs : List Feed) (ts : List Tap) (e : CarriedChain) → walks.IsLink tree parts.root e
      → InPort flat (design_of ls fs ts) sits e.to
  link_port ls fs ts e (chain, is, from, to, carries) =
      let j = link_joins flat used is_use none e (chain, is, from, to, carries) in
      record { thread = to; port = j.target; is = j.target_is; goes = end_goes_in flat e.to is.ends to }

  feed_port : (ls : List Link) (fs : List Feed) (ts : List Tap) (e : CarriedChain) → walks.IsFeed tree parts.root e
      → InPort flat (design_of ls fs ts) sits e.to
  feed_port ls fs ts e (chain, is, from, to, carries) =
      let j = feed_joins flat used is_use none e (chain, is, from, to, carries) in
      record { thread = to; port = j.target; is = j.target_is; goes = end_goes_in flat e.to is.ends to }

  feed_root : (e : CarriedChain) → walks.IsFeed tree parts.root e → e.from.path ≡ []
  feed_root e (chain, is, from, to, carries) = from

  tap_root : (e : CarriedChain) → walks.IsTap tree parts.root e → e.to.path ≡ []
  tap_root e (chain, is, from, to, carries) = to

  never_both : (e d : CarriedChain) → walks.IsFeed tree parts.root e → walks.IsLink tree parts.root d → e.to ≡ d.to → ⊥
  never_both e d (chain, is, from, to, carries) (other, other_is, start, end, other_carries) same =
      let one = one_start flat chain other e.from d.from d.to is.start other_is.start
      (subst (λ p. Leads tree parts.root chain e.from p) same is.leads) other_is.leads in
      not_root flat d.from start (sym (ap (λ (p : Port). p.path) one) ∙ from)

  -- ---- the rules
  module _ (ls : List Link) (fs : List Feed) (ts : List Tap) where
    link_keeps_by : (e : CarriedChain) (l : Link) → LinkIs e l → model.IsLink (design_of ls fs ts) l
    link_keeps_by e l h = subst (model.IsLink (design_of ls fs ts)) (sym h.is)
        (link_keeps flat used is_use none (design_of ls fs ts) sits e h.link h.found)

    links_rise : (a b : CarriedChain) (l m : Link) → TargetBefore a b → LinkIs a l → LinkIs b m → model.LinkPrecedes l m
    links_rise a b l m before x y =
        subst (λ k. model.LinkPrecedes k m) (sym x.is)
        (subst (λ k. model.LinkPrecedes (link_of flat (design_of [] [] []) sits a) k) (sym y.is)
        (targets_rise flat (design_of ls fs ts) sits a b (link_port ls fs ts a x.link)
        (link_port ls fs ts b y.link) before))

    feed_keeps_by : (e : CarriedChain) (f : Feed) → FeedIs e f → model.IsFeed (design_of ls fs ts) f
    feed_keeps_by e f h = subst (model.IsFeed (design_of ls fs ts)) (sym h.is)
        (feed_keeps flat used is_use none (design_of ls fs ts) sits named.words e h.feed h.found)

    feeds_rise : (a b : CarriedChain) (f g : Feed) → TargetBefore a b → FeedIs a f → FeedIs b g → model.FeedPrecedes f g
    feeds_rise a b f g before x y =
        subst (λ k. model.FeedPrecedes k g) (sym x.is)
        (subst (λ k. model.FeedPrecedes (feed_of flat (design_of [] [] []) sits a) k) (sym y.is)
        (targets_rise flat (design_of ls fs ts) sits a b (feed_port ls fs ts a x.feed)
        (feed_port ls fs ts b y.feed) before))

    tap_keeps_by : (e : CarriedChain) (t : Tap) → TapIs e t → model.IsTap (design_of ls fs ts) t
    tap_keeps_by e t h = subst (model.IsTap (design_of ls fs ts)) (sym h.is)
        (tap_keeps flat used is_use none (design_of ls fs ts) sits named.words e h.tap)

    taps_differ : (a b : CarriedChain) (t u : Tap) → PortBefore a b → TapIs a t → TapIs b u → t.name ≢ u.name
    taps_differ a b t u before x y same =
        let r = root_there flat used is_use none in
        let i = tap_joins flat used is_use none a x.tap in
        let j = tap_joins flat used is_use none b y.tap in
        let differ = named.differ parts.root parts.root r.0 (names_clean flat) (declared_at tree parts.root r.0 r.1) in
        let first : t.name ≡ i.target.name.spelling = ap (λ (k : Tap). k.name) x.is ∙ ap port_name i.target_is in
        let second : u.name ≡ j.target.name.spelling = ap (λ (k : Tap). k.name) y.is ∙ ap port_name j.target_is in
        other_name tree parts.root r.0 r.1 differ a.to b.to i.target j.target (tap_root a x.tap)
        (tap_root b y.tap) i.target_is j.target_is (ltb-true a.to.port b.to.port before) (sym first ∙ (same ∙ second))

    feed_kind_is : (e : CarriedChain) (f : Feed) → (h : FeedIs e f)
        → feed_kind (design_of ls fs ts) f ≡ (feed_joins flat used is_use none e h.feed).kind
    feed_kind_is e f h =
        let p = feed_port ls fs ts e h.feed in
        let j = feed_joins flat used is_use none e h.feed in
        let typed : kind_in p.port.data_type ≡ Some j.kind = ap (λ (g : Feature ℕ). kind_in g.data_type)
        (same_Some p.port j.target (sym p.is ∙ j.target_is)) ∙ j.target_kind in
        ap (feed_kind (design_of ls fs ts)) h.is
        ∙ in_kind_is flat (design_of ls fs ts) sits e.to p.port p.thread p.is p.goes j.kind typed

    feeds_agree : (a b : CarriedChain) (f g : Feed) → TargetBefore a b → FeedIs a f → FeedIs b g
        → model.AgreeInKind (design_of ls fs ts) f g
    feeds_agree a b f g before x y = record {
      kinds = λ same.
          let r = root_there flat used is_use none in
          let i = feed_joins flat used is_use none a x.feed in
          let j = feed_joins flat used is_use none b y.feed in
          let differ =
          named.differ parts.root parts.root r.0 (names_clean flat) (declared_at tree parts.root r.0 r.1) in
          let first : f.name ≡ i.source.name.spelling = ap (λ (k : Feed). k.name) x.is ∙ ap port_name i.source_is in
          let second : g.name ≡ j.source.name.spelling = ap (λ (k : Feed). k.name) y.is ∙ ap port_name j.source_is in
          let one = one_named tree parts.root r.0 r.1 differ a.from b.from i.source j.source (feed_root a x.feed)
          (feed_root b y.feed) i.source_is j.source_is (sym first ∙ (same ∙ second)) in
          let kinds : i.kind ≡ j.kind = same_Some i.kind j.kind (sym i.source_kind
          ∙ (ap (λ (h : Feature ℕ). kind_in h.data_type) one ∙ j.source_kind)) in
          feed_kind_is a f x ∙ (kinds ∙ sym (feed_kind_is b g y));
    }

    apart_by : (e : CarriedChain) (f : Feed) → FeedIs e f → (d : CarriedChain) (l : Link) → LinkIs d l
        → model.IsApart f l
    apart_by e f x d l y same =
        let first = ap (λ (k : Feed). model.port_place k.target.0 k.in_port) x.is in
        let second = ap (λ (k : Link). model.port_place k.target.0 k.in_port) y.is in
        absurd (never_both e d x.feed y.link
        (one_port flat (design_of ls fs ts) sits e.to d.to (feed_port ls fs ts e x.feed)
        (link_port ls fs ts d y.link) (sym first ∙ (same ∙ second))))

  few_links : length links.all ≤ LINKS
  few_links =
      let same = zipped_length LinkIs parts.links links.all links.each in
      let few : length parts.links ≤ LINKS = le_from_not_lt LINKS (length parts.links)
      (λ more. not_over flat 6 (codes "links") (inr (inl (
        refl,
        refl,
        record {
          some = parts.links;
          each = flat.links.each;
          in_order = λ i j d lt within. other_target (get_or parts.links i d)
              (get_or parts.links j d) (flat.links.in_order i j d lt within);
          many = more;
        },
      )))) in
      omega (arith, same, few)

  abbrev pub whole : DesignParts
  whole = design_of links.all feeds.all taps.all

  pub links_keep : model.AreLinks whole
  links_keep = record {
    each =
        all_zipped LinkIs (model.IsLink whole) (link_keeps_by links.all feeds.all taps.all) parts.links
        links.all links.each;
    count = few_links;
    order =
        pairs_zipped LinkIs TargetBefore model.LinkPrecedes (links_rise links.all feeds.all taps.all)
        parts.links links.all
        (pairs_from TargetBefore parts.links flat.links.in_order) links.each;
  }

  pub feeds_keep : model.AreFeeds whole
  feeds_keep = record {
    each =
        all_zipped FeedIs (model.IsFeed whole) (feed_keeps_by links.all feeds.all taps.all) parts.feeds
        feeds.all feeds.each;
    order =
        pairs_zipped FeedIs TargetBefore model.FeedPrecedes (feeds_rise links.all feeds.all taps.all)
        parts.feeds feeds.all
        (pairs_from TargetBefore parts.feeds flat.feeds.in_order) feeds.each;
    kinds =
        pairs_zipped FeedIs TargetBefore (model.AgreeInKind whole) (feeds_agree links.all feeds.all taps.all)
        parts.feeds feeds.all
        (pairs_from TargetBefore parts.feeds flat.feeds.in_order) feeds.each;
    apart = all_zipped FeedIs (λ f. All (model.IsApart f) links.all)
        (λ e f x. all_zipped LinkIs (model.IsApart f) (λ d l y. apart_by links.all feeds.all taps.all e f x d l y)
        parts.links links.all
        links.each) parts.feeds feeds.all feeds.each;
  }

  pub taps_keep : model.AreTaps whole
  taps_keep = record {
    each =
        all_zipped TapIs (model.IsTap whole) (tap_keeps_by links.all feeds.all taps.all) parts.taps taps.all taps.each;
    names_differ =
        pairs_zipped TapIs PortBefore (λ (a b : Tap). a.name ≢ b.name) (taps_differ links.all feeds.all taps.all)
        parts.taps taps.all
        (pairs_from PortBefore parts.taps flat.taps.in_order) taps.each;
  }
