-- Each link, feed and tap of an instance model without findings satisfies the rules of designs.
use Rattle.std.proofs.Common.{◌≡◌, ◌∙◌, ℕ, Bool, true, false, List, [], ◌++◌, map, Some, sym, ap, subst}
use Rattle.std.specs.Prelude.{IsTrue}
use Rattle.std.specs.Option.{option_and_then}
use Rattle.std.proofs.lemmas.List.Elements.{recursion_from_All}
use Rattle.list_lemmas.proofs.ListOperations.{append_is_nil_right}
use Rattle.list_lemmas.proofs.Elements.{AllByRecursion-at}
use Rattle.pals_base.specs.declared.behaviour.Kind.{Kind}
use Rattle.pals_base.specs.AllowedAdaptors.{divides_or_divided, is_allowed, suits_kind}
use Rattle.pals_base.specs.Names.{is_word}
use Rattle.pals_model.specs.declared.design.DesignParts.{DesignParts}
use Rattle.pals_model.specs.PortKindsAndRates.{rate_of}
use Rattle.pals_model.specs.DesignRules as model
use Rattle.aadl_tree.specs.Declarations.{Feature, Connection, PackageTree}
use Rattle.aadl_names.specs.NameResolution.{ports_at, type_number}
use Rattle.aadl_uses.specs.ContainmentAndUse.{component_at}
use Rattle.aadl_uses.specs.ThreadsBelow.{IsThreadAt}
use Rattle.aadl_uses.specs.ThreadLocations.{thread_at}
use Rattle.aadl_chains.specs.Chains.{Port, port_of, is_in}
use Rattle.aadl_chains.specs.LinksFeedsAndTaps.{CarriedChain}
use Rattle.aadl_instance.specs.InstancesByPaths.{InstanceParts, IsFlat}
use Rattle.aadl_chains.specs.LinksFeedsAndTaps as walks
use Rattle.aadl_instance.specs.InstancesByNumbers.{node_at, port_number, port_name, end_in, chain_at}
use Rattle.annex_resolve.specs.ExpressionTypesAndFindings.{kind_in}
use Rattle.model_violations.specs.ConnectionsAndCarriers.{adaptor_text}
use Rattle.model_violations.specs.ChainFindings.{timing_findings, adaptor_findings, on_carrier, link_findings}
use Rattle.model_violations.specs.ChainFindings.{feed_findings}
use Rattle.model_violations.specs.ChainEnds.{end_name, end_kind, end_rate}
use Rattle.component_checks.specs.PeriodAndAdaptorFindings.{kind_suits}
use Rattle.component_checks.specs.AdaptorTexts.{adaptor_named}
use Rattle.design_laws.specs.proof.PackageNames.{HasWords}
use Rattle.design_laws.proofs.BehaviourNames.{IsPort}
use Rattle.design_laws.proofs.SoundThreadBehaviour.{port_words}
use Rattle.model_violations.specs.UsedDeclarations.{IsUse}
use Rattle.model_violations.specs.Violations.{shown_by, used_findings, rates_of}
use Rattle.design_laws.specs.InstanceDesigns.{chain_adaptor}
use Rattle.design_laws.proofs.MatchedLists.{Zipped}
use Rattle.design_laws.proofs.ChainEndPortsInDesigns.{IsComponentAt, in_seen, rate_at}
use Rattle.design_laws.proofs.CarriedChainsInDesigns.{rated_fits, thread_end, root_end, start_goes_out, end_goes_in}
use Rattle.design_laws.proofs.CarriedChainsInDesigns.{link_joins, feed_joins, tap_joins, connection_is, adaptor_is}
use Rattle.design_laws.proofs.CarriedChainsInDesigns.{node_of}
use Rattle.design_laws.proofs.CarriedChainsInDesigns.{link_of, feed_of, tap_of, is_target, in_kind_is, is_source}
use Rattle.design_laws.proofs.CarriedChainsInDesigns.{out_kind_is}
use Rattle.design_laws.proofs.CarriedChainsInDesigns.{rate_is}

module _ {tree : PackageTree ℕ} {name : List ℕ} {parts : InstanceParts} (flat : IsFlat tree name parts)
    (used : ℕ → Bool)
    (is_use : IsUse tree parts.root used) (none : used_findings tree (shown_by tree parts) used ≡ [])
    (design : DesignParts) (sits : Zipped (IsComponentAt tree parts.root) parts.threads design.components) where
  -- the type of the target, as the checks use it
  seen_kind : (p : Port) (f : Feature ℕ) (k : Kind) → IsThreadAt tree parts.root p.path
      → port_of tree parts.root p ≡ Some f
      → is_in tree parts.root p ≡ true → kind_in f.data_type ≡ Some k
      → end_kind tree (map (thread_at tree parts.root) parts.threads) (end_in tree parts.root parts.threads p) ≡ Some k
  seen_kind p f k thread is goes typed =
      ap (end_kind tree (map (thread_at tree parts.root) parts.threads)) (thread_end flat p thread)
      ∙ (in_seen tree parts.root parts.threads design.components p f (node_of flat design sits p.path thread) is
      goes ∙ typed)

  seen_rate : (p : Port) → (thread : IsThreadAt tree parts.root p.path)
      → end_rate (rates_of tree (shown_by tree parts)) (end_in tree parts.root parts.threads p) ≡ Some
      (rate_of design (node_at parts.threads p.path).0)
  seen_rate p thread =
      let at = node_of flat design sits p.path thread in
      ap (end_rate (rates_of tree (shown_by tree parts))) (thread_end flat p thread)
      ∙ (rate_at tree parts.root parts.threads design.components p.path (port_number tree parts.root p) at
      ∙ ap Some (sym (rate_is flat design sits p.path at)))

  -- ---- links
  link_fits : (e : CarriedChain) → walks.IsLink tree parts.root e
      → link_findings tree (map (thread_at tree parts.root) parts.threads)
      (rates_of tree (shown_by tree parts)) (chain_at tree parts e) ≡ []
      → (k : Kind) → end_kind tree (map (thread_at tree parts.root) parts.threads)
      (end_in tree parts.root parts.threads e.to) ≡ Some k
      → (divides_or_divided (rate_of design (node_at parts.threads e.from.path).0)
      (rate_of design (node_at parts.threads e.to.path).0) ≡ true)
      × (is_allowed (link_of flat design sits e).adaptor (rate_of design (node_at parts.threads e.from.path).0)
      (rate_of design (node_at parts.threads e.to.path).0) ≡ true)
      × (suits_kind (link_of flat design sits e).adaptor k ≡ true)
  link_fits e (chain, is, from, to, c) found k seen =
      let threads = map (thread_at tree parts.root) parts.threads in
      let all = rates_of tree (shown_by tree parts) in
      let x = chain_at tree parts e in
      let rules = λ (l : Connection ℕ). timing_findings tree threads x l ++ adaptor_findings tree threads all x l in
      let here : rules c.link ≡ [] = subst (λ o. on_carrier rules o ≡ []) (connection_is flat true chain e c) found in
      let one =
      append_is_nil_right (timing_findings tree threads x c.link)
      (adaptor_findings tree threads all x c.link) here in
      let p = rate_of design (node_at parts.threads e.from.path).0 in
      let q = rate_of design (node_at parts.threads e.to.path).0 in
      let f =
      rated_fits c.link.name.at (end_name tree threads x.to) (adaptor_text c.link) (end_kind tree threads x.to)
      (end_rate all x.from)
      (end_rate all x.to) p q (seen_rate e.from from) (seen_rate e.to to) one in
      let same = adaptor_is flat true chain e c in (
        f.divides,
        ap (λ a. is_allowed a p q) same ∙ f.allowed,
        ap (λ a. suits_kind a k) same
            ∙ subst (λ o. kind_suits (option_and_then adaptor_named (adaptor_text c.link)) o ≡ true) seen f.suits,
      )

  pub link_keeps : (e : CarriedChain) → walks.IsLink tree parts.root e
      → link_findings tree (map (thread_at tree parts.root) parts.threads)
      (rates_of tree (shown_by tree parts)) (chain_at tree parts e) ≡ []
      → model.IsLink design (link_of flat design sits e)
  link_keeps e (chain, is, from, to, c) found =
      let j = link_joins flat used is_use none e (chain, is, from, to, c) in
      let out = start_goes_out flat e.from is.start from in
      let into = end_goes_in flat e.to is.ends to in
      let in_kind' = in_kind_is flat design sits e.to j.target to j.target_is into j.kind j.target_kind in
      let out_kind' = out_kind_is flat design sits e.from j.source from j.source_is out j.kind j.source_kind in
      let f =
      link_fits e (chain, is, from, to, c) found j.kind
      (seen_kind e.to j.target j.kind to j.target_is into j.target_kind) in
      record {
        source = is_source flat design sits e.from j.source from j.source_is out;
        target = is_target flat design sits e.to j.target to j.target_is into;
        rates = f.0;
        allowed = f.1;
        kinds = out_kind' ∙ sym in_kind';
        suits = ap (suits_kind (chain_adaptor tree (chain_at tree parts e))) in_kind' ∙ f.2;
      }

  -- ---- names of the root's ports
  root_word : HasWords tree → (p : Port) (f : Feature ℕ) → port_of tree parts.root p ≡ Some f
      → IsTrue (is_word (port_name (port_of tree parts.root p)))
  root_word words p f is =
      let all = port_words tree words (option_and_then (type_number tree) (component_at tree parts.root p.path)) in
      subst (λ o. IsTrue (is_word (port_name o))) (sym is)
      (AllByRecursion-at IsPort (ports_at tree (component_at tree parts.root p.path)) p.port f
      (recursion_from_All IsPort (ports_at tree (component_at tree parts.root p.path)) all) is)

  -- ---- feeds
  feed_fits : (e : CarriedChain) → walks.IsFeed tree parts.root e
      → feed_findings tree (map (thread_at tree parts.root) parts.threads)
      (rates_of tree (shown_by tree parts)) (chain_at tree parts e) ≡ []
      → (k : Kind) → end_kind tree (map (thread_at tree parts.root) parts.threads)
      (end_in tree parts.root parts.threads e.to) ≡ Some k
      → (is_allowed (feed_of flat design sits e).adaptor 1
      (rate_of design (node_at parts.threads e.to.path).0) ≡ true) ×
      (suits_kind (feed_of flat design sits e).adaptor k ≡ true)
  feed_fits e (chain, is, from, to, c) found k seen =
      let threads = map (thread_at tree parts.root) parts.threads in
      let all = rates_of tree (shown_by tree parts) in
      let x = chain_at tree parts e in
      let one : adaptor_findings tree threads all x c.link ≡ [] =
      subst (λ o. on_carrier (adaptor_findings tree threads all x) o ≡ [])
      (connection_is flat false chain e c) found in
      let q = rate_of design (node_at parts.threads e.to.path).0 in
      let first : end_rate all (end_in tree parts.root parts.threads e.from) ≡ Some 1 =
      ap (end_rate all) (root_end flat e.from from) in
      let f =
      rated_fits c.link.name.at (end_name tree threads x.to) (adaptor_text c.link) (end_kind tree threads x.to)
      (end_rate all x.from)
      (end_rate all x.to) 1 q first (seen_rate e.to to) one in
      let same = adaptor_is flat false chain e c in (
        ap (λ a. is_allowed a 1 q) same ∙ f.allowed,
        ap (λ a. suits_kind a k) same
            ∙ subst (λ o. kind_suits (option_and_then adaptor_named (adaptor_text c.link)) o ≡ true) seen f.suits,
      )

  pub feed_keeps : HasWords tree → (e : CarriedChain) → walks.IsFeed tree parts.root e
      → feed_findings tree (map (thread_at tree parts.root) parts.threads) (rates_of tree (shown_by tree parts))
      (chain_at tree parts e) ≡ []
      → model.IsFeed design (feed_of flat design sits e)
  feed_keeps words e (chain, is, from, to, c) found =
      let j = feed_joins flat used is_use none e (chain, is, from, to, c) in
      let into = end_goes_in flat e.to is.ends to in
      let in_kind' = in_kind_is flat design sits e.to j.target to j.target_is into j.kind j.target_kind in
      let f =
      feed_fits e (chain, is, from, to, c) found j.kind
      (seen_kind e.to j.target j.kind to j.target_is into j.target_kind) in
      record {
        name = root_word words e.from j.source j.source_is;
        target = is_target flat design sits e.to j.target to j.target_is into;
        allowed = f.0;
        suits = ap (suits_kind (chain_adaptor tree (chain_at tree parts e))) in_kind' ∙ f.1;
      }

  -- ---- taps
  pub tap_keeps : HasWords tree → (e : CarriedChain) → walks.IsTap tree parts.root e
      → model.IsTap design (tap_of flat design sits e)
  tap_keeps words e (chain, is, from, to, c) =
      let j = tap_joins flat used is_use none e (chain, is, from, to, c) in
      record {
        name = root_word words e.to j.target j.target_is;
        source = is_source flat design sits e.from j.source from j.source_is (start_goes_out flat e.from is.start from);
      }
