-- Links, feeds and taps of an instance model without findings are valid in a design.
use Rattle.std.proofs.Common.{◌≡◌, ◌∙◌, inl, inr, ℕ, ◌<◌, Bool, true, false, List, [], ◌∷◌, Option, Some, None, refl}
use Rattle.std.proofs.Common.{sym, ap, subst}
use Rattle.std.specs.Prelude.{slice_get, option_map}
use Rattle.std.specs.Option.{option_and_then}
use Rattle.std.proofs.lemmas.Bool.{false≢true}
use Rattle.std.proofs.lemmas.Option.{same_Some, slice_get_within}
use Rattle.pals_base.specs.declared.behaviour.Kind.{Kind}
use Rattle.pals_model.specs.declared.design.Link.{Link}
use Rattle.pals_model.specs.declared.design.Feed.{Feed}
use Rattle.pals_model.specs.declared.design.Tap.{Tap}
use Rattle.pals_model.specs.declared.design.DesignParts.{DesignParts}
use Rattle.pals_model.specs.PortKindsAndRates.{rate_in, rate_of, ins_in, outs_in, in_kind, out_kind, kind_of}
use Rattle.pals_model.specs.DesignRules as model
use Rattle.aadl_tree.specs.Declarations.{Feature, PackageTree}
use Rattle.aadl_names.specs.NameResolution.{connections_of}
use Rattle.aadl_uses.specs.ThreadsBelow.{IsThreadAt}
use Rattle.aadl_chains.specs.Chains.{Port, ConnectionAt, Leads, port_of, is_in, IsStart, IsEnd}
use Rattle.aadl_instance.specs.declared.chain.ChainEnd.TheVariants.{Thread, Root}
use Rattle.aadl_chains.specs.LinksFeedsAndTaps.{CarriedChain, Carries}
use Rattle.aadl_instance.specs.InstancesByPaths.{InstanceParts, IsFlat}
use Rattle.aadl_chains.specs.LinksFeedsAndTaps as walks
use Rattle.aadl_instance.specs.InstancesByNumbers.{node_at, port_number, port_name, end_by, end_in, chain_at}
use Rattle.annex_resolve.specs.ExpressionTypesAndFindings.{kind_in}
use Rattle.model_violations.specs.ConnectionsAndCarriers.{connection_of, adaptor_text}
use Rattle.model_violations.specs.ChainFindings.{rated}
use Rattle.component_checks.specs.AdaptorTexts.{adaptor_named}
use Rattle.design_laws.proofs.AllowedAdaptors.{Fits, fits}
use Rattle.model_violations.specs.PortsAndVariables.{or_integer}
use Rattle.model_violations.specs.UsedDeclarations.{IsUse}
use Rattle.model_violations.specs.Violations.{shown_by, used_findings}
use Rattle.design_laws.specs.InstanceDesigns.{given_adaptor, chain_adaptor, link_by, feed_by, tap_by, link_in, feed_in}
use Rattle.design_laws.specs.InstanceDesigns.{tap_in}
use Rattle.design_laws.proofs.InstanceBehaviours.{thread_is, root_no_thread}
use Rattle.design_laws.proofs.MatchedLists.{Zipped}
use Rattle.design_laws.proofs.ChainTypes.{first_there, last_there, kind_there, kinds_along}
use Rattle.design_laws.proofs.ChainEndPortsInDesigns.{IsComponentAt, AtNode, at_node, in_port, out_port}
use Rattle.design_laws.proofs.ChainEndPortsInDesigns.{component_there}

-- ---- the adaptor between two rates
pub rated_fits : (at : ℕ) (word : List ℕ) (text : Option (List ℕ)) (kind : Option Kind) (a b : Option ℕ) (p q : ℕ)
    → a ≡ Some p → b ≡ Some q
    → rated at word (option_map adaptor_named text) kind a b ≡ [] → Fits text kind p q
rated_fits at word text kind None b p q first second none = absurd (cc first)
rated_fits at word text kind (Some a) None p q first second none = absurd (cc second)
rated_fits at word text kind (Some a) (Some b) p q first second none =
    subst (λ n. Fits text kind n q) (same_Some a p first)
    (subst (λ n. Fits text kind a n) (same_Some b q second) (fits at word text kind a b none))

thread_end_by : (tree : PackageTree ℕ) (parts : InstanceParts) (p : Port) (path : List ℕ) → (path ≡ [] → ⊥)
    → end_by tree parts.root parts.threads p path
    ≡ Thread (node_at parts.threads p.path) (port_number tree parts.root p)
thread_end_by tree parts p [] some = absurd (some refl)
thread_end_by tree parts p (s ∷ path) some = refl

module _ {tree : PackageTree ℕ} {name : List ℕ} {parts : InstanceParts} (flat : IsFlat tree name parts) where
  pub not_root : (p : Port) → IsThreadAt tree parts.root p.path → p.path ≡ [] → ⊥
  not_root p thread e = root_no_thread flat (thread_is flat [] (subst (IsThreadAt tree parts.root) e thread))

  pub thread_end : (p : Port) → IsThreadAt tree parts.root p.path
      → end_in tree parts.root parts.threads p ≡ Thread (node_at parts.threads p.path)
      (port_number tree parts.root p)
  thread_end p thread = thread_end_by tree parts p p.path (not_root p thread)

  pub root_end : (p : Port) → p.path ≡ []
      → end_in tree parts.root parts.threads p ≡ Root (port_name (port_of tree parts.root p))
  root_end p e = ap (end_by tree parts.root parts.threads p) e

  pub start_goes_out : (p : Port) → IsStart tree parts.root p → IsThreadAt tree parts.root p.path
      → is_in tree parts.root p ≡ false
  start_goes_out p (inl s) thread = s.1
  start_goes_out p (inr s) thread = absurd (not_root p thread s.0)

  pub end_goes_in : (p : Port) → IsEnd tree parts.root p → IsThreadAt tree parts.root p.path
      → is_in tree parts.root p ≡ true
  end_goes_in p (inl s) thread = s.1
  end_goes_in p (inr s) thread = absurd (not_root p thread s.0)

  -- ---- both ends of a connection chain are ports of one type
  pub record Joins (used : ℕ → Bool) (from to : Port) : Type 0 where
    pub source : Feature ℕ
    pub target : Feature ℕ
    pub source_is : port_of tree parts.root from ≡ Some source
    pub target_is : port_of tree parts.root to ≡ Some target
    pub kind : Kind
    pub source_kind : kind_in source.data_type ≡ Some kind
    pub target_kind : kind_in target.data_type ≡ Some kind

  module _ (used : ℕ → Bool) (is_use : IsUse tree parts.root used)
      (none : used_findings tree (shown_by tree parts) used ≡ []) where
    pub joins : (chain : List ConnectionAt) (from to : Port) → Leads tree parts.root chain from to → (from ≡ to → ⊥)
        → Joins used from to
    joins [] from to leads apart = absurd (apart leads)
    joins (c ∷ cs) from to leads apart =
        let f = first_there tree parts.root c cs from to leads in
        let g = last_there tree parts.root c cs from to leads in
        let k = kind_there flat used is_use none to g.0 g.1 in
        let same = kinds_along flat used is_use none (c ∷ cs) from to leads in
        let kind_by = option_and_then (λ (h : Feature ℕ). kind_in h.data_type) in
        record {
          source = f.0;
          target = g.0;
          source_is = f.1;
          target_is = g.1;
          kind = k.0;
          source_kind = sym (ap kind_by f.1) ∙ (same ∙ k.1);
          target_kind = sym (ap kind_by g.1) ∙ k.1;
        }

    -- separate lemmas for the ends of a link, of a feed and of a tap
    pub link_joins : (e : CarriedChain) → walks.IsLink tree parts.root e → Joins used e.from e.to
    link_joins e (chain, is, from, to, carries) =
        joins chain e.from e.to is.leads (λ same. false≢true (sym (start_goes_out e.from is.start from)
        ∙ (ap (is_in tree parts.root) same ∙ end_goes_in e.to is.ends to)))

    pub feed_joins : (e : CarriedChain) → walks.IsFeed tree parts.root e → Joins used e.from e.to
    feed_joins e (chain, is, from, to, carries) = joins chain e.from e.to is.leads
        (λ same. not_root e.to to (sym (ap (λ (p : Port). p.path) same) ∙ from))

    pub tap_joins : (e : CarriedChain) → walks.IsTap tree parts.root e → Joins used e.from e.to
    tap_joins e (chain, is, from, to, carries) =
        joins chain e.from e.to is.leads (λ same. not_root e.from from (ap (λ (p : Port). p.path) same ∙ to))

  -- ---- the connection whose properties apply
  pub connection_is : (crossing : Bool) (chain : List ConnectionAt) (e : CarriedChain)
      → (c : Carries tree parts.root crossing chain e)
      → connection_of tree (chain_at tree parts e).carrier ≡ Some c.link
  connection_is crossing chain e c = ap (λ o. slice_get (connections_of o) e.connection) c.is_component ∙ c.is_link

  pub adaptor_is : (crossing : Bool) (chain : List ConnectionAt) (e : CarriedChain)
      → (c : Carries tree parts.root crossing chain e)
      → chain_adaptor tree (chain_at tree parts e) ≡ option_and_then adaptor_named (adaptor_text c.link)
  adaptor_is crossing chain e c = ap (option_and_then given_adaptor) (connection_is crossing chain e c)

  -- ---- with the components of a design
  module _ (design : DesignParts) (sits : Zipped (IsComponentAt tree parts.root) parts.threads design.components) where
    pub node_of : (path : List ℕ) → IsThreadAt tree parts.root path
        → AtNode tree parts.root parts.threads design.components path
    node_of path thread =
        at_node tree parts.root parts.threads design.components sits path (flat.threads.complete path thread)

    abbrev pub link_of : CarriedChain → Link
    link_of e = record {
      source = node_at parts.threads e.from.path;
      out_port = port_number tree parts.root e.from;
      target = node_at parts.threads e.to.path;
      in_port = port_number tree parts.root e.to;
      adaptor = chain_adaptor tree (chain_at tree parts e);
    }

    abbrev pub feed_of : CarriedChain → Feed
    feed_of e = record {
      name = port_name (port_of tree parts.root e.from);
      target = node_at parts.threads e.to.path;
      in_port = port_number tree parts.root e.to;
      adaptor = chain_adaptor tree (chain_at tree parts e);
    }

    abbrev pub tap_of : CarriedChain → Tap
    tap_of e = record {
      name = port_name (port_of tree parts.root e.to);
      source = node_at parts.threads e.from.path;
      out_port = port_number tree
          parts.root e.from;
    }

    pub link_is : (e : CarriedChain) → walks.IsLink tree parts.root e
        → link_in tree (chain_at tree parts e) ≡ Some (link_of e)
    link_is e (chain, is, from, to, carries) =
        ap (λ a. link_by (chain_adaptor tree (chain_at tree parts e)) a (end_in tree parts.root parts.threads e.to))
        (thread_end e.from from)
        ∙ ap (link_by (chain_adaptor tree (chain_at tree parts e)) (Thread (node_at parts.threads e.from.path)
        (port_number tree parts.root e.from))) (thread_end e.to to)

    pub feed_is : (e : CarriedChain) → walks.IsFeed tree parts.root e
        → feed_in tree (chain_at tree parts e) ≡ Some (feed_of e)
    feed_is e (chain, is, from, to, carries) =
        ap (λ a. feed_by (chain_adaptor tree (chain_at tree parts e)) a (end_in tree parts.root parts.threads e.to))
        (root_end e.from from)
        ∙ ap (feed_by (chain_adaptor tree (chain_at tree parts e)) (Root (port_name (port_of tree parts.root e.from))))
        (thread_end e.to to)

    pub tap_is : (e : CarriedChain) → walks.IsTap tree parts.root e → tap_in (chain_at tree parts e) ≡ Some (tap_of e)
    tap_is e (chain, is, from, to, carries) =
        ap (λ a. tap_by a (end_in tree parts.root parts.threads e.to)) (thread_end e.from from)
        ∙ ap (tap_by (Thread (node_at parts.threads e.from.path) (port_number tree parts.root e.from)))
        (root_end e.to to)

    -- ---- an in port of the design
    module _ (p : Port) (f : Feature ℕ) (thread : IsThreadAt tree parts.root p.path)
        (is : port_of tree parts.root p ≡ Some f)
        (goes : is_in tree parts.root p ≡ true) where
      at : AtNode tree parts.root parts.threads design.components p.path
      at = node_of p.path thread

      pub is_target : model.IsTarget design (node_at parts.threads p.path).0 (port_number tree parts.root p)
      is_target = record {
        node_is = slice_get_within design.components (node_at parts.threads p.path).0 at.component
            (component_there tree parts.root parts.threads design.components p.path at);
        port_is = subst (λ o. port_number tree parts.root p < ins_in o)
            (sym (component_there tree parts.root parts.threads design.components p.path at))
            (slice_get_within at.component.behaviour.ins (port_number tree parts.root p) _
            (in_port tree parts.root parts.threads design.components p f at is goes));
      }

      pub in_kind_is : (k : Kind) → kind_in f.data_type ≡ Some k
          → in_kind (slice_get design.components (node_at parts.threads p.path).0)
          (port_number tree parts.root p) ≡ k
      in_kind_is k typed =
          ap (λ o. in_kind o (port_number tree parts.root p))
          (component_there tree parts.root parts.threads design.components p.path at)
          ∙ (ap kind_of (in_port tree parts.root parts.threads design.components p f at is goes) ∙ ap or_integer typed)

    -- ---- an out port of the design
    module _ (p : Port) (f : Feature ℕ) (thread : IsThreadAt tree parts.root p.path)
        (is : port_of tree parts.root p ≡ Some f)
        (goes : is_in tree parts.root p ≡ false) where
      pub is_source : model.IsSource design (node_at parts.threads p.path).0 (port_number tree parts.root p)
      is_source =
          let at = node_of p.path thread in
          record {
            node_is = slice_get_within design.components (node_at parts.threads p.path).0 at.component
                (component_there tree parts.root parts.threads design.components p.path at);
            port_is = subst (λ o. port_number tree parts.root p < outs_in o)
                (sym (component_there tree parts.root parts.threads design.components p.path at))
                (slice_get_within at.component.behaviour.outs (port_number tree parts.root p) _
                (out_port tree parts.root parts.threads design.components p f at is goes));
          }

      pub out_kind_is : (k : Kind) → kind_in f.data_type ≡ Some k
          → out_kind (slice_get design.components (node_at parts.threads p.path).0)
          (port_number tree parts.root p) ≡ k
      out_kind_is k typed =
          let at = node_of p.path thread in
          ap (λ o. out_kind o (port_number tree parts.root p))
          (component_there tree parts.root parts.threads design.components p.path at)
          ∙ (ap kind_of (out_port tree parts.root parts.threads design.components p f at is goes) ∙ ap or_integer typed)

    pub rate_is : (path : List ℕ) → (at : AtNode tree parts.root parts.threads design.components path)
        → rate_of design (node_at parts.threads path).0 ≡ at.component.rate
    rate_is path at = ap rate_in (component_there tree parts.root parts.threads design.components path at)
