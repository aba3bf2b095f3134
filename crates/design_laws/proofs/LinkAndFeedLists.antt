-- All links and feeds, thread by thread and port by port.
use Rattle.std.proofs.Common.{◌≡◌, ◌⊎◌, inl, inr, ℕ, zero, suc, ◌+◌, ◌≤◌, Bool, true, false, List, [], ◌∷◌, ◌++◌}
use Rattle.std.proofs.Common.{length, slice_get, Some, refl, subst, arith}
use Rattle.list_lemmas.proofs.ElementPositions.{slice_get-some}
use Rattle.aadl_tree.specs.Declarations.{PackageTree}
use Rattle.aadl_names.specs.NameResolution.{implementation_at, ports_at}
use Rattle.aadl_uses.specs.proof.PackageContainment.{containment}
use Rattle.aadl_uses.specs.ThreadsBelow.{Lists, IsThreadAt, PathBefore}
use Rattle.aadl_uses.specs.proof.ContainmentOrders.{IsOrder}
use Rattle.aadl_chains.specs.proof.PortsJoinedInside.{is_thread_at}
use Rattle.aadl_chains.specs.Chains.{is_in}
use Rattle.aadl_chains.specs.proof.PermittedConnections.{ArePermitted}
use Rattle.aadl_chains.specs.LinksFeedsAndTaps.{CarriedChain, IsLink, IsFeed, TargetBefore}
use Rattle.aadl_chains.specs.proof.UpwardWalks.{OneEach}
use Rattle.aadl_instance.specs.declared.chain_search.Incoming.{Incoming}
use Rattle.aadl_instance.specs.InstancesByNumbers.{chain_in}
use Rattle.aadl_instance.specs.proof.ChainsSoFar.{AreInto}
use Rattle.aadl_instance.proofs.ChainsSoFar.{into_start, into_thread, into_skip, into_link, into_feed, links_whole}
use Rattle.aadl_instance.proofs.ChainsSoFar.{feeds_whole, thread_listed}
use Rattle.aadl_instance.proofs.AddedChains.{out_added}
use Rattle.aadl_instance.proofs.ChainEndNumbers.{stands}
use Rattle.design_laws.proofs.IncomingLinkOrFeed.{HasIncoming, HasNoIncoming, comes}

module _ (tree : PackageTree ℕ) (root : ℕ) (sound : ArePermitted tree) (one : OneEach tree root)
    (no_thread : is_thread_at tree root ≡ false)
    (keys : List ℕ) (order : IsOrder (containment tree) keys) (paths : List (List ℕ))
    (threads : Lists (IsThreadAt tree root) PathBefore paths) where
  record Into (node port : ℕ) : Type 0 where
    incoming : Incoming
    are : AreInto tree root paths node port incoming

  -- ---- a port
  module _ (node port : ℕ) (path : List ℕ) (at : slice_get paths node ≡ Some path) where
    by_kind : (c : HasIncoming tree root (record { path = path; port = port })) → Into node port
        → IsLink tree root c.one ⊎ IsFeed tree root c.one → Into node (port + 1)
    by_kind c i (inl l) = record {
      incoming = record { links = i.incoming.links ++ chain_in tree root paths c.one ∷ []; feeds = i.incoming.feeds };
      are =
          into_link tree root paths no_thread node port path at threads.in_order c.one c.there c.only
          i.incoming l i.are;
    }
    by_kind c i (inr f) = record {
      incoming = record { links = i.incoming.links; feeds = i.incoming.feeds ++ chain_in tree root paths c.one ∷ [] };
      are =
          into_feed tree root paths no_thread node port path at threads.in_order c.one c.there c.only
          i.incoming f i.are;
    }

    by_coming : Into node port
        → HasIncoming tree root (record { path = path; port = port })
        ⊎ HasNoIncoming tree root (record { path = path; port = port }) → Into node (port + 1)
    by_coming i (inl c) = by_kind c i c.kind
    by_coming i (inr none) =
        record {
          incoming = i.incoming;
          are = into_skip tree root paths no_thread node port path at threads.in_order i.incoming none i.are;
        }

    by_way : Into node port → (b : Bool) → is_in tree root (record { path = path; port = port }) ≡ b
        → Into node (port + 1)
    by_way i true e =
        by_coming i (comes tree root sound one no_thread keys order (record { path = path; port = port })
        (thread_listed tree root paths threads node path at, e))
    by_way i false e = record {
      incoming = i.incoming;
      are =
          out_added tree root no_thread paths threads.in_order node port path at i.incoming
          (thread_listed tree root paths threads node path at) e i.are;
    }

    one_port : Into node port → Into node (port + 1)
    one_port i = by_way i (is_in tree root (record { path = path; port = port })) refl

  -- ---- a thread
  all_ports : (node port : ℕ) (path : List ℕ) → slice_get paths node ≡ Some path → Into node 0 → Into node port
  all_ports node zero path at i = i
  all_ports node (suc port) path at i =
      let e : port + 1 ≡ suc port = omega arith in
      subst (Into node) e (one_port node port path at (all_ports node port path at i))

  one_thread : (node : ℕ) (path : List ℕ) → slice_get paths node ≡ Some path → Into node 0 → Into (node + 1) 0
  one_thread node path at i =
      let s = stands tree root path (thread_listed tree root paths threads node path at) in
      let count = length (ports_at tree (implementation_at tree s.0)) in
      let p = all_ports node (length (ports_at tree (implementation_at tree s.0))) path at i in
      record {
        incoming = p.incoming;
        are =
            into_thread tree root paths no_thread node (length (ports_at tree (implementation_at tree s.0))) s.0 path
            p.incoming at s.1 (omega arith) p.are;
      }

  -- ---- all threads
  all_threads : (node : ℕ) → node ≤ length paths → Into node 0
  all_threads zero most =
      record {
        incoming = record { links = []; feeds = [] };
        are = into_start tree root paths no_thread (record { links = []; feeds = [] }) refl refl;
      }
  all_threads (suc node) most =
      let p = slice_get-some paths node (omega arith) in
      let e : node + 1 ≡ suc node = omega arith in
      subst (λ (n : ℕ). Into n 0) e (one_thread node p.0 p.1 (all_threads node (omega arith)))

  whole : Into (length paths) 0
  whole = all_threads (length paths) (omega arith)

  pub links : (ends : List CarriedChain) × Lists (IsLink tree root) TargetBefore ends
  links = let s = links_whole tree root paths no_thread (length paths) (omega arith) threads whole.incoming whole.are in
      (s.ends, s.listed)

  pub feeds : (ends : List CarriedChain) × Lists (IsFeed tree root) TargetBefore ends
  feeds = let s = feeds_whole tree root paths no_thread (length paths) (omega arith) threads whole.incoming whole.are in
      (s.ends, s.listed)
