-- The only link or feed into a port of a thread, or a proof that there is none.
use Rattle.std.proofs.Common.{◌≡◌, ◌⊎◌, inl, inr, ℕ, false, List, ◌∷◌, Some, None, refl, sym, ap, subst, ◌∙◌}
use Rattle.aadl_tree.specs.Declarations.{PackageTree}
use Rattle.aadl_uses.specs.proof.PackageContainment.{containment}
use Rattle.aadl_uses.specs.proof.ContainmentOrders.{IsOrder}
use Rattle.aadl_chains.specs.proof.PortsJoinedInside.{is_thread_at}
use Rattle.aadl_chains.specs.Chains.{Port, Leads}
use Rattle.aadl_chains.specs.proof.PermittedConnections.{ArePermitted}
use Rattle.aadl_chains.specs.declared.chain_tracing.ChainStart.TheVariants as begins
use Rattle.aadl_chains.specs.LinksFeedsAndTaps.{CarriedChain, IsLink, IsFeed}
use Rattle.aadl_chains.specs.proof.TracedChains.{carried_chain, IsGiver}
use Rattle.aadl_chains.proofs.WalkResults.{crossing_from}
use Rattle.aadl_chains.proofs.CarriedChainsByWalks.{link_from, link_met, feed_met}
use Rattle.aadl_chains.proofs.TracedChains.{traces_nothing, traces_itself, traces_root, traces_none_over, ends_by}
use Rattle.aadl_chains.specs.proof.UpwardWalks.{WalkEnd, Crossing, nowhere, at_root, crosses, walk_back, OneEach}
use Rattle.aadl_chains.specs.proof.UpwardWalks.{IsThreadPort}
use Rattle.design_laws.proofs.OutPortSources.{Gives, gives}

-- the connection into a port
pub record HasIncoming (tree : PackageTree ℕ) (root : ℕ) (to : Port) : Type 0 where
  pub one : CarriedChain
  pub there : one.to ≡ to
  pub kind : IsLink tree root one ⊎ IsFeed tree root one
  pub only : (x : CarriedChain) → IsLink tree root x ⊎ IsFeed tree root x → x.to ≡ to → x ≡ one

abbrev pub HasNoIncoming : PackageTree ℕ → ℕ → Port → Type 0
HasNoIncoming tree root to = (x : CarriedChain) → IsLink tree root x ⊎ IsFeed tree root x → x.to ≡ to → ⊥

same_crossing : (a b : Crossing) → crosses a ≡ crosses b → a ≡ b
same_crossing a b e = cc e

module _ (tree : PackageTree ℕ) (root : ℕ) (sound : ArePermitted tree) (one : OneEach tree root)
    (no_thread : is_thread_at tree root ≡ false)
    (keys : List ℕ) (order : IsOrder (containment tree) keys) (to : Port) (port : IsThreadPort tree root to) where
  -- by a crossing
  module _ (c : Crossing) (is : walk_back tree root None to.path to.port ≡ crosses c) where
    found : Port → CarriedChain
    found from = record { from = from; to = to; declaration = c.declaration; connection = c.connection }

    pub over : (from : Port) → IsGiver tree root (record { path = c.sub ∷ c.path; port = c.port }) from
        → HasIncoming tree root to
    unfolding found
    over from giver = record {
      one = found from;
      there = refl;
      kind = inl (link_from tree root (found from) c giver.chain port is giver.thread giver.out giver.leads refl refl);
      only = only;
    }
      where
        only : (x : CarriedChain) → IsLink tree root x ⊎ IsFeed tree root x → x.to ≡ to
            → x ≡ record { from = from; to = to; declaration = c.declaration; connection = c.connection }
        only x (inr l) e =
            let m = feed_met tree root sound one no_thread x l in
            let climbs : walk_back tree root None to.path to.port ≡ at_root (Some m.connection) x.from.port =
            ap (λ (p : Port). walk_back tree root None p.path p.port) (sym e) ∙ m.climbs in
            let none : at_root (Some m.connection) x.from.port ≡ crosses c = sym climbs ∙ is in
            absurd (cc none)
        only x (inl l) e =
            let m = link_met tree root sound one no_thread x l in
            let climbs : walk_back tree root None to.path to.port ≡ crosses m.crossing =
            ap (λ (p : Port). walk_back tree root None p.path p.port) (sym e) ∙ m.climbs in
            let same : m.crossing ≡ c = same_crossing m.crossing c (sym climbs ∙ is) in
            let leads =
            subst (λ (y : Crossing).
            Leads tree root m.earlier x.from (record { path = y.sub ∷ y.path; port = y.port })) same m.leads in
            ends_by x (record { from = from; to = to; declaration = c.declaration; connection = c.connection })
            (giver.only m.earlier x.from (inl (m.is_down.thread, m.is_down.out)) leads) e
            (m.declaration_is ∙ ap (λ (y : Crossing). y.declaration) same)
            (m.connection_is ∙ ap (λ (y : Crossing). y.connection) same)

    by_giver : Gives tree root (record { path = c.sub ∷ c.path; port = c.port })
        → HasIncoming tree root to ⊎ HasNoIncoming tree root to
    by_giver (inl g) = inl (over g.0 g.1)
    by_giver (inr none) = inr (traces_none_over tree root sound one no_thread to c is none)

    at_crossing : HasIncoming tree root to ⊎ HasNoIncoming tree root to
    at_crossing =
        let f = crossing_from tree root sound to.path to.port c is in
        by_giver (gives tree root sound one keys order (c.sub ∷ c.path) f.number c.port f.stands f.goes_out)

  by_climb : (r : WalkEnd) → walk_back tree root None to.path to.port ≡ r
      → HasIncoming tree root to ⊎ HasNoIncoming tree root to
  by_climb nowhere e = inr (traces_nothing tree root sound one no_thread to e)
  by_climb (at_root None q) e = inr (traces_itself tree root sound one no_thread to q e)
  by_climb (at_root (Some k) q) e =
      let t =
      traces_root tree root sound one no_thread to k q
      (record { begin = begins.Root q; declaration = root; connection = k }) port e refl in
      inl (record {
        one = carried_chain to (record { begin = begins.Root q; declaration = root; connection = k });
        there = refl;
        kind = inr t.kind;
        only = t.only;
      })
  by_climb (crosses c) e = at_crossing c e

  pub comes : HasIncoming tree root to ⊎ HasNoIncoming tree root to
  comes = by_climb (walk_back tree root None to.path to.port) refl
