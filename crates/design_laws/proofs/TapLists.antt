-- All taps, port by port.
use Rattle.std.proofs.Common.{◌≡◌, inl, inr, ℕ, zero, suc, ◌+◌, Bool, true, false, List, [], ◌∷◌, ◌++◌, length, Option}
use Rattle.std.proofs.Common.{Some, None, refl, sym, ap, subst, ◌∙◌, arith}
use Rattle.std.proofs.lemmas.Option.{same_Some}
use Rattle.aadl_tree.specs.Declarations.{PackageTree}
use Rattle.aadl_names.specs.declared.numbered_port.NumberedPort.{NumberedPort}
use Rattle.aadl_names.specs.declared.numbered_port.NumberedPort.TheVariants.{Own, Inner}
use Rattle.aadl_names.specs.NameResolution.{implementation_at, ports_at}
use Rattle.aadl_uses.specs.proof.PackageContainment.{containment}
use Rattle.aadl_uses.specs.ThreadsBelow.{Lists}
use Rattle.aadl_uses.specs.proof.IncomingConnections.{connection_into}
use Rattle.aadl_uses.specs.proof.ContainmentOrders.{IsOrder}
use Rattle.aadl_chains.specs.proof.PortsJoinedInside.{is_thread_at, is_in_at}
use Rattle.aadl_chains.specs.Chains.{Port, Leads}
use Rattle.aadl_chains.specs.proof.PermittedConnections.{ArePermitted}
use Rattle.aadl_chains.proofs.ConnectionsOnChains.{is_in-at, next_at}
use Rattle.aadl_chains.specs.LinksFeedsAndTaps.{CarriedChain, IsTap, PortBefore}
use Rattle.aadl_chains.specs.proof.UpwardWalks.{OneEach}
use Rattle.aadl_chains.specs.proof.TracedChains.{IsGiver}
use Rattle.aadl_chains.proofs.FirstIncomingConnections.{entered, inner_of}
use Rattle.aadl_chains.proofs.CarriedChainsByWalks.{tap_from, tap_met}
use Rattle.aadl_chains.proofs.TracedChains.{no_tap, no_tap_over, ends_by}
use Rattle.aadl_instance.specs.declared.chain.Chain.{Chain}
use Rattle.aadl_instance.specs.InstancesByNumbers.{chain_in}
use Rattle.aadl_instance.specs.proof.ChainsSoFar.{AreTapsTo}
use Rattle.aadl_instance.proofs.ChainsSoFar.{taps_none, taps_more, taps_skip, taps_whole}
use Rattle.aadl_instance.proofs.AddedChains.{in_tap}
use Rattle.design_laws.proofs.OutPortSources.{Gives, gives}

abbrev pair : ℕ → ℕ → ℕ → ℕ × NumberedPort
pair k s p = (k, Inner s p)

same_into : (a b s p t q : ℕ) → Some (pair a s p) ≡ Some (pair b t q) → (a ≡ b) × (s ≡ t) × (p ≡ q)
same_into a b s p t q e =
    let both : pair a s p ≡ pair b t q = same_Some (pair a s p) (pair b t q) e in
    let site : Inner s p ≡ Inner t q = ap (λ (x : ℕ × NumberedPort). x.1) both in
    (ap (λ (x : ℕ × NumberedPort). x.0) both, cc site, cc site)

module _ (tree : PackageTree ℕ) (root : ℕ) (sound : ArePermitted tree) (one : OneEach tree root)
    (no_thread : is_thread_at tree root ≡ false)
    (keys : List ℕ) (order : IsOrder (containment tree) keys) (paths : List (List ℕ)) where
  record Tapped (port : ℕ) : Type 0 where
    taps : List Chain
    are : AreTapsTo tree root paths port taps

  module _ (port : ℕ) (out : is_in_at tree root port ≡ false) (k t q : ℕ)
      (is : connection_into tree root (Own port) ≡ Some (k, Inner t q)) where
    abbrev found : Port → CarriedChain
    found from = record { from = from; to = record { path = []; port = port }; declaration = root; connection = k }

    there : (ends : CarriedChain) (s p : ℕ) → connection_into tree root (Own port) ≡ Some (ends.connection, Inner s p)
        → (cs : List _)
        → Leads tree root cs ends.from (record { path = s ∷ []; port = p })
        → Leads tree root cs ends.from (record { path = t ∷ []; port = q })
    there ends s p e cs leads =
        let same = same_into ends.connection k s p t q (sym e ∙ is) in
        subst (λ (x : ℕ). Leads tree root cs ends.from (record { path = x ∷ []; port = q })) same.1
        (subst (λ (x : ℕ). Leads tree root cs ends.from (record { path = s ∷ []; port = x })) same.2 leads)

    tapped : (from : Port) → IsGiver tree root (record { path = t ∷ []; port = q }) from → Tapped port
        → Tapped (port + 1)
    tapped from giver x = record {
      taps = x.taps ++ chain_in tree root paths (found from) ∷ [];
      are = taps_more tree root paths port x.taps (found from)
          (tap_from tree root (found from) port k t q giver.chain refl
          (is_in-at tree root (record { path = []; port = port }) root refl ∙ out)
          (entered tree root (Own port) (k, Inner t q) is) giver.thread giver.out giver.leads refl refl)
          refl only x.are;
    }
      where
        only : (y : CarriedChain) → IsTap tree root y → y.to ≡ record { path = []; port = port }
            → y ≡ record { from = from; to = record { path = []; port = port }; declaration = root; connection = k }
        only y tap e =
            let m = tap_met tree root sound one no_thread y tap in
            let enters : connection_into tree root (Own port) ≡ Some (y.connection, Inner m.sub m.port) =
            ap (λ (p : Port). connection_into tree root (Own p.port)) (sym e) ∙ m.enters in
            ends_by y (record {
              from = from;
              to = record { path = []; port = port };
              declaration = root;
              connection = k;
            })
            (giver.only m.earlier y.from m.start (there y m.sub m.port enters m.earlier m.leads)) e m.declaration_is
            (same_into y.connection k m.sub m.port t q (sym enters ∙ is)).0

    by_giver : Tapped port → Gives tree root (record { path = t ∷ []; port = q }) → Tapped (port + 1)
    by_giver x (inl g) = tapped g.0 g.1 x
    by_giver x (inr none) =
        record {
          taps = x.taps;
          are =
              taps_skip tree root paths port x.taps (no_tap_over tree root sound one no_thread port k t q is none)
              x.are;
        }

  by_inner : (port : ℕ) → is_in_at tree root port ≡ false → Tapped port → (k : ℕ) (source : NumberedPort)
      → connection_into tree root (Own port) ≡ Some (k, source) → Tapped (port + 1)
  by_inner port out x k source e =
      let i = inner_of tree sound root port k source out e in
      by_giver port out k i.0 i.1 (e ∙ ap (λ (s : NumberedPort). Some (k, s)) i.3) x
      (gives tree root sound one keys order (i.0 ∷ []) i.2 i.1 (next_at tree root [] root i.0 i.2 refl i.4) i.5)

  by_into : (port : ℕ) → is_in_at tree root port ≡ false → Tapped port → (o : Option (ℕ × NumberedPort))
      → connection_into tree root (Own port) ≡ o → Tapped (port + 1)
  by_into port out x None e =
      record {
        taps = x.taps;
        are =
            taps_skip tree root paths port x.taps (no_tap tree root sound one no_thread port e) x.are;
      }
  by_into port out x (Some (k, source)) e = by_inner port out x k source e

  by_way : (port : ℕ) → Tapped port → (b : Bool) → is_in_at tree root port ≡ b → Tapped (port + 1)
  by_way port x true e =
      record {
        taps = x.taps;
        are =
            in_tap tree root paths port no_thread x.taps
            (is_in-at tree root (record { path = []; port = port }) root refl ∙ e) x.are;
      }
  by_way port x false e = by_into port e x (connection_into tree root (Own port)) refl

  all_ports : (port : ℕ) → Tapped port
  all_ports zero = record { taps = []; are = taps_none tree root paths }
  all_ports (suc port) =
      let e : port + 1 ≡ suc port = omega arith in
      subst Tapped e (by_way port (all_ports port) (is_in_at tree root port) refl)

  pub taps : (ends : List CarriedChain) × Lists (IsTap tree root) PortBefore ends
  taps =
      let x = all_ports (length (ports_at tree (implementation_at tree root))) in
      let s =
      taps_whole tree root paths (length (ports_at tree (implementation_at tree root))) x.taps
      (omega arith) x.are in
      (s.ends, s.listed)
