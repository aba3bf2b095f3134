-- The upward trace from an in port and the downward trace from its turning point give the connection chain to the
-- port. For `trace_back` and `trace_tap`.
use Rattle.std.proofs.Common.{◌≡◌, ℕ, false, List, [], ◌∷◌, reverse, Option, Some, None, refl, sym, ap, subst, ◌∙◌}
use Rattle.std.proofs.lemmas.Option.{same_Some}
use Rattle.aadl_tree.specs.Declarations.{PackageTree}
use Rattle.aadl_names.specs.declared.numbered_port.NumberedPort.{NumberedPort}
use Rattle.aadl_names.specs.declared.numbered_port.NumberedPort.TheVariants.{Own, Inner}
use Rattle.aadl_uses.specs.ContainmentAndUse.{below, number_at_path}
use Rattle.aadl_uses.specs.proof.IncomingConnections.{connection_into}
use Rattle.aadl_chains.specs.proof.PortsJoinedInside.{is_thread_at, is_in_at}
use Rattle.aadl_chains.specs.Chains.{Port}
use Rattle.aadl_chains.specs.proof.PermittedConnections.{ArePermitted}
use Rattle.aadl_chains.specs.declared.chain_tracing.ChainStart.{ChainStart}
use Rattle.aadl_chains.specs.declared.chain_tracing.PortBelow.{PortBelow}
use Rattle.aadl_chains.specs.proof.UpwardWalks.{Crossing, at_root, crosses, walk_back, OneEach, IsThreadPort}
use Rattle.aadl_chains.specs.proof.TracedChains.{Descends, Traces, TracesTap}
use Rattle.aadl_chains.specs.proof.WalkResults.{route_from, route_from_root}
use Rattle.aadl_chains.proofs.WalkResults.{crossing_from}
use Rattle.aadl_chains.proofs.TracedChains.{traces_itself, traces_root, traces_none_over, traces_over, no_tap_over}
use Rattle.aadl_chains.proofs.TracedChains.{tap_over}

same_sub : (s p t q : ℕ) → Inner s p ≡ Inner t q → s ≡ t
same_sub s p t q e = cc e

same_port : (s p t q : ℕ) → Inner s p ≡ Inner t q → p ≡ q
same_port s p t q e = cc e

module _ (tree : PackageTree ℕ) (root : ℕ) (sound : ArePermitted tree) (one : OneEach tree root)
    (no_thread : is_thread_at tree root ≡ false) where
  -- at a port of the root
  pub root_route : (to : Port) (last : Option ℕ) (q : ℕ) → IsThreadPort tree root to
      → walk_back tree root None to.path to.port ≡ at_root last q
      → Traces tree root to (route_from_root root last q)
  root_route to None q port is = traces_itself tree root sound one no_thread to q is
  root_route to (Some k) q port is = traces_root tree root sound one no_thread to k q _ port is refl

  -- over a crossing
  over_by : (to : Port) (c : Crossing) (begin : Option ChainStart) → IsThreadPort tree root to
      → walk_back tree root None to.path to.port ≡ crosses c
      → Descends tree root (record { path = c.sub ∷ c.path; port = c.port }) begin
      → Traces tree root to (route_from begin c.declaration c.connection)
  over_by to c None port is d = traces_none_over tree root sound one no_thread to c is d
  over_by to c (Some begin) port is d = traces_over tree root sound one no_thread to c is begin _ port d refl

  pub over_route : (to : Port) (c : Crossing) (begin : Option ChainStart) (way : List ℕ) (lower : PortBelow)
      → IsThreadPort tree root to
      → walk_back tree root None to.path to.port ≡ crosses c → reverse way ≡ c.sub ∷ c.path
      → Inner c.sub c.port ≡ Inner lower.sub lower.port
      → below tree c.declaration lower.sub ≡ Some lower.number
      → (number_at_path tree root (reverse way) ≡ Some lower.number
      → Descends tree root (record { path = reverse way; port = lower.port }) begin)
      → Traces tree root to (route_from begin c.declaration c.connection)
  over_route to c begin way lower port is turned same names descends =
      let f = crossing_from tree root sound to.path to.port c is in
      let sub = same_sub c.sub c.port lower.sub lower.port same in
      let out = same_port c.sub c.port lower.sub lower.port same in
      let number : f.number ≡ lower.number =
      same_Some f.number lower.number (sym f.names ∙ (ap (below tree c.declaration) sub ∙ names)) in
      let d = descends (ap (number_at_path tree root) turned ∙ (f.stands ∙ ap Some number)) in
      over_by to c begin port is
      (subst (λ p. Descends tree root (record { path = c.sub ∷ c.path; port = p }) begin) (sym out)
      (subst (λ l. Descends tree root (record { path = l; port = lower.port }) begin) turned d))

  -- into an out port of the root
  tap_by : (port k t q : ℕ) (begin : Option ChainStart) → connection_into tree root (Own port) ≡ Some (k, Inner t q)
      → is_in_at tree root port ≡ false
      → Descends tree root (record { path = t ∷ []; port = q }) begin
      → TracesTap tree root (record { path = []; port = port }) (route_from begin root k)
  tap_by port k t q None is out d = no_tap_over tree root sound one no_thread port k t q is d
  tap_by port k t q (Some begin) is out d = tap_over tree root sound one no_thread port k t q is begin _ out d refl

  pub tap_route : (port k : ℕ) (source : NumberedPort) (begin : Option ChainStart) (way : List ℕ) (lower : PortBelow)
      → connection_into tree root (Own port) ≡ Some (k, source)
      → is_in_at tree root port ≡ false → reverse way ≡ lower.sub ∷ [] → source ≡ Inner lower.sub lower.port
      → below tree root lower.sub ≡ Some lower.number
      → (number_at_path tree root (reverse way) ≡ Some lower.number
      → Descends tree root (record { path = reverse way; port = lower.port }) begin)
      → TracesTap tree root (record { path = []; port = port }) (route_from begin root k)
  tap_route port k source begin way lower is out turned same names descends =
      tap_by port k lower.sub lower.port begin (is ∙ ap (λ s. Some (k, s)) same) out
      (subst (λ l. Descends tree root (record { path = l; port = lower.port }) begin) turned
      (descends (ap (number_at_path tree root) turned ∙ names)))
