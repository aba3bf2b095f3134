-- Either a thread provides the value of an out port of a component, or no connection chain leads to the port. The
-- search downward ends, since the declarations that a declaration contains precede it in an order.
use Rattle.std.proofs.Common.{◌≡◌, ◌⊎◌, inl, inr, ℕ, zero, suc, ◌<◌, Bool, true, false, List, [], ◌∷◌, ◌++◌, reverse}
use Rattle.std.proofs.Common.{Option, Some, None, refl, sym, ap, subst, ◌∙◌, arith}
use Rattle.std.proofs.lemmas.Bool.{true≢false}
use Rattle.std.proofs.lemmas.List.{reverse-reverse}
use Rattle.std.specs.Option.{option_and_then}
use Rattle.aadl_tree.specs.Declarations.{Implementation, PackageTree}
use Rattle.aadl_names.specs.declared.numbered_port.NumberedPort.{NumberedPort}
use Rattle.aadl_names.specs.declared.numbered_port.NumberedPort.TheVariants.{Own}
use Rattle.aadl_names.specs.NameResolution.{implementation_at}
use Rattle.aadl_uses.specs.ContainmentAndUse.{number_at_path}
use Rattle.aadl_uses.specs.proof.PackageContainment.{containment}
use Rattle.aadl_uses.specs.ThreadsBelow.{IsThreadAt}
use Rattle.aadl_uses.specs.proof.ThreadCounts.{is_thread_in}
use Rattle.aadl_uses.specs.proof.IncomingConnections.{connection_into}
use Rattle.aadl_uses.specs.proof.ContainmentOrders.{IsOrder}
use Rattle.aadl_chains.specs.proof.PortsJoinedInside.{is_thread_at, is_in_at}
use Rattle.aadl_chains.specs.Chains.{Port, ConnectionAt, Leads, IsStart}
use Rattle.aadl_chains.specs.proof.PermittedConnections.{ArePermitted}
use Rattle.aadl_chains.specs.proof.UpwardWalks.{OneEach}
use Rattle.aadl_chains.specs.proof.TracedChains.{IsGiver}
use Rattle.aadl_chains.proofs.FirstIncomingConnections.{inner_of}
use Rattle.aadl_chains.proofs.DeclarationRanks.{rank, rank_falls}
use Rattle.aadl_chains.proofs.TracedChains.{Descending, descend_first, descend_more, descend_thread, descend_none}

-- no connection chain leads to a port
abbrev pub NoneLeads : PackageTree ℕ → ℕ → Port → Type 0
NoneLeads tree root end = (cs : List ConnectionAt) (from : Port) → IsStart tree root from → Leads tree root cs from end
    → ⊥

-- a connection chain leads to it, from a thread
abbrev pub Gives : PackageTree ℕ → ℕ → Port → Type 0
Gives tree root end = ((from : Port) × IsGiver tree root end from) ⊎ NoneLeads tree root end

pub thread_here : (tree : PackageTree ℕ) (root : ℕ) (path : List ℕ) (here : ℕ)
    → number_at_path tree root path ≡ Some here
    → is_thread_at tree here ≡ true → IsThreadAt tree root path
thread_here tree root path here stands thread = by (implementation_at tree here) refl
  where
    by : (o : Option (Implementation ℕ)) → implementation_at tree here ≡ o → IsThreadAt tree root path
    by None e = absurd (true≢false (sym thread ∙ ap is_thread_in e))
    by (Some x) e = (x, (ap (option_and_then (implementation_at tree)) stands ∙ e, sym (ap is_thread_in e) ∙ thread))

module _ (tree : PackageTree ℕ) (root : ℕ) (sound : ArePermitted tree) (one : OneEach tree root) (keys : List ℕ)
    (order : IsOrder (containment tree) keys) where
  abbrev Ends : ℕ → Type 0
  Ends fuel =
      (end : Port) (path : List ℕ) (here out : ℕ) → rank keys here < fuel → Descending tree root end path here out
      → Gives tree root end

  by_inner : (fuel : ℕ) → Ends fuel → (end : Port) (path : List ℕ) (here out : ℕ) → rank keys here < suc fuel
      → Descending tree root end path here out
      → (k : ℕ) (source : NumberedPort) → connection_into tree here (Own out) ≡ Some (k, source) → Gives tree root end
  by_inner fuel rest end path here out less d k source e =
      let i = inner_of tree sound here out k source d.goes_out e in
      let falls = rank_falls tree keys order here i.0 i.2 i.4 in
      rest end (path ++ i.0 ∷ []) i.2 i.1 (omega arith)
      (descend_more tree root sound one end path here out k i.0 i.1 i.2
      (e ∙ ap (λ (s : NumberedPort). Some (k, s)) i.3) i.4 d)

  by_into : (fuel : ℕ) → Ends fuel → (end : Port) (path : List ℕ) (here out : ℕ) → rank keys here < suc fuel
      → is_thread_at tree here ≡ false
      → Descending tree root end path here out → (o : Option (ℕ × NumberedPort))
      → connection_into tree here (Own out) ≡ o
      → Gives tree root end
  by_into fuel rest end path here out less thread d None e =
      inr (descend_none tree root sound one end path here out thread e d)
  by_into fuel rest end path here out less thread d (Some (k, source)) e =
      by_inner fuel rest end path here out less d k source e

  by_thread : (fuel : ℕ) → Ends fuel → (end : Port) (path : List ℕ) (here out : ℕ) → rank keys here < suc fuel
      → Descending tree root end path here out
      → (b : Bool) → is_thread_at tree here ≡ b → Gives tree root end
  by_thread fuel rest end path here out less d true e =
      inl (
        record { path = reverse path; port = out },
        descend_thread tree root sound one end path here out e
            (thread_here tree root (reverse path) here d.stands e) d,
      )
  by_thread fuel rest end path here out less d false e =
      by_into fuel rest end path here out less e d (connection_into tree here (Own out)) refl

  ends : (fuel : ℕ) → Ends fuel
  ends zero end path here out less d = absurd (omega arith)
  ends (suc fuel) end path here out less d =
      by_thread fuel (ends fuel) end path here out less d (is_thread_at tree here) refl

  -- from an out port of the component at a path
  pub gives : (path : List ℕ) (here out : ℕ) → number_at_path tree root path ≡ Some here
      → is_in_at tree here out ≡ false
      → Gives tree root (record { path = path; port = out })
  gives path here out stands goes_out =
      let turned : reverse (reverse path) ≡ path = reverse-reverse path in
      subst (λ (p : List ℕ). Gives tree root (record { path = p; port = out })) turned
      (ends (suc (rank keys here)) (record { path = reverse (reverse path); port = out }) (reverse path) here out
      (omega arith)
      (descend_first tree root sound one (reverse path) here out (ap (number_at_path tree root) turned ∙ stands)
      goes_out))
