-- The ports at the ends of connections are declared.
use Rattle.std.proofs.Common.{◌≡◌, ℕ, ◌<◌, true, List, [], ◌∷◌, length, slice_get, Contains, Option, Some, None}
use Rattle.std.proofs.Common.{option_map, refl, sym, ap, subst, ◌∙◌, arith}
use Rattle.std.specs.Option.{option_and_then}
use Rattle.std.proofs.lemmas.Bool.{true≢false}
use Rattle.std.proofs.lemmas.Option.{option_and_then_some, slice_get_within}
use Rattle.list_lemmas.proofs.Elements.{Contains-nil}
use Rattle.list_lemmas.proofs.Options.{option_map-parts}
use Rattle.list_lemmas.proofs.ElementPositions.{position_from-within}
use Rattle.aadl_tree.specs.Names.{Identifier}
use Rattle.aadl_tree.specs.Declarations.{Feature, Subcomponent, ConnectionEnd, Implementation, PackageTree}
use Rattle.aadl_names.specs.declared.numbered_port.NumberedPort.{NumberedPort}
use Rattle.aadl_names.specs.declared.numbered_port.NumberedPort.TheVariants.{Own, Inner}
use Rattle.aadl_names.specs.PackageNameFaults.{goes_in}
use Rattle.aadl_names.specs.NameResolution.{implementation_at, referred, target_of, ports_at, ports_of, port_named}
use Rattle.aadl_names.specs.NameResolution.{sub_named, inner_ports, inner_end_port, end_port_by, end_port}
use Rattle.aadl_names.specs.NameResolution.{subcomponents_of}
use Rattle.aadl_uses.specs.ContainmentAndUse.{below, number_at_path, component_at}
use Rattle.aadl_chains.specs.Chains.{Port, ConnectionAt, port_at, Goes, Leads}
use Rattle.aadl_instance.specs.proof.ChainsSoFar.{HasPort}

-- ---- lists
named_within : (ports : List (Feature ℕ)) (name : List ℕ) (p : ℕ) → port_named ports name ≡ Some p → p < length ports
named_within ports name p e = let lt = position_from-within _ 0 p ports e in omega arith

-- an in port is declared
in_within_by : (ports : List (Feature ℕ)) (p : ℕ) (o : Option (Feature ℕ)) → slice_get ports p ≡ o
    → goes_in (option_map (λ f. f.direction) o) ≡ true
    → p < length ports
in_within_by ports p None e t = absurd (true≢false (sym t))
in_within_by ports p (Some x) e t = slice_get_within ports p x e

pub in_within : (ports : List (Feature ℕ)) (p : ℕ) → goes_in (option_map (λ f. f.direction) (slice_get ports p)) ≡ true
    → p < length ports
in_within ports p t = in_within_by ports p (slice_get ports p) refl t

-- ---- sites
module _ (tree : PackageTree ℕ) (root : ℕ) where
  targets_same : (o : Option (Subcomponent ℕ))
      → option_and_then (target_of tree) o ≡ option_and_then (implementation_at tree)
      (option_and_then (λ sub. referred tree sub.classifier) o)
  targets_same None = refl
  targets_same (Some sub) = refl

  module _ (path : List ℕ) (n : ℕ) (x : Implementation ℕ) (stands : number_at_path tree root path ≡ Some n)
      (is : implementation_at tree n ≡ Some x) where
    here : component_at tree root path ≡ Some x
    here = ap (option_and_then (implementation_at tree)) stands ∙ is

    inside : (s : ℕ) → component_at tree root (s ∷ path)
        ≡ option_and_then (target_of tree) (slice_get x.subcomponents s)
    inside s =
        ap (λ o. option_and_then (implementation_at tree) (option_and_then (λ k. below tree k s) o)) stands
        ∙ (ap (λ o. option_and_then (implementation_at tree)
        (option_and_then (λ (sub : Subcomponent ℕ). referred tree sub.classifier)
        (slice_get (subcomponents_of o) s))) is
        ∙ sym (targets_same (slice_get x.subcomponents s)))

    own_there : (p : ℕ) → p < length (ports_of tree x) → HasPort tree root (port_at path (Own p))
    own_there p lt = subst (λ o. p < length (ports_at tree o)) (sym here) lt

    inner_there : (s p : ℕ) → p < length (inner_ports tree x s) → HasPort tree root (port_at path (Inner s p))
    inner_there s p lt = subst (λ o. p < length (ports_at tree o)) (sym (inside s)) lt

    there_by : (first : Identifier ℕ) (second : Option (Identifier ℕ)) (at : NumberedPort)
        → end_port_by tree x first second ≡ Some at
        → HasPort tree root (port_at path at)
    there_by first None at e =
        let m = option_map-parts Own (port_named (ports_of tree x) first.spelling) at e in
        subst (λ s. HasPort tree root (port_at path s)) m.2
        (own_there m.0 (named_within (ports_of tree x) first.spelling m.0 m.1))
    there_by first (Some port) at e =
        option_and_then_some (inner_end_port tree x port.spelling) (sub_named x.subcomponents first.spelling) at e
        (λ s f g.
        let m = option_map-parts (Inner s) (port_named (inner_ports tree x s) port.spelling) at g in
        subst (λ t. HasPort tree root (port_at path t)) m.2
        (inner_there s m.0 (named_within (inner_ports tree x s) port.spelling m.0 m.1)))

    pub there : (end : ConnectionEnd ℕ) (at : NumberedPort) → end_port tree x end ≡ Some at
        → HasPort tree root (port_at path at)
    unfolding end_port
    there end at e = there_by end.first end.second at e

  -- ---- chains
  leaves_there : (place : ConnectionAt) (from to : Port) → Goes tree root place from to → HasPort tree root from
  leaves_there place from to g =
      subst (HasPort tree root) (sym g.leaves)
      (there place.path g.number g.component g.stands g.is_component g.link.source g.source g.is_source)

  enters_there : (place : ConnectionAt) (from to : Port) → Goes tree root place from to → HasPort tree root to
  enters_there place from to g =
      subst (HasPort tree root) (sym g.enters)
      (there place.path g.number g.component g.stands g.is_component g.link.target g.target g.is_target)

  begins_by : (c : ConnectionAt) (cs : List ConnectionAt) (from to : Port) → Leads tree root (c ∷ cs) from to
      → HasPort tree root from
  begins_by c [] from to l = subst (HasPort tree root) (sym l.1) (leaves_there c l.0 to l.2)
  begins_by c (d ∷ cs) from to l = begins_by d cs from l.0 l.1

  pub begins_there : (chain : List ConnectionAt) (place : ConnectionAt) (from to : Port) → Contains chain place
      → Leads tree root chain from to → HasPort tree root from
  begins_there [] place from to h l = absurd (Contains-nil place h)
  begins_there (c ∷ cs) place from to h l = begins_by c cs from to l

  pub ends_there : (chain : List ConnectionAt) (place : ConnectionAt) (from to : Port) → Contains chain place
      → Leads tree root chain from to → HasPort tree root to
  ends_there [] place from to h l = absurd (Contains-nil place h)
  ends_there (c ∷ cs) place from to h l = enters_there c l.0 to l.2
