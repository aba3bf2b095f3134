-- What a product begins with, and how much room that is.
use Rattle.std.proofs.Common.{◌≡◌, ℕ, ◌+◌, List, [], ◌∷◌, length, map, replicate, refl, ap, ap₂}
use Rattle.std.specs.List.{enumerate_from}
use Rattle.std.proofs.lemmas.List.{length-map, length-replicate}
use Rattle.pals_base.specs.declared.basic_types.PortValue.{PortValue}
use Rattle.pals_base.specs.declared.basic_types.PortValue.TheVariants.{Absent}
use Rattle.pals_base.specs.declared.behaviour.VarDecl.{VarDecl}
use Rattle.pals_base.specs.SingleStep.{initial}
use Rattle.std.specs.Prelude.{pos}
use Rattle.pals_model.specs.declared.design.Component.{Component}
use Rattle.pals_model.specs.declared.design.Link.{Link}
use Rattle.pals_model.specs.declared.design.DesignParts.{DesignParts}
use Rattle.pals_model.specs.PortKindsAndRates.{rate_of}
use Rattle.sync_product.specs.proof.ProductStates.{opening_part}
use Rattle.sync_product.specs.proof.ProductSizes.{FrameSize, PartSize, part_size, part_size_of}
use Rattle.sync_product.specs.proof.ComponentWiring.{tap_ports}
use Rattle.sync_product.specs.proof.Rounds.{frames_of}

absent_sizes : (rate : ℕ) (ports : List ℕ)
    → map (λ (tuple : List PortValue). length tuple) (map (λ (port : ℕ). replicate rate Absent) ports)
    ≡ map (λ (port : ℕ). rate) ports
absent_sizes rate [] = refl
absent_sizes rate (port ∷ ports) = ap₂ (λ n ns. n ∷ ns) (length-replicate rate Absent) (absent_sizes rate ports)

size_of_opening : (design : DesignParts) (node : ℕ) (c : Component)
    → part_size (opening_part design node c) ≡ part_size_of c (tap_ports design.taps node)
size_of_opening design node c =
    ap₂ (λ (f : FrameSize) (ns : List ℕ). let s : PartSize = record { frame = f; outs = ns } in s)
    (ap₂ (λ (v h : ℕ). let s : FrameSize = record { vars = v; held = h } in s)
    (length-map c.behaviour.vars (λ (v : VarDecl). v.first))
    (length-replicate (length c.behaviour.ins) (pos 0)))
    (absent_sizes c.rate (tap_ports design.taps node))

pub opening_fits : (design : DesignParts) (from : ℕ) (cs : List Component)
    → map part_size (map (λ (numbered : ℕ × Component). opening_part design numbered.0 numbered.1)
    (enumerate_from from cs))
    ≡ map (λ (numbered : ℕ × Component). part_size_of numbered.1 (tap_ports design.taps numbered.0))
    (enumerate_from from cs)
opening_fits design from [] = refl
opening_fits design from (c ∷ cs) =
    ap₂ (λ s ss. s ∷ ss) (size_of_opening design from c) (opening_fits design (from + 1) cs)

pub opening_frames : (design : DesignParts) (from : ℕ) (cs : List Component)
    → frames_of (map (λ (numbered : ℕ × Component). opening_part design numbered.0 numbered.1) (enumerate_from from cs))
    ≡ map (λ (c : Component). initial c.behaviour) cs
opening_frames design from [] = refl
opening_frames design from (c ∷ cs) = ap (λ fs. initial c.behaviour ∷ fs) (opening_frames design (from + 1) cs)

pub opening_messages_fit : (design : DesignParts) (links : List Link)
    → map (λ (tuple : List PortValue). length tuple)
    (map (λ (link : Link). replicate (rate_of design link.source.0) Absent) links)
    ≡ map (λ (link : Link). rate_of design link.source.0) links
opening_messages_fit design [] = refl
opening_messages_fit design (link ∷ links) =
    ap₂ (λ n ns. n ∷ ns) (length-replicate (rate_of design link.source.0) Absent) (opening_messages_fit design links)
