-- Lemmas on sets of ports: membership after the insertion of one more port.
use Rattle.std.proofs.Common.{◌≡◌, ◌⊎◌, inl, Bool, true, false, ◌&&◌, nat_eq, List, [], ◌∷◌, ◌++◌, Contains, refl, ap}
use Rattle.std.proofs.Common.{◌∙◌, if◌then◌else◌}
use Rattle.std.proofs.lemmas.Bool.{eqb-true, eq-eqb, and_parts}
use Rattle.std.proofs.lemmas.List.Folds.{list_any_at}
use Rattle.std.proofs.lemmas.List.Elements.{Contains-append_left, Contains-push, Contains-push_cases}
use Rattle.indexmap.proofs.CallerLemmas.{Contains-list_any}
use Rattle.aadl_chains.specs.declared.port_set.PortAt.{PortAt}
use Rattle.aadl_chains.specs.proof.PortSets.{same_port, has, with_port}

port_by : (a b : PortAt) → a.declaration ≡ b.declaration → a.port ≡ b.port → a ≡ b
port_by a b first second =
    let one : a ≡ record { declaration = b.declaration; port = a.port } =
    ap (λ n. record { declaration = n; port = a.port }) first in
    let two : record { declaration = b.declaration; port = a.port }
    ≡ b = ap (λ n. record { declaration = b.declaration; port = n }) second in
    one ∙ two

same_port-true : (a b : PortAt) → same_port a b ≡ true → a ≡ b
same_port-true a b e =
    let h = and_parts (nat_eq a.declaration b.declaration) (nat_eq a.port b.port) e in
    port_by a b (eqb-true a.declaration b.declaration h.0) (eqb-true a.port b.port h.1)

itself : (a : PortAt) → same_port a a ≡ true
itself a = ap (λ b. b && nat_eq a.port a.port) (eq-eqb a.declaration a.declaration refl) ∙ eq-eqb a.port a.port refl

pub has-true : (ports : List PortAt) (port : PortAt) → has ports port ≡ true → Contains ports port
has-true ports port e = Contains-list_any same_port same_port-true ports port e

pub has-from : (ports : List PortAt) (port : PortAt) → Contains ports port → has ports port ≡ true
has-from ports port h = list_any_at (same_port port) ports h.0 port h.1 (ap (same_port port) h.2 ∙ itself port)

kept_if : (ports : List PortAt) (port other : PortAt) (b : Bool) → Contains ports other
    → Contains (if b then ports else ports ++ port ∷ []) other
kept_if ports port other true h = h
kept_if ports port other false h = Contains-append_left ports (port ∷ []) other h

pub kept : (ports : List PortAt) (port other : PortAt) → Contains ports other → Contains (with_port ports port) other
kept ports port other h = kept_if ports port other (has ports port) h

added_if : (ports : List PortAt) (port : PortAt) (b : Bool) → has ports port ≡ b
    → Contains (if b then ports else ports ++ port ∷ []) port
added_if ports port true e = has-true ports port e
added_if ports port false e = Contains-push ports port

pub added : (ports : List PortAt) (port : PortAt) → Contains (with_port ports port) port
added ports port = added_if ports port (has ports port) refl

either_if : (ports : List PortAt) (port other : PortAt) (b : Bool)
    → Contains (if b then ports else ports ++ port ∷ []) other
    → Contains ports other ⊎ (port ≡ other)
either_if ports port other true h = inl h
either_if ports port other false h = Contains-push_cases ports port other h

pub either : (ports : List PortAt) (port other : PortAt) → Contains (with_port ports port) other
    → Contains ports other ⊎ (port ≡ other)
either ports port other h = either_if ports port other (has ports port) h
