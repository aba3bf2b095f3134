-- Tables with an entry for each declaration, by its number: its wires, and its type.
use Rattle.std.proofs.Common.{◌≡◌, ℕ, zero, suc, ◌<◌, List, [], ◌∷◌, map, length, get_or, slice_get, Option, Some, None}
use Rattle.std.proofs.Common.{refl, sym, ap, ◌∙◌, arith}
use Rattle.std.proofs.lemmas.Option.{same_Some, none-some}
use Rattle.aadl_tree.specs.Declarations.{PackageTree}
use Rattle.aadl_names.specs.NameResolution.{implementation_in}
use Rattle.aadl_uses.specs.declared.connections_by_target.ConnectionPorts.{ConnectionPorts}
use Rattle.aadl_uses.specs.PortsOfConnections.{wires_of, connection_ports_at}
use Rattle.aadl_uses.specs.proof.ImplementationTypes.{type_number_by, type_in, type_number_at}
use Rattle.aadl_uses.specs.proof.IncomingConnections.{wires_in}

module _ {D X : Type 0} (f : D → X) where
  pub listed : (ds : List D) (n : ℕ) (x : X) → slice_get (map f ds) n ≡ Some x
      → (d : D) × (slice_get ds n ≡ Some d) × (f d ≡ x)
  listed [] zero x e = absurd (none-some x e)
  listed [] (suc n) x e = absurd (none-some x e)
  listed (d ∷ ds) zero x e = (d, refl, same_Some (f d) x e)
  listed (d ∷ ds) (suc n) x e = listed ds n x e

  pub unlisted : (ds : List D) (n : ℕ) → slice_get (map f ds) n ≡ None → slice_get ds n ≡ None
  unlisted [] zero e = refl
  unlisted [] (suc n) e = refl
  unlisted (d ∷ ds) zero e = absurd (cc e)
  unlisted (d ∷ ds) (suc n) e = unlisted ds n e

  pub at_number : (ds : List D) (n : ℕ) (other : D) → n < length ds
      → slice_get (map f ds) n ≡ Some (f (get_or ds n other))
  at_number [] n other lt = absurd (omega arith)
  at_number (d ∷ ds) zero other lt = refl
  at_number (d ∷ ds) (suc n) other lt = at_number ds n other (omega arith)

module _ (tree : PackageTree ℕ) where
  -- the connections of a declaration that has some
  pub wires_found : (n : ℕ) (o : Option (List ConnectionPorts)) (wires : List ConnectionPorts)
      → o ≡ slice_get (map (wires_in tree) tree.declarations) n → o ≡ Some wires
      → wires ≡ connection_ports_at tree n
  wires_found n o wires e is =
      let d = listed (wires_in tree) tree.declarations n wires (sym e ∙ is) in
      sym d.2 ∙ sym (ap (λ o. wires_of tree (implementation_in o)) d.1)

  pub wires_none : (n : ℕ) (o : Option (List ConnectionPorts))
      → o ≡ slice_get (map (wires_in tree) tree.declarations) n → o ≡ None
      → [] ≡ connection_ports_at tree n
  wires_none n o e is =
      sym (ap (λ o. wires_of tree (implementation_in o)) (unlisted (wires_in tree) tree.declarations n (sym e ∙ is)))

  pub type_found : (n : ℕ) (o : Option (Option ℕ)) (number : Option ℕ)
      → o ≡ slice_get (map (type_in tree) tree.declarations) n → o ≡ Some number
      → number ≡ type_number_at tree n
  type_found n o number e is =
      let d = listed (type_in tree) tree.declarations n number (sym e ∙ is) in
      sym d.2 ∙ sym (ap (λ o. type_number_by tree (implementation_in o)) d.1)

  pub type_none : (n : ℕ) (o : Option (Option ℕ)) → o ≡ slice_get (map (type_in tree) tree.declarations) n → o ≡ None
      → None ≡ type_number_at tree n
  type_none n o e is =
      sym (ap (λ o. type_number_by tree (implementation_in o))
      (unlisted (type_in tree) tree.declarations n (sym e ∙ is)))
