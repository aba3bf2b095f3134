-- The traces below an implementation are the traces below its subcomponents, extended by one connection.
use Rattle.std.proofs.Common.{◌≡◌, ◌⊎◌, inl, inr, ℕ, true, List, [], ◌∷◌, ◌++◌, slice_get, Option, Some, None}
use Rattle.std.proofs.Common.{option_map, refl, sym, ap, subst, ◌∙◌}
use Rattle.std.specs.Option.{option_and_then}
use Rattle.std.proofs.lemmas.Option.{none-some}
use Rattle.aadl_tree.specs.Declarations.{Feature, PackageTree}
use Rattle.aadl_names.specs.declared.numbered_port.NumberedPort.{NumberedPort}
use Rattle.aadl_names.specs.declared.numbered_port.NumberedPort.TheVariants.{Own, Inner}
use Rattle.aadl_names.specs.NameResolution.{implementation_at, ports_at}
use Rattle.aadl_names.specs.PackageNameFaults.{goes_in}
use Rattle.aadl_uses.specs.ContainmentAndUse.{below, number_at_path, component_at}
use Rattle.aadl_uses.specs.ThreadsBelow.{IsThreadAt}
use Rattle.aadl_uses.specs.proof.ThreadCounts.{is_thread_in}
use Rattle.aadl_uses.specs.proof.IncomingConnections.{connection_into}
use Rattle.aadl_chains.specs.proof.PortsJoinedInside.{is_thread_at}
use Rattle.aadl_chains.specs.Chains.{Port, is_in}
use Rattle.aadl_chains.specs.proof.UpwardWalks.{Crossing, WalkEnd, nowhere, at_root, crosses, walk_back_by}
use Rattle.aadl_chains.specs.proof.UpwardWalks.{walk_back_along, walk_back_into}
use Rattle.aadl_chains.specs.proof.UpwardWalks.{walk_back, IsThreadPort}
use Rattle.aadl_chains.proofs.FirstIncomingConnections.{Entered, entered}

abbrev port : List ℕ → ℕ → Port
port path p = record { path = path; port = p }

-- ---- paths by their outermost subcomponents
pub last_of : (path : List ℕ) → (path ≡ []) ⊎ ((s : ℕ) × (inner : List ℕ) × (path ≡ inner ++ s ∷ []))
last_of [] = inl refl
last_of (u ∷ path) = by (last_of path)
  where
    by : (path ≡ []) ⊎ ((s : ℕ) × (inner : List ℕ) × (path ≡ inner ++ s ∷ []))
        → (u ∷ path ≡ []) ⊎ ((s : ℕ) × (inner : List ℕ) × (u ∷ path ≡ inner ++ s ∷ []))
    by (inl e) = inr (u, [], ap (λ p. u ∷ p) e)
    by (inr h) = inr (h.0, u ∷ h.1, ap (λ p. u ∷ p) h.2)

never_one : (u v s t : ℕ) (path : List ℕ) → s ∷ [] ≡ u ∷ v ∷ path → ⊥
never_one u v s t path e = let none : [] ≡ v ∷ path = cc e in cc none

pub same_ends : (a b : List ℕ) (s t : ℕ) → a ++ s ∷ [] ≡ b ++ t ∷ [] → (a ≡ b) × (s ≡ t)
same_ends [] [] s t e = (refl, cc e)
same_ends [] (v ∷ []) s t e = absurd (never_one v t s t [] e)
same_ends [] (v ∷ w ∷ b) s t e = absurd (never_one v w s t (b ++ t ∷ []) e)
same_ends (u ∷ []) [] s t e = absurd (never_one u s t s [] (sym e))
same_ends (u ∷ w ∷ a) [] s t e = absurd (never_one u w t s (a ++ s ∷ []) (sym e))
same_ends (u ∷ a) (v ∷ b) s t e =
    let head : u ≡ v = cc e in
    let rest : a ++ s ∷ [] ≡ b ++ t ∷ [] = cc e in
    let r = same_ends a b s t rest in
    (cc (head, r.0), r.1)

module _ (tree : PackageTree ℕ) where
  -- ---- the implementations below a subcomponent
  module _ (n s m : ℕ) (there : below tree n s ≡ Some m) where
    pub standing_inner : (path : List ℕ) → number_at_path tree n (path ++ s ∷ []) ≡ number_at_path tree m path
    standing_inner [] = there
    standing_inner (u ∷ path) = ap (option_and_then (λ k. below tree k u)) (standing_inner path)

    component_inner : (path : List ℕ) → component_at tree n (path ++ s ∷ []) ≡ component_at tree m path
    component_inner path = ap (option_and_then (implementation_at tree)) (standing_inner path)

    is_in_inner : (path : List ℕ) (p : ℕ) → is_in tree n (port (path ++ s ∷ []) p) ≡ is_in tree m (port path p)
    is_in_inner path p =
        ap (λ o. goes_in (option_map (λ (f : Feature ℕ). f.direction) (slice_get (ports_at tree o) p)))
        (component_inner path)

    pub port_outer : (path : List ℕ) (p : ℕ) → IsThreadPort tree m (port path p)
        → IsThreadPort tree n (port (path ++ s ∷ []) p)
    port_outer path p t = ((t.0.0, (component_inner path ∙ t.0.1.0, t.0.1.1)), is_in_inner path p ∙ t.1)

    pub port_inner : (path : List ℕ) (p : ℕ) → IsThreadPort tree n (port (path ++ s ∷ []) p)
        → IsThreadPort tree m (port path p)
    port_inner path p t = ((t.0.0, (sym (component_inner path) ∙ t.0.1.0, t.0.1.1)), sym (is_in_inner path p) ∙ t.1)

    -- ---- a trace, one level further out
    pub outer : WalkEnd → WalkEnd
    outer nowhere = nowhere
    outer (at_root l p) = walk_back_along (λ k q. at_root (Some k) q) [] n (connection_into tree n (Inner s p))
    outer (crosses c) =
        crosses (record {
          path = c.path ++ s ∷ [];
          declaration = c.declaration;
          connection = c.connection;
          sub = c.sub;
          port = c.port;
        })

    outer_by : (up wide : ℕ → ℕ → WalkEnd) → ((k q : ℕ) → wide k q ≡ outer (up k q))
        → (path : List ℕ) (j k : ℕ) (source : NumberedPort)
        → walk_back_by wide (path ++ s ∷ []) j k source ≡ outer (walk_back_by up path j k source)
    unfolding outer
    outer_by up wide same path j k (Own q) = same k q
    outer_by up wide same path j k (Inner t q) = refl

    outer_along : (up wide : ℕ → ℕ → WalkEnd) → ((k q : ℕ) → wide k q ≡ outer (up k q))
        → (path : List ℕ) (j : ℕ) (o : Option (ℕ × NumberedPort))
        → walk_back_along wide (path ++ s ∷ []) j o ≡ outer (walk_back_along up path j o)
    unfolding outer
    outer_along up wide same path j None = refl
    outer_along up wide same path j (Some from) = outer_by up wide same path j from.0 from.1

    outer_into : (up wide : ℕ → ℕ → WalkEnd) → ((k q : ℕ) → wide k q ≡ outer (up k q))
        → (path : List ℕ) (u p : ℕ) (o : Option ℕ)
        → walk_back_into tree wide (path ++ s ∷ []) u p o ≡ outer (walk_back_into tree up path u p o)
    unfolding outer
    outer_into up wide same path u p None = refl
    outer_into up wide same path u p (Some j) = outer_along up wide same path j (connection_into tree j (Inner u p))

    pub climb_outer : (last : Option ℕ) (path : List ℕ) (p : ℕ)
        → walk_back tree n last (path ++ s ∷ []) p ≡ outer (walk_back tree m last path p)
    unfolding outer
    climb_outer last [] p = refl
    climb_outer last (u ∷ path) p =
        ap (walk_back_into tree (λ k q. walk_back tree n (Some k) (path ++ s ∷ []) q) (path ++ s ∷ []) u p)
        (standing_inner path)
        ∙ outer_into (λ k q. walk_back tree m (Some k) path q) (λ k q. walk_back tree n (Some k) (path ++ s ∷ []) q)
        (λ k q. climb_outer (Some k) path q) path u p
        (number_at_path tree m path)

    -- ---- the source of a trace one level further out
    root_by : (p k : ℕ) (l : Option ℕ) (q : ℕ) (source : NumberedPort)
        → connection_into tree n (Inner s p) ≡ Some (k, source)
        → walk_back_by (λ k q. at_root (Some k) q) [] n k source ≡ at_root l q → Entered tree n (Inner s p) k (Own q)
    root_by p k l q (Own r) i is =
        let same : r ≡ q = cc is in
        subst (λ x. Entered tree n (Inner s p) k (Own x)) same (entered tree n (Inner s p) (k, Own r) i)
    root_by p k l q (Inner t r) i is = absurd (cc is)

    root_along : (p : ℕ) (l : Option ℕ) (q : ℕ) (o : Option (ℕ × NumberedPort)) → connection_into tree n (Inner s p) ≡ o
        → walk_back_along (λ k q. at_root (Some k) q) [] n o ≡ at_root l q
        → (k : ℕ) × Entered tree n (Inner s p) k (Own q)
    root_along p l q None i is = absurd (cc is)
    root_along p l q (Some from) i is = (from.0, root_by p from.0 l q from.1 i is)

    pub root_outer : (r : WalkEnd) (l : Option ℕ) (q : ℕ) → outer r ≡ at_root l q
        → (last : Option ℕ) × (p k : ℕ) × (r ≡ at_root last p) × Entered tree n (Inner s p) k (Own q)
    unfolding outer
    root_outer nowhere l q is = absurd (cc is)
    root_outer (at_root last p) l q is = let e = root_along p l q (connection_into tree n (Inner s p)) refl is in
        (last, p, e.0, refl, e.1)
    root_outer (crosses c) l q is = absurd (cc is)

    -- a crossing further in, or of the implementation itself
    pub record Within (r : WalkEnd) (c : Crossing) : Type 0 where
      pub crossing : Crossing
      pub is : r ≡ crosses crossing
      pub declaration_is : crossing.declaration ≡ c.declaration
      pub sub_is : crossing.sub ≡ c.sub
      pub port_is : crossing.port ≡ c.port

    pub record Itself (r : WalkEnd) (c : Crossing) : Type 0 where
      pub last : Option ℕ
      pub port : ℕ
      pub connection : ℕ
      pub is : r ≡ at_root last port
      pub enters : Entered tree n (Inner s port) connection (Inner c.sub c.port)
      pub declaration_is : c.declaration ≡ n

    crossing_by : (last : Option ℕ) (p k : ℕ) (c : Crossing) (source : NumberedPort)
        → connection_into tree n (Inner s p) ≡ Some (k, source)
        → walk_back_by (λ k q. at_root (Some k) q) [] n k source ≡ crosses c → Itself (at_root last p) c
    crossing_by last p k c (Own r) i is = absurd (cc is)
    crossing_by last p k c (Inner t r) i is =
        let same : record { path = []; declaration = n; connection = k; sub = t; port = r } ≡ c = cc is in
        record {
          last = last;
          port = p;
          connection = k;
          is = refl;
          enters =
              subst (λ (x : Crossing). Entered tree n (Inner s p) k (Inner x.sub x.port)) same
              (entered tree n (Inner s p) (k, Inner t r) i);
          declaration_is = ap (λ (x : Crossing). x.declaration) (sym same);
        }

    crossing_along : (last : Option ℕ) (p : ℕ) (c : Crossing) (o : Option (ℕ × NumberedPort))
        → connection_into tree n (Inner s p) ≡ o
        → walk_back_along (λ k q. at_root (Some k) q) [] n o ≡ crosses c → Itself (at_root last p) c
    crossing_along last p c None i is = absurd (cc is)
    crossing_along last p c (Some from) i is = crossing_by last p from.0 c from.1 i is

    pub crossing_outer : (r : WalkEnd) (c : Crossing) → outer r ≡ crosses c → Within r c ⊎ Itself r c
    unfolding outer
    crossing_outer nowhere c is = absurd (cc is)
    crossing_outer (at_root last p) c is = inr (crossing_along last p c (connection_into tree n (Inner s p)) refl is)
    crossing_outer (crosses x) c is =
        let same : record {
          path = x.path ++ s ∷ [];
          declaration = x.declaration;
          connection = x.connection;
          sub = x.sub;
          port = x.port;
        } ≡ c = cc is in
        inl (record {
          crossing = x;
          is = refl;
          declaration_is = ap (λ (y : Crossing). y.declaration) same;
          sub_is = ap (λ (y : Crossing). y.sub) same;
          port_is = ap (λ (y : Crossing). y.port) same;
        })

    pub crossing_kept : (r : WalkEnd) (x : Crossing) → r ≡ crosses x
        → outer r ≡ crosses (record {
          path = x.path ++ s ∷ [];
          declaration = x.declaration;
          connection = x.connection;
          sub = x.sub;
          port = x.port;
        })
    unfolding outer
    crossing_kept r x e = ap outer e

    pub root_kept : (r : WalkEnd) (last : Option ℕ) (p k q : ℕ) → r ≡ at_root last p
        → connection_into tree n (Inner s p) ≡ Some (k, Own q)
        → outer r ≡ at_root (Some k) q
    unfolding outer
    root_kept r last p k q e i = ap outer e ∙ ap (walk_back_along (λ k q. at_root (Some k) q) [] n) i

    pub root_crosses : (r : WalkEnd) (last : Option ℕ) (p k t q : ℕ) → r ≡ at_root last p
        → connection_into tree n (Inner s p) ≡ Some (k, Inner t q)
        → outer r ≡ crosses (record { path = []; declaration = n; connection = k; sub = t; port = q })
    unfolding outer
    root_crosses r last p k t q e i = ap outer e ∙ ap (walk_back_along (λ k q. at_root (Some k) q) [] n) i

  -- ---- an implementation at a path is below a subcomponent
  none_inner : (n s : ℕ) (path : List ℕ) → below tree n s ≡ None → number_at_path tree n (path ++ s ∷ []) ≡ None
  none_inner n s [] e = e
  none_inner n s (u ∷ path) e = ap (option_and_then (λ k. below tree k u)) (none_inner n s path e)

  pub below_of : (n s : ℕ) (path : List ℕ) → IsThreadAt tree n (path ++ s ∷ []) → (m : ℕ) × (below tree n s ≡ Some m)
  below_of n s path t = by (below tree n s) refl
    where
      by : (o : Option ℕ) → below tree n s ≡ o → (m : ℕ) × (o ≡ Some m)
      by None e =
          absurd (none-some t.0 (sym (ap (option_and_then (implementation_at tree)) (none_inner n s path e)) ∙ t.1.0))
      by (Some m) e = (m, refl)

  pub thread_itself : (n : ℕ) → IsThreadAt tree n [] → is_thread_at tree n ≡ true
  thread_itself n t = ap is_thread_in t.1.0 ∙ t.1.1
