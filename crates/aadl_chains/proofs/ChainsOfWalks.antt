-- The connections on the backward trace from an in port of a thread are a chain to that port.
use Rattle.std.proofs.Common.{◌≡◌, ◌⊎◌, inl, inr, ℕ, List, [], ◌∷◌, Contains, Option, Some, None, refl, sym, ap, subst}
use Rattle.std.proofs.Common.{◌∙◌}
use Rattle.std.proofs.lemmas.Option.{same_Some}
use Rattle.list_lemmas.proofs.Elements.{Contains-head, Contains-cons}
use Rattle.aadl_tree.specs.Declarations.{PackageTree}
use Rattle.aadl_names.specs.declared.numbered_port.NumberedPort.{NumberedPort}
use Rattle.aadl_names.specs.declared.numbered_port.NumberedPort.TheVariants.{Own, Inner}
use Rattle.aadl_uses.specs.ContainmentAndUse.{number_at_path}
use Rattle.aadl_uses.specs.proof.IncomingConnections.{connection_into}
use Rattle.aadl_chains.specs.Chains.{Port, ConnectionAt, Goes, Leads}
use Rattle.aadl_chains.specs.proof.UpwardWalks.{Crossing, WalkEnd, nowhere, at_root, crosses, walk_back_along}
use Rattle.aadl_chains.specs.proof.UpwardWalks.{walk_back_into, walk_back}
use Rattle.aadl_chains.proofs.FirstIncomingConnections.{Entered, entered, goes_into}

abbrev port : List ℕ → ℕ → Port
port path p = record { path = path; port = p }

abbrev place : List ℕ → ℕ → ConnectionAt
place path k = record { path = path; connection = k }

-- ---- ends of traces
module _ (tree : PackageTree ℕ) (root : ℕ) where
  pub climb_none : (last : Option ℕ) (path : List ℕ) (s p n : ℕ) → number_at_path tree root path ≡ Some n
      → connection_into tree n (Inner s p) ≡ None
      → walk_back tree root last (s ∷ path) p ≡ nowhere
  climb_none last path s p n e f =
      ap (walk_back_into tree (λ k q. walk_back tree root (Some k) path q) path s p) e
      ∙ ap (walk_back_along (λ k q. walk_back tree root (Some k) path q) path n) f

  pub climb_own : (last : Option ℕ) (path : List ℕ) (s p n k q : ℕ) → number_at_path tree root path ≡ Some n
      → connection_into tree n (Inner s p) ≡ Some (k, Own q)
      → walk_back tree root last (s ∷ path) p ≡ walk_back tree root (Some k) path q
  climb_own last path s p n k q e f =
      ap (walk_back_into tree (λ k q. walk_back tree root (Some k) path q) path s p) e
      ∙ ap (walk_back_along (λ k q. walk_back tree root (Some k) path q) path n) f

  pub climb_inner : (last : Option ℕ) (path : List ℕ) (s p n k t q : ℕ) → number_at_path tree root path ≡ Some n
      → connection_into tree n (Inner s p) ≡ Some (k, Inner t q)
      → walk_back tree root last (s ∷ path) p
      ≡ crosses (record { path = path; declaration = n; connection = k; sub = t; port = q })
  climb_inner last path s p n k t q e f =
      ap (walk_back_into tree (λ k q. walk_back tree root (Some k) path q) path s p) e
      ∙ ap (walk_back_along (λ k q. walk_back tree root (Some k) path q) path n) f

  -- the first connection on a trace, unless the trace ends
  pub data Turn (last : Option ℕ) (path : List ℕ) (s p : ℕ) (r : WalkEnd) : Type 0 where
    stops : r ≡ nowhere → Turn last path s p r
    up : (n k q : ℕ) → number_at_path tree root path ≡ Some n → Entered tree n (Inner s p) k (Own q)
        → walk_back tree root (Some k) path q ≡ r → Turn last path s p r
    over : (n k t q : ℕ) → number_at_path tree root path ≡ Some n → Entered tree n (Inner s p) k (Inner t q)
        → r ≡ crosses (record { path = path; declaration = n; connection = k; sub = t; port = q })
        → Turn last path s p r

  turn_at : (last : Option ℕ) (path : List ℕ) (s p n k : ℕ) (r : WalkEnd) (source : NumberedPort)
      → number_at_path tree root path ≡ Some n
      → connection_into tree n (Inner s p) ≡ Some (k, source) → walk_back tree root last (s ∷ path) p ≡ r
      → Turn last path s p r
  turn_at last path s p n k r (Own q) e i is =
      up n k q e (entered tree n (Inner s p) (k, Own q) i) (sym (climb_own last path s p n k q e i) ∙ is)
  turn_at last path s p n k r (Inner t q) e i is = over n k t q e (entered tree n (Inner s p) (k, Inner t q) i)
      (sym is ∙ climb_inner last path s p n k t q e i)

  turn_along : (last : Option ℕ) (path : List ℕ) (s p n : ℕ) (r : WalkEnd) (o : Option (ℕ × NumberedPort))
      → number_at_path tree root path ≡ Some n
      → connection_into tree n (Inner s p) ≡ o → walk_back tree root last (s ∷ path) p ≡ r → Turn last path s p r
  turn_along last path s p n r None e i is = stops (sym is ∙ climb_none last path s p n e i)
  turn_along last path s p n r (Some from) e i is = turn_at last path s p n from.0 r from.1 e i is

  turn_by : (last : Option ℕ) (path : List ℕ) (s p : ℕ) (r : WalkEnd) (o : Option ℕ) → number_at_path tree root path ≡ o
      → walk_back tree root last (s ∷ path) p ≡ r → Turn last path s p r
  turn_by last path s p r None e is =
      stops (sym is ∙ ap (walk_back_into tree (λ k q. walk_back tree root (Some k) path q) path s p) e)
  turn_by last path s p r (Some n) e is = turn_along last path s p n r (connection_into tree n (Inner s p)) e refl is

  pub turn : (last : Option ℕ) (path : List ℕ) (s p : ℕ) (r : WalkEnd) → walk_back tree root last (s ∷ path) p ≡ r
      → Turn last path s p r
  turn last path s p r is = turn_by last path s p r (number_at_path tree root path) refl is

  -- ---- a trace is a chain
  -- the last connection of the trace is in the root's implementation
  pub record Rooted (last : Option ℕ) (path : List ℕ) (p : ℕ) (l : Option ℕ) (q : ℕ) : Type 0 where
    pub chain : List ConnectionAt
    pub leads : Leads tree root chain (port [] q) (port path p)
    pub by_last : ((path ≡ []) × (l ≡ last) × (q ≡ p))
        ⊎ ((k s r : ℕ) × (l ≡ Some k) × Contains chain (place [] k) × Entered tree root (Inner s r) k (Own q))

  same_root : (l m : Option ℕ) (q r : ℕ) → at_root l q ≡ at_root m r → (l ≡ m) × (q ≡ r)
  same_root l m q r e = (cc e, cc e)

  not_root : (l : Option ℕ) (q : ℕ) (c : Crossing) → at_root l q ≡ crosses c → ⊥
  not_root l q c e = cc e

  pub rooted : (last : Option ℕ) (path : List ℕ) (p : ℕ) (l : Option ℕ) (q : ℕ)
      → walk_back tree root last path p ≡ at_root l q → Rooted last path p l q
  rooted last [] p l q is =
      let same = same_root last l p q is in
      record { chain = []; leads = ap (port []) (sym same.1); by_last = inl (refl, sym same.0, sym same.1) }
  rooted last (s ∷ path) p l q is = by (λ k o f. rooted (Some k) path o l q f) (turn last path s p (at_root l q) is)
    where
      more : (n k o : ℕ) → number_at_path tree root path ≡ Some n → Entered tree n (Inner s p) k (Own o)
          → Rooted (Some k) path o l q
          → Rooted last (s ∷ path) p l q
      more n k o e x r = record {
        chain = place path k ∷ r.chain;
        leads = (port path o, r.leads, (goes_into tree root path n (Inner s p) k (Own o) e x).0);
        by_last = inr (last_of r.by_last);
      }
        where
          last_of : ((path ≡ []) × (l ≡ Some k) × (q ≡ o)) ⊎ ((j t u : ℕ) × (l ≡ Some j) × Contains r.chain (place [] j)
              × Entered tree root (Inner t u) j (Own q))
              → (j t u : ℕ) × (l ≡ Some j) × Contains (place path k ∷ r.chain) (place [] j)
              × Entered tree root (Inner t u) j (Own q)
          last_of (inl h) =
              let is_root : n ≡ root = sym (same_Some root n (sym (ap (number_at_path tree root) h.0) ∙ e)) in (
                k,
                s,
                p,
                h.1,
                subst (λ (x : List ℕ). Contains (place path k ∷ r.chain) (place x k)) h.0
                    (Contains-head (place path k) r.chain),
                subst (λ i. Entered tree i (Inner s p) k (Own q)) is_root
                    (subst (λ i. Entered tree n (Inner s p) k (Own i)) (sym h.2) x),
              )
          last_of (inr h) = (h.0, h.1, h.2, h.3, Contains-cons (place path k) (place [] h.0) r.chain h.4, h.5)

      by : ((k o : ℕ) → walk_back tree root (Some k) path o ≡ at_root l q → Rooted (Some k) path o l q)
          → Turn last path s p (at_root l q)
          → Rooted last (s ∷ path) p l q
      by rest (stops e) = absurd (cc e)
      by rest (up n k o e x f) = more n k o e x (rest k o f)
      by rest (over n k t o e x f) = absurd (cc f)

  -- the trace from a crossing
  pub record Crossed (path : List ℕ) (p : ℕ) (c : Crossing) : Type 0 where
    pub chain : List ConnectionAt
    pub target : Port
    pub sub : ℕ
    pub target_port : ℕ
    pub leads : Leads tree root chain target (port path p)
    pub goes : Goes tree root (place c.path c.connection) (port (c.sub ∷ c.path) c.port) target
    pub number_is : goes.number ≡ c.declaration
    pub source_is : goes.source ≡ Inner c.sub c.port
    pub target_is : goes.target ≡ Inner sub target_port

  pub crossed : (last : Option ℕ) (path : List ℕ) (p : ℕ) (c : Crossing) → walk_back tree root last path p ≡ crosses c
      → Crossed path p c
  crossed last [] p c is = absurd (not_root last p c is)
  crossed last (s ∷ path) p c is = by (λ k q f. crossed (Some k) path q c f) (turn last path s p (crosses c) is)
    where
      here : (n k t q : ℕ) → number_at_path tree root path ≡ Some n → Entered tree n (Inner s p) k (Inner t q)
          → Crossed (s ∷ path) p (record { path = path; declaration = n; connection = k; sub = t; port = q })
      here n k t q e x =
          let g = goes_into tree root path n (Inner s p) k (Inner t q) e x in
          record {
            chain = [];
            target = port (s ∷ path) p;
            sub = s;
            target_port = p;
            leads = refl;
            goes = g.0;
            number_is = g.1;
            source_is = g.2;
            target_is = g.3;
          }

      by : ((k q : ℕ) → walk_back tree root (Some k) path q ≡ crosses c → Crossed path q c)
          → Turn last path s p (crosses c)
          → Crossed (s ∷ path) p c
      by rest (stops e) = absurd (cc e)
      by rest (up n k q e x f) =
          let r = rest k q f in
          record {
            chain = place path k ∷ r.chain;
            target = r.target;
            sub = r.sub;
            target_port = r.target_port;
            leads = (port path q, r.leads, (goes_into tree root path n (Inner s p) k (Own q) e x).0);
            goes = r.goes;
            number_is = r.number_is;
            source_is = r.source_is;
            target_is = r.target_is;
          }
      by rest (over n k t q e x f) = subst (Crossed (s ∷ path) p) (sym (same_crossing c _ f)) (here n k t q e x)
        where
          same_crossing : (a b : Crossing) → crosses a ≡ crosses b → a ≡ b
          same_crossing a b e = cc e
