-- The upward trace of the code, on paths from the outermost subcomponent, equals the trace of the definitions, on
-- paths from the innermost one.
use Rattle.std.proofs.Common.{◌≡◌, ℕ, zero, suc, ◌+◌, ◌<◌, false, List, [], ◌∷◌, ◌++◌, take, reverse, length, get_or}
use Rattle.std.proofs.Common.{Option, Some, None, option_map, refl, sym, ap, subst, ◌∙◌, arith}
use Rattle.std.proofs.lemmas.List.{reverse-append}
use Rattle.aadl_tree.specs.Declarations.{PackageTree}
use Rattle.aadl_names.specs.declared.numbered_port.NumberedPort.{NumberedPort}
use Rattle.aadl_names.specs.declared.numbered_port.NumberedPort.TheVariants.{Own, Inner}
use Rattle.aadl_uses.specs.ContainmentAndUse.{below, number_at_path}
use Rattle.aadl_uses.specs.proof.IncomingConnections.{connection_into}
use Rattle.aadl_chains.specs.proof.PortsJoinedInside.{is_in_at}
use Rattle.aadl_chains.specs.proof.PermittedConnections.{MayLeave, ArePermitted}
use Rattle.aadl_chains.proofs.ConnectionsOnChains.{next_at}
use Rattle.aadl_chains.specs.declared.chain_tracing.ConnectionInto.{ConnectionInto}
use Rattle.aadl_chains.specs.proof.UpwardWalks.{Crossing, WalkEnd, nowhere, crosses, walk_back, walk_back_by}
use Rattle.aadl_chains.specs.proof.UpwardWalks.{walk_back_along}
use Rattle.aadl_chains.specs.proof.UpwardWalks.{walk_back_into}
use Rattle.aadl_chains.specs.proof.WalkResults.{entry}
use Rattle.aadl_chains.proofs.FirstIncomingConnections.{known}
use Rattle.aadl_chains.proofs.ChainsOfWalks.{crossed}

-- ---- one step of a path
taken_more : (path : List ℕ) (d : ℕ) → d < length path → take (d + 1) path ≡ take d path ++ get_or path d 0 ∷ []
taken_more [] d lt = absurd (omega arith)
taken_more (x ∷ path) zero lt = refl
taken_more (x ∷ path) (suc d) lt =
    let next : suc d + 1 ≡ suc (d + 1) = omega arith in
    ap (λ n. take n (x ∷ path)) next ∙ ap (λ xs. x ∷ xs) (taken_more path d (omega arith))

reversed_more : (path : List ℕ) (d : ℕ) → d < length path
    → reverse (take (d + 1) path) ≡ get_or path d 0 ∷ reverse (take d path)
reversed_more path d lt = ap reverse (taken_more path d lt) ∙ reverse-append (take d path) (get_or path d 0 ∷ [])

module _ (tree : PackageTree ℕ) (root : ℕ) where
  -- the position of the trace after a connection
  climb_on : List ℕ → Option ConnectionInto → WalkEnd
  climb_on path None = nowhere
  climb_on path (Some e) = walk_back_by (λ k q. walk_back tree root (Some k) path q) path e.declaration e.connection
      e.source

  on_into : (path : List ℕ) (n : ℕ) (o : Option (ℕ × NumberedPort))
      → walk_back_along (λ k q. walk_back tree root (Some k) path q) path n o
      ≡ climb_on path (option_map (λ from. record { declaration = n; connection = from.0; source = from.1 }) o)
  unfolding climb_on
  on_into path n None = refl
  on_into path n (Some from) = refl

  on_entry : (path : List ℕ) (s p : ℕ) (o : Option ℕ)
      → walk_back_into tree (λ k q. walk_back tree root (Some k) path q) path s p o ≡ climb_on path (entry tree o s p)
  unfolding climb_on
  on_entry path s p None = refl
  on_entry path s p (Some n) = on_into path n (connection_into tree n (Inner s p))

  climbs_on : (last : Option ℕ) (path : List ℕ) (d p : ℕ) → d < length path
      → walk_back tree root last (reverse (take (d + 1) path)) p
      ≡ climb_on (reverse (take d path)) (entry tree (number_at_path tree root (reverse (take d path)))
      (get_or path d 0) p)
  climbs_on last path d p lt =
      ap (λ l. walk_back tree root last l p) (reversed_more path d lt)
      ∙ on_entry (reverse (take d path)) (get_or path d 0) p (number_at_path tree root (reverse (take d path)))

  module _ (last : Option ℕ) (path : List ℕ) (d p : ℕ) (lt : d < length path) where
    pub climbs_nowhere : entry tree (number_at_path tree root (reverse (take d path))) (get_or path d 0) p ≡ None
        → walk_back tree root last (reverse (take (d + 1) path)) p ≡ nowhere
    unfolding climb_on
    climbs_nowhere e = climbs_on last path d p lt ∙ ap (climb_on (reverse (take d path))) e

    pub climbs_own : (x : ConnectionInto) (q : ℕ)
        → entry tree (number_at_path tree root (reverse (take d path))) (get_or path d 0) p ≡ Some x → x.source ≡ Own q
        → walk_back tree root last (reverse (take (d + 1) path)) p
        ≡ walk_back tree root (Some x.connection) (reverse (take d path)) q
    unfolding climb_on
    climbs_own x q e own = climbs_on last path d p lt ∙ (ap (climb_on (reverse (take d path))) e
        ∙ ap (walk_back_by (λ k q. walk_back tree root (Some k) (reverse (take d path)) q) (reverse (take d path))
        x.declaration
        x.connection) own)

    pub climbs_inner : (x : ConnectionInto) (t q : ℕ)
        → entry tree (number_at_path tree root (reverse (take d path))) (get_or path d 0) p ≡ Some x
        → x.source ≡ Inner t q
        → walk_back tree root last (reverse (take (d + 1) path)) p
        ≡ crosses (record {
          path = reverse (take d path);
          declaration = x.declaration;
          connection = x.connection;
          sub = t;
          port = q;
        })
    unfolding climb_on
    climbs_inner x t q e inner = climbs_on last path d p lt ∙ (ap (climb_on (reverse (take d path))) e
        ∙ ap (walk_back_by (λ k q. walk_back tree root (Some k) (reverse (take d path)) q) (reverse (take d path))
        x.declaration
        x.connection) inner)

  -- the implementation at the source of a crossing
  pub record From (c : Crossing) : Type 0 where
    pub number : ℕ
    pub names : below tree c.declaration c.sub ≡ Some number
    pub goes_out : is_in_at tree number c.port ≡ false
    pub stands : number_at_path tree root (c.sub ∷ c.path) ≡ Some number

  pub crossing_from : ArePermitted tree → (path : List ℕ) (p : ℕ) (c : Crossing)
      → walk_back tree root None path p ≡ crosses c → From c
  crossing_from sound path p c is =
      let x = crossed tree root None path p c is in
      let g = x.goes in
      let k =
      known tree root sound (record { path = c.path; connection = c.connection })
      (record { path = c.sub ∷ c.path; port = c.port }) x.target g in
      let m = leaves_by g.number g.source k.leaves x.source_is in
      let names : below tree c.declaration c.sub ≡ Some m.0 = ap (λ n. below tree n c.sub) (sym x.number_is) ∙ m.1 in
      record {
        number = m.0;
        names = names;
        goes_out = m.2;
        stands = next_at tree root c.path c.declaration c.sub m.0 (g.stands ∙ ap Some x.number_is) names;
      }
    where
      leaves_by : (n : ℕ) (source : NumberedPort) → MayLeave tree n source → source ≡ Inner c.sub c.port
          → (m : ℕ) × (below tree n c.sub ≡ Some m) × (is_in_at tree m c.port ≡ false)
      leaves_by n source may e = subst (MayLeave tree n) e may
