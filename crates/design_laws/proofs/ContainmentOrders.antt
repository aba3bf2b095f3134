-- Declarations without cycles have an order in which each follows the declarations that it contains: each pass places
-- one more.
use Rattle.std.proofs.Common.{◌≡◌, ◌⊎◌, inl, inr, ℕ, zero, suc, ◌+◌, ◌<◌, ◌≤◌, Bool, true, false, nat_eq, List, []}
use Rattle.std.proofs.Common.{length, refl, subst, arith}
use Rattle.std.specs.List.{list_all}
use Rattle.indexmap.specs.IndexSet.{insert_key}
use Rattle.std.proofs.lemmas.Bool.{cases_lt}
use Rattle.aadl_uses.specs.proof.ContainmentGraphs.{Graph, targets_in, IsWithin}
use Rattle.aadl_uses.specs.proof.ContainmentOrders.{is_there, IsSequence, IsPlaced, ArePlaced}
use Rattle.aadl_uses.proofs.ContainmentOrders.{misses_by, placed_not, placed_new, none_placed, placed_more, one_more}
use Rattle.aadl_uses.proofs.ContainmentOrders.{all_placed, no_sequence}
use Rattle.design_laws.specs.proof.ReachOrderAndPaths.{IsAcyclic, HasOrder}
use Rattle.design_laws.proofs.DistinctNumbers.{insert_distinct}

-- ---- a declaration
record Placed (g : Graph) (n : ℕ) (old : List ℕ) : Type 0 where
  new : List ℕ
  is : IsPlaced g n old new

by_there : (g : Graph) (n : ℕ) (old : List ℕ) → IsSequence g old → n < length g → (b : Bool)
    → list_all (is_there old) (targets_in g n) ≡ b → Placed g n old
by_there g n old q lt true e =
    record {
      new = insert_key nat_eq old n;
      is = placed_new g n old (insert_key nat_eq old n) lt e refl (insert_distinct old n q.distinct);
    }
by_there g n old q lt false e = record { new = old; is = placed_not g n old (λ h. misses_by g n old e) }

by_declared : (g : Graph) (n : ℕ) (old : List ℕ) → IsSequence g old → (n < length g) ⊎ (length g ≤ n) → Placed g n old
by_declared g n old q (inl lt) = by_there g n old q lt (list_all (is_there old) (targets_in g n)) refl
by_declared g n old q (inr past) = record { new = old; is = placed_not g n old (λ h. absurd (omega arith)) }

placed : (g : Graph) (n : ℕ) (old : List ℕ) → IsSequence g old → Placed g n old
placed g n old q = by_declared g n old q (cases_lt n (length g))

-- ---- a pass
record Round (g : Graph) (at : ℕ) (old : List ℕ) : Type 0 where
  new : List ℕ
  are : ArePlaced g at old new

round : (g : Graph) (at : ℕ) (old : List ℕ) → IsSequence g old → Round g at old
round g zero old q = record { new = old; are = none_placed g old }
round g (suc at) old q =
    let r = round g at old q in
    let p = placed g at r.new (r.are.sequence q) in
    let e : at + 1 ≡ suc at = omega arith in
    subst (λ (n : ℕ). Round g n old) e (record { new = p.new; are = placed_more g at old r.new p.new r.are p.is })

-- ---- passes
record Longer (g : Graph) (n : ℕ) : Type 0 where
  keys : List ℕ
  sequence : IsSequence g keys
  long : n ≤ length keys

next : (g : Graph) (n : ℕ) → IsWithin g → IsAcyclic g → suc n ≤ length g → (l : Longer g n)
    → (length l.keys < length g) ⊎ (length g ≤ length l.keys) → Longer g (suc n)
next g n within acyclic most l (inl fewer) =
    let r = round g (length g) l.keys l.sequence in
    let more = one_more g l.keys r.new within acyclic l.sequence fewer r.are in
    let before = l.long in
    record { keys = r.new; sequence = r.are.sequence l.sequence; long = omega arith }
next g n within acyclic most l (inr all) = record { keys = l.keys; sequence = l.sequence; long = omega arith }

longer : (g : Graph) (n : ℕ) → IsWithin g → IsAcyclic g → n ≤ length g → Longer g n
longer g zero within acyclic most = record { keys = []; sequence = no_sequence g [] refl; long = omega arith }
longer g (suc n) within acyclic most =
    let l = longer g n within acyclic (omega arith) in
    next g n within acyclic most l (cases_lt (length l.keys) (length g))

pub order : (g : Graph) → IsWithin g → IsAcyclic g → HasOrder g
order g within acyclic = let l = longer g (length g) within acyclic (omega arith) in
    (l.keys, all_placed g l.keys l.sequence l.long)
