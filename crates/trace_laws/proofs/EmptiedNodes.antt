-- Nodes with empty slots: they take the same steps, finish and send as with full ones.
use Rattle.std.proofs.Common.{◌≡◌, ℕ, ◌+◌, nat_lt, Bool, true, false, cond, List, [], ◌∷◌, ◌++◌, map, refl}
use Rattle.std.proofs.Common.{sym, ap, ◌∙◌, zero, suc}
use Rattle.std.specs.Prelude.{slice_index_or, slice_set}
use Rattle.std.proofs.lemmas.List.{map-set}
use Rattle.pals_base.specs.Tuples.{with_places}
use Rattle.pals_runs.specs.declared.phase.Phase.TheVariants.{Between}
use Rattle.bus_machine.specs.Nodes.{NodeState}
use Rattle.bus_machine.specs.NodeEvents.{finished, fired, after_round, part_left}
use Rattle.bus_machine.specs.BusStates.{BusState, no_node, node_at}
use Rattle.bus_machine.specs.declared.plan.Plan.{Plan}
use Rattle.trace_laws.specs.proof.PutOffArrivals.{emptied}

get_or-map : {X Y : Type 0} (f : X → Y) (xs : List X) (k : ℕ) (d : X) → slice_index_or (map f xs) k (f d)
    ≡ f (slice_index_or xs k d)
get_or-map f [] k d = refl
get_or-map f (x ∷ xs) zero d = refl
get_or-map f (x ∷ xs) (suc k) d = get_or-map f xs k d

pub emptied_at : (w t : BusState) (node : ℕ) → t.nodes ≡ map emptied w.nodes → node_at t node ≡ emptied (node_at w node)
emptied_at w t node same = ap (λ ns. slice_index_or ns node no_node) same ∙ get_or-map emptied w.nodes node no_node

-- ---- a node that changes
pub emptied_set : (w t : BusState) (node : ℕ) (m n : NodeState) → t.nodes ≡ map emptied w.nodes → m ≡ emptied n
    → slice_set t.nodes node m ≡ map emptied (slice_set w.nodes node n)
emptied_set w t node m n same is =
    ap (λ ns. slice_set ns node m) same ∙ ap (slice_set (map emptied w.nodes) node) is
    ∙ sym (map-set emptied w.nodes node n)

either_emptied : (b : Bool) (m n : NodeState) → cond b (emptied m) (emptied n) ≡ emptied (cond b m n)
either_emptied true m n = refl
either_emptied false m n = refl

pub finished_emptied : (plan : Plan) (rounds step : ℕ) (n : NodeState)
    → finished plan rounds step (emptied n) ≡ emptied (finished plan rounds step n)
finished_emptied plan rounds step n =
    let result = fired plan step n in
    let outs = with_places step result.outs n.outs in
    either_emptied (nat_lt (step + 1) plan.rate)
    (record n { frame = result.frame; outs = outs; phase = Between (step + 1) })
    (record n {
      frame = result.frame;
      outs = outs;
      phase = after_round rounds n;
      parts = n.parts ++ part_left plan result outs ∷ [];
    })
