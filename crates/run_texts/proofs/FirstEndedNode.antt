-- The first node whose clock ended, as the end of one more node is checked.
use Rattle.std.proofs.Common.{◌≡◌, inl, inr, ℕ, ◌+◌, ◌<◌, List, Option, Some, None, slice_get, refl, ap, ◌∙◌, arith}
use Rattle.std.proofs.lemmas.Bool.{cases_eq}
use Rattle.std.specs.Option.{option_or}
use Rattle.pals_base.specs.declared.basic_types.NodeNo.{NodeNo}
use Rattle.node_threads.specs.declared.node_end.NodeEnd.{NodeEnd}
use Rattle.node_threads.specs.declared.node_end.NodeEnd.TheVariants.{Finished, ClockEnded}
use Rattle.run_texts.specs.proof.NodeEnds.{IsComeEnd, AreFirst}

pub no_ends : (ends : List NodeEnd) → AreFirst ends 0 None
no_ends ends =
    record { each = λ node below. absurd (omega (arith, below)); first = λ node below. absurd (omega (arith, below)) }

module _ (ends : List NodeEnd) (many : ℕ) where
  one_more : (e : NodeEnd) → slice_get ends many ≡ Some e → IsComeEnd e
      → ((node : ℕ) → node < many → (e : NodeEnd) × (slice_get ends node ≡ Some e) × IsComeEnd e)
      → (node : ℕ) → node < many + 1 → (e : NodeEnd) × (slice_get ends node ≡ Some e) × IsComeEnd e
  one_more e is come each node below = elim (cases_eq node many) [
    | inl same ↦ (e, ap (slice_get ends) same ∙ is, come)
    | inr other ↦ each node (omega (arith, below, other))
  ]

  -- a node that is done
  pub one_done : (named : Option (NodeNo × ℕ)) → AreFirst ends many named → slice_get ends many ≡ Some Finished
      → AreFirst ends (many + 1) named
  one_done None are is = record {
    each = one_more Finished is (inl refl) are.each;
    first = λ node below. elim (cases_eq node many) [
      | inl same ↦ ap (slice_get ends) same ∙ is
      | inr other ↦ are.first node (omega (arith, below, other))
    ];
  }
  one_done (Some named) are is = record {
    each = one_more Finished is (inl refl) are.each;
    first = (let before = are.first.0 in omega (arith, before), are.first.1, are.first.2);
  }

  -- one whose list has ended, where none before it has
  pub first_one : (node : NodeNo) (goal : ℕ) → node.0 ≡ many → AreFirst ends many None
      → slice_get ends many ≡ Some (ClockEnded goal)
      → AreFirst ends (many + 1) (Some (node, goal))
  first_one node goal same are is = record {
    each = one_more (ClockEnded goal) is (inr (goal, refl)) are.each;
    first = (
      omega (arith, same),
      ap (slice_get ends) same ∙ is,
      λ other before. are.first other (omega (arith, before, same)),
    );
  }

  -- and where one has
  pub another : (named : NodeNo × ℕ) (goal : ℕ) → AreFirst ends many (Some named)
      → slice_get ends many ≡ Some (ClockEnded goal)
      → AreFirst ends (many + 1) (Some named)
  another named goal are is = record {
    each = one_more (ClockEnded goal) is (inr (goal, refl)) are.each;
    first = (let before = are.first.0 in omega (arith, before), are.first.1, are.first.2);
  }

-- one whose list has ended, whatever the ends before it
pub ended_next : (ends : List NodeEnd) (many : ℕ) (named : Option (NodeNo × ℕ)) (node : NodeNo) (goal : ℕ)
    → node.0 ≡ many → AreFirst ends many named
    → slice_get ends many ≡ Some (ClockEnded goal) → AreFirst ends (many + 1) (option_or named (Some (node, goal)))
ended_next ends many None node goal same are is = first_one ends many node goal same are is
ended_next ends many (Some named) node goal same are is = another ends many named goal are is
