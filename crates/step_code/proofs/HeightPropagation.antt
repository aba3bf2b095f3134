-- The places to which an instruction passes its stack height exist, and each of them is set.
use Rattle.std.proofs.Common.{◌≡◌, inl, ℕ, ◌<◌, List, length, Option, Some, None, option_to_list, refl, sym, subst}
use Rattle.std.proofs.Common.{⊎_elim}
use Rattle.std.specs.Prelude.{◌⊎◌, slice_set}
use Rattle.std.proofs.lemmas.List.{length-set}
use Rattle.std.proofs.lemmas.Option.{slice_get-get_or}
use Rattle.step_code.specs.declared.instr.Instr.{Instr}
use Rattle.step_code.specs.SuccessorsAndWeights.{jump_of, next_of, forward_successors}
use Rattle.step_code.specs.proof.StackHeights.{Member}
use Rattle.step_code.specs.proof.VerifierIntermediateResults.{Holds, AreThere, AreSet}
use Rattle.step_code.proofs.ListMembers.{get_set_other, get_set_same, member_left, member_right}

-- ---- one place set
pub place_there : (n : ℕ) (o : Option ℕ) (p : ℕ) → o ≡ Some p → AreThere (option_to_list o) n → p < n
place_there n o p is there = there.each p (subst (λ x. Member (option_to_list x) p) (sym is) (inl refl))

pub is_set : (old : List (Option ℕ)) (o : Option ℕ) (p h : ℕ) → o ≡ Some p → AreThere (option_to_list o) (length old)
    → AreSet old (slice_set old p (Some h)) (option_to_list o) h
is_set old o p h is there =
    let within = place_there (length old) o p is there in
    subst (λ x. AreSet old (slice_set old p (Some h)) (option_to_list x) h) (sym is) (record {
      given =
          λ q among. ⊎_elim (λ e. subst (λ k. Holds (slice_set old p (Some h)) k h) e
          (get_set_same old p (Some h) _ (slice_get-get_or old p None within))) (λ none. absurd none) among;
      kept = λ q other. get_set_other old p q (Some h) (λ e. other (inl e));
      count = length-set old p (Some h);
    })

-- ---- every successor of an instruction
pub there_jump : (p n : ℕ) (i : Instr) → AreThere (forward_successors p (Some i)) n
    → AreThere (option_to_list (jump_of i)) n
there_jump p n i there =
    record {
      each = λ q among.
          there.each q (member_left (option_to_list (jump_of i)) (option_to_list (next_of p i)) q among);
    }

pub there_next : (p n : ℕ) (i : Instr) → AreThere (forward_successors p (Some i)) n
    → AreThere (option_to_list (next_of p i)) n
there_next p n i there =
    record {
      each = λ q among.
          there.each q (member_right (option_to_list (jump_of i)) (option_to_list (next_of p i)) q among);
    }
