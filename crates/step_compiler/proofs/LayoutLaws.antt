-- The compiled code is laid out as the definition asks, and no other code is: for the laws of layout.
use Rattle.std.proofs.Common.{◌≡◌, ◌∙◌, ℕ, zero, suc, ◌+◌, ◌<◌, ◌≤◌, Bool, true, List, [], ◌∷◌, ◌++◌, length, map}
use Rattle.std.proofs.Common.{Option, refl, sym, ap, ap₂, arith}
use Rattle.std.specs.Prelude.{nat_eq}
use Rattle.std.specs.List.{list_all, AllByRecursion as Every}
use Rattle.std.proofs.lemmas.Bool.{and_parts}
use Rattle.std.proofs.lemmas.List.Elements.{All-from_recursion, All-filter, recursion_from_All}
use Rattle.pals_base.specs.declared.behaviour.BehaviourParts.{BehaviourParts}
use Rattle.pals_base.specs.ExpressionAndActionTrees.{Edge}
use Rattle.pals_base.specs.SingleStep.{is_complete, leaving}
use Rattle.pals_base.specs.BehaviourRules.{IsBehaviour, is_edge}
use Rattle.pals_base.specs.UpwardNumbers.{upwards}
use Rattle.step_code.specs.declared.instr.Instr.{Instr}
use Rattle.step_code.specs.declared.instr.CodeParts.{CodeParts}
use Rattle.step_code.specs.CodeLengths.{length_edge, length_trigger}
use Rattle.step_compiler.specs.LaidOutCode.{states_of, IsLaidOut, AreLaidOut}
use Rattle.step_compiler.specs.proof.BlockOrder.{block_order}
use Rattle.step_compiler.specs.ExpressionAndActionInstructions.{code_acts}
use Rattle.step_compiler.specs.BlockInstructions.{trigger_code, false_guard_target, last_instr, edge_code, block_code}
use Rattle.step_compiler.specs.BlockInstructions.{block_length}
use Rattle.step_compiler.specs.BlockInstructions.{blocks_code, start_of, entry_of}
use Rattle.step_compiler.specs.proof.BlockLengthsAndStarts.{in_list}
use Rattle.step_compiler.specs.proof.CompiledCode.{block_starts, compiled}
use Rattle.step_compiler.proofs.TransitionRules.{edge_has}
use Rattle.step_compiler.proofs.BlockPlaces.{start_is}
use Rattle.step_compiler.specs.proof.LayoutLaws.{HasLayout, LaidOutCodeIsOne, LaidOutCodesAreOne}
use Rattle.step_compiler.proofs.SoundAndUniqueOrder.{blocks_are_ordered, order_is_one}

-- ---- only states have starts
targets : (b : BehaviourParts) (es : List Edge) → list_all (is_edge b) es ≡ true
    → Every (λ (e : Edge). e.target < length b.states) es
targets b [] all = tt
targets b (e ∷ es) all =
    let both = and_parts (is_edge b e) (list_all (is_edge b) es) all in
    ((edge_has b e both.0).target, targets b es both.1)

module _ (b : BehaviourParts) (f g : ℕ → ℕ) (same : (s : ℕ) → s < length b.states → f s ≡ g s) where
  same_last : (target : ℕ) → target < length b.states → last_instr b f target ≡ last_instr b g target
  same_last target within = ap (λ place. last_instr b (λ _. place) target) (same target within)

  same_edge : (complete : Bool) (e : Edge) (p : ℕ) → e.target < length b.states
      → edge_code b f complete e p ≡ edge_code b g complete e p
  same_edge complete e p within =
      ap (λ (i : Instr). trigger_code e.trigger (false_guard_target complete e p) p
      ++ (code_acts e.actions (length b.vars) (p + length_trigger e.trigger) ++ i ∷ [])) (same_last e.target within)

  same_block : (complete : Bool) (es : List Edge) (p : ℕ) → Every (λ (e : Edge). e.target < length b.states) es
      → block_code b f complete es p ≡ block_code b g complete es p
  same_block complete [] p within = refl
  same_block complete (e ∷ es) p within =
      ap₂ (λ xs ys. xs ++ ys) (same_edge complete e p within.0) (same_block complete es (p + length_edge e) within.1)

  module _ (within : Every (λ (e : Edge). e.target < length b.states) b.transitions) where
    same_blocks : (order : List ℕ) (p : ℕ) → blocks_code b f order p ≡ blocks_code b g order p
    same_blocks [] p = refl
    same_blocks (s ∷ order) p =
        let kept = recursion_from_All (λ (e : Edge). e.target < length b.states) (leaving b s)
        (All-filter (λ (e : Edge). nat_eq e.source s) (λ (e : Edge). e.target < length b.states) b.transitions
        (All-from_recursion (λ (e : Edge). e.target < length b.states) b.transitions within)) in
        ap₂ (λ xs ys. xs ++ ys) (same_block (is_complete b s) (leaving b s) p kept)
        (same_blocks order (p + block_length b s))

  same_entry : (s : ℕ) → s < length b.states → entry_of b f s ≡ entry_of b g s
  same_entry s within = ap (λ place. entry_of b (λ _. place) s) (same s within)

  same_entries : (from n : ℕ) → from + n ≤ length b.states
      → map (entry_of b f) (upwards from n) ≡ map (entry_of b g) (upwards from n)
  same_entries from zero most = refl
  same_entries from (suc n) most =
      ap₂ (λ x xs. x ∷ xs) (same_entry from (omega arith)) (same_entries (suc from) n (omega arith))

-- ---- the compiled code
pub compiled_is_laid_out : (b : BehaviourParts) → IsBehaviour b → IsLaidOut b (compiled b)
unfolding compiled
compiled_is_laid_out b rules =
    let same : (s : ℕ) → s < length b.states → in_list (block_starts b) s ≡ start_of b (block_order b) s = start_is b in
    record {
      order = block_order b;
      is_order = blocks_are_ordered b rules;
      instrs =
          same_blocks b (in_list (block_starts b)) (start_of b (block_order b)) same
          (targets b b.transitions rules.edges) (block_order b) 0;
      entries =
          same_entries b (in_list (block_starts b)) (start_of b (block_order b)) same 0 (length b.states) (omega arith);
      vars = refl;
      loops = refl;
      ins = refl;
      outs = refl;
    }

pub has_layout : HasLayout
has_layout b rules = (compiled b, compiled_is_laid_out b rules)

-- ---- no other
pub laid_out_code_is_one : LaidOutCodeIsOne
laid_out_code_is_one b code other is_one is_other =
    let order = order_is_one b is_one.order is_other.order is_one.is_order is_other.is_order in
    let instrs : code.instrs ≡ other.instrs = is_one.instrs ∙ ap (λ o. blocks_code b (start_of b o) o 0) order
    ∙ sym is_other.instrs in
    let entries : code.entries ≡ other.entries = is_one.entries
    ∙ ap (λ o. map (entry_of b (start_of b o)) (states_of b)) order ∙ sym is_other.entries in
    let vars : code.vars ≡ other.vars = is_one.vars ∙ sym is_other.vars in
    let loops : code.loops ≡ other.loops = is_one.loops ∙ sym is_other.loops in
    let ins : code.ins ≡ other.ins = is_one.ins ∙ sym is_other.ins in
    let outs : code.outs ≡ other.outs = is_one.outs ∙ sym is_other.outs in
    same_parts _ _ _ _ _ _ _ _ _ _ _ _ instrs entries vars loops ins outs
  where
    same_parts : (is is' : List Instr) (es es' : List (Option ℕ)) (v v' l l' i i' o o' : ℕ) → is ≡ is' → es ≡ es'
        → v ≡ v' → l ≡ l' → i ≡ i' → o ≡ o'
        → ◌≡◌ {A = CodeParts} (record { instrs = is; entries = es; vars = v; loops = l; ins = i; outs = o })
        (record { instrs = is'; entries = es'; vars = v'; loops = l'; ins = i'; outs = o' })
    same_parts is is' es es' v v' l l' i i' o o' a b' c d e f = cc

-- ---- lists of codes
pub laid_out_codes_are_one : LaidOutCodesAreOne
laid_out_codes_are_one [] [] [] laid other = refl
laid_out_codes_are_one [] (c ∷ cs) ds laid other = absurd (let count = laid.count in omega (arith, count))
laid_out_codes_are_one [] [] (d ∷ ds) laid other = absurd (let count = other.count in omega (arith, count))
laid_out_codes_are_one (b ∷ bs) [] ds laid other = absurd (let count = laid.count in omega (arith, count))
laid_out_codes_are_one (b ∷ bs) (c ∷ cs) [] laid other = absurd (let count = other.count in omega (arith, count))
laid_out_codes_are_one (b ∷ bs) (c ∷ cs) (d ∷ ds) laid other =
    ap₂ (λ x xs. x ∷ xs)
    (laid_out_code_is_one b c d (laid.each 0 b c refl refl) (other.each 0 b d refl refl))
    (laid_out_codes_are_one bs cs ds (rest b c bs cs laid) (rest b d bs ds other))
  where
    rest : (b : BehaviourParts) (c : CodeParts) (bs : List BehaviourParts) (cs : List CodeParts)
        → AreLaidOut (b ∷ bs) (c ∷ cs) → AreLaidOut bs cs
    rest b c bs cs are = record {
      count = (let count = are.count in omega (arith, count));
      each = λ k a code at_b at_c. are.each (suc k) a code at_b at_c;
    }
