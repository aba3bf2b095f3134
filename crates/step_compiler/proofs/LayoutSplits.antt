-- The code of branches and of the transitions that leave a state, split into the first and the rest.
use Rattle.std.proofs.Common.{◌≡◌, ◌∙◌, ℕ, ◌+◌, Bool, true, false, if◌then◌else◌, List, [], ◌∷◌, ◌++◌, ap, arith}
use Rattle.std.proofs.Common.{append_assoc}
use Rattle.std.specs.Prelude.{nat_eq}
use Rattle.pals_base.specs.declared.behaviour.BehaviourParts.{BehaviourParts}
use Rattle.pals_base.specs.ExpressionAndActionTrees.{Expression, Actions, Branches, NoBranch, Where, Edge}
use Rattle.step_code.specs.declared.instr.Instr.TheVariants as code
use Rattle.step_code.specs.CodeLengths.{length_of, length_acts, length_branches, length_edge, length_edges}
use Rattle.step_compiler.specs.ExpressionAndActionInstructions.{code_of, code_acts, code_branches}
use Rattle.step_compiler.specs.BlockInstructions.{edge_code, block_code}
use Rattle.step_compiler.specs.proof.BlockLengthsAndStarts.{leaving_among}

-- a branch and the branches after it
pub branches_split : (g : Expression) (as' : Actions) (later : Branches) (n end p : ℕ)
    → code_branches (Where g as' NoBranch) n end p
    ++ code_branches later n end (p + length_branches (Where g as' NoBranch))
    ≡ code_branches (Where g as' later) n end p
branches_split g as' later n end p =
    let q = p + length_of g + length_acts as' + 2 in
    let body = code_acts as' n (p + length_of g + 1) in
    let place : p + (length_of g + length_acts as' + 2 + 0) ≡ q = omega arith in
    ap (λ k. code_branches (Where g as' NoBranch) n end p ++ code_branches later n end k) place
    ∙ append_assoc (code_of g p) (code.JumpZero q ∷ (body ++ code.Jump end ∷ [])) (code_branches later n end q)
    ∙ ap (λ xs. code_of g p ++ code.JumpZero q ∷ xs)
    (append_assoc body (code.Jump end ∷ []) (code_branches later n end q))

-- a transition that leaves a state, if it does, and the transitions after it
split_by : (b : BehaviourParts) (starts : ℕ → ℕ) (complete : Bool) (e : Edge) (rest : List Edge) (p : ℕ) (t : Bool)
    → block_code b starts complete (if t then e ∷ [] else []) p
    ++ block_code b starts complete rest (p + length_edges (if t then e ∷ [] else []))
    ≡ block_code b starts complete (if t then e ∷ rest else rest) p
split_by b starts complete e rest p true =
    let place : p + (length_edge e + 0) ≡ p + length_edge e = omega arith in
    ap (λ k. (edge_code b starts complete e p ++ []) ++ block_code b starts complete rest k) place
    ∙ append_assoc (edge_code b starts complete e p) [] (block_code b starts complete rest (p + length_edge e))
split_by b starts complete e rest p false = let place : p + 0 ≡ p = omega arith in
    ap (block_code b starts complete rest) place

pub leaving_split : (b : BehaviourParts) (starts : ℕ → ℕ) (complete : Bool) (s : ℕ) (e : Edge) (es : List Edge) (p : ℕ)
    → block_code b starts complete (leaving_among s (e ∷ [])) p
    ++ block_code b starts complete (leaving_among s es) (p + length_edges (leaving_among s (e ∷ [])))
    ≡ block_code b starts complete (leaving_among s (e ∷ es)) p
leaving_split b starts complete s e es p = split_by b starts complete e (leaving_among s es) p (nat_eq e.source s)
