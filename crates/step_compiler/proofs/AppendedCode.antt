-- Code that grows by one part after the other.
use Rattle.std.proofs.Common.{◌≡◌, ◌∙◌, ℕ, ◌+◌, ◌<◌, List, [], ◌∷◌, ◌++◌, length, drop, slice_index_or, refl, ap, arith}
use Rattle.std.proofs.Common.{append_assoc, length-append}
use Rattle.list_lemmas.proofs.ListOperations.{drop-next}
use Rattle.pals_base.specs.declared.behaviour.Operand.{Operand}
use Rattle.pals_base.specs.declared.behaviour.Act.{Act}
use Rattle.pals_base.specs.declared.behaviour.Branch.{Branch}
use Rattle.pals_base.specs.ExpressionAndActionTrees.{Then, Do, Where}
use Rattle.pals_base.specs.proof.TreeViews.{tree_of, operands_along, action_of, actions_along, branches_along}

-- a part of n items, and the code after it
pub both_parts : {A : Type 0} (old mid new a : List A) (n : ℕ) (rest : ℕ → List A) → mid ≡ old ++ a → length a ≡ n
    → new ≡ mid ++ rest (length mid) → new ≡ old ++ (a ++ rest (length old + n))
both_parts old mid new a n rest first len second =
    let size : length mid ≡ length old + n = ap length first ∙ omega (arith, len, length-append old a) in
    second ∙ ap (λ k. mid ++ rest k) size ∙ ap (λ xs. xs ++ rest (length old + n)) first
    ∙ append_assoc old a (rest (length old + n))

pub more_parts : {A : Type 0} (old mid a : List A) (n : ℕ) (rest : ℕ → List A) → mid ≡ old ++ a → length a ≡ n
    → mid ++ rest (length mid) ≡ old ++ (a ++ rest (length old + n))
more_parts old mid a n rest first len = both_parts old mid (mid ++ rest (length mid)) a n rest first len refl

-- ---- the rest of a list

pub next_operand : (xs : List Operand) (i : ℕ) (x : Operand) → i < length xs → x ≡ slice_index_or xs i x
    → operands_along (drop i xs) ≡ Then x.op (tree_of x.right) (operands_along (drop (i + 1) xs))
next_operand xs i x within is = ap operands_along (drop-next xs i x within is)

pub next_act : (xs : List Act) (i : ℕ) (x : Act) → i < length xs → x ≡ slice_index_or xs i x
    → actions_along (drop i xs) ≡ Do (action_of x) (actions_along (drop (i + 1) xs))
next_act xs i x within is = ap actions_along (drop-next xs i x within is)

pub next_branch : (xs : List Branch) (i : ℕ) (x : Branch) → i < length xs → x ≡ slice_index_or xs i x
    → branches_along (drop i xs)
    ≡ Where (tree_of x.guard) (actions_along x.acts.items) (branches_along (drop (i + 1) xs))
next_branch xs i x within is = ap branches_along (drop-next xs i x within is)

-- ---- parts with instructions between them
pub one_more : {A : Type 0} (old mid new a : List A) (i : A) → mid ≡ old ++ a → new ≡ mid ++ i ∷ []
    → new ≡ old ++ (a ++ i ∷ [])
one_more old mid new a i first second = second ∙ ap (λ xs. xs ++ i ∷ []) first ∙ append_assoc old a (i ∷ [])

-- a part, the code after it, and an item
pub between : {A : Type 0} (old c1 c2 new g : List A) (k : A) (n : ℕ) (laid : ℕ → List A) → c1 ≡ old ++ g → length g ≡ n
    → c2 ≡ c1 ++ laid (length c1) → new ≡ c2 ++ k ∷ []
    → new ≡ old ++ (g ++ (laid (length old + n) ++ k ∷ []))
between old c1 c2 new g k n laid first len second third =
    third
    ∙ ap (λ xs. xs ++ k ∷ []) (both_parts old c1 c2 g n laid first len second)
    ∙ append_assoc old (g ++ laid (length old + n)) (k ∷ [])
    ∙ ap (λ xs. old ++ xs) (append_assoc g (laid (length old + n)) (k ∷ []))

-- a part, an instruction, the code after them, and an item
pub between_two : {A : Type 0} (old c1 c2 c3 new g : List A) (i k : A) (n : ℕ) (laid : ℕ → List A) → c1 ≡ old ++ g
    → length g ≡ n → c2 ≡ c1 ++ i ∷ [] → c3 ≡ c2 ++ laid (length c2) → new ≡ c3 ++ k ∷ []
    → new ≡ old ++ (g ++ i ∷ (laid (length old + n + 1) ++ k ∷ []))
between_two old c1 c2 c3 new g i k n laid first len jump second third =
    let place : length old + (n + 1) ≡ length old + n + 1 = omega arith in
    between old c2 c3 new (g ++ i ∷ []) k (n + 1) laid (one_more old c1 c2 g i first jump)
    (omega (arith, len, length-append g (i ∷ []))) second third
    ∙ ap (λ xs. old ++ xs) (append_assoc g (i ∷ []) (laid (length old + (n + 1)) ++ k ∷ []))
    ∙ ap (λ q. old ++ (g ++ i ∷ (laid q ++ k ∷ []))) place

-- three items, and the code after them
pub behind_three : {A : Type 0} (old c1 c2 c3 new : List A) (i j k : A) (laid : ℕ → List A) → c1 ≡ old ++ i ∷ []
    → c2 ≡ c1 ++ j ∷ [] → c3 ≡ c2 ++ k ∷ [] → new ≡ c3 ++ laid (length c3)
    → new ≡ old ++ i ∷ j ∷ k ∷ laid (length old + 3)
behind_three old c1 c2 c3 new i j k laid first second third last =
    let two = one_more old c1 c2 (i ∷ []) j first second in
    let three = one_more old c2 c3 (i ∷ j ∷ []) k two third in
    both_parts old c3 new (i ∷ j ∷ k ∷ []) 3 laid three refl last
