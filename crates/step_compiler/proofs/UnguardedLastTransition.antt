-- The last transition that leaves a state has no guard, so what a false guard leads to stays inside its block.
use Rattle.std.proofs.Common.{◌≡◌, ◌∙◌, inl, inr, ⊎_elim, ℕ, ◌+◌, ◌<◌, ◌≤◌, Bool, true, false, if◌then◌else◌, List, []}
use Rattle.std.proofs.Common.{◌∷◌, refl, sym, ap, arith, nat_eq}
use Rattle.std.specs.Prelude.{filter, fold}
use Rattle.std.proofs.lemmas.Bool.{true≢false, false≢true}
use Rattle.pals_base.specs.ExpressionAndActionTrees.{Edge}
use Rattle.pals_base.specs.BehaviourRules.{is_always, ends_unguarded}
use Rattle.step_code.specs.proof.StackHeights.{Member}
use Rattle.step_code.specs.CodeLengths.{length_edge, length_edges}
use Rattle.step_compiler.specs.LoopDepths.{depth_acts, depth_edges}
use Rattle.step_compiler.specs.BlockInstructions.{false_guard_target}

pub member_leaving : (es : List Edge) (s : ℕ) (e : Edge) → Member (filter (λ e. nat_eq e.source s) es) e
    → Member es e × (e.source ≡ s)
member_leaving [] s e among = absurd among
member_leaving (x ∷ es) s e among = by (nat_eq x.source s) refl among (λ later. member_leaving es s e later)
  where
    by : (t : Bool) → nat_eq x.source s ≡ t
        → Member (if t then x ∷ filter (λ e. nat_eq e.source s) es else filter (λ e. nat_eq e.source s) es) e
        → (Member (filter (λ e. nat_eq e.source s) es) e → Member es e × (e.source ≡ s))
        → Member (x ∷ es) e × (e.source ≡ s)
    by true is m later =
        ⊎_elim (λ (here : x ≡ e). let at : x.source ≡ s = grind arith in
        (inl here, sym (ap (λ (y : Edge). y.source) here) ∙ at)) (λ rest. let y = later rest in (inr y.0, y.1)) m
    by false is m later = let y = later m in (inr y.0, y.1)

pub edge_depth : (es : List Edge) (e : Edge) → Member es e → depth_acts e.actions ≤ depth_edges es
edge_depth [] e among = absurd among
edge_depth (f ∷ es) e among =
    ⊎_elim (λ (is : f ≡ e). let same = ap (λ (x : Edge). depth_acts x.actions) is in omega arith)
    (λ later. let le = edge_depth es e later in omega arith) among

pub some_edges : (es : List Edge) → ends_unguarded es ≡ true → 0 < length_edges es
some_edges [] is = absurd (false≢true is)
some_edges (e ∷ es) is = omega arith

-- the last of transitions has no guard
abbrev pub LastOpen : List Edge → Type 0
LastOpen [] = Unit {0}
LastOpen (e ∷ es) = fold (λ before (f : Edge). is_always f.trigger) (is_always e.trigger) es ≡ true

pub last_open : (es : List Edge) → ends_unguarded es ≡ true → LastOpen es
last_open [] is = tt
last_open (e ∷ es) is = is

pub rest_open : (e : Edge) (es : List Edge) → LastOpen (e ∷ es) → LastOpen es
rest_open e [] is = tt
rest_open e (f ∷ es) is = is

pub past_inside : (complete : Bool) (e : Edge) (es : List Edge) (p n : ℕ) → is_always e.trigger ≡ false
    → p + (length_edge e + length_edges es) ≤ n → (complete ≡ false → LastOpen (e ∷ es))
    → false_guard_target complete e p < n
past_inside true e es p n guarded most unguarded = omega arith
past_inside false e [] p n guarded most unguarded = absurd (true≢false (sym (unguarded refl) ∙ guarded))
past_inside false e (f ∷ es) p n guarded most unguarded = omega arith
