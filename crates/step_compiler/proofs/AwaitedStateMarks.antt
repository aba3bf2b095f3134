-- The marks by which the next state of the order is looked for: whether transitions from states outside lead to a
-- state.
use Rattle.std.proofs.Common.{◌≡◌, ◌∙◌, ℕ, zero, suc, ◌<◌, Bool, true, false, ◌&&◌, ◌||◌, not, if◌then◌else◌, List, []}
use Rattle.std.proofs.Common.{◌∷◌, length, slice_index_or, slice_set, refl, sym, ap, subst, arith, nat_eq}
use Rattle.std.specs.Prelude.{fold, replicate}
use Rattle.std.specs.List.{list_all, list_any}
use Rattle.std.proofs.lemmas.Bool.{and_parts}
use Rattle.std.proofs.lemmas.List.{get_or-set_same, get_or-set_other, length-set, length-replicate, length-map}
use Rattle.std.proofs.Math.Bool.{or_assoc}
use Rattle.pals_base.specs.declared.behaviour.BehaviourParts.{BehaviourParts}
use Rattle.pals_base.specs.UpwardNumbers.{upwards}
use Rattle.pals_base.specs.ExpressionAndActionTrees.{Edge}
use Rattle.pals_base.specs.BehaviourRules.{is_edge, IsBehaviour}
use Rattle.pals_base.proofs.UpwardNumbers.{length-upwards, get_or-map_upwards}
use Rattle.step_compiler.specs.proof.BlockOrder.{is_placed, leads_from_outside, is_awaited, states_outside, with_target}
use Rattle.step_compiler.proofs.TransitionRules.{edge_has}

-- ---- marks
set_by : (t : Bool) (marks : List Bool) (at s : ℕ) → nat_eq at s ≡ t → s < length marks
    → slice_index_or (slice_set marks at true) s false ≡ (slice_index_or marks s false || t)
set_by true marks at s is within =
    let same : at ≡ s = grind arith in
    ap (λ k. slice_index_or (slice_set marks k true) s false) same ∙ get_or-set_same marks s true false within
    ∙ or_yes (slice_index_or marks s false)
  where
    or_yes : (x : Bool) → true ≡ (x || true)
    or_yes true = refl
    or_yes false = refl
set_by false marks at s is within =
    get_or-set_other marks at s true false (λ same. absurd (grind arith)) ∙ or_no (slice_index_or marks s false)
  where
    or_no : (x : Bool) → x ≡ (x || false)
    or_no true = refl
    or_no false = refl

if_marked : (o : Bool) (marks : List Bool) (at s : ℕ) → s < length marks
    → slice_index_or (if o then slice_set marks at true else marks) s false
    ≡ (slice_index_or marks s false || (o && nat_eq at s))
if_marked true marks at s within = set_by (nat_eq at s) marks at s refl within
if_marked false marks at s within = stays (slice_index_or marks s false)
  where
    stays : (x : Bool) → x ≡ (x || false)
    stays true = refl
    stays false = refl

if_size : (o : Bool) (marks : List Bool) (at : ℕ) → length (if o then slice_set marks at true else marks) ≡ length marks
if_size true marks at = length-set marks at true
if_size false marks at = refl

outside_at : (order : List ℕ) (n s : ℕ) → s < n
    → slice_index_or (states_outside order n) s false ≡ not (is_placed order s)
outside_at order n s within = get_or-map_upwards (λ t. not (is_placed order t)) n s false within

targets : (b : BehaviourParts) (order : List ℕ) (s : ℕ) (es : List Edge) (marks : List Bool)
    → list_all (is_edge b) es ≡ true → s < length marks
    → slice_index_or (fold (with_target (states_outside order (length b.states))) marks es) s false
    ≡ (slice_index_or marks s false || list_any (leads_from_outside order s) es)
targets b order s [] marks sound within = none (slice_index_or marks s false)
  where
    none : (x : Bool) → x ≡ (x || false)
    none true = refl
    none false = refl
targets b order s (e ∷ es) marks sound within =
    let outside = states_outside order (length b.states) in
    let both = and_parts (is_edge b e) (list_all (is_edge b) es) sound in
    let o = slice_index_or outside e.source false in
    let next = with_target outside marks e in
    let size : s < length next = subst (λ k. s < k) (sym (if_size o marks e.target)) within in
    let here = outside_at order (length b.states) e.source (edge_has b e both.0).source in
    targets b order s es next both.1 size
    ∙ ap (λ x. x || list_any (leads_from_outside order s) es)
    (if_marked o marks e.target s within ∙ ap (λ x. slice_index_or marks s false || (x && nat_eq e.target s)) here)
    ∙ or_assoc (slice_index_or marks s false) (leads_from_outside order s e) (list_any (leads_from_outside order s) es)

none_at : (n s : ℕ) → slice_index_or (replicate n false) s false ≡ false
none_at zero s = refl
none_at (suc n) zero = refl
none_at (suc n) (suc s) = none_at n s

pub outside_tells : (b : BehaviourParts) (order : List ℕ) (s : ℕ) → s < length b.states
    → slice_index_or (states_outside order (length b.states)) s false ≡ not (is_placed order s)
outside_tells b order s within = outside_at order (length b.states) s within

pub awaited_tells : (b : BehaviourParts) (order : List ℕ) (s : ℕ) → IsBehaviour b → s < length b.states
    → slice_index_or (fold (with_target (states_outside order (length b.states)))
    (replicate (length (states_outside order (length b.states))) false) b.transitions) s false
    ≡ is_awaited b order s
awaited_tells b order s rules within =
    let n = length (states_outside order (length b.states)) in
    let size : length (replicate n false) ≡ length b.states = length-replicate n false
    ∙ length-map (upwards 0 (length b.states)) (λ t. not (is_placed order t))
    ∙ length-upwards 0 (length b.states) in
    targets b order s b.transitions (replicate n false) rules.edges (subst (λ k. s < k) (sym size) within)
    ∙ ap (λ x. x || is_awaited b order s) (none_at n s)
