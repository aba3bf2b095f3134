-- If actions have no findings, the resolved actions are well typed and their loops are short.
use Rattle.std.proofs.Common.{◌≡◌, ℕ, ◌+◌, ◌*◌, ◌≤◌, min, true, false, not, nat_le, ◌&&◌, List, [], ◌++◌, Option, Some}
use Rattle.std.proofs.Common.{None, refl, sym, subst, arith, inl, inr}
use Rattle.std.proofs.Math.Nat.{min-eq_left, min-eq_right}
use Rattle.std.proofs.lemmas.Bool.{false≢true, leb-true, le-leb, cases_lt, and_from, and_parts, not-false}
use Rattle.list_lemmas.proofs.ListOperations.{append_is_nil}
use Rattle.pals_base.specs.declared.behaviour.Kind.{Kind}
use Rattle.pals_base.specs.declared.behaviour.Kind.TheVariants.{Integer, Boolean}
use Rattle.pals_base.specs.declared.behaviour.BehaviourParts.{BehaviourParts}
use Rattle.pals_base.specs.declared.expression_kinds.Kinds.{Kinds}
use Rattle.pals_base.specs.declared.limits.TheConstants.{TURNS, NESTED_TURNS}
use Rattle.pals_base.specs.ExpressionAndActionTrees as plain
use Rattle.pals_base.specs.TypingRules.{allows, kinds_of, suits_variable, suits_port, is_short, is_sound, are_sound}
use Rattle.pals_base.specs.TypingRules.{branches_are_sound}
use Rattle.aadl_tree.specs.Expressions.{Expression}
use Rattle.aadl_tree.specs.ExpressionOffsets.{expression_at}
use Rattle.aadl_tree.specs.Actions.{Action, assign, send, choose, loop, Actions, actions, Mores, no_mores, more, Elsifs}
use Rattle.aadl_tree.specs.Actions.{no_elsifs, elsif, Otherwise, no_otherwise, otherwise, Block, no_block, block}
use Rattle.annex_resolve.specs.declared.scope.Scope.{Scope}
use Rattle.annex_resolve.specs.declared.scope.DeclaredName.{DeclaredName}
use Rattle.annex_resolve.specs.declared.scope.Meaning.{Meaning}
use Rattle.annex_resolve.specs.declared.scope.Meaning.TheVariants.{InPort, OutPort, Variable, LoopVariable}
use Rattle.annex_resolve.specs.declared.violation.TheConstants.{BAD_TYPE, LOOP_TOO_LONG}
use Rattle.annex_resolve.specs.NameMeanings.{entry_named, kind_of, sets, sends, may_set, may_send, given, given_to}
use Rattle.annex_resolve.specs.NameMeanings.{with_loop}
use Rattle.annex_resolve.specs.FindingRecords.{found_if}
use Rattle.annex_resolve.specs.ExpressionTypesAndFindings.{fits, misfit, same_kind, whole_types, expression_kind}
use Rattle.annex_resolve.specs.ExpressionTypesAndFindings.{expression_types, kind_named}
use Rattle.annex_resolve.specs.ResolvedTrees.{expression_of, action_of, actions_of, mores_of, elsifs_of, otherwise_of}
use Rattle.annex_resolve.specs.ResolvedTrees.{block_of}
use Rattle.annex_resolve.specs.ActionFindings.{turns, turns_with_outer, is_too_long, is_integer, branch_findings}
use Rattle.annex_resolve.specs.ActionFindings.{action_findings, actions_findings, mores_findings, elsifs_findings}
use Rattle.annex_resolve.specs.ActionFindings.{otherwise_findings, block_findings}
use Rattle.design_laws.specs.proof.FittingAnnexNames.{FitsMeaning, FitsScope}
use Rattle.design_laws.proofs.EmptyFindingLists.{not_wrong, is_right}
use Rattle.design_laws.proofs.LoopScopes.{inner_fits}
use Rattle.design_laws.proofs.TypedExpressions.{HasKind, is_truth, expression_sound}

-- ---- whole expressions
agrees : (k w : Kind) (kinds : Kinds) → same_kind k w ≡ true → allows kinds k ≡ true → allows kinds w ≡ true
agrees Integer Integer kinds same h = h
agrees Integer Boolean kinds same h = absurd (false≢true same)
agrees Boolean Integer kinds same h = absurd (false≢true same)
agrees Boolean Boolean kinds same h = h

-- a value whose type is allowed there
given_fits : (b : BehaviourParts) (loops : ℕ) (kind wanted : Option Kind) (w : Kind) (e : plain.Expression)
    → HasKind b loops kind e → wanted ≡ Some w → fits kind wanted ≡ true → allows (kinds_of e b loops) w ≡ true
given_fits b loops kind wanted w e (k, is, h) is_wanted fit =
    agrees k w (kinds_of e b loops)
    (subst (λ o. fits (Some k) o ≡ true) is_wanted (subst (λ o. fits o wanted ≡ true) is fit)) h

pub test_sound : (b : BehaviourParts) (loops : ℕ) (scope : Scope) (fit : FitsScope b loops scope) (e : Expression ℕ)
    → whole_types scope (Some Boolean) e ≡ [] → (kinds_of (expression_of scope e) b loops).boolean ≡ true
test_sound b loops scope fit e none =
    let p =
    append_is_nil (expression_types scope e)
    (misfit (expression_at e) (Some Boolean) (expression_kind scope e)) none in
    is_truth b loops (expression_at e) (expression_kind scope e) (expression_of scope e)
    (expression_sound b loops scope fit e p.0) p.1

-- ---- a name that is assigned or sent
set_sound : (b : BehaviourParts) (loops around : ℕ) (m : Meaning) (wanted kind : Option Kind) (e : plain.Expression)
    → FitsMeaning b loops m wanted → sets m ≡ true → HasKind b loops kind e → fits kind wanted ≡ true
    → is_sound (given e m) b loops around ≡ true
set_sound b loops around (InPort n) wanted kind e fit may has same = absurd (false≢true may)
set_sound b loops around (OutPort n) wanted kind e (p, is, w) may has same =
    subst (λ o. suits_port o (kinds_of e b loops) ≡ true) (sym is) (given_fits b loops kind wanted p.kind e has w same)
set_sound b loops around (Variable n) wanted kind e (v, is, w) may has same =
    subst (λ o. suits_variable o (kinds_of e b loops) ≡ true) (sym is)
    (given_fits b loops kind wanted v.kind e has w same)
set_sound b loops around (LoopVariable n) wanted kind e fit may has same = absurd (false≢true may)

sent_sets : (m : Meaning) → sends m ≡ true → sets m ≡ true
sent_sets (InPort n) may = may
sent_sets (OutPort n) may = may
sent_sets (Variable n) may = refl
sent_sets (LoopVariable n) may = may

sent_is_set : (o : Option DeclaredName) → may_send o ≡ true → may_set o ≡ true
sent_is_set None may = may
sent_is_set (Some e) may = sent_sets e.meaning may

to_entry : (b : BehaviourParts) (loops around : ℕ) (o : Option DeclaredName) (kind : Option Kind) (e : plain.Expression)
    → ((k : DeclaredName) → o ≡ Some k → FitsMeaning b loops k.meaning k.kind) → may_set o ≡ true
    → HasKind b loops kind e
    → fits kind (kind_of o) ≡ true
    → is_sound (given_to e o) b loops around ≡ true
to_entry b loops around None kind e fit may has same = absurd (false≢true may)
to_entry b loops around (Some k) kind e fit may has same =
    set_sound b loops around k.meaning k.kind kind e (fit k refl) may has same

given_sound : (b : BehaviourParts) (loops around : ℕ) (scope : Scope) (fit : FitsScope b loops scope) (name : List ℕ)
    (e : Expression ℕ) → may_set (entry_named scope name) ≡ true
    → whole_types scope (kind_of (entry_named scope name)) e ≡ []
    → is_sound (given_to (expression_of scope e) (entry_named scope name)) b loops around ≡ true
given_sound b loops around scope fit name e may none =
    let wanted = kind_of (entry_named scope name) in
    let p = append_is_nil (expression_types scope e) (misfit (expression_at e) wanted (expression_kind scope e)) none in
    to_entry b loops around (entry_named scope name) (expression_kind scope e) (expression_of scope e)
    (λ (k : DeclaredName) is. fit.entries name k is) may (expression_sound b loops scope fit e p.0)
    (is_right (fits (expression_kind scope e) wanted) (expression_at e) BAD_TYPE [] p.1)

-- ---- loops
not_cut : (p : ℕ) → nat_le (min p (NESTED_TURNS + 1)) NESTED_TURNS ≡ true → p ≤ NESTED_TURNS
not_cut p small = elim (cases_lt p (NESTED_TURNS + 1)) as (λ r. p ≤ NESTED_TURNS) [
  | inl less ↦ omega (arith, less)
  | inr more' ↦ let is = leb-true (min p (NESTED_TURNS + 1)) NESTED_TURNS small in
      let cut : min p (NESTED_TURNS + 1) ≡ NESTED_TURNS + 1 = min-eq_right more' in absurd (omega (arith, is, cut))
]

pub short_enough : (around count : ℕ) → is_too_long around count ≡ false
    → (is_short count around ≡ true) × (turns_with_outer around count ≡ around * count)
short_enough around count short =
    let p =
    and_parts (nat_le count TURNS) (nat_le (turns_with_outer around count) NESTED_TURNS)
    (not-false (nat_le count TURNS && nat_le (turns_with_outer around count) NESTED_TURNS) short) in
    let small = not_cut (around * count) p.1 in (
      and_from (nat_le count TURNS) (nat_le (around * count) NESTED_TURNS) p.0
          (le-leb (around * count) NESTED_TURNS small),
      min-eq_left (omega (arith, small)),
    )

-- ---- actions
module _ (b : BehaviourParts) where
  mutual
    unfolding action_findings action_of

    pub action_sound : (x : Action ℕ) (loops around : ℕ) (scope : Scope) → FitsScope b loops scope
        → action_findings scope around x ≡ [] → is_sound (action_of scope x) b loops around ≡ true
    action_sound (assign x e) loops around scope fit none =
        let p =
        append_is_nil (found_if (not (may_set (entry_named scope x.spelling))) x.at BAD_TYPE [])
        (whole_types scope (kind_of (entry_named scope x.spelling)) e) none in
        given_sound b loops around scope fit x.spelling e
        (is_right (may_set (entry_named scope x.spelling)) x.at BAD_TYPE [] p.0) p.1
    action_sound (send x e) loops around scope fit none =
        let p =
        append_is_nil (found_if (not (may_send (entry_named scope x.spelling))) x.at BAD_TYPE [])
        (whole_types scope (kind_of (entry_named scope x.spelling)) e) none in
        given_sound b loops around scope fit x.spelling e
        (sent_is_set (entry_named scope x.spelling)
        (is_right (may_send (entry_named scope x.spelling)) x.at BAD_TYPE [] p.0)) p.1
    action_sound (choose test a es o) loops around scope fit none =
        let p =
        append_is_nil (branch_findings scope around test a ++ elsifs_findings scope around es)
        (otherwise_findings scope around o) none in
        let q = append_is_nil (branch_findings scope around test a) (elsifs_findings scope around es) p.0 in
        let r = append_is_nil (whole_types scope (Some Boolean) test) (actions_findings scope around a) q.0 in
        and_from (branches_are_sound (plain.Where (expression_of scope test) (actions_of scope a) (elsifs_of scope es))
        b loops around) (are_sound (otherwise_of scope o) b loops around)
        (and_from ((kinds_of (expression_of scope test) b loops).boolean
        && are_sound (actions_of scope a) b loops around) (branches_are_sound (elsifs_of scope es) b loops around)
        (and_from (kinds_of (expression_of scope test) b loops).boolean (are_sound (actions_of scope a) b loops around)
        (test_sound b loops scope fit test r.0) (actions_sound a loops around scope fit r.1))
        (elsifs_sound es loops around scope fit q.1))
        (otherwise_sound o loops around scope fit p.1)
    action_sound (loop at x type low high body) loops around scope fit none =
        let typed = found_if (not (is_integer (kind_named type))) at BAD_TYPE [] in
        let limited = found_if (is_too_long around (turns low high)) at LOOP_TOO_LONG [] in
        let p =
        append_is_nil (typed ++ limited)
        (block_findings (with_loop scope x) (turns_with_outer around (turns low high)) body) none in
        let q = append_is_nil typed limited p.0 in
        let short =
        short_enough around (turns low high)
        (not_wrong (is_too_long around (turns low high)) at LOOP_TOO_LONG [] q.1) in
        and_from (is_short (turns low high) around)
        (are_sound (block_of (with_loop scope x) body) b (loops + 1) (around * turns low high)) short.0
        (block_sound body (loops + 1) (around * turns low high) (with_loop scope x) (inner_fits b loops scope x fit)
        (subst (λ n. block_findings (with_loop scope x) n body ≡ []) short.1 p.1))

    actions_sound : (x : Actions ℕ) (loops around : ℕ) (scope : Scope) → FitsScope b loops scope
        → actions_findings scope around x ≡ [] → are_sound (actions_of scope x) b loops around ≡ true
    actions_sound (actions first rest) loops around scope fit none =
        let p = append_is_nil (action_findings scope around first) (mores_findings scope around rest) none in
        and_from (is_sound (action_of scope first) b loops around) (are_sound (mores_of scope rest) b loops around)
        (action_sound first loops around scope fit p.0) (mores_sound rest loops around scope fit p.1)

    mores_sound : (x : Mores ℕ) (loops around : ℕ) (scope : Scope) → FitsScope b loops scope
        → mores_findings scope around x ≡ [] → are_sound (mores_of scope x) b loops around ≡ true
    mores_sound no_mores loops around scope fit none = refl
    mores_sound (more a rest) loops around scope fit none =
        let p = append_is_nil (action_findings scope around a) (mores_findings scope around rest) none in
        and_from (is_sound (action_of scope a) b loops around) (are_sound (mores_of scope rest) b loops around)
        (action_sound a loops around scope fit p.0) (mores_sound rest loops around scope fit p.1)

    elsifs_sound : (x : Elsifs ℕ) (loops around : ℕ) (scope : Scope) → FitsScope b loops scope
        → elsifs_findings scope around x ≡ [] → branches_are_sound (elsifs_of scope x) b loops around ≡ true
    elsifs_sound no_elsifs loops around scope fit none = refl
    elsifs_sound (elsif test a rest) loops around scope fit none =
        let p = append_is_nil (branch_findings scope around test a) (elsifs_findings scope around rest) none in
        let r = append_is_nil (whole_types scope (Some Boolean) test) (actions_findings scope around a) p.0 in
        and_from ((kinds_of (expression_of scope test) b loops).boolean
        && are_sound (actions_of scope a) b loops around) (branches_are_sound (elsifs_of scope rest) b loops around)
        (and_from (kinds_of (expression_of scope test) b loops).boolean (are_sound (actions_of scope a) b loops around)
        (test_sound b loops scope fit test r.0) (actions_sound a loops around scope fit r.1))
        (elsifs_sound rest loops around scope fit p.1)

    otherwise_sound : (x : Otherwise ℕ) (loops around : ℕ) (scope : Scope) → FitsScope b loops scope
        → otherwise_findings scope around x ≡ [] → are_sound (otherwise_of scope x) b loops around ≡ true
    otherwise_sound no_otherwise loops around scope fit none = refl
    otherwise_sound (otherwise a) loops around scope fit none = actions_sound a loops around scope fit none

    pub block_sound : (x : Block ℕ) (loops around : ℕ) (scope : Scope) → FitsScope b loops scope
        → block_findings scope around x ≡ [] → are_sound (block_of scope x) b loops around ≡ true
    block_sound no_block loops around scope fit none = refl
    block_sound (block a) loops around scope fit none = actions_sound a loops around scope fit none
