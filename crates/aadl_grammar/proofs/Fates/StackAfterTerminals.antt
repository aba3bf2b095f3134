-- The stack after the machine has taken several terminals in turn, and how deep these nest.
use Rattle.std.proofs.Common.{◌≡◌, ℕ, ◌+◌, ◌≤◌, Bool, ◌∙◌, sym, ap, subst, refl, List, [], ◌∷◌, ◌++◌, Option, Some}
use Rattle.std.proofs.Common.{None, option_and_then, unwrap_or}
use Rattle.std.proofs.lemmas.Option.{same_Some}
use Rattle.aadl_tree.specs.declared.nesting_limit.TheConstants.{GREATEST_NESTING}
use Rattle.aadl_tree.specs.Terminals.{PlainTerminal}
use Rattle.aadl_tree.specs.PackagesBehavioursAndNesting.{is_end, nesting_from}
use Rattle.aadl_grammar.specs.proof.StackMachine.{Stack, stack_after, depth}
use Rattle.aadl_grammar.proofs.DerivationTrees.ForbiddenFollowerMembership.{Clear}
use Rattle.aadl_grammar.proofs.DerivationTrees.DerivationsAndMachineSteps.{Derives, steps, step_derives}
use Rattle.aadl_grammar.proofs.Fates.StackNesting.{Good, step_depth}
use Rattle.aadl_grammar.proofs.HeadsAndTails.{heads, tails}

-- the stack after the terminals
unfoldable pub stack_after_all : Stack → List PlainTerminal → Option Stack
stack_after_all wanted [] = Some wanted
stack_after_all wanted (kind ∷ ks) = option_and_then (λ next. stack_after_all next ks) (stack_after wanted kind)

and_then_some : (o : Option Stack) (ks : List PlainTerminal) (last : Stack)
    → option_and_then (λ next. stack_after_all next ks) o ≡ Some last
    → (mid : Stack) × (o ≡ Some mid) × (stack_after_all mid ks ≡ Some last)
and_then_some (Some mid) ks last e = (mid, refl, e)
and_then_some None ks last e = absurd cc

pub walk_first : (wanted : Stack) (kind : PlainTerminal) (ks : List PlainTerminal) (last : Stack)
    → stack_after_all wanted (kind ∷ ks) ≡ Some last
    → (mid : Stack) × (stack_after wanted kind ≡ Some mid) × (stack_after_all mid ks ≡ Some last)
unfolding stack_after_all
walk_first wanted kind ks last e = and_then_some (stack_after wanted kind) ks last e

pub walk_more : (wanted mid : Stack) (kind : PlainTerminal) (ks : List PlainTerminal)
    → stack_after wanted kind ≡ Some mid
    → stack_after_all wanted (kind ∷ ks) ≡ stack_after_all mid ks
unfolding stack_after_all
walk_more wanted mid kind ks e = ap (λ o. option_and_then (λ next. stack_after_all next ks) o) e

pub walk_none : (wanted last : Stack) → stack_after_all wanted [] ≡ Some last → wanted ≡ last
unfolding stack_after_all
walk_none wanted last e = ap (λ o. unwrap_or o []) e

pub walk_derives : (ks : List PlainTerminal) (wanted last : Stack) (more : List PlainTerminal)
    → stack_after_all wanted ks ≡ Some last
    → Derives last more → Derives wanted (ks ++ more)
walk_derives [] wanted last more e d = subst (λ (x : Stack). Derives x more) (sym (walk_none wanted last e)) d
walk_derives (kind ∷ ks) wanted last more e d =
    let got = walk_first wanted kind ks last e in
    step_derives wanted got.0 kind (ks ++ more) got.1 (walk_derives ks got.0 last more got.2 d)

pub record Left (last : Stack) (more : List PlainTerminal) : Type 0 where
  pub derived : Derives last more
  pub clear : Clear last

-- the derivation of the rest after the terminals
pub derived_left : (ks : List PlainTerminal) (wanted last : Stack) (more : List PlainTerminal) → Clear wanted
    → stack_after_all wanted ks ≡ Some last
    → Derives wanted (ks ++ more) → Left last more
derived_left [] wanted last more c e d =
    subst (λ (x : Stack). Left x more) (walk_none wanted last e) (record { derived = d; clear = c })
derived_left (kind ∷ ks) wanted last more c e d =
    let got = walk_first wanted kind ks last e in
    let s = steps wanted kind (ks ++ more) c d in
    derived_left ks s.next last more s.clear
    (ap (λ x. stack_after_all x ks) (same_Some s.next got.0 (sym s.stepped ∙ got.1)) ∙ got.2) s.derived

pub walk_depth : (outer : ℕ) (ks : List PlainTerminal) (wanted last : Stack) (ended : Bool) → Good ended wanted
    → stack_after_all wanted ks ≡ Some last → nesting_from (outer + depth wanted) ended ks ≡ outer + depth last
walk_depth outer [] wanted last ended good e = ap (λ x. outer + depth x) (walk_none wanted last e)
walk_depth outer (kind ∷ ks) wanted last ended good e =
    let got = walk_first wanted kind ks last e in
    let moved = step_depth outer wanted got.0 kind ended good got.1 in
    ap (λ n. nesting_from n (is_end kind) ks) moved.counts
    ∙ walk_depth outer ks got.0 last (is_end kind) moved.after got.2

pub walk_front : (front back : List PlainTerminal) (wanted last : Stack)
    → stack_after_all wanted (front ++ back) ≡ Some last
    → (mid : Stack) × (stack_after_all wanted front ≡ Some mid) × (stack_after_all mid back ≡ Some last)
unfolding stack_after_all
walk_front [] back wanted last e = (wanted, refl, e)
walk_front (kind ∷ front) back wanted last e =
    let got = walk_first wanted kind (front ++ back) last e in
    let rest = walk_front front back got.0 last got.2 in
    (rest.0, walk_more wanted got.0 kind front got.1 ∙ rest.1, rest.2)

pub walk_then : (ks : List PlainTerminal) (wanted last after : Stack) (kind : PlainTerminal)
    → stack_after_all wanted ks ≡ Some last
    → stack_after last kind ≡ Some after → stack_after_all wanted (ks ++ kind ∷ []) ≡ Some after
unfolding stack_after_all
walk_then [] wanted last after kind e h =
    walk_more wanted after kind [] (ap (λ o. stack_after (unwrap_or o []) kind) e ∙ h)
walk_then (x ∷ ks) wanted last after kind e h =
    let got = walk_first wanted x ks last e in
    walk_more wanted got.0 x (ks ++ kind ∷ []) got.1 ∙ walk_then ks got.0 last after kind got.2 h

-- at no terminal in between, more openers are open than the limit admits
abbrev pub Within : ℕ → Stack → List PlainTerminal → Type 0
Within outer wanted ks =
    (front back : List PlainTerminal) (mid : Stack) → ks ≡ front ++ back → stack_after_all wanted front ≡ Some mid
    → outer + depth mid ≤ GREATEST_NESTING

pub within_nothing : (outer : ℕ) (wanted : Stack) → outer + depth wanted ≤ GREATEST_NESTING → Within outer wanted []
within_nothing outer wanted h [] back mid e w = let P : Stack → Type 0 = λ x. outer + depth x ≤ GREATEST_NESTING in
    subst P (walk_none wanted mid w) h
within_nothing outer wanted h (x ∷ front) back mid e w = absurd cc

pub within_more : (outer : ℕ) (wanted next : Stack) (kind : PlainTerminal) (ks : List PlainTerminal)
    → outer + depth wanted ≤ GREATEST_NESTING → stack_after wanted kind ≡ Some next → Within outer next ks
    → Within outer wanted (kind ∷ ks)
within_more outer wanted next kind ks h s g [] back mid e w = let P : Stack → Type 0 = λ x. outer + depth x
    ≤ GREATEST_NESTING in subst P (walk_none wanted mid w) h
within_more outer wanted next kind ks h s g (x ∷ front) back mid e w =
    let same : stack_after wanted x ≡ Some next =
    ap (stack_after wanted) (sym (heads kind x ks (front ++ back) e)) ∙ s in
    g front back mid (tails kind x ks (front ++ back) e) (sym (walk_more wanted next x front same) ∙ w)
