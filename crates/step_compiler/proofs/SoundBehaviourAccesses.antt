-- In a sound behaviour, everything that expressions, actions and transitions read and write exists.
use Rattle.std.proofs.Common.{◌≡◌, ℕ, ◌+◌, ◌*◌, ◌<◌, ◌≤◌, Bool, true, false, ◌&&◌, ◌||◌, length, Option, Some, None}
use Rattle.std.proofs.Common.{refl, sym, ap, subst, arith, nat_lt}
use Rattle.std.specs.Prelude.{slice_get}
use Rattle.std.proofs.lemmas.Bool.{and_parts, ltb-true, false≢true}
use Rattle.std.proofs.lemmas.Option.{slice_get_within}
use Rattle.pals_base.specs.declared.behaviour.Op.{Op}
use Rattle.pals_base.specs.declared.behaviour.Op.TheVariants as op
use Rattle.pals_base.specs.declared.behaviour.PortDecl.{PortDecl}
use Rattle.pals_base.specs.declared.behaviour.VarDecl.{VarDecl}
use Rattle.pals_base.specs.declared.behaviour.BehaviourParts.{BehaviourParts}
use Rattle.pals_base.specs.declared.behaviour.Kind.{Kind}
use Rattle.pals_base.specs.declared.behaviour.Kind.TheVariants.{Integer, Boolean}
use Rattle.pals_base.specs.declared.expression_kinds.Kinds.{Kinds}
use Rattle.pals_base.specs.ExpressionAndActionTrees.{Expression, Literal, Variable, PortRead, Fresh, Neg, Abs, Not}
use Rattle.pals_base.specs.ExpressionAndActionTrees.{Chain, Operands}
use Rattle.pals_base.specs.ExpressionAndActionTrees.{NoMore, Then, Action, Assign, Emit, If, For, Actions, Nothing, Do}
use Rattle.pals_base.specs.ExpressionAndActionTrees.{Branches}
use Rattle.pals_base.specs.ExpressionAndActionTrees.{NoBranch, Where, Trigger, Dispatch, Always, When}
use Rattle.pals_base.specs.TypingRules.{allows, port_kinds, declared_or, operator_kinds, kinds_of, kinds_along}
use Rattle.pals_base.specs.TypingRules.{suits_variable}
use Rattle.pals_base.specs.TypingRules.{suits_port, turns, is_short, is_sound, are_sound, branches_are_sound}
use Rattle.pals_base.specs.BehaviourRules.{has_condition}
use Rattle.step_compiler.specs.LoopDepths.{depth_act, depth_acts, depth_branches}
use Rattle.step_compiler.proofs.BehaviourAccessBounds.{Sees, SeesAll, Sizes, SeesAct, SeesActs, SeesBranches}
use Rattle.step_compiler.proofs.BehaviourAccessBounds.{SeesTrigger}

-- a value has some type
abbrev pub Typed : Kinds → Type 0
Typed k = (k.integer || k.boolean) ≡ true

typed_by : (k : Kinds) (kind : Kind) → allows k kind ≡ true → Typed k
typed_by k Integer is = ap (λ x. x || k.boolean) is
typed_by k Boolean is = last k.integer k.boolean is
  where
    last : (x y : Bool) → y ≡ true → (x || y) ≡ true
    last true y is = refl
    last false y is = is

first_of : (x : Bool) → (x || false) ≡ true → x ≡ true
first_of true is = refl
first_of false is = is

truth_typed : (k : Kinds) → k.boolean ≡ true → Typed k
truth_typed k is = typed_by k Boolean is

number_typed : (k : Kinds) → k.integer ≡ true → Typed k
number_typed k is = typed_by k Integer is

-- ---- names
variable_seen : (b : BehaviourParts) (loops x : ℕ) (o : Option VarDecl) → slice_get b.vars x ≡ o
    → Typed (declared_or o (nat_lt x (length b.vars + loops))) → x < length b.vars + loops
variable_seen b loops x None is typed =
    ltb-true x (length b.vars + loops) (first_of (nat_lt x (length b.vars + loops)) typed)
variable_seen b loops x (Some v) is typed = let less = slice_get_within b.vars x v is in omega arith

port_seen : (b : BehaviourParts) (x : ℕ) (o : Option PortDecl) → slice_get b.ins x ≡ o → Typed (port_kinds o)
    → x < length b.ins
port_seen b x None is typed = absurd (false≢true typed)
port_seen b x (Some v) is typed = slice_get_within b.ins x v is

-- ---- operators: of sides that have a type
both_numbers : (a b : Kinds) → (a.integer && b.integer) ≡ true → Typed a × Typed b
both_numbers a b is = let both = and_parts a.integer b.integer is in (number_typed a both.0, number_typed b both.1)

both_truths : (a b : Kinds) → (a.boolean && b.boolean) ≡ true → Typed a × Typed b
both_truths a b is = let both = and_parts a.boolean b.boolean is in (truth_typed a both.0, truth_typed b both.1)

either : (a b : Kinds) → ((a.integer && b.integer) || (a.boolean && b.boolean)) ≡ true → Typed a × Typed b
either a b is = by (a.integer && b.integer) refl is
  where
    by : (t : Bool) → (a.integer && b.integer) ≡ t → (t || (a.boolean && b.boolean)) ≡ true → Typed a × Typed b
    by true is any = both_numbers a b is
    by false is any = both_truths a b any

joined_typed : (o : Op) (a b : Kinds) → Typed (operator_kinds o a b) → Typed a × Typed b
joined_typed op.Add a b is = both_numbers a b (first_of (a.integer && b.integer) is)
joined_typed op.Sub a b is = both_numbers a b (first_of (a.integer && b.integer) is)
joined_typed op.Mul a b is = both_numbers a b (first_of (a.integer && b.integer) is)
joined_typed op.Quot a b is = both_numbers a b (first_of (a.integer && b.integer) is)
joined_typed op.Mod a b is = both_numbers a b (first_of (a.integer && b.integer) is)
joined_typed op.Rem a b is = both_numbers a b (first_of (a.integer && b.integer) is)
joined_typed op.Eq a b is = either a b is
joined_typed op.Ne a b is = either a b is
joined_typed op.Lt a b is = both_numbers a b is
joined_typed op.Le a b is = both_numbers a b is
joined_typed op.Gt a b is = both_numbers a b is
joined_typed op.Ge a b is = both_numbers a b is
joined_typed op.And a b is = both_truths a b is
joined_typed op.Or a b is = both_truths a b is
joined_typed op.Xor a b is = both_truths a b is
joined_typed op.AndThen a b is = both_truths a b is
joined_typed op.OrElse a b is = both_truths a b is

-- ---- expressions
mutual
  pub expr_seen : (e : Expression) (b : BehaviourParts) (loops : ℕ) → Typed (kinds_of e b loops)
      → Sees (length b.vars + loops) (length b.ins) e
  expr_seen (Literal n) b loops typed = tt
  expr_seen (Variable x) b loops typed = variable_seen b loops x (slice_get b.vars x) refl typed
  expr_seen (PortRead p) b loops typed = port_seen b p (slice_get b.ins p) refl typed
  expr_seen (Fresh p) b loops typed = ltb-true p (length b.ins) typed
  expr_seen (Neg e) b loops typed =
      expr_seen e b loops (number_typed (kinds_of e b loops) (first_of (kinds_of e b loops).integer typed))
  expr_seen (Abs e) b loops typed =
      expr_seen e b loops (number_typed (kinds_of e b loops) (first_of (kinds_of e b loops).integer typed))
  expr_seen (Not e) b loops typed = expr_seen e b loops (truth_typed (kinds_of e b loops) typed)
  expr_seen (Chain first rest) b loops typed =
      let both = rest_seen rest b loops (kinds_of first b loops) typed in (expr_seen first b loops both.0, both.1)

  rest_seen : (os : Operands) (b : BehaviourParts) (loops : ℕ) (left : Kinds) → Typed (kinds_along os b loops left)
      → Typed left × SeesAll (length b.vars + loops) (length b.ins) os
  rest_seen NoMore b loops left typed = (typed, tt)
  rest_seen (Then o e rest) b loops left typed =
      let later = rest_seen rest b loops (operator_kinds o left (kinds_of e b loops)) typed in
      let both = joined_typed o left (kinds_of e b loops) later.0 in
      (both.0, (expr_seen e b loops both.1, later.1))

-- ---- actions, with slots for as many loops as nest in them
pub record Fitting (b : BehaviourParts) (z : Sizes) : Type 0 where
  pub declared : z.declared ≡ length b.vars
  pub outs : z.outs ≡ length b.outs
  pub ins : z.ins ≡ length b.ins

assigned_seen : (b : BehaviourParts) (x : ℕ) (k : Kinds) (o : Option VarDecl) → slice_get b.vars x ≡ o
    → suits_variable o k ≡ true → (x < length b.vars) × Typed k
assigned_seen b x k None is suits = absurd (false≢true suits)
assigned_seen b x k (Some v) is suits = (slice_get_within b.vars x v is, typed_by k v.kind suits)

sent_seen : (b : BehaviourParts) (x : ℕ) (k : Kinds) (o : Option PortDecl) → slice_get b.outs x ≡ o
    → suits_port o k ≡ true
    → (x < length b.outs) × Typed k
sent_seen b x k None is suits = absurd (false≢true suits)
sent_seen b x k (Some v) is suits = (slice_get_within b.outs x v is, typed_by k v.kind suits)

sees_at : (b : BehaviourParts) (z : Sizes) (n loops : ℕ) (e : Expression) → Fitting b z → n ≡ length b.vars + loops
    → Typed (kinds_of e b loops) → Sees n z.ins e
sees_at b z n loops e fit at typed =
    subst (λ k. Sees k z.ins e) (sym at)
    (subst (λ m. Sees (length b.vars + loops) m e) (sym fit.ins) (expr_seen e b loops typed))

mutual
  act_seen : (a : Action) (b : BehaviourParts) (z : Sizes) (n loops around : ℕ) → Fitting b z
      → n ≡ length b.vars + loops → n + depth_act a ≤ z.slots → is_sound a b loops around ≡ true → SeesAct z n a
  act_seen (Assign x e) b z n loops around fit at room sound =
      let both = assigned_seen b x (kinds_of e b loops) (slice_get b.vars x) refl sound in
      (subst (λ k. x < k) (sym fit.declared) both.0, sees_at b z n loops e fit at both.1)
  act_seen (Emit x e) b z n loops around fit at room sound =
      let both = sent_seen b x (kinds_of e b loops) (slice_get b.outs x) refl sound in
      (subst (λ k. x < k) (sym fit.outs) both.0, sees_at b z n loops e fit at both.1)
  act_seen (If branches otherwise) b z n loops around fit at room sound =
      let both = and_parts (branches_are_sound branches b loops around) (are_sound otherwise b loops around) sound in (
        branches_seen branches b z n loops around fit at (omega arith) both.0,
        acts_seen otherwise b z n loops around fit at (omega arith) both.1,
      )
  act_seen (For low high body) b z n loops around fit at room sound =
      let both =
      and_parts (is_short (turns low high) around) (are_sound body b (loops + 1) (around * turns low high)) sound in (
        omega arith,
        acts_seen body b z (n + 1) (loops + 1) (around * turns low high) fit (omega arith)
            (omega arith) both.1,
      )

  pub acts_seen : (as' : Actions) (b : BehaviourParts) (z : Sizes) (n loops around : ℕ) → Fitting b z
      → n ≡ length b.vars + loops → n + depth_acts as' ≤ z.slots → are_sound as' b loops around ≡ true
      → SeesActs z n as'
  acts_seen Nothing b z n loops around fit at room sound = tt
  acts_seen (Do a rest) b z n loops around fit at room sound =
      let both = and_parts (is_sound a b loops around) (are_sound rest b loops around) sound in (
        act_seen a b z n loops around fit at (omega arith) both.0,
        acts_seen rest b z n loops around fit at (omega arith) both.1,
      )

  branches_seen : (bs : Branches) (b : BehaviourParts) (z : Sizes) (n loops around : ℕ) → Fitting b z
      → n ≡ length b.vars + loops → n + depth_branches bs ≤ z.slots → branches_are_sound bs b loops around ≡ true
      → SeesBranches z n bs
  branches_seen NoBranch b z n loops around fit at room sound = tt
  branches_seen (Where guard actions rest) b z n loops around fit at room sound =
      let g = kinds_of guard b loops in
      let x =
      and_parts (g.boolean && are_sound actions b loops around) (branches_are_sound rest b loops around) sound in
      let y = and_parts g.boolean (are_sound actions b loops around) x.0 in (
        sees_at b z n loops guard fit at (truth_typed g y.0),
        acts_seen actions b z n loops around fit at (omega arith) y.1,
        branches_seen rest b z n loops around fit at (omega arith) x.1,
      )

pub trigger_seen : (t : Trigger) (b : BehaviourParts) (z : Sizes) → Fitting b z → has_condition b t ≡ true
    → SeesTrigger z t
trigger_seen Dispatch b z fit sound = tt
trigger_seen Always b z fit sound = tt
trigger_seen (When e) b z fit sound =
    sees_at b z z.declared 0 e fit (let d = fit.declared in omega arith) (truth_typed (kinds_of e b 0) sound)
