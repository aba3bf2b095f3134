-- The encoding of trees in the logic as numbers and pairs, from which each tree can be decoded.
use Rattle.std.specs.Prelude.{◌≡◌, ℕ, zero, suc, ℤ, pos, negsuc, List, [], ◌∷◌, slice_index_or, refl}
use Rattle.std.proofs.Common.{sym, ap, ◌∙◌}
use Rattle.std.specs.Coded.{Coded, code_by, coded×, coded_ℕ}
use base.Stored.{Gv, gnum, gcons, gnil}
use Rattle.pals_base.specs.declared.behaviour.Op.{Op}
use Rattle.pals_base.specs.declared.behaviour.Op.TheVariants.{Add, Sub, Mul, Quot, Mod, Rem, Eq, Ne, Lt, Le, Gt, Ge}
use Rattle.pals_base.specs.declared.behaviour.Op.TheVariants.{And, Or, Xor, AndThen, OrElse}
use Rattle.pals_base.specs.ExpressionAndActionTrees.{Expression, Literal, Variable, PortRead, Fresh, Neg, Abs, Not}
use Rattle.pals_base.specs.ExpressionAndActionTrees.{Chain, Operands}
use Rattle.pals_base.specs.ExpressionAndActionTrees.{NoMore, Then, Action, Assign, Emit, If, For, Actions, Nothing, Do}
use Rattle.pals_base.specs.ExpressionAndActionTrees.{Branches}
use Rattle.pals_base.specs.ExpressionAndActionTrees.{NoBranch, Where, Trigger, Dispatch, Always, When, Edge}

-- ---- numbers and operators
abbrev pub int_to : ℤ → Gv
int_to (pos n) = gcons (gnum 0) (gnum n)
int_to (negsuc n) = gcons (gnum 1) (gnum n)

abbrev pub int_back : Gv → ℤ
int_back (gcons (gnum zero) (gnum n)) = pos n
int_back (gcons (gnum (suc k)) (gnum n)) = negsuc n
int_back v = pos 0

pub int_there : (n : ℤ) → int_back (int_to n) ≡ n
int_there (pos n) = refl
int_there (negsuc n) = refl

abbrev pub operators : List Op
operators = Add ∷ Sub ∷ Mul ∷ Quot ∷ Mod ∷ Rem ∷ Eq ∷ Ne ∷ Lt ∷ Le ∷ Gt ∷ Ge ∷ And ∷ Or ∷ Xor ∷ AndThen ∷ OrElse ∷ []

abbrev pub op_to : Op → ℕ
op_to Add = 0
op_to Sub = 1
op_to Mul = 2
op_to Quot = 3
op_to Mod = 4
op_to Rem = 5
op_to Eq = 6
op_to Ne = 7
op_to Lt = 8
op_to Le = 9
op_to Gt = 10
op_to Ge = 11
op_to And = 12
op_to Or = 13
op_to Xor = 14
op_to AndThen = 15
op_to OrElse = 16

abbrev pub op_back : ℕ → Op
op_back n = slice_index_or operators n Add

pub op_there : (op : Op) → op_back (op_to op) ≡ op
op_there Add = refl
op_there Sub = refl
op_there Mul = refl
op_there Quot = refl
op_there Mod = refl
op_there Rem = refl
op_there Eq = refl
op_there Ne = refl
op_there Lt = refl
op_there Le = refl
op_there Gt = refl
op_there Ge = refl
op_there And = refl
op_there Or = refl
op_there Xor = refl
op_there AndThen = refl
op_there OrElse = refl

-- ---- expressions
abbrev mutual
  pub expression_to : Expression → Gv
  expression_to (Literal n) = gcons (gnum 0) (int_to n)
  expression_to (Variable x) = gcons (gnum 1) (gnum x)
  expression_to (PortRead p) = gcons (gnum 2) (gnum p)
  expression_to (Fresh p) = gcons (gnum 3) (gnum p)
  expression_to (Neg e) = gcons (gnum 4) (expression_to e)
  expression_to (Abs e) = gcons (gnum 5) (expression_to e)
  expression_to (Not e) = gcons (gnum 6) (expression_to e)
  expression_to (Chain first rest) = gcons (gnum 7) (gcons (expression_to first) (operands_to rest))

  pub operands_to : Operands → Gv
  operands_to NoMore = gnil
  operands_to (Then op e rest) = gcons (gcons (gnum (op_to op)) (expression_to e)) (operands_to rest)

abbrev mutual
  pub expression_back : Gv → Expression
  expression_back (gcons (gnum zero) v) = Literal (int_back v)
  expression_back (gcons (gnum (suc zero)) (gnum x)) = Variable x
  expression_back (gcons (gnum (suc (suc zero))) (gnum p)) = PortRead p
  expression_back (gcons (gnum (suc (suc (suc zero)))) (gnum p)) = Fresh p
  expression_back (gcons (gnum (suc (suc (suc (suc zero))))) v) = Neg (expression_back v)
  expression_back (gcons (gnum (suc (suc (suc (suc (suc zero)))))) v) = Abs (expression_back v)
  expression_back (gcons (gnum (suc (suc (suc (suc (suc (suc zero))))))) v) = Not (expression_back v)
  expression_back (gcons (gnum (suc (suc (suc (suc (suc (suc (suc n)))))))) (gcons a b)) =
      Chain (expression_back a) (operands_back b)
  expression_back v = Variable 0

  pub operands_back : Gv → Operands
  operands_back (gcons (gcons (gnum k) e) v) = Then (op_back k) (expression_back e) (operands_back v)
  operands_back v = NoMore

mutual
  pub expression_there : (e : Expression) → expression_back (expression_to e) ≡ e
  expression_there (Literal n) = ap Literal (int_there n)
  expression_there (Variable x) = refl
  expression_there (PortRead p) = refl
  expression_there (Fresh p) = refl
  expression_there (Neg e) = ap Neg (expression_there e)
  expression_there (Abs e) = ap Abs (expression_there e)
  expression_there (Not e) = ap Not (expression_there e)
  expression_there (Chain first rest) =
      ap (λ f. Chain f (operands_back (operands_to rest))) (expression_there first)
      ∙ ap (λ r. Chain first r) (operands_there rest)

  pub operands_there : (os : Operands) → operands_back (operands_to os) ≡ os
  operands_there NoMore = refl
  operands_there (Then op e rest) =
      ap (λ o. Then o (expression_back (expression_to e)) (operands_back (operands_to rest))) (op_there op)
      ∙ ap (λ t. Then op t (operands_back (operands_to rest))) (expression_there e)
      ∙ ap (λ r. Then op e r) (operands_there rest)

-- ---- actions
abbrev mutual
  pub action_to : Action → Gv
  action_to (Assign x e) = gcons (gnum 0) (gcons (gnum x) (expression_to e))
  action_to (Emit p e) = gcons (gnum 1) (gcons (gnum p) (expression_to e))
  action_to (If branches otherwise) = gcons (gnum 2) (gcons (branches_to branches) (actions_to otherwise))
  action_to (For low high body) = gcons (gnum 3) (gcons (int_to low) (gcons (int_to high) (actions_to body)))

  pub actions_to : Actions → Gv
  actions_to Nothing = gnil
  actions_to (Do a rest) = gcons (action_to a) (actions_to rest)

  pub branches_to : Branches → Gv
  branches_to NoBranch = gnil
  branches_to (Where guard actions rest) = gcons (gcons (expression_to guard) (actions_to actions)) (branches_to rest)

abbrev mutual
  pub action_back : Gv → Action
  action_back (gcons (gnum zero) (gcons (gnum x) v)) = Assign x (expression_back v)
  action_back (gcons (gnum (suc zero)) (gcons (gnum p) v)) = Emit p (expression_back v)
  action_back (gcons (gnum (suc (suc zero))) (gcons a b)) = If (branches_back a) (actions_back b)
  action_back (gcons (gnum (suc (suc (suc n)))) (gcons low (gcons high body))) =
      For (int_back low) (int_back high) (actions_back body)
  action_back v = Assign 0 (Variable 0)

  pub actions_back : Gv → Actions
  actions_back (gcons a v) = Do (action_back a) (actions_back v)
  actions_back v = Nothing

  pub branches_back : Gv → Branches
  branches_back (gcons (gcons a b) v) = Where (expression_back a) (actions_back b) (branches_back v)
  branches_back v = NoBranch

mutual
  pub action_there : (a : Action) → action_back (action_to a) ≡ a
  action_there (Assign x e) = ap (Assign x) (expression_there e)
  action_there (Emit p e) = ap (Emit p) (expression_there e)
  action_there (If branches otherwise) =
      ap (λ b. If b (actions_back (actions_to otherwise))) (branches_there branches)
      ∙ ap (λ o. If branches o) (actions_there otherwise)
  action_there (For low high body) =
      ap (λ l. For l (int_back (int_to high)) (actions_back (actions_to body))) (int_there low)
      ∙ ap (λ h. For low h (actions_back (actions_to body))) (int_there high)
      ∙ ap (λ b. For low high b) (actions_there body)

  pub actions_there : (as' : Actions) → actions_back (actions_to as') ≡ as'
  actions_there Nothing = refl
  actions_there (Do a rest) =
      ap (λ b. Do b (actions_back (actions_to rest))) (action_there a) ∙ ap (λ r. Do a r) (actions_there rest)

  pub branches_there : (bs : Branches) → branches_back (branches_to bs) ≡ bs
  branches_there NoBranch = refl
  branches_there (Where guard actions rest) =
      ap (λ g. Where g (actions_back (actions_to actions)) (branches_back (branches_to rest))) (expression_there guard)
      ∙ ap (λ a. Where guard a (branches_back (branches_to rest))) (actions_there actions)
      ∙ ap (λ r. Where guard actions r) (branches_there rest)

-- ---- edges
abbrev pub trigger_to : Trigger → Gv
trigger_to Dispatch = gnum 0
trigger_to Always = gnum 1
trigger_to (When e) = gcons gnil (expression_to e)

abbrev pub trigger_back : Gv → Trigger
trigger_back (gnum zero) = Dispatch
trigger_back (gnum (suc n)) = Always
trigger_back (gcons a v) = When (expression_back v)
trigger_back gnil = Always

pub trigger_there : (t : Trigger) → trigger_back (trigger_to t) ≡ t
trigger_there Dispatch = refl
trigger_there Always = refl
trigger_there (When e) = ap When (expression_there e)

abbrev pub trigger_code : Coded Trigger
trigger_code =
    record { code = trigger_to; inj = λ s t same. sym (trigger_there s) ∙ ap trigger_back same ∙ trigger_there t }

abbrev pub actions_code : Coded Actions
actions_code =
    record { code = actions_to; inj = λ s t same. sym (actions_there s) ∙ ap actions_back same ∙ actions_there t }

abbrev pub edge_code : Coded Edge
edge_code =
    code_by ((ℕ × ℕ) × (Trigger × Actions)) (coded× (coded× coded_ℕ coded_ℕ) (coded× trigger_code actions_code))
    (λ e. ((e.source, e.target), (e.trigger, e.actions)))
    (λ p. record { source = p.0.0; target = p.0.1; trigger = p.1.0; actions = p.1.1 })
    (λ _. refl)
