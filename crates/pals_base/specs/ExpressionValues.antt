-- The values of expressions.
use Rattle.std.specs.Prelude.{ℤ, pos, negsuc, zero, suc, Bool, true, false, not, ◌&&◌, ◌||◌, if◌then◌else◌, List}
use Rattle.std.specs.Prelude.{Result, Ok, Err, slice_index_or, int_le, int_lt}
use Rattle.pals_base.specs.declared.basic_types.Trap.{Trap}
use Rattle.pals_base.specs.declared.frames.Frame.{Frame}
use Rattle.pals_base.specs.declared.behaviour.Op.{Op}
use Rattle.pals_base.specs.declared.behaviour.Op.TheVariants.{Add, Sub, Mul, Quot, Mod, Rem, Eq, Ne, Lt, Le, Gt, Ge}
use Rattle.pals_base.specs.declared.behaviour.Op.TheVariants.{And, Or, Xor, AndThen, OrElse}
use Rattle.pals_base.specs.Arithmetic.{sum_of, difference_of, product_of, quotient_of, remainder_of, modulus_of}
use Rattle.pals_base.specs.Arithmetic.{negation_of, magnitude_of}
use Rattle.pals_base.specs.ExpressionAndActionTrees.{Expression, Literal, Variable, PortRead, Fresh, Neg, Abs, Not}
use Rattle.pals_base.specs.ExpressionAndActionTrees.{Chain, Operands}
use Rattle.pals_base.specs.ExpressionAndActionTrees.{NoMore, Then}

-- continues with a value; the result is the first trap
abbrev pub on_value : {A B : Type 0} → Result A Trap → (A → Result B Trap) → Result B Trap
on_value (Ok v) go = go v
on_value (Err trap) go = Err trap

-- false is 0, and every other number counts as true
abbrev pub is_true : ℤ → Bool
is_true (pos zero) = false
is_true (pos (suc n)) = true
is_true (negsuc n) = true

abbrev pub truth : Bool → ℤ
truth b = if b then pos 1 else pos 0

-- whether two numbers are equal
abbrev pub same_number : ℤ → ℤ → Bool
same_number a b = int_le a b && int_le b a

-- an operator at the values of both sides
abbrev pub applied : Op → ℤ → ℤ → Result ℤ Trap
applied Add a b = sum_of a b
applied Sub a b = difference_of a b
applied Mul a b = product_of a b
applied Quot a b = quotient_of a b
applied Mod a b = modulus_of a b
applied Rem a b = remainder_of a b
applied Eq a b = Ok (truth (same_number a b))
applied Ne a b = Ok (truth (not (same_number a b)))
applied Lt a b = Ok (truth (int_lt a b))
applied Le a b = Ok (truth (int_le a b))
applied Gt a b = Ok (truth (int_lt b a))
applied Ge a b = Ok (truth (int_le b a))
applied And a b = Ok (truth (is_true a && is_true b))
applied Or a b = Ok (truth (is_true a || is_true b))
applied Xor a b = Ok (truth (if is_true a then not (is_true b) else is_true b))
applied AndThen a b = if is_true a then Ok b else Ok (pos 0)
applied OrElse a b = if is_true a then Ok (pos 1) else Ok b

-- an operator on a left value and a right side; `and then` and `or else` evaluate the right side only if necessary
abbrev pub combined : Op → ℤ → Result ℤ Trap → Result ℤ Trap
combined AndThen a right = if is_true a then right else Ok (pos 0)
combined OrElse a right = if is_true a then Ok (pos 1) else right
combined op a right = on_value right (λ b. applied op a b)

abbrev mutual
  -- the value of an expression, which reads variables and held inputs, and whether an input is present in this step
  pub eval : Expression → Frame → List Bool → Result ℤ Trap
  eval (Literal n) frame fresh = Ok n
  eval (Variable x) frame fresh = Ok (slice_index_or frame.vars x (pos 0))
  eval (PortRead p) frame fresh = Ok (slice_index_or frame.held p (pos 0))
  eval (Fresh p) frame fresh = Ok (truth (slice_index_or fresh p false))
  eval (Neg e) frame fresh = on_value (eval e frame fresh) negation_of
  eval (Abs e) frame fresh = on_value (eval e frame fresh) magnitude_of
  eval (Not e) frame fresh = on_value (eval e frame fresh) (λ v. Ok (truth (not (is_true v))))
  eval (Chain first rest) frame fresh = on_value (eval first frame fresh) (λ v. eval_rest rest frame fresh v)

  -- the later operands of a chain, from the value of the operands to their left
  pub eval_rest : Operands → Frame → List Bool → ℤ → Result ℤ Trap
  eval_rest NoMore frame fresh left = Ok left
  eval_rest (Then op e rest) frame fresh left =
      on_value (combined op left (eval e frame fresh)) (λ v. eval_rest rest frame fresh v)
