-- For the law that steps keep kinds: what an expression is worth fits each kind that it may have.
use Rattle.std.proofs.Common.{◌≡◌, ◌⊎◌, inl, inr, ℕ, ◌+◌, nat_le, nat_lt, ℤ, pos, negsuc, Bool, true, false, not, ◌&&◌}
use Rattle.std.proofs.Common.{◌||◌, cond, List, length, Option, Some, None, refl, ap, arith}
use Rattle.std.specs.Prelude.{Result, Ok, IfOk, slice_get, slice_index_or, int_le, int_lt}
use Rattle.std.proofs.lemmas.Bool.{and_parts, leb-true, false≢true, or_cases}
use Rattle.list_lemmas.proofs.Results.{IfOk-weaker}
use Rattle.pals_base.specs.declared.basic_types.Trap.{Trap}
use Rattle.pals_base.specs.declared.frames.Frame.{Frame}
use Rattle.pals_base.specs.declared.behaviour.Op.{Op}
use Rattle.pals_base.specs.declared.behaviour.Op.TheVariants.{Add, Sub, Mul, Quot, Mod, Rem, Eq, Ne, Lt, Le, Gt, Ge}
use Rattle.pals_base.specs.declared.behaviour.Op.TheVariants.{And, Or, Xor, AndThen, OrElse}
use Rattle.pals_base.specs.declared.behaviour.Kind.{Kind}
use Rattle.pals_base.specs.declared.behaviour.Kind.TheVariants.{Integer, Boolean}
use Rattle.pals_base.specs.declared.behaviour.PortDecl.{PortDecl}
use Rattle.pals_base.specs.declared.behaviour.VarDecl.{VarDecl}
use Rattle.pals_base.specs.declared.behaviour.BehaviourParts.{BehaviourParts}
use Rattle.pals_base.specs.declared.expression_kinds.Kinds.{Kinds}
use Rattle.pals_base.specs.Arithmetic.{negation_of, magnitude_of}
use Rattle.pals_base.specs.ExpressionValues.{on_value, is_true, truth, same_number, applied, combined, eval, eval_rest}
use Rattle.pals_base.specs.TypingRules.{only, allows, literal_kinds, declared_or, port_kinds, operator_kinds, kinds_of}
use Rattle.pals_base.specs.TypingRules.{kinds_along}
use Rattle.pals_base.specs.ExpressionAndActionTrees.{Expression, Literal, Variable, PortRead, Fresh, Neg, Abs, Not}
use Rattle.pals_base.specs.ExpressionAndActionTrees.{Chain, Operands}
use Rattle.pals_base.specs.ExpressionAndActionTrees.{NoMore, Then}
use Rattle.pals_base.proofs.StepTermination.{then_ok}
use Rattle.pals_model.specs.proof.ValuesFitKinds.{Fits, VarsFit, HeldFit}
use Rattle.pals_model.proofs.AllElements.{any_ok, on_ok, if_ok}

-- ---- numbers
-- a value that may be a Boolean is 0 or 1
abbrev pub MayBe : Kinds → ℤ → Type 0
MayBe kinds v = kinds.boolean ≡ true → Fits Boolean v

pub truth_fits : (b : Bool) → Fits Boolean (truth b)
truth_fits true = inr refl
truth_fits false = inl refl

pub allowed_fits : (kind : Kind) (kinds : Kinds) (v : ℤ) → allows kinds kind ≡ true → MayBe kinds v → Fits kind v
allowed_fits Integer kinds v is may = tt
allowed_fits Boolean kinds v is may = may is

only_may : (kind : Kind) (v : ℤ) → Fits kind v → MayBe (only kind) v
only_may Integer v fits = λ is. absurd (false≢true is)
only_may Boolean v fits = λ is. fits

least_by : (n : ℕ) → ((nat_le n 0 && nat_le 0 n) ≡ true) ⊎ ((nat_le n 1 && nat_le 1 n) ≡ true) → Fits Boolean (pos n)
least_by n (inl none) =
    let parts = and_parts (nat_le n 0) (nat_le 0 n) none in
    let le = leb-true n 0 parts.0 in
    let same : n ≡ 0 = omega arith in inl (ap pos same)
least_by n (inr one) =
    let parts = and_parts (nat_le n 1) (nat_le 1 n) one in
    let le = leb-true n 1 parts.0 in
    let ge = leb-true 1 n parts.1 in
    let same : n ≡ 1 = omega arith in inr (ap pos same)

pub literal_may : (n : ℤ) → MayBe (literal_kinds n) n
literal_may (pos n) = λ is. least_by n (or_cases (same_number (pos n) (pos 0)) (same_number (pos n) (pos 1)) is)
literal_may (negsuc n) = λ is. absurd (false≢true is)

-- ---- names
var_by : (b : BehaviourParts) (o : Option VarDecl) (is_loop : Bool) (v : ℤ)
    → ((d : VarDecl) → o ≡ Some d → Fits d.kind v) → MayBe (declared_or o is_loop) v
var_by b None is_loop v fits = λ is. absurd (false≢true is)
var_by b (Some d) is_loop v fits = only_may d.kind v (fits d refl)

port_by : (o : Option PortDecl) (v : ℤ) → ((d : PortDecl) → o ≡ Some d → Fits d.kind v) → MayBe (port_kinds o) v
port_by None v fits = λ is. absurd (false≢true is)
port_by (Some d) v fits = only_may d.kind v (fits d refl)

-- ---- operators

combined_may : (op : Op) (a b : Kinds) (left : ℤ) (right : Result ℤ Trap) → MayBe a left → IfOk right (MayBe b)
    → IfOk (combined op left right) (MayBe (operator_kinds op a b))
combined_may Add a b left right one two =
    any_ok (MayBe (operator_kinds Add a b)) (combined Add left right) (λ x is. absurd (false≢true is))
combined_may Sub a b left right one two =
    any_ok (MayBe (operator_kinds Sub a b)) (combined Sub left right) (λ x is. absurd (false≢true is))
combined_may Mul a b left right one two =
    any_ok (MayBe (operator_kinds Mul a b)) (combined Mul left right) (λ x is. absurd (false≢true is))
combined_may Quot a b left right one two =
    any_ok (MayBe (operator_kinds Quot a b)) (combined Quot left right) (λ x is. absurd (false≢true is))
combined_may Mod a b left right one two =
    any_ok (MayBe (operator_kinds Mod a b)) (combined Mod left right) (λ x is. absurd (false≢true is))
combined_may Rem a b left right one two =
    any_ok (MayBe (operator_kinds Rem a b)) (combined Rem left right) (λ x is. absurd (false≢true is))
combined_may Eq a b left right one two =
    on_ok (MayBe (operator_kinds Eq a b)) right (λ x. applied Eq left x) (λ x is. truth_fits (same_number left x))
combined_may Ne a b left right one two =
    on_ok (MayBe (operator_kinds Ne a b)) right (λ x. applied Ne left x) (λ x is. truth_fits (not (same_number left x)))
combined_may Lt a b left right one two =
    on_ok (MayBe (operator_kinds Lt a b)) right (λ x. applied Lt left x) (λ x is. truth_fits (int_lt left x))
combined_may Le a b left right one two =
    on_ok (MayBe (operator_kinds Le a b)) right (λ x. applied Le left x) (λ x is. truth_fits (int_le left x))
combined_may Gt a b left right one two =
    on_ok (MayBe (operator_kinds Gt a b)) right (λ x. applied Gt left x) (λ x is. truth_fits (int_lt x left))
combined_may Ge a b left right one two =
    on_ok (MayBe (operator_kinds Ge a b)) right (λ x. applied Ge left x) (λ x is. truth_fits (int_le x left))
combined_may And a b left right one two =
    on_ok (MayBe (operator_kinds And a b)) right (λ x. applied And left x)
    (λ x is. truth_fits (is_true left && is_true x))
combined_may Or a b left right one two =
    on_ok (MayBe (operator_kinds Or a b)) right (λ x. applied Or left x)
    (λ x is. truth_fits (is_true left || is_true x))
combined_may Xor a b left right one two =
    on_ok (MayBe (operator_kinds Xor a b)) right (λ x. applied Xor left x)
    (λ x is. truth_fits (cond (is_true left) (not (is_true x)) (is_true x)))
combined_may AndThen a b left right one two =
    if_ok (MayBe (operator_kinds AndThen a b)) (is_true left) right (Ok (pos 0))
    (IfOk-weaker (MayBe b) (MayBe (operator_kinds AndThen a b)) right
    (λ x may is. may (and_parts a.boolean b.boolean is).1)
    two) (λ is. inl refl)
combined_may OrElse a b left right one two =
    if_ok (MayBe (operator_kinds OrElse a b)) (is_true left) (Ok (pos 1)) right (λ is. inr refl)
    (IfOk-weaker (MayBe b) (MayBe (operator_kinds OrElse a b)) right
    (λ x may is. may (and_parts a.boolean b.boolean is).1) two)

-- ---- expressions
mutual
  pub eval_may : (e : Expression) (b : BehaviourParts) (loops : ℕ) (frame : Frame) (fresh : List Bool)
      → VarsFit b frame.vars → HeldFit b frame.held → IfOk (eval e frame fresh) (MayBe (kinds_of e b loops))
  eval_may (Literal n) b loops frame fresh vars held = literal_may n
  eval_may (Variable x) b loops frame fresh vars held =
      var_by b (slice_get b.vars x) (nat_lt x (length b.vars + loops)) (slice_index_or frame.vars x (pos 0))
      (λ d is. vars x d is)
  eval_may (PortRead p) b loops frame fresh vars held =
      port_by (slice_get b.ins p) (slice_index_or frame.held p (pos 0)) (λ d is. held p d is)
  eval_may (Fresh p) b loops frame fresh vars held = λ is. truth_fits (slice_index_or fresh p false)
  eval_may (Neg e) b loops frame fresh vars held =
      any_ok (MayBe (kinds_of (Neg e) b loops)) (on_value (eval e frame fresh) negation_of)
      (λ x is. absurd (false≢true is))
  eval_may (Abs e) b loops frame fresh vars held =
      any_ok (MayBe (kinds_of (Abs e) b loops)) (on_value (eval e frame fresh) magnitude_of)
      (λ x is. absurd (false≢true is))
  eval_may (Not e) b loops frame fresh vars held =
      on_ok (MayBe (kinds_of (Not e) b loops)) (eval e frame fresh) (λ v. Ok (truth (not (is_true v))))
      (λ v is. truth_fits (not (is_true v)))
  eval_may (Chain first rest) b loops frame fresh vars held =
      then_ok (MayBe (kinds_of first b loops)) (MayBe (kinds_along rest b loops (kinds_of first b loops)))
      (eval first frame fresh) (λ v. eval_rest rest frame fresh v) (eval_may first b loops frame fresh vars held)
      (λ v may. rest_may rest b loops frame fresh vars held (kinds_of first b loops) v may)

  pub rest_may : (rest : Operands) (b : BehaviourParts) (loops : ℕ) (frame : Frame) (fresh : List Bool)
      → VarsFit b frame.vars → HeldFit b frame.held → (kinds : Kinds) (left : ℤ) → MayBe kinds left
      → IfOk (eval_rest rest frame fresh left) (MayBe (kinds_along rest b loops kinds))
  rest_may NoMore b loops frame fresh vars held kinds left may = may
  rest_may (Then op e rest) b loops frame fresh vars held kinds left may =
      then_ok (MayBe (operator_kinds op kinds (kinds_of e b loops)))
      (MayBe (kinds_along rest b loops (operator_kinds op kinds (kinds_of e b loops))))
      (combined op left (eval e frame fresh)) (λ v. eval_rest rest frame fresh v)
      (combined_may op kinds (kinds_of e b loops) left (eval e frame fresh) may
      (eval_may e b loops frame fresh vars held))
      (λ v so_far. rest_may rest b loops frame fresh vars held (operator_kinds op kinds (kinds_of e b loops)) v so_far)
