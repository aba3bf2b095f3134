-- Outcomes whose fault, if there is one, is not `Memory`.
use Rattle.std.proofs.Common.{◌≡◌, ◌∙◌, Bool, true, false, List, [], ◌∷◌, ℕ, Option, Some, None, refl}
use Rattle.std.specs.Prelude.{◌≢◌, Result, Ok, Err}
use Rattle.scenario_values.specs.declared.fault.ScenarioFault.{ScenarioFault}
use Rattle.scenario_values.specs.declared.fault.ScenarioFault.TheVariants.{NotJson, Field, Unknown, WrongKind}
use Rattle.scenario_values.specs.declared.fault.ScenarioFault.TheVariants.{OutOfRange, TooBig, Memory}
use Rattle.scenario_values.specs.ResultCombinators.{◌>>=◌, given, only_if, through}

pub record IsNotMemory {A : Type 0} (r : Result A ScenarioFault) : Type 0 where
  pub named : (fault : ScenarioFault) → r ≡ Err fault → fault ≢ Memory

pub ok : {A : Type 0} {x : A} → IsNotMemory (Ok x)
ok = record { named = λ fault e. absurd cc }

err : {A : Type 0} (fault : ScenarioFault) → fault ≢ Memory → IsNotMemory {A = A} (Err fault)
err f n = record { named = λ fault e m. n (same_err e ∙ m) } where
  same_err : {B : Type 0} {f g : ScenarioFault} → ◌≡◌ {A = Result B ScenarioFault} (Err f) (Err g) → f ≡ g
  same_err e = cc

pub wrong : {A : Type 0} {place : List ℕ} → IsNotMemory {A = A} (Err (WrongKind place))
wrong {place = place} = err (WrongKind place) (λ e. absurd cc)

pub out : {A : Type 0} {place : List ℕ} → IsNotMemory {A = A} (Err (OutOfRange place))
out {place = place} = err (OutOfRange place) (λ e. absurd cc)

pub strange : {A : Type 0} {name : List ℕ} → IsNotMemory {A = A} (Err (Unknown name))
strange {name = name} = err (Unknown name) (λ e. absurd cc)

pub lacking : {A : Type 0} {name : List ℕ} → IsNotMemory {A = A} (Err (Field name))
lacking {name = name} = err (Field name) (λ e. absurd cc)

pub big : {A : Type 0} {cells : ℕ} → IsNotMemory {A = A} (Err (TooBig cells))
big {cells = cells} = err (TooBig cells) (λ e. absurd cc)

pub no_json : {A : Type 0} → IsNotMemory {A = A} (Err NotJson)
no_json = err NotJson (λ e. absurd cc)

pub bind : {A B : Type 0} (r : Result A ScenarioFault) (go : A → Result B ScenarioFault) → IsNotMemory r
    → ((x : A) → IsNotMemory (go x)) → IsNotMemory (r >>= go)
bind (Ok x) go n k = k x
bind (Err fault) go n k = err fault (n.named fault refl)

pub given_named : {A : Type 0} (fault : ScenarioFault) (o : Option A) → IsNotMemory {A = A} (Err fault)
    → IsNotMemory (given fault o)
given_named fault None n = n
given_named fault (Some x) n = ok

pub only : {A : Type 0} (b : Bool) (fault : ScenarioFault) (next : Result A ScenarioFault)
    → IsNotMemory {A = A} (Err fault)
    → IsNotMemory next → IsNotMemory (only_if b fault next)
only true fault next n m = m
only false fault next n m = n

pub through_named : {A S : Type 0} (step : S → A → Result S ScenarioFault) → ((s : S) (x : A) → IsNotMemory (step s x))
    → (s : S) (xs : List A) → IsNotMemory (through step s xs)
through_named step n s [] = ok
through_named step n s (x ∷ xs) = bind (step s x) (λ t. through step t xs) (n s x) (λ t. through_named step n t xs)
