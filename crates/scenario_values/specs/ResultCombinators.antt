-- Results that are a value or the first fault: how one step follows another, a test of a value, and how what a call
-- returns stands for such a result.
use Rattle.std.specs.Prelude.{◌≡◌, ◌≢◌, Bool, List, [], ◌∷◌, Option, Some, None, Result, Ok, Err, MatchResult}
use Rattle.std.specs.Prelude.{if◌then◌else◌}
use Rattle.scenario_values.specs.declared.fault.ScenarioFault.{ScenarioFault}
use Rattle.scenario_values.specs.declared.fault.ScenarioFault.TheVariants.{Memory}

-- continues with the value that was read; the first fault is the result
infixl 10 ◌>>=◌
abbrev pub ◌>>=◌ : {A B : Type 0} → Result A ScenarioFault → (A → Result B ScenarioFault) → Result B ScenarioFault
Ok x >>= go = go x
Err fault >>= go = Err fault

-- the element, or a fault if there is none
abbrev pub given : {A : Type 0} → ScenarioFault → Option A → Result A ScenarioFault
given fault None = Err fault
given fault (Some x) = Ok x

-- continues if a test passes
abbrev pub only_if : {A : Type 0} → Bool → ScenarioFault → Result A ScenarioFault → Result A ScenarioFault
only_if test fault next = if test then next else Err fault

-- processes values one after another, with the results of the earlier values
abbrev pub through : {A S : Type 0} → (S → A → Result S ScenarioFault) → S → List A → Result S ScenarioFault
through step s [] = Ok s
through step s (x ∷ xs) = step s x >>= λ t. through step t xs

-- a call's answer shows what is meant, unless there was not enough memory
abbrev pub Shows : {A B : Type 0} → (A → B) → Result B ScenarioFault → Result A ScenarioFault → Type 0
Shows seen meant answer = MatchResult answer (λ x. meant ≡ Ok (seen x)) (λ fault. fault ≢ Memory → meant ≡ Err fault)

-- a call's result is the defined one, unless memory runs out
abbrev pub Answers : {A : Type 0} → Result A ScenarioFault → Result A ScenarioFault → Type 0
Answers meant answer = Shows (λ x. x) meant answer

-- the result that a call writes is the defined one, or its fault is, unless memory runs out
abbrev pub Makes : {A S : Type 0} → S → Result S ScenarioFault → Result A ScenarioFault → Type 0
Makes new meant answer = MatchResult answer (λ _. meant ≡ Ok new) (λ fault. fault ≢ Memory → meant ≡ Err fault)
