-- If reading ended with a value, each of its steps succeeded: the consequence for tests, ranges and list elements.
use Rattle.std.proofs.Common.{◌≡◌, ℕ, ◌≤◌, ℤ, pos, negsuc, Bool, true, false, ◌&&◌, List, [], ◌∷◌, Option, Some, None}
use Rattle.std.proofs.Common.{Result, Ok, Err, refl, subst, arith}
use Rattle.std.specs.Prelude.{nat_le}
use Rattle.std.proofs.lemmas.Bool.Decides.{nat_tests}
use Rattle.serde_json.specs.Data.{Data}
use Rattle.scenario_values.specs.declared.fault.ScenarioFault.{ScenarioFault}
use Rattle.scenario_values.specs.ResultCombinators.{◌>>=◌, given, only_if, through}
use Rattle.scenario_values.specs.FieldValues.{in_range, whole}

abbrev pub read_as : {A : Type 0} → A → Result A ScenarioFault
read_as a = Ok a

pub ok_same : {A : Type 0} (a b : A) → read_as a ≡ read_as b → a ≡ b
ok_same a b e = cc

pub ok_bind : {A B : Type 0} (m : Result A ScenarioFault) (go : A → Result B ScenarioFault) (b : B) → (m >>= go) ≡ Ok b
    → (a : A) × (m ≡ Ok a) × (go a ≡ Ok b)
ok_bind (Ok x) go b e = (x, refl, e)
ok_bind (Err fault) go b e = absurd (cc)

pub ok_given : {A : Type 0} (fault : ScenarioFault) (found : Option A) (a : A) → given fault found ≡ Ok a
    → found ≡ Some a
ok_given fault None a e = absurd (cc)
ok_given fault (Some x) a e = cc

pub ok_only_if : {A : Type 0} (test : Bool) (fault : ScenarioFault) (next : Result A ScenarioFault) (a : A)
    → only_if test fault next ≡ Ok a → (test ≡ true) × (next ≡ Ok a)
ok_only_if true fault next a e = (refl, e)
ok_only_if false fault next a e = absurd (cc)

-- an invariant of each step is an invariant of the whole
pub through_keeps : {A S : Type 0} (P : S → Type 0) (step : S → A → Result S ScenarioFault)
    → ((s : S) (x : A) (t : S) → P s → step s x ≡ Ok t → P t) → (s : S) (xs : List A) (t : S) → P s
    → through step s xs ≡ Ok t → P t
through_keeps P step turn s [] t keeps e = subst P (ok_same s t e) keeps
through_keeps P step turn s (x ∷ xs) t keeps e =
    let first = ok_bind (step s x) (λ next. through step next xs) t e in
    through_keeps P step turn first.0 xs t (turn s x first.0 keeps first.1) first.2

-- ---- numbers in their ranges
both_le : (least most n m : ℕ) → (nat_le least n && nat_le n most) ≡ true → n ≡ m → (least ≤ m) × (m ≤ most)
both_le least most n m passed same = grind (arith, nat_tests)

within_range : (place : List ℕ) (least most : ℕ) (z : ℤ) (n : ℕ) → in_range place least most z ≡ Ok n
    → (least ≤ n) × (n ≤ most)
within_range place least most (pos m) n e =
    let passed = ok_only_if (nat_le least m && nat_le m most) _ (Ok m) n e in
    both_le least most m n passed.0 (ok_same m n passed.1)
within_range place least most (negsuc m) n e = absurd (cc)

pub whole_within : (place : List ℕ) (least most : ℕ) (d : Data) (n : ℕ) → whole place least most d ≡ Ok n
    → (least ≤ n) × (n ≤ most)
unfolding whole
whole_within place least most d n e =
    let read = ok_bind _ (in_range place least most) n e in
    within_range place least most read.0 n read.2
