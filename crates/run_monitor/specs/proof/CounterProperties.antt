-- Three properties of the two counters over three rounds.
use Rattle.std.specs.Prelude.{◌≡◌, ℕ, pos, Bool, true, false, codes, List, [], ◌∷◌, ◌++◌, map}
use Rattle.pals_base.specs.UpwardNumbers.{upwards}
use Rattle.pals_model.specs.proof.TwoCounters.{two_counters}
use Rattle.pals_model.specs.ComponentInputs.{no_env}
use Rattle.pals_model.specs.RoundTexts.{line_end}
use Rattle.pals_runs.specs.declared.forms.Compare.TheVariants.{Eq, Lt, Gt}
use Rattle.pals_runs.specs.Formula.{Formula, Var, Not, Or, Previous, Historically, Since}
use Rattle.run_monitor.specs.FormulaSemantics.{holds, frame_rows}
use Rattle.run_monitor.specs.FalseProperties.{is_some_false}
use Rattle.run_monitor.specs.WatchText.{formulas_of, watch_text}

-- the values of a formula at each of the rounds
abbrev pub watched : Formula → List Bool
watched f = map (holds f (frame_rows two_counters no_env 3)) (upwards 0 3)

-- x of p.b was always below 5
abbrev pub small : Formula
small = Historically (Var 1 0 Lt (pos 5))

-- x of p.a has been above 0 since it was 1
abbrev pub up : Formula
up = Since (Var 0 0 Gt (pos 0)) (Var 0 0 Eq (pos 1))

-- where x of p.a was above 2 a round before, it is above 6
abbrev pub quiet : Formula
quiet = Or (Not (Previous (Var 0 0 Gt (pos 2)))) (Var 0 0 Gt (pos 6))

abbrev pub SmallIsWatched : Type 0
SmallIsWatched = watched small ≡ true ∷ true ∷ false ∷ []

abbrev pub UpIsWatched : Type 0
UpIsWatched = watched up ≡ true ∷ true ∷ true ∷ []

abbrev pub QuietIsWatched : Type 0
QuietIsWatched = watched quiet ≡ true ∷ true ∷ true ∷ []

-- ---- their texts
abbrev line : List ℕ → List ℕ
line text = text ++ line_end

abbrev two : List (List ℕ × Formula)
two = (codes "small", small) ∷ (codes "up", up) ∷ []

abbrev one : List (List ℕ × Formula)
one = (codes "q", quiet) ∷ []

abbrev pub TwoText : Type 0
TwoText = watch_text two_counters no_env 3 two ≡
    line (codes "round 0") ++ line (codes "small true") ++ line (codes "up true")
    ++ line (codes "round 1") ++ line (codes "small true") ++ line (codes "up true")
    ++ line (codes "round 2") ++ line (codes "small false") ++ line (codes "up true")
    ++ line (codes "watch rounds 3 first small 2")

abbrev pub OneText : Type 0
OneText = watch_text two_counters no_env 3 one ≡
    line (codes "round 0") ++ line (codes "q true") ++ line (codes "round 1") ++ line (codes "q true")
    ++ line (codes "round 2") ++ line (codes "q true")
    ++ line (codes "watch rounds 3 first none")

abbrev pub AreViolated : Type 0
AreViolated =
    (is_some_false two_counters no_env 3 (formulas_of two) ≡ true)
    × (is_some_false two_counters no_env 3 (formulas_of one) ≡ false)
