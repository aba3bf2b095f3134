-- Which components a formula names.
use Rattle.std.specs.Prelude.{ℕ, nat_eq, Bool, false, ◌||◌}
use Rattle.pals_runs.specs.Formula.{Formula, Var, Halted, Not, And, Or, Previous, Once, Historically, Since}

-- by itself, and not by its parts
abbrev pub reads : Formula → ℕ → Bool
reads (Var node variable op number) n = nat_eq node n
reads (Halted node) n = nat_eq node n
reads f n = false

-- by itself or by a part
abbrev pub names : Formula → ℕ → Bool
names (Var node variable op number) n = nat_eq node n
names (Halted node) n = nat_eq node n
names (Not f) n = names f n
names (And f g) n = names f n || names g n
names (Or f g) n = names f n || names g n
names (Previous f) n = names f n
names (Once f) n = names f n
names (Historically f) n = names f n
names (Since f g) n = names f n || names g n
