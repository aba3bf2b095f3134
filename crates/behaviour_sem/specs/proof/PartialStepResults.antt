-- The possible results of a part of a step: the defined result, the defined trap, or out of memory.
use Rattle.std.specs.Prelude.{◌≡◌, Bool, true, false, Result, Ok, Err}
use Rattle.pals_base.specs.declared.basic_types.Trap.{Trap}
use Rattle.behaviour_sem.specs.declared.early_end.EarlyEnd.{EarlyEnd}
use Rattle.behaviour_sem.specs.declared.early_end.EarlyEnd.TheVariants as stop

-- it reaches the defined result, or ends by the defined trap; every part may end because memory runs out
abbrev pub IsStepResult : {A : Type 0} → Result (Unit {0}) EarlyEnd → A → Result A Trap → Type 0
IsStepResult (Ok u) reached meant = meant ≡ Ok reached
IsStepResult (Err (stop.Trapped trap)) reached meant = meant ≡ Err trap
IsStepResult (Err stop.NoMemory) reached meant = Unit {0}

-- it finds a branch and reaches the defined result, or finds none, changes nothing and leaves the rest to the caller
abbrev pub IsBranchResult : {A : Type 0} → Result Bool EarlyEnd → A → A → Result A Trap → Result A Trap → Type 0
IsBranchResult (Ok true) reached before otherwise meant = meant ≡ Ok reached
IsBranchResult (Ok false) reached before otherwise meant = (meant ≡ otherwise) × (reached ≡ before)
IsBranchResult (Err (stop.Trapped trap)) reached before otherwise meant = meant ≡ Err trap
IsBranchResult (Err stop.NoMemory) reached before otherwise meant = Unit {0}
