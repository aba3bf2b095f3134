-- The statuses that answers to a bundle with a scenario have.
use Rattle.std.proofs.Common.{◌≡◌, ◌⊎◌, inl, inr, ℕ, ◌<◌, ◌≤◌, Bool, true, false, List, arith}
use Rattle.std.specs.Prelude.{if◌then◌else◌}
use Rattle.pals_model.specs.declared.design.DesignParts.{DesignParts}
use Rattle.scenario_json.specs.declared.scenario.Scenario.{Scenario}
use Rattle.pals_top.specs.AnalysisCommands.{Analysis, Sync, Watch, Vote, Fuse}
use Rattle.pals_top.specs.ExecutionCommands.{Execution, TimedWorld, LooseWorld, Run, Audit, Budget}
use Rattle.pals_top.specs.AnalysisAnswers.{Makes as analyses}
use Rattle.pals_top.specs.ExecutionAnswers.{Makes as executes}

-- whether all is so, or something is not
judged_is_small : (s : ℕ) (b : Bool) → s ≡ (if b then 1 else 0) → s < 2
judged_is_small s true e = omega (arith, e)
judged_is_small s false e = omega (arith, e)

verdict_is_small : (s : ℕ) (b : Bool) → s ≡ (if b then 0 else 1) → s < 2
verdict_is_small s true e = omega (arith, e)
verdict_is_small s false e = omega (arith, e)

pub analysis_status : (what : Analysis) (design : DesignParts) (scenario : Scenario) (s : ℕ) (a : List ℕ)
    → analyses what design scenario s a → s < 2
analysis_status Sync design scenario s a x = let e : s ≡ 0 = x.0 in omega arith
analysis_status Watch design scenario s a x = judged_is_small s _ x.status_is
analysis_status Vote design scenario s a x = let e : s ≡ 0 = x.status_is in omega arith
analysis_status Fuse design scenario s a x = let e : s ≡ 0 = x.status_is in omega arith

-- none of them is the status of a refused text or design, of a code that is too long, or of a source that was not read
abbrev pub IsMade : ℕ → Type 0
IsMade s = (s < 3) ⊎ ((5 ≤ s) × (s < 9))

pub execution_status : (what : Execution) (design : DesignParts) (scenario : Scenario) (s : ℕ) (a : List ℕ)
    → executes what design scenario s a → IsMade s
execution_status TimedWorld design scenario s a (inl x) = let e : s ≡ 0 = x.0 in inl (omega arith)
execution_status TimedWorld design scenario s a (inr x) = let e : s ≡ 5 = x.0 in inr (omega arith, omega arith)
execution_status LooseWorld design scenario s a (inl x) = let e : s ≡ 0 = x.0 in inl (omega arith)
execution_status LooseWorld design scenario s a (inr (inl x)) = let e : s ≡ 6 = x.0 in inr (omega arith, omega arith)
execution_status LooseWorld design scenario s a (inr (inr x)) = let e : s ≡ 5 = x.0 in inr (omega arith, omega arith)
execution_status (Run trace) design scenario s a (inl x) = let e : s ≡ 0 = x.0 in inl (omega arith)
execution_status (Run trace) design scenario s a (inr (inl x)) = let e : s ≡ 6 = x.0 in inr (omega arith, omega arith)
execution_status (Run trace) design scenario s a (inr (inr x)) = let e : s ≡ 7 = x.0 in inr (omega arith, omega arith)
execution_status Audit design scenario s a x = let small = verdict_is_small s _ x.judged.0 in inl (omega (arith, small))
execution_status Budget design scenario s a x = let small = judged_is_small s _ x.status_is in
    inl (omega (arith, small))

-- a run refuses no scenario
pub no_refused_run : (design : DesignParts) (scenario : Scenario) (trace : Bool) (a : List ℕ)
    → executes (Run trace) design scenario 5 a → ⊥
no_refused_run design scenario trace a (inl x) = let e : 5 ≡ 0 = x.0 in absurd (omega (arith, e))
no_refused_run design scenario trace a (inr (inl x)) = let e : 5 ≡ 6 = x.0 in absurd (omega (arith, e))
no_refused_run design scenario trace a (inr (inr x)) = let e : 5 ≡ 7 = x.0 in absurd (omega (arith, e))

pub apart : (s n : ℕ) → IsMade s → s ≡ n → ((n ≡ 3) ⊎ ((n ≡ 4) ⊎ ((n ≡ 9) ⊎ ((n ≡ 12) ⊎ (n ≡ 13))))) → ⊥
apart s n (inl small) e (inl is) = absurd (omega (arith, small, e, is))
apart s n (inl small) e (inr (inl is)) = absurd (omega (arith, small, e, is))
apart s n (inl small) e (inr (inr (inl is))) = absurd (omega (arith, small, e, is))
apart s n (inl small) e (inr (inr (inr (inl is)))) = absurd (omega (arith, small, e, is))
apart s n (inl small) e (inr (inr (inr (inr is)))) = absurd (omega (arith, small, e, is))
apart s n (inr large) e (inl is) = let least = large.0 in let most = large.1 in
    absurd (omega (arith, least, most, e, is))
apart s n (inr large) e (inr (inl is)) = let least = large.0 in let most = large.1 in
    absurd (omega (arith, least, most, e, is))
apart s n (inr large) e (inr (inr (inl is))) = let least = large.0 in let most = large.1 in
    absurd (omega (arith, least, most, e, is))
apart s n (inr large) e (inr (inr (inr (inl is)))) = let least = large.0 in let most = large.1 in
    absurd (omega (arith, least, most, e, is))
apart s n (inr large) e (inr (inr (inr (inr is)))) = let least = large.0 in let most = large.1 in
    absurd (omega (arith, least, most, e, is))
