-- The trace of one round of the two counters, and what is wrong with others.
use Rattle.std.specs.Prelude.{◌≡◌, ℕ, codes, List, [], ◌∷◌, ◌++◌, None, take, map}
use Rattle.pals_model.specs.declared.design.Link.{Link}
use Rattle.pals_model.specs.proof.TwoCounters.{two_counters}
use Rattle.pals_model.specs.ComponentInputs.{no_env}
use Rattle.pals_runs.specs.declared.verdicts.Verdict.TheVariants.{Sound, Wrong}
use Rattle.bus_machine.specs.RunParameters.{Run}
use Rattle.run_laws.specs.TraceVerdicts.{verdict}
use Rattle.pals_runs.specs.declared.verdicts.TraceRule.TheVariants as rule

abbrev pub counters_run : Run
counters_run =
    record {
      design = two_counters;
      env = no_env;
      rounds = 1;
      delays = record { lists = map (λ (_ : Link). 1000000 ∷ []) two_counters.links };
    }

abbrev pub rows : List ℕ → List (List ℕ)
rows first = codes "round 0" ∷ first ∷ codes "p.b s x=1" ∷ []

abbrev pub starts : List (List ℕ)
starts = codes "start p.a 0 9000000" ∷ codes "start p.b 0 9000000" ∷ codes "finish p.b 0" ∷ codes "finish p.a 0" ∷ []

abbrev pub trace : List ℕ → List ℕ → List (List ℕ)
trace row send = rows row ++ starts ++ send ∷ codes "send p.b 0 10000000" ∷ []

abbrev pub sound_row : List ℕ
sound_row = codes "p.a s x=1"

abbrev pub sound_send : List ℕ
sound_send = codes "send p.a 0 10000000"

pub record TracesAreJudged : Type 0 where
  pub sound : verdict counters_run (trace sound_row sound_send) ≡ Sound 1 None
  pub row : verdict counters_run (trace (codes "p.a s x=2") sound_send) ≡ Wrong 1 rule.Row
  pub release : verdict counters_run (trace sound_row (codes "send p.a 0 9999999")) ≡ Wrong 7 rule.Release
  pub unfinished : verdict counters_run (take 8 (trace sound_row sound_send)) ≡ Wrong 8 rule.Unfinished
