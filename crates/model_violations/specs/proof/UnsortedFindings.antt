-- The violations of an instance model, one part after another.
use Rattle.std.specs.Prelude.{◌≡◌, ℕ, Bool, List, ◌++◌}
use Rattle.aadl_tree.specs.Declarations.{PackageTree}
use Rattle.aadl_instance.specs.declared.instance.Instance.{Instance}
use Rattle.annex_resolve.specs.declared.violation.Violation.{Violation}
use Rattle.model_violations.specs.UsedDeclarations.{IsUse}
use Rattle.model_violations.specs.Violations.{ShownInstance, used_findings, findings}

abbrev pub shown : Instance → ShownInstance
shown x = record { root = x.root; threads = x.threads; links = x.links; feeds = x.feeds; taps = x.taps }

-- the list followed by the violations of the declarations in use
pub record AddUsed (tree : PackageTree ℕ) (s : ShownInstance) (old new : List Violation) : Type 0 where
  pub used : ℕ → Bool
  pub is_use : IsUse tree s.root used
  pub added : new ≡ old ++ used_findings tree s used

-- all violations
pub record AreFindings (tree : PackageTree ℕ) (s : ShownInstance) (list : List Violation) : Type 0 where
  pub used : ℕ → Bool
  pub is_use : IsUse tree s.root used
  pub all : list ≡ findings tree s used
