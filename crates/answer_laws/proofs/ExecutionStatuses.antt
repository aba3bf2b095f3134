-- The status of an answer of a command that needs step codes, by the contents of the bundle.
use Rattle.std.proofs.Common.{◌≡◌, ◌∙◌, ◌⊎◌, ◌↔◌, inl, inr, ℕ, nat_eq, Bool, true, false, List, refl, sym, subst}
use Rattle.std.specs.Prelude.{MatchBool}
use Rattle.std.proofs.lemmas.Bool.{eqb-true}
use Rattle.pals_top.specs.ExecutionCommands.{Execution, TimedWorld, LooseWorld, Run, Audit, Budget}
use Rattle.pals_top.specs.ExecutionAnswers.{command_of, IsScenarioRefusedIn, IsExecuted, IsExecutionAnswer}
use Rattle.answer_laws.specs.proof.BundleContents.{HasTree, MeansDesign, MeansScenario, HasLongCode, LacksScenario}
use Rattle.answer_laws.specs.proof.BundleContents.{GivesStatus}
use Rattle.pals_top.specs.proof.FlaggedAndRunCommands.{is_run}
use Rattle.answer_laws.specs.proof.UniquenessPremises.{OneDesign, ExecutionPremises}
use Rattle.answer_laws.proofs.BundleContents.{no_tree, no_design, refused_tree, has_tree}
use Rattle.answer_laws.proofs.UniqueBundleScenarios.{meant_or_refused}
use Rattle.answer_laws.proofs.ScenarioAnswerStatuses.{IsMade, execution_status, no_refused_run, apart}
use Rattle.answer_laws.proofs.UniqueExecutionAnswers.{long_code, long_or_short, executions_agree}

-- the meaning of a status, by its number
abbrev pub StatusMeans : Execution → List ℕ → List ℕ → ℕ → Type 0
StatusMeans what root bundle s =
    MatchBool (nat_eq s 3) (HasTree bundle → ⊥)
    (MatchBool (nat_eq s 4) (HasTree bundle × (MeansDesign root bundle → ⊥))
    (MatchBool (nat_eq s 13) (HasLongCode root bundle)
    (MatchBool (nat_eq s 5) (LacksScenario what root bundle ⊎ GivesStatus what root bundle s)
    (GivesStatus what root bundle s))))

module _ (what : Execution) (root bundle : List ℕ) where
  -- ---- the contents of the bundle at each status, from complete to empty
  -- a design without a code that is too long: the result for a scenario, or 5 without a scenario
  abbrev pub WithCodes : ℕ → Type 0
  WithCodes s = ((s ≡ 5) × LacksScenario what root bundle) ⊎ GivesStatus what root bundle s

  -- a design: these, or 13 where a code is too long
  abbrev pub WithDesign : ℕ → Type 0
  WithDesign s = ((s ≡ 13) × HasLongCode root bundle) ⊎ WithCodes s

  -- a text of the grammar: these, or 4 without a design
  abbrev pub WithTree : ℕ → Type 0
  WithTree s = ((s ≡ 4) × (HasTree bundle × (MeansDesign root bundle → ⊥))) ⊎ WithDesign s

  -- any bundle: these, or 3 without such a text
  abbrev pub Stands : ℕ → Type 0
  Stands s = ((s ≡ 3) × (HasTree bundle → ⊥)) ⊎ WithTree s

  -- where a command makes an answer of this status, it makes none of another
  abbrev pub IsAlone : ℕ → Type 0
  IsAlone n = (s : ℕ) → GivesStatus what root bundle s → GivesStatus what root bundle n → s ≡ n

  -- ---- a status of a result determines the result
  made_by : (text design code scenario : Bool) (s : ℕ) → nat_eq s 3 ≡ text → nat_eq s 4 ≡ design → nat_eq s 13 ≡ code
      → nat_eq s 5 ≡ scenario → IsMade s
      → GivesStatus what root bundle s
      → MatchBool text (HasTree bundle → ⊥)
      (MatchBool design (HasTree bundle × (MeansDesign root bundle → ⊥)) (MatchBool code (HasLongCode root bundle)
      (MatchBool scenario (LacksScenario what root bundle ⊎ GivesStatus what root bundle s)
      (GivesStatus what root bundle s))))
  made_by true design code scenario s t d c e made x = absurd (apart s 3 made (eqb-true s 3 t) (inl refl))
  made_by false true code scenario s t d c e made x = absurd (apart s 4 made (eqb-true s 4 d) (inr (inl refl)))
  made_by false false true scenario s t d c e made x =
      absurd (apart s 13 made (eqb-true s 13 c) (inr (inr (inr (inr refl)))))
  made_by false false false true s t d c e made x = inr x
  made_by false false false false s t d c e made x = x

  has : (s : ℕ) → Stands s → StatusMeans what root bundle s
  has s (inl x) = subst (λ n. StatusMeans what root bundle n) (sym x.0) x.1
  has s (inr (inl x)) = subst (λ n. StatusMeans what root bundle n) (sym x.0) x.1
  has s (inr (inr (inl x))) = subst (λ n. StatusMeans what root bundle n) (sym x.0) x.1
  has s (inr (inr (inr (inl x)))) = subst (λ n. StatusMeans what root bundle n) (sym x.0) (inl x.1)
  has s (inr (inr (inr (inr x)))) =
      made_by (nat_eq s 3) (nat_eq s 4) (nat_eq s 13) (nat_eq s 5) s refl refl refl refl
      (execution_status what x.design x.scenario s x.text x.makes) x

  -- ---- the requirements of each status
  scenario_of : (s : ℕ) → GivesStatus what root bundle s → MeansScenario root bundle (command_of what root)
  scenario_of s x = (x.design, x.scenario, x.means)

  design_of : (s : ℕ) → WithDesign s → MeansDesign root bundle
  design_of s (inl x) = (x.1.design, x.1.scenario, x.1.accepted)
  design_of s (inr (inl x)) = x.1.0
  design_of s (inr (inr x)) = (x.design, x.means.bytes, x.means.accepted)

  tree_of : (s : ℕ) → WithTree s → HasTree bundle
  tree_of s (inl x) = x.1.0
  tree_of s (inr x) = has_tree root bundle (design_of s x)

module _ (one_design : OneDesign) (what : Execution) (root bundle : List ℕ) where
  codes_of : (s : ℕ) → WithCodes what root bundle s → HasLongCode root bundle → ⊥
  codes_of s (inl x) long = x.1.1 long
  codes_of s (inr x) long = long_or_short one_design root bundle x.design x.means.bytes long x.means.accepted x.short

  -- ---- each answer has its status
  stands_refused : (s : ℕ) (a : List ℕ) → IsScenarioRefusedIn root bundle (command_of what root) s a
      → LacksScenario what root bundle
  stands_refused s a x = (
    (x.faulty.design, x.faulty.bytes, x.faulty.accepted),
    λ long. long_or_short one_design root bundle x.faulty.design x.faulty.bytes long x.faulty.accepted x.short,
    λ m. meant_or_refused one_design root bundle (command_of what root) m.0 m.1 a m.2 x.faulty,
  )

  pub stands : (s : ℕ) (a : List ℕ) → IsExecutionAnswer what root bundle s a → Stands what root bundle s
  stands s a (inl (inl x)) = inl (x.0, no_tree bundle a x.1)
  stands s a (inl (inr x)) = inr (inl (x.0, (refused_tree root bundle a x.1, no_design root bundle a x.1)))
  stands s a (inr (inl x)) = inr (inr (inl (x.status_is, long_code root bundle s a x)))
  stands s a (inr (inr (inl x))) = inr (inr (inr (inl (x.status_is, stands_refused s a x))))
  stands s a (inr (inr (inr x))) = inr (inr (inr (inr (record {
    design = x.design;
    scenario = x.scenario;
    means = x.means;
    short = x.short;
    text = a;
    makes = x.makes;
  }))))

  -- ---- a bundle has one status, if a scenario has one result
  executed : (s : ℕ) (x : GivesStatus what root bundle s) → IsExecuted what root bundle s x.text
  executed s x = record { design = x.design; scenario = x.scenario; means = x.means; short = x.short; makes = x.makes }

  same_scenario : (s n : ℕ) → IsAlone what root bundle n → WithCodes what root bundle s
      → WithCodes what root bundle n → s ≡ n
  same_scenario s n alone (inl x) (inl y) = x.0 ∙ sym y.0
  same_scenario s n alone (inl x) (inr y) = absurd (x.1.2 (scenario_of what root bundle n y))
  same_scenario s n alone (inr x) (inl y) = absurd (y.1.2 (scenario_of what root bundle s x))
  same_scenario s n alone (inr x) (inr y) = alone s x y

  same_code : (s n : ℕ) → IsAlone what root bundle n → WithDesign what root bundle s
      → WithDesign what root bundle n → s ≡ n
  same_code s n alone (inl x) (inl y) = x.0 ∙ sym y.0
  same_code s n alone (inl x) (inr y) = absurd (codes_of n y x.1)
  same_code s n alone (inr x) (inl y) = absurd (codes_of s x y.1)
  same_code s n alone (inr x) (inr y) = same_scenario s n alone x y

  same_design : (s n : ℕ) → IsAlone what root bundle n → WithTree what root bundle s
      → WithTree what root bundle n → s ≡ n
  same_design s n alone (inl x) (inl y) = x.0 ∙ sym y.0
  same_design s n alone (inl x) (inr y) = absurd (x.1.1 (design_of what root bundle n y))
  same_design s n alone (inr x) (inl y) = absurd (y.1.1 (design_of what root bundle s x))
  same_design s n alone (inr x) (inr y) = same_code s n alone x y

  same_status : (s n : ℕ) → IsAlone what root bundle n → Stands what root bundle s → Stands what root bundle n → s ≡ n
  same_status s n alone (inl x) (inl y) = x.0 ∙ sym y.0
  same_status s n alone (inl x) (inr y) = absurd (x.1 (tree_of what root bundle n y))
  same_status s n alone (inr x) (inl y) = absurd (y.1 (tree_of what root bundle s x))
  same_status s n alone (inr x) (inr y) = same_design s n alone x y

  -- an answer has such a status if and only if the bundle has the contents for it
  pub exactly : (s n : ℕ) (a : List ℕ) → IsAlone what root bundle n → IsExecutionAnswer what root bundle s a
      → (StatusMeans what root bundle n → Stands what root bundle n) → (s ≡ n) ↔ StatusMeans what root bundle n
  exactly s n a alone x into = (
    λ e. subst (λ m. StatusMeans what root bundle m) e (has what root bundle s (stands s a x)),
    λ h. same_status s n alone (stands s a x) (into h),
  )

  -- ---- 5: there is no scenario, or of it comes an answer of this status
  pub at_scenario : LacksScenario what root bundle ⊎ GivesStatus what root bundle 5 → Stands what root bundle 5
  at_scenario (inl x) = inr (inr (inr (inl (refl, x))))
  at_scenario (inr x) = inr (inr (inr (inr x)))

  -- ---- statuses that are alone
  -- none is made
  pub never_made : (n : ℕ) → ((n ≡ 3) ⊎ ((n ≡ 4) ⊎ ((n ≡ 9) ⊎ ((n ≡ 12) ⊎ (n ≡ 13))))) → IsAlone what root bundle n
  never_made n which =
      λ s x y. absurd (apart n n (execution_status what y.design y.scenario n y.text y.makes) refl which)

  -- a command other than `run` has one result
  pub one_made : ExecutionPremises → is_run (command_of what root) ≡ false → (n : ℕ) → IsAlone what root bundle n
  one_made laws not_run n =
      λ s x y. (executions_agree one_design what root bundle laws not_run s n x.text y.text (executed s x)
      (executed n y)).0

-- a run makes none of status 5
pub alone_at_scenario : OneDesign → ExecutionPremises → (what : Execution) (root bundle : List ℕ)
    → IsAlone what root bundle 5
alone_at_scenario one_design laws (Run trace) root bundle =
    λ s x y. absurd (no_refused_run y.design y.scenario trace y.text y.makes)
alone_at_scenario one_design laws TimedWorld root bundle = one_made one_design TimedWorld root bundle laws refl 5
alone_at_scenario one_design laws LooseWorld root bundle = one_made one_design LooseWorld root bundle laws refl 5
alone_at_scenario one_design laws Audit root bundle = one_made one_design Audit root bundle laws refl 5
alone_at_scenario one_design laws Budget root bundle = one_made one_design Budget root bundle laws refl 5
