-- What holds of the machine's place, stack and slots from one instruction to the next.
use Rattle.std.proofs.Common.{◌≡◌, ◌∙◌, ℕ, zero, suc, ◌+◌, ◌<◌, ◌≤◌, ℤ, List, [], length, map, Some, refl, sym, ap}
use Rattle.std.proofs.Common.{subst, arith, slice_index_or}
use Rattle.std.specs.Prelude.{slice_get}
use Rattle.std.proofs.lemmas.List.{length-map}
use Rattle.std.proofs.lemmas.Option.{slice_get-get_or}
use Rattle.pals_base.specs.declared.basic_types.Trap.{Trap}
use Rattle.pals_base.specs.declared.basic_types.PortValue.{PortValue}
use Rattle.pals_base.specs.SingleStep.{is_present}
use Rattle.step_code.specs.declared.instr.Instr.{Instr}
use Rattle.step_code.specs.declared.instr.CodeParts.{CodeParts}
use Rattle.pals_base.specs.declared.limits.TheConstants.{INSTRUCTIONS}
use Rattle.step_code.specs.SuccessorsAndWeights.{weight}
use Rattle.step_code.specs.InstructionEffects.{Next, Goes, Ends, Traps, step}
use Rattle.step_code.specs.proof.CodeRuns.{CodeOutcome, Ended, Trapped, Continuation, then_run, run, IsOver}
use Rattle.step_code.specs.InstructionsPerStep.{count, step_inputs}
use Rattle.step_code.specs.proof.StackHeights.{takes, Member}
use Rattle.step_code.specs.proof.SlotsAndPorts.{FindsSlotsAndPorts}
use Rattle.step_code.specs.proof.VerifierRules.{IsVerified}
use Rattle.step_code.specs.proof.StuckFreedomConditions.{HasSlotsAndPorts}
use Rattle.step_code.proofs.StuckFreedom.{Begun, Fine, Stands, stands_on}
use Rattle.step_code.proofs.FuelMonotonicity.{Moves, moves}
use Rattle.step_code.proofs.RunsWithinWeight.{ends_within}
use Rattle.step_code.proofs.ReachedHeights.{low_stack}
use Rattle.step_code.proofs.VerifiedInstructionsAndEntries.{verified_entry}
use Rattle.step_code.proofs.VerifiedPremises.{verified_nested, verified_fed, verified_level}
use Rattle.step_code.proofs.StepResults.{entry_within}

-- the code, the inputs of a step, and its initial frame
pub record Task : Type 0 where
  pub parts : CodeParts
  pub held : List ℤ
  pub inputs : List PortValue
  pub entry : ℕ
  pub slots : List ℤ
  pub outs : List PortValue

abbrev pub fuel : Task → ℕ
fuel t = weight t.parts.instrs t.parts.entries

-- the whole run
abbrev pub whole : Task → CodeOutcome
whole t = run t.parts.instrs (step_inputs t.held t.inputs) (fuel t) t.entry [] t.slots t.outs

-- the sizes that a run needs
pub record IsTask (t : Task) : Type 0 where
  pub verified : IsVerified t.parts
  pub among : Member t.parts.entries (Some t.entry)
  pub slots' : length t.slots ≡ t.parts.vars + t.parts.loops
  pub outs' : length t.outs ≡ t.parts.outs
  pub held' : length t.held ≡ t.parts.ins
  pub inputs' : length t.inputs ≡ t.parts.ins

-- a run is at a place, and the rest of it leads to the same result as the whole
pub record IsUnderWay (t : Task) (size place : ℕ) (stack slots : List ℤ) (outs : List PortValue)
    (stack_size : ℕ) : Type 0 where
  pub stands : Stands t.parts.instrs t.parts.entries (t.parts.vars + t.parts.loops) t.parts.outs place stack slots outs
  pub same : run t.parts.instrs (step_inputs t.held t.inputs) (fuel t) place stack slots outs ≡ whole t
  pub kept : stack_size ≡ size

pub task_over : (t : Task) → IsTask t → IsOver (whole t)
task_over t is =
    let well = verified_entry t.parts t.entry is.verified is.among in
    ends_within t.parts.instrs (step_inputs t.held t.inputs) (fuel t) t.entry [] t.slots t.outs
    (verified_nested t.parts is.verified) well.there well.outside
    (entry_within t.parts.instrs t.parts.entries t.entry is.among)

pub begins_at : (t : Task) (size : ℕ) → IsTask t → IsUnderWay t size t.entry [] t.slots t.outs size
begins_at t size is =
    let well = verified_entry t.parts t.entry is.verified is.among in
    record {
      stands =
          record {
            within = well.there;
            slots_are = is.slots';
            outs_are = is.outs';
            steps = 0;
            reached = (is.among, refl);
            begun = subst (Begun t.parts.instrs t.parts.entries) (sym well.outside) tt;
          };
      same = refl;
      kept = refl;
    }

-- the instruction there
pub here_at : (t : Task) (size place stack_size : ℕ) (stack slots : List ℤ) (outs : List PortValue) (xs : List Instr)
    (d : Instr) → IsUnderWay t size place stack slots outs stack_size → xs ≡ t.parts.instrs
    → slice_get t.parts.instrs place ≡ Some (slice_index_or xs place d)
here_at t size place stack_size stack slots outs xs d way same =
    let within = way.stands.within in
    let n = ap length same in
    ap (λ l. slice_get l place) (sym same) ∙ slice_get-get_or xs place d (omega arith)

-- what an instruction finds there
pub record IsReady (t : Task) (i : Instr) (place : ℕ) (stack slots : List ℤ) (outs : List PortValue) : Type 0 where
  pub operands : takes i ≤ length stack
  pub there : FindsSlotsAndPorts (length slots) (length t.held) (length outs) i
  pub low : length stack ≤ place
  pub small : place < INSTRUCTIONS

fed_here : (t : Task) → IsTask t → HasSlotsAndPorts t.parts.instrs (t.parts.vars + t.parts.loops) (length t.held)
    t.parts.outs
fed_here t is =
    subst (λ n. HasSlotsAndPorts t.parts.instrs (t.parts.vars + t.parts.loops) n t.parts.outs) (sym is.held')
    (verified_fed t.parts is.verified)

pub ready : (t : Task) (size place stack_size : ℕ) (i : Instr) (stack slots : List ℤ) (outs : List PortValue) → IsTask t
    → IsUnderWay t size place stack slots outs stack_size → slice_get t.parts.instrs place ≡ Some i
    → IsReady t i place stack slots outs
ready t size place stack_size i stack slots outs is way here =
    let st = way.stands in
    let short = is.verified.short in
    let within = st.within in
    record {
      operands = (verified_level t.parts is.verified).enough st.steps place (length stack) i st.reached here;
      there =
          subst (λ k. FindsSlotsAndPorts k (length t.held) (length outs) i) (sym st.slots_are)
          (subst (λ k. FindsSlotsAndPorts (t.parts.vars + t.parts.loops) (length t.held) k i) (sym st.outs_are)
          ((fed_here t is).each place i here));
      low = low_stack t.parts.instrs t.parts.entries st.steps place (length stack) st.reached;
      small = omega arith;
    }

fresh_here : (t : Task) → IsTask t → length (map is_present t.inputs) ≡ length t.held
fresh_here t is = let a = is.held' in let b = is.inputs' in omega (arith, length-map t.inputs is_present)

fine_here : (t : Task) (size place stack_size : ℕ) (i : Instr) (stack slots : List ℤ) (outs : List PortValue) → IsTask t
    → IsUnderWay t size place stack slots outs stack_size → slice_get t.parts.instrs place ≡ Some i
    → Fine (Stands t.parts.instrs t.parts.entries (t.parts.vars + t.parts.loops) t.parts.outs)
    (step (Some i) (step_inputs t.held t.inputs) place stack slots outs)
fine_here t size place stack_size i stack slots outs is way here =
    stands_on t.parts.instrs t.parts.entries (step_inputs t.held t.inputs) (t.parts.vars + t.parts.loops) t.parts.outs
    (verified_nested t.parts is.verified) (verified_level t.parts is.verified) (fed_here t is) (fresh_here t is)
    place i stack slots outs here way.stands

moves_here : (t : Task) (size place stack_size q : ℕ) (i : Instr) (stack slots stack' slots' : List ℤ)
    (outs outs' : List PortValue) → IsTask t → IsUnderWay t size place stack slots outs stack_size
    → slice_get t.parts.instrs place ≡ Some i
    → step (Some i) (step_inputs t.held t.inputs) place stack slots outs ≡ Goes q stack' slots' outs'
    → Moves t.parts.instrs (step_inputs t.held t.inputs) (fuel t) place q stack slots stack' slots' outs outs'
moves_here t size place stack_size q i stack slots stack' slots' outs outs' is way here goes =
    moves t.parts.instrs (step_inputs t.held t.inputs) (fuel t) place q stack slots stack' slots' outs outs'
    (subst IsOver (sym way.same) (task_over t is))
    (ap (λ o. step o (step_inputs t.held t.inputs) place stack slots outs) here ∙ goes)

-- an instruction that leads on
pub goes_on : (t : Task) (size place stack_size stack_size' q : ℕ) (i : Instr) (stack slots stack' slots' : List ℤ)
    (outs outs' : List PortValue) → IsTask t → IsUnderWay t size place stack slots outs stack_size
    → slice_get t.parts.instrs place ≡ Some i
    → step (Some i) (step_inputs t.held t.inputs) place stack slots outs ≡ Goes q stack' slots' outs'
    → stack_size' ≡ stack_size → IsUnderWay t size q stack' slots' outs' stack_size'
goes_on t size place stack_size stack_size' q i stack slots stack' slots' outs outs' is way here goes kept = record {
  stands =
      subst (Fine (Stands t.parts.instrs t.parts.entries (t.parts.vars + t.parts.loops) t.parts.outs)) goes
      (fine_here t size place stack_size i stack slots outs is way here);
  same = (moves_here t size place stack_size q i stack slots stack' slots' outs outs' is way here goes).same ∙ way.same;
  kept = kept ∙ way.kept;
}

abbrev pub left : Task → ℕ → List ℤ → List ℤ → List PortValue → ℕ
left t place stack slots outs = count t.parts.instrs (step_inputs t.held t.inputs) (fuel t) place stack slots outs

pub fewer : (t : Task) (size place stack_size q : ℕ) (i : Instr) (stack slots stack' slots' : List ℤ)
    (outs outs' : List PortValue) → IsTask t → IsUnderWay t size place stack slots outs stack_size
    → slice_get t.parts.instrs place ≡ Some i
    → step (Some i) (step_inputs t.held t.inputs) place stack slots outs ≡ Goes q stack' slots' outs'
    → left t q stack' slots' outs' < left t place stack slots outs
fewer t size place stack_size q i stack slots stack' slots' outs outs' is way here goes =
    (moves_here t size place stack_size q i stack slots stack' slots' outs outs' is way here goes).fewer

-- an instruction that ends the run: the run from there is over by one more instruction
ends_by : (t : Task) (n place : ℕ) (stack slots : List ℤ) (outs : List PortValue) (next : Next) (o : CodeOutcome)
    → step (slice_get t.parts.instrs place) (step_inputs t.held t.inputs) place stack slots outs ≡ next
    → ((rest : Continuation) → then_run next rest ≡ o) → 0 < n
    → run t.parts.instrs (step_inputs t.held t.inputs) n place stack slots outs ≡ o
ends_by t zero place stack slots outs next o is then some = absurd (omega arith)
ends_by t (suc n) place stack slots outs next o is then some =
    ap (λ x. then_run x (run t.parts.instrs (step_inputs t.held t.inputs) n)) is
    ∙ then (run t.parts.instrs (step_inputs t.held t.inputs) n)

over_positive : (t : Task) (n place : ℕ) (stack slots : List ℤ) (outs : List PortValue)
    → IsOver (run t.parts.instrs (step_inputs t.held t.inputs) n place stack slots outs) → 0 < n
over_positive t zero place stack slots outs over = absurd over
over_positive t (suc n) place stack slots outs over = omega arith

pub ends_in : (t : Task) (size place stack_size state : ℕ) (i : Instr) (stack slots slots' : List ℤ)
    (outs outs' : List PortValue) → IsTask t → IsUnderWay t size place stack slots outs stack_size
    → slice_get t.parts.instrs place ≡ Some i
    → step (Some i) (step_inputs t.held t.inputs) place stack slots outs ≡ Ends state slots' outs'
    → whole t ≡ Ended state slots' outs'
ends_in t size place stack_size state i stack slots slots' outs outs' is way here ends =
    sym way.same
    ∙ ends_by t (fuel t) place stack slots outs (Ends state slots' outs') (Ended state slots' outs')
    (ap (λ o. step o (step_inputs t.held t.inputs) place stack slots outs) here ∙ ends) (λ rest. refl)
    (over_positive t (fuel t) place stack slots outs (subst IsOver (sym way.same) (task_over t is)))

pub traps_in : (t : Task) (size place stack_size : ℕ) (i : Instr) (trap : Trap) (stack slots : List ℤ)
    (outs : List PortValue) → IsTask t → IsUnderWay t size place stack slots outs stack_size
    → slice_get t.parts.instrs place ≡ Some i
    → step (Some i) (step_inputs t.held t.inputs) place stack slots outs ≡ Traps trap → whole t ≡ Trapped trap
traps_in t size place stack_size i trap stack slots outs is way here traps =
    sym way.same
    ∙ ends_by t (fuel t) place stack slots outs (Traps trap) (Trapped trap)
    (ap (λ o. step o (step_inputs t.held t.inputs) place stack slots outs) here ∙ traps) (λ rest. refl)
    (over_positive t (fuel t) place stack slots outs (subst IsOver (sym way.same) (task_over t is)))
