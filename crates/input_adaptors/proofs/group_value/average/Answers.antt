use Rattle.std.proofs.Common.{◌≡◌, ◌∙◌, ap, sym, subst, ◌+◌, take, ◌+ℤ◌, ℕ, ℤ, rules, arith}
use Rattle.std.proofs.lemmas.List.{take_all}
use Rattle.std.proofs.lemmas.Int.{ints}
use mir.Syntax.{w64, w128}
use mir.Val.{SFits, to_z}
use Rattle.pals_base.specs.Adaptors.{present, of_present, average_of}
use Rattle.input_adaptors.specs.proof.PortValuesAsNumbers.{mean_of}
use Rattle.input_adaptors.proofs.PresentNumbers.{IsSummed, IsSummed-absent, IsSummed-present}
use Rattle.input_adaptors.proofs.MeanFromSum.{mean_of_sum}
use Rattle.input_adaptors.proofs.group_value.average.Goals as goal
use Rattle.input_adaptors.proofs.group_value.average.Goals.{in-Present, in_default}

pub loop-port-preserved : goal.loop-port-preserved
loop-port-preserved c =
    elim c.match-port.branch [
      | in-Present w ↦
          let fits : SFits w64 w.in-Present.value = search rules in
          let sum : to_z w128 c.match-port.sum-bits ≡ to_z w128 c.loop-port.sum-bits +ℤ w.in-Present.value =
          omega (arith, ints) in
          let P : ℤ → ℕ → Type 0 = λ s n. IsSummed c.args.group.now (c.loop-port.port-index + 1) s n in
          subst (λ s. P s c.match-port.count) (sym sum)
          (subst (P _) (sym w.count-is)
          (IsSummed-present _ _ _ _ w.in-Present.value c.loop-port-test.true w.in-Present.is fits
          c.loop-port.invariant))
      | in_default w ↦
          let P : ℤ → ℕ → Type 0 = λ s n. IsSummed c.args.group.now (c.loop-port.port-index + 1) s n in
          subst (λ s. P s c.match-port.count) (sym w.sum-is)
          (subst (P _) (sym w.count-is)
          (IsSummed-absent _ _ _ _ c.loop-port-test.true w.in_default.is c.loop-port.invariant))
    ]

pub returns : goal.returns
returns c =
    let whole : take c.loop-port.port-index c.args.group.now ≡ c.args.group.now = take_all _ _ c.loop-port-test.false in
    c.quotient.ensures
    ∙ ap (λ s. mean_of s c.loop-port.count) c.loop-port.invariant.total
    ∙ ap (mean_of _) c.loop-port.invariant.counted
    ∙ mean_of_sum _
    ∙ ap (λ ports. of_present average_of (present ports)) whole
