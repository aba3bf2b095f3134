use Rattle.std.proofs.Common.{◌≡◌, ◌∙◌, ◌+◌, ◌<◌, ◌++◌, [], ◌∷◌, length, take, ap, sym, arith}
use Rattle.std.specs.Prelude.{slice_index_or}
use Rattle.std.specs.List.{sum_by}
use Rattle.std.proofs.lemmas.List.{take_more, map_push}
use Rattle.std.proofs.lemmas.Option.{slice_get-get_or}
use Rattle.std.proofs.lemmas.List.Sums.{sum_by_push}
use Rattle.pals_base.specs.declared.basic_types.NodeNo.{NodeNo}
use Rattle.step_code.specs.declared.instr.CodeParts.{CodeParts}
use Rattle.step_code.specs.CappedWeights.{capped}
use Rattle.step_code.specs.SuccessorsAndWeights.{weight_of}
use Rattle.round_budget.specs.Budgets.{most_in, most_of, numbers}
use Rattle.round_budget.proofs.ProcessorMembers.{member_at}
use Rattle.round_budget.proofs.processor_load.total.Goals as goal

pub bounds-codes-member : goal.bounds-codes-member
bounds-codes-member c =
    member_at (λ node. node < length c.args.codes.now) c.args.members.now c.loop-member.member-index record { 0 = 0 }
    c.requires.within c.loop-member-test.true

pub loop-member-preserved : goal.loop-member-preserved
loop-member-preserved c =
    let codes = c.args.codes.now in
    let members = c.args.members.now in
    let at = c.loop-member.member-index in
    let none : NodeNo = record { 0 = 0 } in
    let member : NodeNo = slice_index_or members at none in
    let within = member_at (λ node. node < length codes) members at none c.requires.within c.loop-member-test.true in
    let code = c.index-codes-member.result in
    let one : c.from-most.result ≡ capped (weight_of code) = c.from-most.ensures ∙ c.most.ensures in
    let most : c.from-most.result ≡ most_of codes member.0 =
    (one
    ∙ ap (λ (p : CodeParts). capped (weight_of p)) c.index-codes-member.is
    ∙ sym (ap most_in (slice_get-get_or codes member.0 code within))) in
    let all = numbers (take at members) in
    let next : numbers (take (at + 1) members) ≡ all ++ member.0 ∷ [] =
    ap numbers (take_more members at none c.loop-member-test.true)
    ∙ map_push (λ (m : NodeNo). m.0) (take at members) member in
    record {
      is =
          ap (λ n. n + c.from-most.result) c.loop-member.invariant.is
          ∙ ap (λ n. sum_by (most_of codes) all + n) most
          ∙ sym (sum_by_push (most_of codes) all member.0)
          ∙ sym (ap (sum_by (most_of codes)) next);
      small = omega (arith, one, c.loop-member.invariant.small);
    }
