use Rattle.std.proofs.Common.{◌≡◌, ◌∙◌, ℕ, ◌+◌, ◌-◌, ◌*◌, ap, ap₂, sym, refl, List, ◌++◌, map, drop, arith}
use Rattle.std.specs.Prelude.{max, slice_index_or}
use Rattle.std.proofs.lemmas.Option.{slice_get-get_or}
use Rattle.step_code.specs.declared.instr.CodeParts.{CodeParts}
use Rattle.step_code.specs.CappedWeights.{capped}
use Rattle.step_code.specs.SuccessorsAndWeights.{weight_of}
use Rattle.round_budget.specs.Budgets as budgets
use Rattle.round_budget.specs.Budgets.{most_in, by_most, serve, line_from}
use Rattle.round_budget.specs.declared.releases.Release.{Release}
use Rattle.round_budget.specs.declared.served_steps.TimetableLine.{TimetableLine}
use Rattle.round_budget.specs.proof.ReleaseAndLineValues.{release_value, line_value}
use Rattle.round_budget.proofs.TimetableLines.{serve_next}
use Rattle.round_budget.proofs.served_steps.serve.Goals as goal

pub loop-release-preserved : goal.loop-release-preserved
loop-release-preserved c =
    let codes = c.args.codes.now in
    let nanos = c.args.nanos in
    let start = c.args.start in
    let releases = c.args.releases.now in
    let at = c.loop-release.release-index in
    let free = c.loop-release.free in
    let none : Release = record { node = record { 0 = 0 }; step = 0; time = 0 } in
    let x : Release = slice_index_or releases at none in
    let can = c.requires at none c.loop-release-test.true in
    let code = c.index-codes-release.result in
    let cost = λ (y : budgets.Release). nanos * by_most codes y in
    let node = x.node.0 in
    let most : c.most-most.result ≡ by_most codes (release_value x) =
    (c.most-most.ensures
    ∙ ap (λ (p : CodeParts). capped (weight_of p)) c.index-codes-release.is
    ∙ sym (ap most_in (slice_get-get_or codes node code can.code))) in
    let takes : c.from-in-loop-release.result * c.from-in-loop-release-2.result
    ≡ nanos * by_most codes (release_value x) =
    ap₂ (λ a b. a * b) c.from-in-loop-release.ensures (c.from-in-loop-release-2.ensures ∙ most) in
    let begin : c.max-begin.result ≡ max x.time free = omega (arith, c.max-begin.ensures, c.from.ensures) in
    let begun = c.max-begin.result in
    let done = begun + c.from-in-loop-release.result * c.from-in-loop-release-2.result in
    let after : done ≡ max x.time free + nanos * by_most codes (release_value x) = ap₂ (λ a b. a + b) begin takes in
    let first = c.from-start.result in
    let y : TimetableLine = record { node = x.node; step = x.step; begin = begun - first; done = done - first } in
    let line =
    λ (s b d : ℕ). (let l : budgets.Line =
    record { node = node; step = x.step; begin = b - s; done = d - s } in l) in
    let same = ap₂ (line start) (sym begin) (sym after) ∙ ap (λ s. line s begun done) (sym c.from-start.ensures) in
    record {
      all =
          ap (λ (items : List TimetableLine). map line_value items
          ++ map (line_from start) (serve cost done (map release_value (drop (at + 1) releases))))
          c.in_ok-push.ensures.items
          ∙ serve_next cost start free done at releases x none c.loop-release.lines.items y
          (map (line_from start) (serve cost 0 (map release_value releases))) c.loop-release-test.true refl same
          after c.loop-release.invariant.all;
      small =
          (let soon = can.soon in let short = can.short in
          omega (arith, after, soon, short, c.loop-release.invariant.small));
    }
