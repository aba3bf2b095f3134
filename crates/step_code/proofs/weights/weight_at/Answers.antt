use Rattle.std.proofs.Common.{◌≡◌, ◌∙◌, ◌*◌, ◌<◌, None, Some, length, sym, ap, arith, rules, slice_index_or}
use Rattle.std.proofs.lemmas.Option.{get_or_from_slice_get}
use Rattle.step_code.specs.Loops.{turns_of}
use Rattle.step_code.specs.proof.InnermostLoops.{innermost}
use Rattle.step_code.specs.SuccessorsAndWeights.{weight_at}
use Rattle.step_code.specs.CappedWeights.{capped}
use Rattle.step_code.proofs.InnermostLoops.{read_innermost}
use Rattle.step_code.proofs.CappedWeights.{capped_product, weight_outside, weight_inside, starts_before}
use Rattle.step_code.proofs.weights.weight_at.Goals as goal

pub bounds-weights-found : goal.bounds-weights-found
bounds-weights-found c =
    let n = c.requires.count in
    let is : innermost c.args.parts.now.instrs c.args.place ≡ Some c.in-Some.found =
    sym (read_innermost c.args.parts.now.instrs c.args.innermost.now c.args.place None c.requires.innermost
    (omega arith)) ∙ c.in-Some.is in
    let less = starts_before c.args.parts.now.instrs c.args.place c.in-Some.found is in
    omega arith

pub offset_bounds-weights-found : goal.offset_bounds-weights-found
offset_bounds-weights-found c =
    let n = c.requires.count in
    let is : innermost c.args.parts.now.instrs c.args.place ≡ Some c.in-Some.found =
    sym (read_innermost c.args.parts.now.instrs c.args.innermost.now c.args.place None c.requires.innermost
    (omega arith)) ∙ c.in-Some.is in
    let less = starts_before c.args.parts.now.instrs c.args.place c.in-Some.found is in
    let within : c.in-Some.found.start < length c.args.weights.now = omega arith in
    search rules

pub returns-in-None : goal.returns-in-None
returns-in-None c =
    let n = c.requires.count in
    let is : innermost c.args.parts.now.instrs c.args.place ≡ None =
    sym (read_innermost c.args.parts.now.instrs c.args.innermost.now c.args.place None c.requires.innermost
    (omega arith)) ∙ c.in-None.is in
    sym (ap capped (weight_outside c.args.parts.now.instrs c.args.place is))

pub returns-in-Some : goal.returns-in-Some
returns-in-Some c =
    let code = c.args.parts.now.instrs in
    let l = c.in-Some.found in
    let n = c.requires.count in
    let is : innermost code c.args.place ≡ Some l =
    sym (read_innermost code c.args.innermost.now c.args.place None c.requires.innermost (omega arith))
    ∙ c.in-Some.is in
    let less = starts_before code c.args.place l is in
    let start : slice_index_or c.args.weights.now l.start 0 ≡ capped (weight_at code l.start) =
    get_or_from_slice_get c.args.weights.now l.start (capped (weight_at code l.start)) 0
    (c.requires.weights.each l.start (omega arith)) in
    c.saturating_mul.ensures ∙ ap (λ t. capped (t * slice_index_or c.args.weights.now l.start 0)) c.turns.ensures
    ∙ ap (λ w. capped (capped (turns_of l) * w)) start
    ∙ capped_product (turns_of l) (weight_at code l.start)
    ∙ sym (ap capped (weight_inside c.args.parts.now c.args.place l c.requires.verified (omega arith) is))
