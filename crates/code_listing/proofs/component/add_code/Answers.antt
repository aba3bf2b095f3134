use Rattle.std.proofs.Common.{codes, ◌∷◌, ◌++◌, List, length, ap, ap₂, ◌∙◌, subst, subst₂}
use Rattle.pals_model.specs.RoundTexts.{line_end, text_of}
use Rattle.step_code.specs.declared.instr.Instr.{Instr}
use Rattle.step_code.specs.declared.instr.CodeParts.{CodeParts}
use Rattle.step_code.specs.SuccessorsAndWeights.{weight_of}
use Rattle.step_code.specs.CappedWeights.{capped}
use Rattle.code_listing.specs.Listings.{number_line, state_lines, initial_line, instr_lines, code_lines}
use Rattle.code_listing.specs.NumberRanges.{NumberFits, EntriesFit}
use Rattle.code_listing.proofs.AddedLines.{line_alone, lines_behind, line_behind, lines_last, begun_last, three_behind}
use Rattle.code_listing.proofs.AddedLines.{code_fits}
use Rattle.code_listing.proofs.component.add_code.Goals as goal

pub returns-clause-ok : goal.returns-clause-ok
returns-clause-ok c =
    let b = c.args.behaviour.now in
    let code = c.args.code.now in
    let old = c.args.out.now.items in
    let parts = c.parts-parts.ensures.value in
    let instrs = c.as_slice-instrs.ensures.value ∙ ap (λ (p : CodeParts). p.instrs) parts in
    let entries = c.as_slice-2.ensures.value ∙ ap (λ (p : CodeParts). p.entries) parts in
    let loops = line_alone old _ (number_line (codes "loops") code.loops)
    (c.in_ok-add_loops.ensures.ok
    ∙ ap (λ n. old ++ number_line (codes "loops") n ++ line_end) (ap (λ (p : CodeParts). p.loops) parts)) in
    let states = lines_behind _ (state_lines b.states code.entries) loops
    (c.in_ok-add_states.ensures.ok
    ∙ ap₂ (λ xs ys. c.add_loops.new.out.items ++ text_of (state_lines xs ys)) c.as_slice.ensures.value entries) in
    let initial = line_behind _ (initial_line b) states c.in_ok-add_initial.ensures.ok in
    let most = line_behind _ (number_line (codes "most") (capped (weight_of code))) initial
    (c.in_ok-add_number.ensures.ok
    ∙ ap (λ n. c.add_initial.new.out.items ++ number_line (codes "most") n ++ line_end)
    (c.from.ensures ∙ c.most.ensures)) in
    let size = line_behind _ (number_line (codes "code") (length code.instrs)) most
    (c.in_ok-add_number-2.ensures.ok
    ∙ ap (λ (xs : List Instr). c.add_number.new.out.items ++ number_line (codes "code") (length xs)
    ++ line_end) instrs) in
    lines_last c.add_instrs.result _ (instr_lines b c.as_slice-instrs.result.now) (code_lines b code) size
    (three_behind (number_line (codes "loops") code.loops) (initial_line b)
    (number_line (codes "most") (capped (weight_of code))) (number_line (codes "code") (length code.instrs))
    (state_lines b.states code.entries) (instr_lines b c.as_slice-instrs.result.now)
    ∙ ap (λ xs. number_line (codes "loops") code.loops ∷ state_lines b.states code.entries ++ initial_line b
    ∷ number_line (codes "most") (capped (weight_of code)) ∷ number_line (codes "code") (length code.instrs)
    ∷ instr_lines b xs) instrs)
    c.add_instrs.ensures.ok

pub returns-clause-fit : goal.returns-clause-fit
returns-clause-fit c =
    let b = c.args.behaviour.now in
    let code = c.args.code.now in
    let parts = c.parts-parts.ensures.value in
    let instrs = c.as_slice-instrs.ensures.value ∙ ap (λ (p : CodeParts). p.instrs) parts in
    let loops = subst NumberFits (ap (λ (p : CodeParts). p.loops) parts) c.in_ok-add_loops.ensures.fit in
    let entries =
    subst₂ EntriesFit c.as_slice.ensures.value
    (c.as_slice-2.ensures.value ∙ ap (λ (p : CodeParts). p.entries) parts) c.in_ok-add_states.ensures.fit in
    code_fits c.add_instrs.result b code c.as_slice-instrs.result.now loops entries instrs c.add_instrs.ensures.fit

pub returns-clause-err : goal.returns-clause-err
returns-clause-err c =
    let old = c.args.out.now.items in
    let loops =
    line_alone old _ (number_line (codes "loops") c.parts-parts.result.now.loops) c.in_ok-add_loops.ensures.ok in
    let states =
    lines_behind _ (state_lines c.as_slice.result.now c.as_slice-2.result.now) loops
    c.in_ok-add_states.ensures.ok in
    let initial = line_behind _ (initial_line c.args.behaviour.now) states c.in_ok-add_initial.ensures.ok in
    let most = line_behind _ (number_line (codes "most") c.from.result) initial c.in_ok-add_number.ensures.ok in
    let size =
    line_behind _ (number_line (codes "code") (length c.as_slice-instrs.result.now)) most
    c.in_ok-add_number-2.ensures.ok in
    begun_last c.add_instrs.result _ size c.add_instrs.ensures.err
