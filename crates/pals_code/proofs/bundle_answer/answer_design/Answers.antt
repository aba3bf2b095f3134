use Rattle.std.proofs.Common.{subst}
use Rattle.design_codes.specs.OverlongCodes.{IsCause}
use Rattle.pals_code.proofs.BundleAnswers.{listed, code_said, code_refused}
use Rattle.pals_code.proofs.bundle_answer.answer_design.Goals as goal

pub returns-in-Ok : goal.returns-in-Ok
returns-in-Ok c root bundle scenario accepted =
    listed root bundle c.args.design.now scenario c.in-Ok.codes c.as_slice.result.now c.list.result accepted
    c.in-Ok.ensures.short c.in-Ok.ensures.layout c.as_slice.ensures.value c.list.ensures.fit c.list.ensures.answer

pub returns-in-Err-TooLong : goal.returns-in-Err-TooLong
returns-in-Err-TooLong c root bundle scenario accepted =
    let design = c.args.design.now in
    code_refused root bundle design scenario c.in-Err-TooLong.node c.in-Err-TooLong.length
    c.code_too_long.result accepted
    (subst (IsCause design) c.in-Err-TooLong.field-0-is c.in-Err-TooLong.ensures.fault)
    (code_said design c.code_too_long.result c.in-Err-TooLong.node-is c.in-Err-TooLong.length-is
    c.code_too_long.ensures)
