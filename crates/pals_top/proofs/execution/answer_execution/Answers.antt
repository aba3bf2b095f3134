use Rattle.std.proofs.Common.{subst}
use Rattle.pals_top.specs.proof.BundlesWithCodes.{IsCoded, IsMeaning}
use Rattle.pals_top.specs.proof.StatusAndText.{status_of, text_of}
use Rattle.pals_top.proofs.ExecutionAnswers.{refused, executed}
use Rattle.pals_top.proofs.execution.answer_execution.Goals as goal

pub returns-in-Coded : goal.returns-in-Coded
returns-in-Coded g c =
    let is : IsCoded (g.C.CodedCommand.execution c.args.command) c.args.root c.args.bundle.now c.in-Coded.coded =
    subst (IsMeaning (g.C.CodedCommand.execution c.args.command) c.args.root c.args.bundle.now) c.in-Coded.is
    c.in_ok-coded.ensures in
    executed (g.C.CodedCommand.execution c.args.command) c.args.root c.args.bundle.now c.in-Coded.coded c.answer.result
    is c.answer.ensures

pub returns-in-Refused : goal.returns-in-Refused
returns-in-Refused g c =
    refused (g.C.CodedCommand.execution c.args.command) c.args.root c.args.bundle.now (status_of c.in-Refused.answer)
    (text_of c.in-Refused.answer)
    (subst (IsMeaning (g.C.CodedCommand.execution c.args.command) c.args.root c.args.bundle.now) c.in-Refused.is
    c.in_ok-coded.ensures)
