use Rattle.std.proofs.Common.{subst}
use Rattle.design_codes.specs.OverlongCodes.{IsCause}
use Rattle.world_texts.proofs.RingSumsAndCodes.{never_too_long}
use Rattle.world_texts.proofs.ring_result.codes_of.Goals as goal

pub unreachable-requires : goal.unreachable-requires
unreachable-requires c =
    let design = c.args.design.now in
    let at = c.in-Err-TooLong in
    let long = subst (IsCause design) at.field-0-is at.ensures.fault in
    never_too_long design c.requires.0 at.field-0-0.0 at.field-0-1 c.requires.1 long
