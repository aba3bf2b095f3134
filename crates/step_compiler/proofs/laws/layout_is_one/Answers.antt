use Rattle.step_compiler.proofs.SoundAndUniqueOrder.{order_is_one}
use Rattle.step_compiler.proofs.LayoutLaws.{has_layout, laid_out_code_is_one, laid_out_codes_are_one}
use Rattle.step_compiler.proofs.laws.layout_is_one.Goals as goal

pub returns : goal.returns
returns c =
    record { exists = has_layout; order = order_is_one; code = laid_out_code_is_one; codes = laid_out_codes_are_one }
