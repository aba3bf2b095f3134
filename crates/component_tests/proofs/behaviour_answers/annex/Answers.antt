use Rattle.component_tests.proofs.TokenSlices.{all_among}
use Rattle.component_tests.proofs.behaviour_answers.annex.Goals as goal

pub parse_annex-requires : goal.parse_annex-requires
parse_annex-requires c = all_among _ c.in-Ok.tokens.items _ c.as_slice.ensures.value c.in-Ok.ensures.tokens
