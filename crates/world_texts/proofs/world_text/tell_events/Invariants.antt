use Rattle.std.proofs.Common.{take}
use Rattle.world_texts.specs.proof.WorldTexts.{LeadsTelling}
use Rattle.world_texts.proofs.world_text.tell_events.Given as goal

-- the first events have happened, and the lines of their messages are written
abbrev pub invariant-loop-index : goal.invariant-loop-index
invariant-loop-index l = LeadsTelling l.fn.world (take l.index l.events) l.world l.fn.sent.items l.sent.items
