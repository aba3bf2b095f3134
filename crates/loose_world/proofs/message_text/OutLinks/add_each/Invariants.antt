use Rattle.std.proofs.Common.{◌≡◌, ◌++◌, map, take}
use Rattle.std.specs.Prelude.{flat_map}
use Rattle.pals_base.specs.declared.basic_types.LinkNo.{LinkNo}
use Rattle.pals_model.specs.RoundTexts.{text_of}
use Rattle.loose_world.specs.SentLines.{message_lines}
use Rattle.loose_world.proofs.message_text.OutLinks.add_each.Given as goal

-- the lines of the first links are there
abbrev pub invariant-loop-link : goal.invariant-loop-link
invariant-loop-link l =
    l.out.items ≡ l.fn.out.items
    ++ text_of (flat_map (message_lines l.bus l.round)
    (map (λ (link : LinkNo). link.0) (take l.link-index l.link-items)))
