-- The models of a source and of a sink of bytes, and the effects of calls. If no failed call is mentioned, none
-- failed.
use Rattle.std.specs.Prelude.{◌≡◌, ◌↔◌, ℕ, ◌+◌, ◌-◌, ◌^◌, ◌<◌, ◌≤◌, min, List, [], ◌++◌, length, take, drop, Option}
use Rattle.std.specs.Prelude.{IfSome, option_map}

-- the model of a source: the remaining bytes, if the source exposes them, and the number of failed calls, up to 2^64
-- - 1
pub record SourceView : Type 0 where
  pub left : Option (List ℕ)
  pub faults : ℕ

-- the model of a sink: the accepted bytes, if the sink exposes them, and the number of failed calls, up to 2^64 - 1
pub record SinkView : Type 0 where
  pub held : Option (List ℕ)
  pub faults : ℕ

-- one more, or the maximum value of a count
abbrev pub one_more : ℕ → ℕ
one_more count = min (count + 1) (2 ^ 64 - 1)

-- ---- sources
-- the source without the first n remaining bytes
abbrev pub after_giving : SourceView → ℕ → SourceView
after_giving source n = record source { left = option_map (drop n) source.left }

-- the source after a failed call
abbrev pub after_read_fault : SourceView → SourceView
after_read_fault source = record source { faults = one_more source.faults }

-- the first n remaining bytes are moved to the front of the buffer; n is 0 if and only if no byte remained
pub record Gives (before after : SourceView) (buf : List ℕ) (n : ℕ) : Type 0 where
  pub view : after ≡ after_giving before n
  pub bytes : IfSome before.left (λ left. (n ≤ length left) × (take n buf ≡ take n left) × ((n ≡ 0) ↔ (left ≡ [])))

-- these bytes are all remaining ones, and are consumed
pub record GivesAll (before after : SourceView) (given : List ℕ) : Type 0 where
  pub view : after ≡ after_giving before (length given)
  pub bytes : IfSome before.left (λ left. given ≡ left)

-- more than `most` bytes remained, and the first `most + 1` of them are consumed
pub record GivesTooMany (before after : SourceView) (most : ℕ) : Type 0 where
  pub view : after ≡ after_giving before (most + 1)
  pub bytes : IfSome before.left (λ left. most < length left)

-- a prefix of the remaining bytes, of length at most `most`, is consumed
pub record GivesWithin (before after : SourceView) (most : ℕ) : Type 0 where
  pub count : ℕ
  pub within : count ≤ most
  pub view : after ≡ after_giving before count

-- a prefix of the remaining bytes, of length at most `most`, is consumed, and one call failed
pub record FailsWithin (before after : SourceView) (most : ℕ) : Type 0 where
  pub count : ℕ
  pub within : count ≤ most
  pub view : after ≡ after_read_fault (after_giving before count)

-- ---- sinks
-- the sink with these bytes after the earlier ones
abbrev pub after_taking : SinkView → List ℕ → SinkView
after_taking sink bytes = record sink { held = option_map (λ held. held ++ bytes) sink.held }

-- the sink after a failed call
abbrev pub after_write_fault : SinkView → SinkView
after_write_fault sink = record sink { faults = one_more sink.faults }

-- a proper prefix was accepted, and one call failed
pub record TakesPart (before after : SinkView) (bytes : List ℕ) : Type 0 where
  pub count : ℕ
  pub part : count < length bytes
  pub view : after ≡ after_write_fault (after_taking before (take count bytes))
