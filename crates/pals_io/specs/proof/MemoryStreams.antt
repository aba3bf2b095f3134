-- The models of a source and of a sink in memory.
use Rattle.std.specs.Prelude.{ℕ, ◌-◌, List, ◌++◌, length, take, drop, min}
use Rattle.pals_io.specs.SourcesAndSinks.{one_more}

-- a source in memory
pub record SourceState : Type 0 where
  -- the remaining bytes
  pub left : List ℕ
  -- the maximum number of bytes that a call provides
  pub most : ℕ
  -- the numbers, from 1, of the calls that fail
  pub failing : List ℕ
  -- the number of calls, and the number of failed ones, each up to 2^64 - 1
  pub calls : ℕ
  pub faults : ℕ

-- a sink in memory
pub record SinkState : Type 0 where
  -- the accepted bytes
  pub held : List ℕ
  -- the capacity in bytes
  pub room : ℕ
  -- the maximum number of bytes that a call accepts
  pub most : ℕ
  -- the numbers, from 1, of the calls that fail
  pub failing : List ℕ
  -- the number of calls, and the number of failed ones, each up to 2^64 - 1
  pub calls : ℕ
  pub faults : ℕ

-- the number of bytes that a successful call provides
abbrev pub count_given : SourceState → ℕ → ℕ
count_given source asked = min source.most (min asked (length source.left))

-- the source after a call that provided n bytes
abbrev pub after_giving : SourceState → ℕ → SourceState
after_giving source n = record source { left = drop n source.left; calls = one_more source.calls }

-- the source after a failed call
abbrev pub after_failed_read : SourceState → SourceState
after_failed_read source = record source { calls = one_more source.calls; faults = one_more source.faults }

-- the number of bytes of a piece that a successful call accepts
abbrev pub count_taken : SinkState → ℕ → ℕ
count_taken sink offered = min sink.most (min offered (sink.room - length sink.held))

-- the sink after a call that accepted the first n bytes of a piece
abbrev pub after_taking : SinkState → List ℕ → ℕ → SinkState
after_taking sink piece n = record sink { held = sink.held ++ take n piece; calls = one_more sink.calls }

-- the sink after a failed call
abbrev pub after_failed_write : SinkState → SinkState
after_failed_write sink = record sink { calls = one_more sink.calls; faults = one_more sink.faults }
