-- For a program on a reader and a writer: from what its source and its sink show to the bytes of both.
use Rattle.std.proofs.Common.{◌≡◌, ℕ, Bool, List, [], ◌++◌, take, Option, Some, None, refl, sym, ap}
use Rattle.std.proofs.Common.{◌∙◌, subst, arith, take-append-drop, length-take}
use Rattle.std.specs.Prelude.{if◌then◌else◌, is_some, option_map}
use Rattle.std.specs.Io.KnownBytes.{Appends, Consumes}
use Rattle.pals_io.specs.SourcesAndSinks.{SourceView, SinkView, after_taking, TakesPart, GivesWithin}
use Rattle.program_edge.specs.ExposedBytes.{source_view, sink_view, reader_before, reader_after}
use Rattle.program_edge.specs.ExposedBytes.{ConsumesWithin, AppendsPart}
use Rattle.program_edge.specs.proof.CountedReadersAndWriters.{Counted}

-- known bytes change as the exposed ones do
known_change : (bytes : List ℕ) (after : Option (List ℕ)) (exposed : Bool) (change : List ℕ → List ℕ)
    → exposed ≡ is_some (Some bytes)
    → (if exposed then after else None) ≡ option_map change (if exposed then Some bytes else None)
    → Some (change bytes) ≡ after
known_change bytes after exposed change is shown =
    sym (subst (λ (e : Bool). (if e then after else None) ≡ option_map change (if e then Some bytes else None)) is shown)

-- ---- a reader that a source wraps: as it was wrapped, and as it was returned
module _ {R : Type 0} (remaining : R → Option (List ℕ)) (exposed : Bool) (reader returned : R) (old new : Counted R)
    (is : exposed ≡ is_some (remaining reader)) (wrapped : old ≡ record { inner = reader; faults = 0 })
    (unwrapped : returned ≡ new.inner) where
  abbrev Shown : (SourceView → SourceView → Type 0) → Counted R → Type 0
  Shown P opened =
      P (source_view exposed (remaining opened.inner) opened.faults)
      (source_view exposed (remaining new.inner) new.faults)

  -- what holds of the source holds of the reader
  pub reader_shown : (P : SourceView → SourceView → Type 0) → Shown P old
      → P (reader_before (remaining reader)) (reader_after (remaining reader) (remaining returned) new.faults)
  reader_shown P shown =
      subst (λ (r : R). P (reader_before (remaining reader)) (reader_after (remaining reader) (remaining r) new.faults))
      (sym unwrapped)
      (subst (λ (e : Bool). P (source_view e (remaining reader) 0) (source_view e (remaining new.inner) new.faults)) is
      (subst (Shown P) wrapped shown))

-- the source provided at most this many bytes, so the reader did
pub consumes_within : (before after : Option (List ℕ)) (failed most : ℕ)
    → GivesWithin (reader_before before) (reader_after before after failed) most → ConsumesWithin before after most
consumes_within None after failed most within = ([], omega arith, tt)
consumes_within (Some left) after failed most within = (
  take within.count left,
  omega (arith, within.within, length-take within.count left),
  subst (λ new. Consumes (Some left) new (take within.count left)) (sym (ap (λ view. view.left) within.view))
      (sym (take-append-drop within.count left)),
)

-- ---- a writer that a sink wraps: as it was wrapped, and as it was returned
module _ {W : Type 0} (contents : W → Option (List ℕ)) (exposed : Bool) (writer returned : W) (old new : Counted W)
    (is : exposed ≡ is_some (contents writer)) (wrapped : old ≡ record { inner = writer; faults = 0 })
    (unwrapped : returned ≡ new.inner) where
  abbrev sink_of : Counted W → SinkView
  sink_of sink = sink_view exposed (contents sink.inner) sink.faults

  -- exposed bytes that grew are known bytes that grew
  appended : (bytes : List ℕ) (before after : Option (List ℕ)) → exposed ≡ is_some before
      → (if exposed then after else None) ≡ option_map (λ held. held ++ bytes) (if exposed then before else None)
      → Appends before after bytes
  appended bytes None after known shown = tt
  appended bytes (Some held) after known shown =
      subst (λ now. Appends (Some held) now bytes) (known_change held after exposed (λ held. held ++ bytes) known shown)
      refl

  -- and so did the contents of the returned writer
  returned_appended : (bytes : List ℕ)
      → (if exposed then contents new.inner else None)
      ≡ option_map (λ held. held ++ bytes) (if exposed then contents old.inner else None)
      → Appends (contents writer) (contents returned) bytes
  returned_appended bytes shown =
      subst (λ (w : W). Appends (contents writer) (contents w) bytes) (sym unwrapped)
      (appended bytes (contents writer) (contents new.inner) is
      (subst (λ (sink : Counted W). (if exposed then contents new.inner else None)
      ≡ option_map (λ held. held ++ bytes) (if exposed then contents sink.inner else None)) wrapped shown))

  -- the sink accepted these bytes, so the writer did
  pub appends : (bytes : List ℕ) → sink_of new ≡ after_taking (sink_of old) bytes
      → Appends (contents writer) (contents returned) bytes
  appends bytes taken = returned_appended bytes (ap (λ view. view.held) taken)

  -- the sink accepted a proper prefix, so the writer did
  pub appends_part : (bytes : List ℕ) → TakesPart (sink_of old) (sink_of new) bytes
      → AppendsPart (contents writer) (contents returned) bytes
  appends_part bytes part =
      (part.count, part.part, returned_appended (take part.count bytes) (ap (λ view. view.held) part.view))

  -- the sink was not called, so the writer is the same
  pub same_writer : new ≡ old → returned ≡ writer
  same_writer untouched = unwrapped ∙ ap (λ sink. sink.inner) (untouched ∙ wrapped)
