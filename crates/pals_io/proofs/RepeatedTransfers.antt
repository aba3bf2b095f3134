-- For `read_all` and `write_all`: the bytes that several calls consumed or wrote.
use Rattle.std.proofs.Common.{◌≡◌, ◌↔◌, ℕ, ◌+◌, ◌<◌, ◌≤◌, List, [], ◌++◌, length, take, drop, Option, Some, None, refl}
use Rattle.std.proofs.Common.{sym, ap, ◌∙◌, subst, append_assoc, arith, length-append, length-drop}
use Rattle.std.specs.Prelude.{IfSome, option_map}
use Rattle.std.proofs.Math.Seq.{take-add}
use Rattle.std.proofs.lemmas.List.{length-take-le, take-append-le, drop-drop, take_all}
use Rattle.pals_io.specs.SourcesAndSinks.{SourceView, SinkView, after_giving, after_read_fault, Gives, GivesAll}
use Rattle.pals_io.specs.SourcesAndSinks.{GivesTooMany, GivesWithin, FailsWithin, after_taking}

-- ---- sources
after_giving-nil : (source : SourceView) → source ≡ after_giving source 0
after_giving-nil source = ap (λ o. record source { left = o }) (none_gone source.left)
  where
    none_gone : (o : Option (List ℕ)) → o ≡ option_map (drop 0) o
    none_gone None = refl
    none_gone (Some left) = refl

after_giving-more : (source : SourceView) (m n : ℕ)
    → after_giving (after_giving source m) n ≡ after_giving source (m + n)
after_giving-more source m n = ap (λ o. record source { left = o }) (more_gone source.left)
  where
    more_gone : (o : Option (List ℕ)) → option_map (drop n) (option_map (drop m) o) ≡ option_map (drop (m + n)) o
    more_gone None = refl
    more_gone (Some left) = ap Some (drop-drop n m left)

-- these bytes are a prefix of the remaining ones
abbrev pub IsFront : List ℕ → List ℕ → Type 0
IsFront got left = (got ≡ take (length got) left) × (length got ≤ length left)

-- the first n remaining bytes are at the front of the buffer
abbrev IsNext : List ℕ → ℕ → List ℕ → Type 0
IsNext buf n left = (n ≤ length left) × (take n buf ≡ take n left) × ((n ≡ 0) ↔ (left ≡ []))

-- these bytes are a prefix of the remaining ones, and are consumed
pub record GivesFirst (before after : SourceView) (got : List ℕ) : Type 0 where
  pub view : after ≡ after_giving before (length got)
  pub bytes : IfSome before.left (IsFront got)

-- initially no byte is consumed
pub first_nothing : (source : SourceView) → GivesFirst source source []
first_nothing source = record { view = after_giving-nil source; bytes = nothing source.left }
  where
    nothing : (o : Option (List ℕ)) → IfSome o (IsFront [])
    nothing None = tt
    nothing (Some left) = (refl, omega arith)

-- a call provides the next bytes after the ones already consumed
from_first : (first mid last : SourceView) (got buf : List ℕ) (n : ℕ) → GivesFirst first mid got → Gives mid last buf n
    → Gives (after_giving first (length got)) last buf n
from_first first mid last got buf n before given = subst (λ m. Gives m last buf n) before.view given

-- the bytes consumed after one more call
gone_more : (first mid last : SourceView) (got buf : List ℕ) (n count : ℕ) → GivesFirst first mid got
    → Gives mid last buf n → length got + n ≡ count → last ≡ after_giving first count
gone_more first mid last got buf n count before given sum =
    (from_first first mid last got buf n before given).view ∙ after_giving-more first (length got) n
    ∙ ap (after_giving first) sum

-- a call provides the next bytes, which are copied from a longer buffer
pub first_kept : (first mid last : SourceView) (got buf rest kept : List ℕ) (n : ℕ) → GivesFirst first mid got
    → Gives mid last buf n → n ≤ length buf → kept ≡ got ++ take n (buf ++ rest) → GivesFirst first last kept
first_kept first mid last got buf rest kept n before given within same =
    let copied : kept ≡ got ++ take n buf = same ∙ ap (λ t. got ++ t) (take-append-le n buf rest within) in
    let count : length got + n ≡ length (got ++ take n buf) =
    sym (length-append got (take n buf) ∙ ap (λ k. length got + k) (length-take-le n buf within)) in
    subst (GivesFirst first last) (sym copied) record {
      view = gone_more first mid last got buf n (length (got ++ take n buf)) before given count;
      bytes =
          joined first.left (length (got ++ take n buf)) count before.bytes
          (from_first first mid last got buf n before given).bytes;
    }
  where
    joined : (o : Option (List ℕ)) (k : ℕ) → length got + n ≡ k → IfSome o (IsFront got)
        → IfSome (option_map (drop (length got)) o) (IsNext buf n)
        → IfSome o (λ left. (got ++ take n buf ≡ take k left) × (k ≤ length left))
    joined None k count front next = tt
    joined (Some left) k count front next = (
      ap (λ t. t ++ take n buf) front.0 ∙ ap (λ t. take (length got) left ++ t) next.1
          ∙ sym (take-add (length got) n left) ∙ ap (λ j. take j left) count,
      omega (arith, count, front.1, next.0, length-drop (length got) left),
    )

-- a call that provides nothing follows the last byte
pub first_all : (first mid last : SourceView) (got buf : List ℕ) (n : ℕ) → GivesFirst first mid got
    → Gives mid last buf n → n ≡ 0 → GivesAll first last got
first_all first mid last got buf n before given none = record {
  view = gone_more first mid last got buf n (length got) before given (omega arith);
  bytes = whole first.left before.bytes (from_first first mid last got buf n before given).bytes;
}
  where
    whole : (o : Option (List ℕ)) → IfSome o (IsFront got) → IfSome (option_map (drop (length got)) o) (IsNext buf n)
        → IfSome o (λ left. got ≡ left)
    whole None front next = tt
    whole (Some left) front next =
        front.0 ∙ take_all (length got) left (omega (arith, ap length (next.2.0 none), length-drop (length got) left))

-- a call that provides one byte past the limit
pub first_too_many : (first mid last : SourceView) (got buf : List ℕ) (n most : ℕ) → GivesFirst first mid got
    → Gives mid last buf n → length got + n ≡ most + 1 → GivesTooMany first last most
first_too_many first mid last got buf n most before given sum = record {
  view = gone_more first mid last got buf n (most + 1) before given sum;
  bytes = past first.left before.bytes (from_first first mid last got buf n before given).bytes;
}
  where
    past : (o : Option (List ℕ)) → IfSome o (IsFront got) → IfSome (option_map (drop (length got)) o) (IsNext buf n)
        → IfSome o (λ left. most < length left)
    past None front next = tt
    past (Some left) front next = omega (arith, sum, front.1, next.0, length-drop (length got) left)

-- the bytes consumed so far, and by one more call, within the limit
pub first_within : (first mid last : SourceView) (got buf : List ℕ) (n most : ℕ) → GivesFirst first mid got
    → Gives mid last buf n → length got + n ≤ most → GivesWithin first last most
first_within first mid last got buf n most before given small = record {
  count = length got + n;
  within = small;
  view = gone_more first mid last got buf n (length got + n) before given refl;
}

-- the bytes consumed so far, within the limit, and then a failed call
pub first_failed : (first mid last : SourceView) (got : List ℕ) (most : ℕ) → GivesFirst first mid got
    → last ≡ after_read_fault mid → length got ≤ most → FailsWithin first last most
first_failed first mid last got most before failed small = record {
  count = length got;
  within = small;
  view = failed ∙ ap after_read_fault before.view;
}

-- ---- sinks
-- a call accepts the next bytes
pub after_taking-more : (first mid last : SinkView) (bytes piece : List ℕ) (done n : ℕ)
    → mid ≡ after_taking first (take done bytes) → last ≡ after_taking mid (take n piece)
    → take n piece ≡ take n (drop done bytes) → last ≡ after_taking first (take (done + n) bytes)
after_taking-more first mid last bytes piece done n before taken same =
    taken
    ∙ ap (λ m. after_taking m (take n piece)) before
    ∙ ap (λ o. record first { held = o }) (both_taken first.held)
  where
    both_taken : (o : Option (List ℕ))
        → option_map (λ held. held ++ take n piece) (option_map (λ held. held ++ take done bytes) o)
        ≡ option_map (λ held. held ++ take (done + n) bytes) o
    both_taken None = refl
    both_taken (Some held) =
        ap Some (append_assoc held (take done bytes) (take n piece)
        ∙ ap (λ t. held ++ t) (ap (λ t. take done bytes ++ t) same ∙ sym (take-add done n bytes)))
