-- Texts to which lines and blocks of lines are added.
use Rattle.std.proofs.Common.{◌≡◌, Result, Ok, Err, OnOk, OnErr, ℕ, ◌+◌, ◌<◌, ◌≤◌, List, [], ◌∷◌, ◌++◌, length, take}
use Rattle.std.proofs.Common.{get_or, All, sym, ap, ◌∙◌, subst, append_assoc}
use Rattle.std.specs.List.{flat_map}
use Rattle.std.proofs.lemmas.List.{append-nil, take_all}
use Rattle.list_lemmas.proofs.ListOperations.{flat_map-take_more}
use Rattle.pals_base.specs.declared.behaviour.BehaviourParts.{BehaviourParts}
use Rattle.pals_model.specs.RoundTexts.{line_end, text_of}
use Rattle.pals_model.proofs.TextLineLaws.{text_of-append}
use Rattle.pals_report.specs.proof.TextPrefixes.{BeginsWith}
use Rattle.pals_report.proofs.TextPrefixes.{last_on_err}
use Rattle.step_code.specs.declared.instr.Instr.{Instr}
use Rattle.step_code.specs.declared.instr.CodeParts.{CodeParts}
use Rattle.code_listing.specs.NumberRanges.{NumberFits, InstrFits, EntriesFit, CodeFits}

-- ---- lines after others
-- a text followed by these lines
pub record Adds (old : List ℕ) (lines : List (List ℕ)) (new : List ℕ) : Type 0 where
  pub is : new ≡ old ++ text_of lines

pub line_alone : (old new line : List ℕ) → new ≡ old ++ line ++ line_end → Adds old (line ∷ []) new
line_alone old new line added =
    record { is = added ∙ append_assoc old line line_end ∙ ap (λ t. old ++ t) (sym (append-nil (line ++ line_end))) }

pub lines_behind : {old middle : List ℕ} {first : List (List ℕ)} (new : List ℕ) (more : List (List ℕ))
    → Adds old first middle → new ≡ middle ++ text_of more → Adds old (first ++ more) new
lines_behind {old} {middle} {first} new more before added = record {
  is =
      added ∙ ap (λ t. t ++ text_of more) before.is ∙ append_assoc old (text_of first) (text_of more)
      ∙ ap (λ t. old ++ t) (sym (text_of-append first more));
}

pub line_behind : {old middle : List ℕ} {first : List (List ℕ)} (new line : List ℕ) → Adds old first middle
    → new ≡ middle ++ line ++ line_end → Adds old (first ++ line ∷ []) new
line_behind {old} {middle} {first} new line before added =
    lines_behind new (line ∷ []) before (line_alone middle new line added).is

-- the last call
pub lines_last : {T E : Type 0} (r : Result T E) {old middle : List ℕ} {first : List (List ℕ)} (new : List ℕ)
    (more whole : List (List ℕ)) → Adds old first middle → first ++ more ≡ whole
    → OnOk r (new ≡ middle ++ text_of more) → OnOk r (new ≡ old ++ text_of whole)
lines_last (Ok x) {old} {middle} {first} new more whole before is added =
    (lines_behind new more before added).is ∙ ap (λ lines. old ++ text_of lines) is
lines_last (Err e) {old} {middle} {first} new more whole before is added = tt

pub line_last : {T E : Type 0} (r : Result T E) {old middle : List ℕ} {first : List (List ℕ)} (new line : List ℕ)
    (whole : List (List ℕ)) → Adds old first middle
    → first ++ line ∷ [] ≡ whole → OnOk r (new ≡ middle ++ line ++ line_end) → OnOk r (new ≡ old ++ text_of whole)
line_last (Ok x) {old} {middle} {first} new line whole before is added =
    (line_behind new line before added).is ∙ ap (λ lines. old ++ text_of lines) is
line_last (Err e) {old} {middle} {first} new line whole before is added = tt

pub begun_last : {T E : Type 0} (r : Result T E) {old middle : List ℕ} {first : List (List ℕ)} (new : List ℕ)
    → Adds old first middle → OnErr r (BeginsWith new middle) → OnErr r (BeginsWith new old)
begun_last r {old} {middle} {first} new before begun = last_on_err r new middle old (text_of first) before.is begun

-- ---- the lists of lines that calls append, one after the other
pub six_lists : (a b c d e f : List (List ℕ)) → ((((a ++ b) ++ c) ++ d) ++ e) ++ f ≡ a ++ b ++ c ++ d ++ e ++ f
six_lists a b c d e f = simp append_assoc

pub three_behind : (first second third fourth : List ℕ) (lines rest : List (List ℕ))
    → (((((first ∷ []) ++ lines) ++ second ∷ []) ++ third ∷ []) ++ fourth ∷ []) ++ rest
    ≡ first ∷ lines ++ second ∷ third ∷ fourth ∷ rest
three_behind first second third fourth lines rest = simp append_assoc

-- ---- blocks of lines, one for each item of a list

pub blocks_turn : {X : Type 0} (f : X → List (List ℕ)) (xs : List X) (i : ℕ) (x : X) (old out new : List ℕ)
    → i < length xs → x ≡ get_or xs i x
    → out ≡ old ++ text_of (flat_map f (take i xs)) → new ≡ out ++ text_of (f x)
    → new ≡ old ++ text_of (flat_map f (take (i + 1) xs))
blocks_turn f xs i x old out new within is before added =
    let begun : Adds old (flat_map f (take i xs)) out = record { is = before } in
    (lines_behind new (f x) begun added).is
    ∙ ap (λ lines. old ++ text_of lines) (sym (flat_map-take_more f xs i x within is))

pub blocks_all : {X : Type 0} (f : X → List (List ℕ)) (xs : List X) (i : ℕ) (old out : List ℕ) → length xs ≤ i
    → out ≡ old ++ text_of (flat_map f (take i xs)) → out ≡ old ++ text_of (flat_map f xs)
blocks_all f xs i old out behind before = before ∙ ap (λ ys. old ++ text_of (flat_map f ys)) (take_all i xs behind)

-- the numbers of a code, after its last call
pub code_fits : {T E : Type 0} (r : Result T E) (b : BehaviourParts) (code : CodeParts) (instrs : List Instr)
    → NumberFits code.loops → EntriesFit b.states code.entries → instrs ≡ code.instrs
    → OnOk r (All InstrFits instrs) → OnOk r (CodeFits b code)
code_fits (Ok x) b code instrs loops entries is each =
    record { loops = loops; entries = entries; instrs = subst (All InstrFits) is each }
code_fits (Err e) b code instrs loops entries is each = tt
