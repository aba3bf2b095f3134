-- The final text of the printer is the canonical text of the tree.
use Rattle.std.proofs.Common.{◌≡◌, ◌∙◌, ℕ, Bool, true, false, refl, ap, List, [], ◌∷◌, ◌++◌, append_assoc}
use Rattle.std.specs.Prelude.{◌||◌, if◌then◌else◌}
use Rattle.aadl_tree.specs.Terminals.{PlainTerminal}
use Rattle.aadl_tree.specs.SpellingParts.{SpellingPart, token, may, kept}
use Rattle.aadl_tree.specs.CanonicalText.{kind_text, holds_left, holds_right, ends_line, line_end, text_behind}
use Rattle.aadl_tree.specs.CanonicalText.{canonical, canon}
use Rattle.aadl_tree.specs.Declarations.{PackageTree, package_parts}
use Rattle.aadl_print.specs.declared.spacing.Spacing.TheVariants.{Nothing, Space, LineEnd}
use Rattle.aadl_print.specs.proof.PrintedText.{Printed, gap_text, gap_behind, blank, put, printed}

-- terminals in sequence
abbrev written : Printed → List PlainTerminal → Printed
written before [] = before
written before (kind ∷ ks) = written (put before kind) ks

printed_kept : {P : Type 0} (before : Printed) (ps : List (SpellingPart P))
    → printed before ps ≡ written before (kept ps)
printed_kept before [] = refl
printed_kept before (token kind places ∷ ps) = printed_kept (put before kind) ps
printed_kept before (may extra ∷ ps) = printed_kept before ps

-- the gap between two terminals
gap_between : (holds_next holds_last ends : Bool)
    → (if holds_next then [] else gap_text (if holds_last then Nothing else if ends then LineEnd else Space))
    ≡ (if holds_last || holds_next then [] else if ends then line_end else 32 ∷ [])
gap_between true true ends = refl
gap_between true false ends = refl
gap_between false true ends = refl
gap_between false false true = refl
gap_between false false false = refl

written_behind : (text : List ℕ) (last : PlainTerminal) (ks : List PlainTerminal)
    → (written (record { text = text; gap = gap_behind last }) ks).text ++ line_end ≡ text ++ text_behind last ks
unfolding put
written_behind text last [] = refl
written_behind text last (next ∷ ks) =
    written_behind (text ++ ((if holds_left next then [] else gap_text (gap_behind last)) ++ kind_text next)) next ks
    ∙ ap (λ (gap : List ℕ). (text ++ (gap ++ kind_text next)) ++ text_behind next ks)
    (gap_between (holds_left next) (holds_right last) (ends_line last))
    ∙ simp append_assoc

front_gap : (holds : Bool) → (if holds then [] else gap_text Nothing) ≡ []
front_gap true = refl
front_gap false = refl

written_canonical : (ks : List PlainTerminal) → (ks ≡ [] → ⊥) → (written blank ks).text ++ line_end ≡ canonical ks
unfolding put
written_canonical [] some = absurd (some refl)
written_canonical (kind ∷ ks) some =
    written_behind ((if holds_left kind then [] else gap_text Nothing) ++ kind_text kind) kind ks
    ∙ ap (λ (gap : List ℕ). (gap ++ kind_text kind) ++ text_behind kind ks) (front_gap (holds_left kind))

printed_canon : {P : Type 0} (tree : PackageTree P) → (printed blank (package_parts tree)).text ++ line_end ≡ canon tree
printed_canon tree =
    ap (λ (p : Printed). p.text ++ line_end) (printed_kept blank (package_parts tree))
    ∙ written_canonical (kept (package_parts tree)) (λ e. absurd cc)

-- The printed text of a whole tree is its canonical text.
pub finished : {P : Type 0} (before after : Printed) (tree : PackageTree P) → before ≡ blank
    → after ≡ printed before (package_parts tree) → after.text ++ line_end ≡ canon tree
finished before after tree none all =
    ap (λ (p : Printed). p.text ++ line_end) (all ∙ ap (λ (p : Printed). printed p (package_parts tree)) none)
    ∙ printed_canon tree
