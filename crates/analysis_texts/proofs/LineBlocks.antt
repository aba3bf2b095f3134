-- Blocks of lines, one for each item of a list.
use Rattle.std.proofs.Common.{◌≡◌, ℕ, ◌+◌, ◌≤◌, List, [], ◌∷◌, ◌++◌, length, take, map, sym, ap, ◌∙◌, append_assoc}
use Rattle.std.specs.List.{flat_map}
use Rattle.std.proofs.lemmas.List.{append-nil, take_all}
use Rattle.pals_base.specs.UpwardNumbers.{upwards}
use Rattle.pals_base.proofs.UpwardNumbers.{map_upwards_more}
use Rattle.pals_model.specs.RoundTexts.{line_end, text_of}
use Rattle.pals_model.proofs.TextLineLaws.{text_of-append}

pub blocks_all : {X : Type 0} (f : X → List (List ℕ)) (xs : List X) (i : ℕ) → length xs ≤ i
    → text_of (flat_map f (take i xs)) ≡ text_of (flat_map f xs)
blocks_all f xs i behind = ap (λ ys. text_of (flat_map f ys)) (take_all i xs behind)

-- ---- lines that are counted
pub counted_turn : (f : ℕ → List ℕ) (at : ℕ) (old out new : List ℕ) → out ≡ old ++ text_of (map f (upwards 0 at))
    → new ≡ out ++ f at ++ line_end
    → new ≡ old ++ text_of (map f (upwards 0 (at + 1)))
counted_turn f at old out new before added =
    let so_far = text_of (map f (upwards 0 at)) in
    added ∙ ap (λ t. t ++ f at ++ line_end) before ∙ append_assoc (old ++ so_far) (f at) line_end
    ∙ append_assoc old so_far (f at ++ line_end)
    ∙ ap (λ t. old ++ (so_far ++ t)) (sym (append-nil (f at ++ line_end)))
    ∙ ap (λ t. old ++ t) (sym (ap text_of (map_upwards_more f at) ∙ text_of-append (map f (upwards 0 at)) (f at ∷ [])))

-- ---- a line after others
pub line_behind : (old line new : List ℕ) → new ≡ old ++ line ++ line_end → new ≡ old ++ text_of (line ∷ [])
line_behind old line new added =
    added ∙ append_assoc old line line_end ∙ ap (λ t. old ++ t) (sym (append-nil (line ++ line_end)))

-- ---- a line before others
pub line_before : (old line middle new : List ℕ) (more : List (List ℕ)) → middle ≡ old ++ line ++ line_end
    → new ≡ middle ++ text_of more
    → new ≡ old ++ text_of (line ∷ more)
line_before old line middle new more first added =
    added ∙ ap (λ t. t ++ text_of more) (first ∙ append_assoc old line line_end)
    ∙ append_assoc old (line ++ line_end) (text_of more)
