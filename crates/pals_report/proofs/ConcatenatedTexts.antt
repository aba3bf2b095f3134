-- A text of several lines, and a text that grows by one part after another, are the concatenation of their parts.
use Rattle.std.proofs.Common.{◌≡◌, ℕ, List, [], ◌∷◌, ◌++◌, sym, ap, ◌∙◌, append_assoc}
use Rattle.std.proofs.lemmas.List.{append-nil}
use Rattle.pals_model.specs.RoundTexts.{text_of, line_end}
use Rattle.pals_model.proofs.TextLineLaws.{text_of-append}
use Rattle.pals_report.specs.CheckReports.{time_line}

-- four texts in sequence
pub four_behind : (old a b c d m n o p : List ℕ) → m ≡ old ++ a → n ≡ m ++ b → o ≡ n ++ c → p ≡ o ++ d
    → p ≡ old ++ (a ++ (b ++ (c ++ d)))
four_behind old a b c d m n o p i j k l =
    l ∙ ap (λ t. t ++ d) (k ∙ ap (λ t. t ++ c) (j ∙ ap (λ t. t ++ b) i)) ∙ simp append_assoc

pub five_lines : (a b c d : List ℕ) (word : List ℕ) {time is : ℕ} → time ≡ is
    → ((a ++ line_end) ++ ((b ++ line_end) ++ ((c ++ line_end) ++ (d ++ line_end))))
    ++ (time_line word time ++ line_end) ≡ text_of (a ∷ b ∷ c ∷ d ∷ time_line word is ∷ [])
five_lines a b c d word {time} {is} e =
    ap (λ t. ((a ++ line_end) ++ ((b ++ line_end) ++ ((c ++ line_end) ++ (d ++ line_end))))
    ++ (time_line word t ++ line_end)) e ∙ simp (append_assoc, append-nil)

-- five texts in sequence
pub five_behind : (old a b c d e m n o p q : List ℕ) → m ≡ old ++ a → n ≡ m ++ b → o ≡ n ++ c → p ≡ o ++ d → q ≡ p ++ e
    → q ≡ old ++ (a ++ (b ++ (c ++ (d ++ e))))
five_behind old a b c d e m n o p q i j k l f =
    f ∙ ap (λ t. t ++ e) (four_behind old a b c d m n o p i j k l) ∙ simp append_assoc

pub six_lists : (a b c d e f : List (List ℕ))
    → (text_of a ++ (text_of b ++ (text_of c ++ (text_of d ++ text_of e)))) ++ text_of f
    ≡ text_of (a ++ b ++ c ++ d ++ e ++ f)
six_lists a b c d e f =
    sym (text_of-append (a ++ b ++ c ++ d ++ e) f
    ∙ ap (λ t. t ++ text_of f)
    (text_of-append (a ++ b ++ c ++ d) e
    ∙ ap (λ t. t ++ text_of e)
    (text_of-append (a ++ b ++ c) d
    ∙ ap (λ t. t ++ text_of d) (text_of-append (a ++ b) c ∙ ap (λ t. t ++ text_of c) (text_of-append a b))))
    ∙ simp append_assoc)
