-- Prefixes of texts, and texts that grow: for calls that append a text part by part.
use Rattle.std.proofs.Common.{◌≡◌, Result, Ok, Err, OnOk, OnErr, ℕ, List, ◌++◌, length, drop, sym, ap, ◌∙◌, subst}
use Rattle.std.proofs.Common.{append_assoc}
use Rattle.std.proofs.lemmas.List.Prefix.{front_rest}
use Rattle.pals_report.specs.proof.TextPrefixes.{BeginsWith}

-- a text with a longer prefix has the shorter one
begins_before : (text start more middle : List ℕ) → middle ≡ start ++ more → BeginsWith text middle
    → BeginsWith text start
begins_before text start more middle e h =
    let rest : List ℕ = more ++ drop (length middle) text in
    let joined : text ≡ start ++ rest = h ∙ ap (λ m. m ++ drop (length middle) text) e
    ∙ append_assoc start more (drop (length middle) text) in
    joined ∙ ap (λ t. start ++ t) (sym (front_rest text start rest joined))

-- more text after a prefix
pub begins_more : (text middle start more : List ℕ) → BeginsWith middle start → text ≡ middle ++ more
    → BeginsWith text start
begins_more text middle start more h e =
    begins_before text start (drop (length start) middle) middle h
    (e ∙ ap (λ t. middle ++ t) (sym (front_rest text middle more e)))

-- a text with a prefix longer than a start has the start as a prefix too, if a call fails
pub begins_on_err : {T E : Type 0} (r : Result T E) (text start more middle : List ℕ) → middle ≡ start ++ more
    → BeginsWith text middle → OnErr r (BeginsWith text start)
begins_on_err (Ok x) text start more middle e h = tt
begins_on_err (Err x) text start more middle e h = begins_before text start more middle e h

-- a call that retains the text that another one appended
pub joined_on_ok : {T E : Type 0} (r written : Result T E) (new middle old text same : List ℕ) → r ≡ written
    → OnOk written (new ≡ middle) → OnOk written (middle ≡ old ++ text) → text ≡ same → OnOk r (new ≡ old ++ same)
joined_on_ok r (Ok x) new middle old text same is kept added e =
    subst (λ q. OnOk q (new ≡ old ++ same)) (sym is) (kept ∙ added ∙ ap (λ t. old ++ t) e)
joined_on_ok r (Err x) new middle old text same is kept added e =
    subst (λ q. OnOk q (new ≡ old ++ same)) (sym is) tt

-- a call that appends the last part
pub last_on_ok : {T E : Type 0} (r : Result T E) (new middle old first last whole : List ℕ) → middle ≡ old ++ first
    → first ++ last ≡ whole → OnOk r (new ≡ middle ++ last) → OnOk r (new ≡ old ++ whole)
last_on_ok (Ok x) new middle old first last whole before e added =
    added ∙ ap (λ t. t ++ last) before ∙ append_assoc old first last ∙ ap (λ t. old ++ t) e
last_on_ok (Err x) new middle old first last whole before e added = tt

pub last_on_err : {T E : Type 0} (r : Result T E) (new middle old first : List ℕ) → middle ≡ old ++ first
    → OnErr r (BeginsWith new middle) → OnErr r (BeginsWith new old)
last_on_err (Ok x) new middle old first before begun = tt
last_on_err (Err x) new middle old first before begun = begins_before new old first middle before begun
