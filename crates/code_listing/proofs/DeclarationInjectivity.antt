-- The lines of numbers, ports, variables and states determine their declarations.
use Rattle.std.proofs.Common.{◌≡◌, ℕ, ◌^◌, ◌<◌, true, if◌then◌else◌, List, [], ◌∷◌, length, Option, Some, None, All}
use Rattle.std.proofs.Common.{refl, sym, ap, ap₂, ◌∙◌, arith}
use Rattle.std.specs.Prelude.{codes, decimal, bytes_eq, zip}
use Rattle.std.specs.Fmt.{signed_decimal}
use Rattle.std.proofs.lemmas.Fmt.{decimal_injective}
use Rattle.std.proofs.lemmas.List.Elements.{All-head, All-tail}
use Rattle.pals_base.specs.declared.behaviour.Kind.{Kind}
use Rattle.pals_base.specs.declared.behaviour.Kind.TheVariants.{Integer, Boolean}
use Rattle.pals_base.specs.declared.behaviour.PortDecl.{PortDecl}
use Rattle.pals_base.specs.declared.behaviour.VarDecl.{VarDecl}
use Rattle.pals_base.specs.declared.behaviour.StateDecl.{StateDecl}
use Rattle.code_listing.specs.Listings.{kind_word, number_line, port_line, variable_line, state_line, state_lines}
use Rattle.code_listing.specs.NumberRanges.{FirstFits, EntryFits, EntriesFit}
use Rattle.code_listing.specs.proof.ListingInjectivity.{state_names}
use Rattle.code_listing.proofs.LinesAndWords.{is_plain, same_words, decimal_plain, signed_plain}
use Rattle.code_listing.proofs.SpelledNumbers.{signed_spelled, signed_is}

-- ---- single lines
pub number_told : (word : List ℕ) (m n : ℕ) → is_plain word ≡ true → m < 2 ^ 64 → n < 2 ^ 64
    → number_line word m ≡ number_line word n → m ≡ n
number_told word m n plain small small_other same =
    let words =
    same_words [] [] (word ∷ decimal m ∷ []) (word ∷ decimal n ∷ []) (refl, (plain, (decimal_plain m, tt)))
    (refl, (plain, (decimal_plain n, tt))) same in
    let number : decimal m ≡ decimal n = cc in
    decimal_injective m n small small_other number

kind_in : List ℕ → Kind
kind_in word = if bytes_eq word (codes "Integer") then Integer else Boolean

kind_is : (kind : Kind) → kind_in (kind_word kind) ≡ kind
unfolding kind_in
kind_is Integer = refl
kind_is Boolean = refl

kind_told : (k l : Kind) → kind_word k ≡ kind_word l → k ≡ l
kind_told k l same = sym (kind_is k) ∙ ap kind_in same ∙ kind_is l

pub kind_plain : (kind : Kind) → is_plain (kind_word kind) ≡ true
kind_plain Integer = refl
kind_plain Boolean = refl

pub port_told : (word : List ℕ) → is_plain word ≡ true → (p q : PortDecl) → is_plain p.name ≡ true
    → is_plain q.name ≡ true
    → port_line word p ≡ port_line word q → p ≡ q
port_told word plain p q plain_p plain_q same =
    let words = same_words [] [] (word ∷ p.name ∷ kind_word p.kind ∷ []) (word ∷ q.name ∷ kind_word q.kind ∷ [])
    (refl, (plain, (plain_p, (kind_plain p.kind, tt)))) (refl, (plain, (plain_q, (kind_plain q.kind, tt)))) same in
    let name : p.name ≡ q.name = cc in
    let kind_words : kind_word p.kind ≡ kind_word q.kind = cc in
    let kind = kind_told p.kind q.kind kind_words in
    λ k. record { name = name k; kind = kind k }

-- a variable with a plain name, whose first value is of 64 bits
abbrev pub IsFit : VarDecl → Type 0
IsFit v = (is_plain v.name ≡ true) × FirstFits v

pub variable_told : (v w : VarDecl) → IsFit v → IsFit w → variable_line v ≡ variable_line w → v ≡ w
variable_told v w fit_v fit_w same =
    let words =
    same_words [] [] (codes "var" ∷ v.name ∷ kind_word v.kind ∷ signed_decimal v.first ∷ [])
    (codes "var" ∷ w.name ∷ kind_word w.kind ∷ signed_decimal w.first ∷ [])
    (refl, (refl, (fit_v.0, (kind_plain v.kind, (signed_plain v.first, tt)))))
    (refl, (refl, (fit_w.0, (kind_plain w.kind, (signed_plain w.first, tt))))) same in
    let name : v.name ≡ w.name = cc in
    let kind_words : kind_word v.kind ≡ kind_word w.kind = cc in
    let firsts : signed_decimal v.first ≡ signed_decimal w.first = cc in
    let kind = kind_told v.kind w.kind kind_words in
    let first = sym (signed_is v.first fit_v.1) ∙ ap signed_spelled firsts ∙ signed_is w.first fit_w.1 in
    λ k. record { name = name k; kind = kind k; first = first k }

-- ---- states
state_told : (s t : StateDecl) (e f : Option ℕ) → is_plain s.name ≡ true → is_plain t.name ≡ true → EntryFits e
    → EntryFits f → state_line s e ≡ state_line t f → (s.name ≡ t.name) × (e ≡ f)
state_told s t None None plain_s plain_t small small_other same =
    let words =
    same_words [] [] (codes "state" ∷ s.name ∷ codes "passing" ∷ []) (codes "state" ∷ t.name ∷ codes "passing" ∷ [])
    (refl, (refl, (plain_s, (refl, tt)))) (refl, (refl, (plain_t, (refl, tt)))) same in
    let name : s.name ≡ t.name = cc in
    (name, refl)
state_told s t None (Some place) plain_s plain_t small small_other same =
    let words =
    same_words [] [] (codes "state" ∷ s.name ∷ codes "passing" ∷ [])
    (codes "state" ∷ t.name ∷ codes "entry" ∷ decimal place ∷ [])
    (refl, (refl, (plain_s, (refl, tt)))) (refl, (refl, (plain_t, (refl, (decimal_plain place, tt))))) same in
    absurd (cc)
state_told s t (Some place) None plain_s plain_t small small_other same =
    let words =
    same_words [] [] (codes "state" ∷ s.name ∷ codes "entry" ∷ decimal place ∷ [])
    (codes "state" ∷ t.name ∷ codes "passing" ∷ [])
    (refl, (refl, (plain_s, (refl, (decimal_plain place, tt))))) (refl, (refl, (plain_t, (refl, tt)))) same in
    absurd (cc)
state_told s t (Some place) (Some other) plain_s plain_t small small_other same =
    let words =
    same_words [] [] (codes "state" ∷ s.name ∷ codes "entry" ∷ decimal place ∷ [])
    (codes "state" ∷ t.name ∷ codes "entry" ∷ decimal other ∷ [])
    (refl, (refl, (plain_s, (refl, (decimal_plain place, tt)))))
    (refl, (refl, (plain_t, (refl, (decimal_plain other, tt))))) same in
    let name : s.name ≡ t.name = cc in
    let number : decimal place ≡ decimal other = cc in
    (name, ap Some (decimal_injective place other (omega arith) (omega arith) number))

abbrev EntryAt : StateDecl × Option ℕ → Type 0
EntryAt p = EntryFits p.1

abbrev Plain : StateDecl → Type 0
Plain s = is_plain s.name ≡ true

pub states_told : (ss ts : List StateDecl) (es fs : List (Option ℕ)) → length es ≡ length ss → length fs ≡ length ts
    → All Plain ss → All Plain ts → EntriesFit ss es → EntriesFit ts fs
    → state_lines ss es ≡ state_lines ts fs → (state_names ss ≡ state_names ts) × (es ≡ fs)
states_told [] [] [] [] many many_other plain_s plain_t small small_other same = (refl, refl)
states_told [] [] [] (f ∷ fs) many many_other plain_s plain_t small small_other same = absurd (omega arith)
states_told [] [] (e ∷ es) fs many many_other plain_s plain_t small small_other same = absurd (omega arith)
states_told [] (t ∷ ts) [] [] many many_other plain_s plain_t small small_other same = absurd (omega arith)
states_told [] (t ∷ ts) [] (f ∷ fs) many many_other plain_s plain_t small small_other same = absurd (cc)
states_told [] (t ∷ ts) (e ∷ es) fs many many_other plain_s plain_t small small_other same = absurd (omega arith)
states_told (s ∷ ss) ts [] fs many many_other plain_s plain_t small small_other same = absurd (omega arith)
states_told (s ∷ ss) [] (e ∷ es) [] many many_other plain_s plain_t small small_other same = absurd (cc)
states_told (s ∷ ss) [] (e ∷ es) (f ∷ fs) many many_other plain_s plain_t small small_other same = absurd (omega arith)
states_told (s ∷ ss) (t ∷ ts) (e ∷ es) [] many many_other plain_s plain_t small small_other same = absurd (omega arith)
states_told (s ∷ ss) (t ∷ ts) (e ∷ es) (f ∷ fs) many many_other plain_s plain_t small small_other same =
    let head : state_line s e ≡ state_line t f = cc in
    let tail : state_lines ss es ≡ state_lines ts fs = cc in
    let here =
    state_told s t e f (All-head Plain s ss plain_s) (All-head Plain t ts plain_t)
    (All-head EntryAt (s, e) (zip ss es) small) (All-head EntryAt (t, f) (zip ts fs) small_other) head in
    let rest =
    states_told ss ts es fs (omega arith) (omega arith) (All-tail Plain s ss plain_s) (All-tail Plain t ts plain_t)
    (All-tail EntryAt (s, e) (zip ss es) small) (All-tail EntryAt (t, f) (zip ts fs) small_other) tail in
    (ap₂ (λ x xs. x ∷ xs) here.0 rest.0, ap₂ (λ x xs. x ∷ xs) here.1 rest.1)
