-- How the results of consecutive parsing functions combine to the parts of one tree. For the proofs of parsers.
use Rattle.std.proofs.Common.{◌≡◌, ℕ, Bool, true, false, ◌<◌, ◌≤◌, ◌∙◌, sym, ap, subst, refl, List, [], ◌∷◌, ◌++◌}
use Rattle.std.proofs.Common.{length, arith, inl, inr, map, flat_map, append_assoc}
use Rattle.std.proofs.lemmas.List.{append-nil}
use Rattle.aadl_tree.specs.declared.mark.Mark.{Mark}
use Rattle.aadl_tree.specs.Terminals.{PlainTerminal, mark, word, PlacedTerminal}
use Rattle.aadl_tree.specs.SpellingParts.{SpellingPart, token, may, extra_kinds, HaveKinds, Written, marked_if}
use Rattle.aadl_tree.specs.TerminalFaults.{place}
use Rattle.aadl_tree.specs.Names.{Identifier, identifier_parts}
use Rattle.aadl_tree.proofs.SpellingParts.{written_append}
use Rattle.aadl_grammar.specs.proof.ParserAnswers.{spot, At, AtMark, AtWord, IsMarked, Reads}

pub nothing : {ss : List PlacedTerminal} → Reads [] ss ss
nothing = record { written = refl }

-- one part after another
pub then : {ps qs : List (SpellingPart ℕ)} {ss mid rest : List PlacedTerminal} → Reads ps ss mid → Reads qs mid rest
    → Reads (ps ++ qs) ss rest
then {ps} {qs} {ss} {mid} {rest} a b = record { written = written_append ps qs ss mid rest a.written b.written }

-- the parts after a keyword or a symbol
pub marked : {m : Mark} {ps : List (SpellingPart ℕ)} {ss mid rest : List PlacedTerminal} → AtMark m ss mid
    → Reads ps mid rest
    → Reads (token (mark m) [] ∷ ps) ss rest
marked {m} {ps} {ss} {mid} {rest} l a = record { written = (spot (mark m) l.at, mid, l.whole, refl, tt, a.written) }

-- the parts after a terminal that keeps no place
pub told : {kind : PlainTerminal} {ps : List (SpellingPart ℕ)} {ss mid rest : List PlacedTerminal} → At kind ss mid
    → Reads ps mid rest
    → Reads (token kind [] ∷ ps) ss rest
told {kind} {ps} {ss} {mid} {rest} l a = record { written = (spot kind l.at, mid, l.whole, refl, tt, a.written) }

-- the parts after a terminal that keeps its place
pub placed : {kind : PlainTerminal} {ps : List (SpellingPart ℕ)} {ss mid rest : List PlacedTerminal} (at : ℕ)
    (l : At kind ss mid) → at ≡ l.at
    → Reads ps mid rest → Reads (token kind (at ∷ []) ∷ ps) ss rest
placed {kind} {ps} {ss} {mid} {rest} at l e a =
    record { written = (spot kind l.at, mid, l.whole, refl, (e, tt), a.written) }

-- the parts after a terminal that keeps its place, which is the place of the first terminal
pub placed_at : {kind : PlainTerminal} {ps : List (SpellingPart ℕ)} {ss mid rest : List PlacedTerminal} (at end : ℕ)
    (l : At kind ss mid)
    → at ≡ place end ss → Reads ps mid rest → Reads (token kind (at ∷ []) ∷ ps) ss rest
placed_at at end l e a = placed at l (e ∙ ap (place end) l.whole) a

pub named : {x : Identifier ℕ} {ss rest : List PlacedTerminal} → AtWord x ss rest → Reads (identifier_parts x) ss rest
named {x} {ss} {rest} l = record { written = (spot (word x.spelling) x.at, rest, l.whole, refl, (refl, tt), refl) }

-- the same parts, written otherwise
pub respelled : {ps qs : List (SpellingPart ℕ)} {ss rest : List PlacedTerminal} → ps ≡ qs → Reads ps ss rest
    → Reads qs ss rest
respelled {ps} {qs} {ss} {rest} e a = subst (λ (l : List (SpellingPart ℕ)). Reads l ss rest) e a

-- two parts, and one more after them
pub regroup : (ps qs : List (SpellingPart ℕ)) {rs : List (SpellingPart ℕ)} {ss mid rest : List PlacedTerminal}
    → Reads (ps ++ qs) ss mid
    → Reads rs mid rest → Reads (ps ++ (qs ++ rs)) ss rest
regroup ps qs {rs} a b = respelled (append_assoc ps qs rs) (then a b)

-- one more element of a list of parts
pub listed : {A B : Type 0} (f : B → List (SpellingPart ℕ)) (g : A → B) (xs : List A) (x : A)
    → flat_map f (map g (xs ++ x ∷ [])) ≡ flat_map f (map g xs) ++ f (g x)
listed f g [] x = append-nil (f (g x))
listed f g (y ∷ xs) x =
    ap (λ l. f (g y) ++ l) (listed f g xs x) ∙ sym (append_assoc (f (g y)) (flat_map f (map g xs)) (f (g x)))

pub pushed : {A B : Type 0} (f : B → List (SpellingPart ℕ)) (g : A → B) (xs ys : List A)
    (x : A) {ss mid rest : List PlacedTerminal}
    → ys ≡ xs ++ x ∷ [] → Reads (flat_map f (map g xs)) ss mid → Reads (f (g x)) mid rest
    → Reads (flat_map f (map g ys)) ss rest
pushed f g xs ys x e a b = respelled (sym (ap (λ l. flat_map f (map g l)) e ∙ listed f g xs x)) (then a b)

-- after some terminals, at most as many terminals remain
have_length : (ks : List PlainTerminal) (ss rest : List PlacedTerminal) → HaveKinds ks ss rest → length rest ≤ length ss
have_length [] ss rest e = let h : length ss ≡ length rest = ap length e in omega arith
have_length (kind ∷ ks) ss rest (x, more, e, is, h) = let g : length ss ≡ length (x ∷ more) = ap length e in
    let i = have_length ks more rest h in omega arith

written_length : (ps : List (SpellingPart ℕ)) (ss rest : List PlacedTerminal) → Written ps ss rest
    → length rest ≤ length ss
written_length [] ss rest e = let h : length ss ≡ length rest = ap length e in omega arith
written_length (token kind places ∷ ps) ss rest (x, more, e, is, at, w) = let g : length ss ≡ length (x ∷ more) =
    ap length e in let i = written_length ps more rest w in omega arith
written_length (may extra ∷ ps) ss rest (inl w) = written_length ps ss rest w
written_length (may extra ∷ ps) ss rest (inr (more, h, w)) = let a = have_length (extra_kinds extra) ss more h in
    let b = written_length ps more rest w in omega arith

-- one iteration of a loop: a terminal, and a part after it
pub shorter : {kind : PlainTerminal} {ps : List (SpellingPart ℕ)} {ss mid rest : List PlacedTerminal} → At kind ss mid
    → Reads ps mid rest
    → length rest < length ss
shorter {kind} {ps} {ss} {mid} {rest} l a =
    let g : length ss ≡ length (spot kind l.at ∷ mid) = ap length l.whole in
    let h = written_length ps mid rest a.written in
    omega arith

-- a keyword that may be absent
pub flagged : (m : Mark) (b : Bool) {ss rest : List PlacedTerminal} → IsMarked m b ss rest
    → Reads (marked_if m b) ss rest
flagged m true l = marked l nothing
flagged m false {ss} {rest} (l, e) = record { written = sym e }

-- one iteration of a loop: a part with at least one terminal
pub begun : {kind : PlainTerminal} {places : List ℕ} {ps : List (SpellingPart ℕ)} {ss rest : List PlacedTerminal}
    → Reads (token kind places ∷ ps) ss rest → length rest < length ss
begun {kind} {places} {ps} {ss} {rest} a =
    let g : length ss ≡ length (a.written.0 ∷ a.written.1) = ap length a.written.2 in
    let h = written_length ps a.written.1 rest a.written.5 in
    omega arith
