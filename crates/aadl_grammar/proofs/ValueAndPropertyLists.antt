-- Lists of values and of properties that grow by one item, as the parsers' loops read them.
use Rattle.std.proofs.Common.{◌≡◌, ℕ, ◌<◌, ◌∙◌, sym, ap, List, [], ◌∷◌, ◌++◌, length, append_assoc, arith, refl}
use Rattle.std.proofs.Common.{flat_map}
use Rattle.std.specs.Prelude.{Result}
use Rattle.std.proofs.lemmas.List.{append-nil}
use Rattle.aadl_tree.specs.declared.mark.Mark.TheVariants as k
use Rattle.aadl_tree.specs.declared.values.Value.{Value}
use Rattle.aadl_tree.specs.declared.values.Association.{Association}
use Rattle.aadl_tree.specs.Terminals.{word, mark, PlacedTerminal}
use Rattle.aadl_tree.specs.SpellingParts.{SpellingPart, plain}
use Rattle.aadl_tree.specs.Values as v
use Rattle.aadl_tree.specs.proof.ValueViews.{value_view, values_view, association_view, associations_view}
use Rattle.aadl_tree.specs.proof.PlaceMaps.{kept_place}
use Rattle.aadl_grammar.proofs.HeadsAndTails.{heads}
use Rattle.aadl_grammar.specs.proof.GrammarSymbols.{a_word, a_quoted, Row}
use Rattle.aadl_grammar.specs.proof.GrammarSymbols as s
use Rattle.aadl_grammar.specs.proof.StackMachine.{Stack}
use Rattle.aadl_grammar.specs.proof.ParseTable.{by, on}
use Rattle.aadl_grammar.specs.declared.parse_input.Reader.{Reader}
use Rattle.aadl_grammar.specs.declared.parse_fault.ParseFault.{ParseFault}
use Rattle.aadl_grammar.specs.proof.ParserAnswers.{spot, At, AtMark, StartsWord, Reads, Parses, AnyRoom, Room}
use Rattle.aadl_grammar.proofs.PartSequences.{nothing, then, marked, respelled, regroup, begun}

pub starts_at : {ss : List PlacedTerminal} (l : StartsWord ss) → At (word l.spelling) ss l.rest
starts_at l = record { at = l.at; whole = l.whole }

-- a part that has no openers may be read with any room
pub with_room : {X : Type 0} {r : Reader} (room : ℕ) {wanted : Stack} {parts : X → List (SpellingPart ℕ)} {at : ℕ}
    {result : Result (X × ℕ) ParseFault} → Parses r AnyRoom wanted parts at result
    → Parses r (Room room) wanted parts at result
with_room room p = record { runs = λ outer below h. p.runs outer below (omega (arith, h)); reads = p.reads }

-- the rows of a value that are not a number's
abbrev pub value_own : List Row
value_own =
    by a_quoted [] ∷ by a_word (s.names ∷ s.dot_identifier ∷ []) ∷ on k.ParenOpen (s.values ∷ s.only k.ParenClose ∷ [])
    ∷ on k.BracketOpen (s.associations ∷ s.only k.BracketClose ∷ []) ∷ on k.Reference (s.path_group ∷ [])
    ∷ on k.Classifier (s.reference_group ∷ []) ∷ []

more_listed : (xs : List Value) (x : Value)
    → v.more_values_parts (values_view kept_place (xs ++ x ∷ []))
    ≡ v.more_values_parts (values_view kept_place xs) ++ (plain k.Comma ∷ v.value_parts (value_view kept_place x))
more_listed [] x = ap (λ l. plain k.Comma ∷ l) (append-nil (v.value_parts (value_view kept_place x)))
more_listed (y ∷ xs) x =
    ap (λ l. plain k.Comma ∷ (v.value_parts (value_view kept_place y) ++ l)) (more_listed xs x)
    ∙ ap (λ l. plain k.Comma ∷ l)
    (sym (append_assoc (v.value_parts (value_view kept_place y)) (v.more_values_parts (values_view kept_place xs))
    (plain k.Comma ∷ v.value_parts (value_view kept_place x))))

pub values_push : (old new : List Value) (first : Value) (others : List Value)
    (x : Value) {ss mid rest : List PlacedTerminal}
    → old ≡ first ∷ others → new ≡ old ++ x ∷ [] → Reads (v.values_parts (values_view kept_place old)) ss mid
    → Reads (plain k.Comma ∷ v.value_parts (value_view kept_place x)) mid rest
    → Reads (v.values_parts (values_view kept_place new)) ss rest
values_push old new first others x is e a b =
    respelled (sym (ap (λ l. v.values_parts (values_view kept_place l)) (e ∙ ap (λ l. l ++ x ∷ []) is)
    ∙ ap (λ l. v.value_parts (value_view kept_place first) ++ l) (more_listed others x)))
    (regroup (v.value_parts (value_view kept_place first)) (v.more_values_parts (values_view kept_place others))
    (respelled (ap (λ l. v.values_parts (values_view kept_place l)) is) a) b)

associations_listed : (xs : List Association) (x : Association)
    → v.associations_parts (associations_view kept_place (xs ++ x ∷ []))
    ≡ v.associations_parts (associations_view kept_place xs) ++ v.association_parts (association_view kept_place x)
associations_listed [] x = append-nil (v.association_parts (association_view kept_place x))
associations_listed (y ∷ xs) x =
    ap (λ l. v.association_parts (association_view kept_place y) ++ l) (associations_listed xs x)
    ∙ sym (append_assoc (v.association_parts (association_view kept_place y))
    (v.associations_parts (associations_view kept_place xs)) (v.association_parts (association_view kept_place x)))

pub associations_push : (xs ys : List Association) (x : Association) {ss mid rest : List PlacedTerminal}
    → ys ≡ xs ++ x ∷ []
    → Reads (v.associations_parts (associations_view kept_place xs)) ss mid
    → Reads (v.association_parts (association_view kept_place x)) mid rest
    → Reads (v.associations_parts (associations_view kept_place ys)) ss rest
associations_push xs ys x e a b =
    respelled (sym (ap (λ l. v.associations_parts (associations_view kept_place l)) e
    ∙ associations_listed xs x)) (then a b)

pub associations_spelled : (xs : List Association)
    → flat_map (λ x. v.association_parts (association_view kept_place x)) xs
    ≡ v.associations_parts (associations_view kept_place xs)
associations_spelled [] = refl
associations_spelled (x ∷ xs) =
    ap (λ l. v.association_parts (association_view kept_place x) ++ l) (associations_spelled xs)

plain_begun : (t : v.Association ℕ) {ss rest : List PlacedTerminal} → Reads (v.association_parts t) ss rest
    → length rest < length ss
plain_begun (v.association name operator constant t paths) a = begun a

pub association_begun : (x : Association) {ss rest : List PlacedTerminal}
    → Reads (v.association_parts (association_view kept_place x)) ss rest → length rest < length ss
association_begun x a = plain_begun (association_view kept_place x) a

-- a word is not a closer, so the list before the closer is not empty
pub braced : (xs : List Association) {front ss mid rest : List PlacedTerminal} → StartsWord ss
    → AtMark k.BraceOpen front ss
    → Reads (v.associations_parts (associations_view kept_place xs)) ss mid → AtMark k.BraceClose mid rest
    → Reads (v.properties_parts (associations_view kept_place xs)) front rest
braced [] {ss = ss} {mid = mid} {rest = rest} w l a c = absurd (no_closer (sym w.whole ∙ a.written ∙ c.whole)) where
  no_closer : {bytes : List ℕ} {p q : ℕ} {xs ys : List PlacedTerminal}
      → spot (word bytes) p ∷ xs ≡ spot (mark k.BraceClose) q ∷ ys → ⊥
  no_closer {bytes} {p} {q} {xs} {ys} e = let k : word bytes ≡ mark k.BraceClose =
      ap (λ (x : PlacedTerminal). x.kind) (heads (spot (word bytes) p) (spot (mark k.BraceClose) q) xs ys e) in cc
braced (x ∷ xs) w l a c = marked l (then a (marked c nothing))
