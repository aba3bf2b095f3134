-- Results of the functions that read lists, from the results of the functions that read their items.
use Rattle.std.proofs.Common.{◌≡◌, ℕ, ◌+◌, ◌<◌, ◌∙◌, sym, ap, subst, List, [], ◌∷◌, ◌++◌, length, map, flat_map}
use Rattle.std.specs.Prelude.{Result, Ok, Err, IfOk, Option, Some, None}
use Rattle.std.specs.Global.{Vec}
use Rattle.std.proofs.lemmas.List.Folds.{flat_map-map}
use Rattle.aadl_tree.specs.declared.mark.Mark.{Mark}
use Rattle.aadl_tree.specs.Terminals.{PlacedTerminal}
use Rattle.aadl_tree.specs.SpellingParts.{SpellingPart, behind}
use Rattle.aadl_grammar.specs.proof.GrammarSymbols.{Symbol}
use Rattle.aadl_grammar.specs.proof.StackMachine.{Stack, depth, Fate, fate}
use Rattle.aadl_grammar.specs.declared.parse_input.Reader.{Reader}
use Rattle.aadl_grammar.specs.declared.parse_fault.ParseFault.{ParseFault}
use Rattle.aadl_grammar.specs.proof.ParserAnswers.{here, Reads, RunsTo, Parses}
use Rattle.aadl_grammar.specs.proof.ListAnswers.{Allows, with_mark, IsList, Answers, ItemsOf, Grows, ParsesMore}
use Rattle.aadl_grammar.proofs.PartSequences.{respelled}

pub spelled : {X Y : Type 0} (before : Option Mark) (f : Y → List (SpellingPart ℕ)) (g : X → Y) (xs : List X)
    → flat_map (with_mark before (λ x. f (g x))) xs ≡ flat_map (with_mark before f) (map g xs)
spelled (Some m) f g xs = sym (flat_map-map (behind m f) g xs)
spelled None f g xs = sym (flat_map-map f g xs)

-- a list with the function that reads its items
abbrev pub items_of : {X Y : Type 0} {r : Reader} {before : Option Mark} {answers : Answers X}
    (f : Y → List (SpellingPart ℕ))
    (g : X → Y) (allowed : Option ℕ) (item list : Symbol) → IsList before item list
    → ((at : ℕ) (result : Result (X × ℕ) ParseFault) → answers at result
    → Parses r (Allows allowed) (item ∷ []) (λ x. f (g x)) at result) → ItemsOf r before answers
items_of f g allowed item list lists each =
    record { item = item; list = list; lists = lists; parts = λ x. f (g x); allowed = allowed; each = each }

-- after no items, the items read are the whole list
all_read : {X Y : Type 0} (before : Option Mark) (f : Y → List (SpellingPart ℕ)) (g : X → Y) (r : Reader) (old : List X)
    (at : ℕ) (result : Result (Vec X × ℕ) ParseFault) → old ≡ []
    → IfOk result (λ y. Grows (with_mark before (λ x. f (g x))) old y.0.items (here r at) (here r y.1))
    → IfOk result (λ y. Reads (flat_map (with_mark before f) (map g y.0.items)) (here r at) (here r y.1))
all_read before f g r old at (Err e) n h = tt
all_read before f g r old at (Ok y) n h =
    respelled (spelled before f g h.more
    ∙ ap (λ l. flat_map (with_mark before f) (map g l)) (sym (h.whole ∙ ap (λ l. l ++ h.more) n))) h.reads

pub whole_list : {X Y : Type 0} {r : Reader} {before : Option Mark} {answers : Answers X} {old : List X} {at : ℕ}
    {result : Result (Vec X × ℕ) ParseFault} (f : Y → List (SpellingPart ℕ)) (g : X → Y) (allowed : Option ℕ)
    (item list : Symbol) → IsList before item list → old ≡ []
    → ((at : ℕ) (result : Result (X × ℕ) ParseFault) → answers at result
    → Parses r (Allows allowed) (item ∷ []) (λ x. f (g x)) at result)
    → ParsesMore r before answers old at result
    → Parses r (Allows allowed) (list ∷ []) (λ (x : Vec X). flat_map (with_mark before f) (map g x.items)) at result
whole_list {X} {Y} {r} {before} {answers} {old} {at} {result} f g allowed item list lists n each p =
    let of : ItemsOf r before answers = items_of f g allowed item list lists each in
    record { runs = p.runs of; reads = all_read before f g r old at result n (p.reads of) }

-- after a first item, the items read are the rest of the list
rest_read : {X : Type 0} (parts : X → List (SpellingPart ℕ)) (r : Reader) (old : List X) (first : X) (at mid : ℕ)
    (whole : List X → List (SpellingPart ℕ)) (result : Result (Vec X × ℕ) ParseFault) → old ≡ first ∷ []
    → ((more : List X) (rest : List PlacedTerminal) → Reads (flat_map parts more) (here r mid) rest
    → Reads (whole (first ∷ more)) (here r at) rest)
    → IfOk result (λ y. Grows parts old y.0.items (here r mid) (here r y.1))
    → IfOk result (λ y. Reads (whole y.0.items) (here r at) (here r y.1))
rest_read parts r old first at mid whole (Err e) n k h = tt
rest_read parts r old first at mid whole (Ok y) n k h =
    respelled (ap whole (sym (h.whole ∙ ap (λ l. l ++ h.more) n))) (k h.more (here r y.1) h.reads)

pub list_from : {X : Type 0} {r : Reader} {before : Option Mark} {answers : Answers X} {old : List X} {at mid : ℕ}
    {wanted : Stack} {result : Result (Vec X × ℕ) ParseFault} (of : ItemsOf r before answers) (first : X)
    (whole : List X → List (SpellingPart ℕ)) → old ≡ first ∷ []
    → ((outer : ℕ) (below : Stack) → Allows of.allowed (outer + depth (wanted ++ below))
    → Allows of.allowed (outer + depth (of.list ∷ below))
    × (fate outer r.end (wanted ++ below) (here r at) ≡ fate outer r.end (of.list ∷ below) (here r mid)))
    → ((more : List X) (rest : List PlacedTerminal)
    → Reads (flat_map (with_mark before of.parts) more) (here r mid) rest
    → Reads (whole (first ∷ more)) (here r at) rest)
    → ParsesMore r before answers old mid result
    → Parses r (Allows of.allowed) wanted (λ (x : Vec X). whole x.items) at result
list_from {X} {r} {before} {answers} {old} {at} {mid} {wanted} {result} of first whole n to reading p = record {
  runs =
      λ outer below h. let there = to outer below h in
      subst (λ (w : Fate). RunsTo (λ (y : Vec X × ℕ). y.1) r outer below w result) (sym there.1)
      (p.runs of outer below there.0);
  reads = rest_read (with_mark before of.parts) r old first at mid whole result n reading (p.reads of);
}

-- the result of a call, written otherwise
pub same_answer : {X : Type 0} {r : Reader} {Allowed : ℕ → Type 0} {wanted : Stack} {parts : X
    → List (SpellingPart ℕ)} {at : ℕ}
    {found result : Result (X × ℕ) ParseFault} → Parses r Allowed wanted parts at found → result ≡ found
    → Parses r Allowed wanted parts at result
same_answer {X} {r = r} {Allowed = Allowed} {wanted = wanted} {parts = parts} {at = at} p e =
    subst (λ (y : Result (X × ℕ) ParseFault). Parses r Allowed wanted parts at y) (sym e) p

-- the same result, whose parts are written otherwise
read_so : {X : Type 0} {p q : X → List (SpellingPart ℕ)} (r : Reader) (at : ℕ) (result : Result (X × ℕ) ParseFault)
    → ((x : X) → p x ≡ q x) → IfOk result (λ y. Reads (p y.0) (here r at) (here r y.1))
    → IfOk result (λ y. Reads (q y.0) (here r at) (here r y.1))
read_so r at (Err e) same a = tt
read_so r at (Ok y) same a = respelled (same y.0) a

pub respelled_answer : {X : Type 0} {r : Reader} {Allowed : ℕ → Type 0} {wanted : Stack} {p q : X
    → List (SpellingPart ℕ)}
    {at : ℕ} {result : Result (X × ℕ) ParseFault} → ((x : X) → p x ≡ q x) → Parses r Allowed wanted p at result
    → Parses r Allowed wanted q at result
respelled_answer {r = r} {at = at} {result = result} same a =
    record { runs = a.runs; reads = read_so r at result same a.reads }

-- an item takes a terminal
pub item_advances : {X : Type 0} {r : Reader} (Allowed : ℕ → Type 0) (wanted : Stack)
    (parts : X → List (SpellingPart ℕ))
    {at : ℕ} (result : Result (X × ℕ) ParseFault)
    → ((x : X) (ss rest : List PlacedTerminal) → Reads (parts x) ss rest → length rest < length ss)
    → Parses r Allowed wanted parts at result → IfOk result (λ y. length (here r y.1) < length (here r at))
item_advances {r = r} Allowed wanted parts {at = at} (Err e) begun p = tt
item_advances {r = r} Allowed wanted parts {at = at} (Ok y) begun p = begun y.0 (here r at) (here r y.1) p.reads
